-- `crossings::corners::octant_corner` meets its contract: the corner that is read is the one that the rules take.
use mathlib.Core.Path.{refl}
use native.Mathlib.Omega.{arith}
use Rattle.octants.specs.Octants.{Octant}
use Rattle.edges.proofs.Lent.{corner_bytes}
use Rattle.crossings.proofs.Leaves.{cells-small, corners_rise, octant-read, corner-is}
use Rattle.crossings.proofs.corners.octant_corner.Goals as goal
use Rattle.crossings.proofs.corners.octant_corner.Goals.{After-octant_record}

pub octant_record-requires : goal.octant_record-requires
octant_record-requires c = omega (arith, cells-small _ _ _ c.args.survey.now.accepted, c.requires.octants.room)

-- the record that the table holds
octant : (c : After-octant_record) → Octant c.args.survey.now.cells.now c.args.survey.now.corners.now c.args.n c.args.i c.octant_record.result
octant c = octant-read c.requires.octants c.requires.n_in_bounds.0 refl c.requires.n_in_bounds.1 c.octant_record.ensures

pub corner_at-requires : goal.corner_at-requires
corner_at-requires c = omega (arith, (octant (goal.at.corner_at-requires c).After-octant_record).number)

pub returns : goal.returns
returns c =
    let s = c.args.survey.now in
    corner-is s.corners.now (corner_bytes s) (corners_rise s.cells.now s.corners.now s.clearance s.accepted)
    s.cells.now c.args.n c.args.i c.octant_record.result _ (octant (goal.at.returns c).After-octant_record) c.corner_at.ensures
