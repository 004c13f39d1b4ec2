use mathlib.Core.Path.{◌∙◌}
use native.Mathlib.Omega.{arith}
use Rattle.cells.specs.Laid.{cell_at}
use Rattle.edges.specs.Surveyed.{surveyed}
use Rattle.crossings.proofs.Leaves.{eight_corners, mask_is}
use Rattle.crossings.proofs.Filling.{masks_more, all_filled}
use Rattle.crossings.proofs.Tables.fill_masks.Goals as goal

pub loop-n-init : goal.loop-n-init
loop-n-init c = record { points = c.requires; wet = λ n h. absurd (omega arith) }

pub leaf_at-leaf-requires : goal.leaf_at-leaf-requires
leaf_at-leaf-requires c = record { octants = c.args.self.now.known.cell_corners; n_in_bounds = omega arith }

pub wet_mask-requires : goal.wet_mask-requires
wet_mask-requires c = eight_corners c.args.self.now.edges.survey.corners.now _ _ c.leaf_at-leaf.ensures

pub bounds-crossings-n : goal.bounds-crossings-n
bounds-crossings-n c = omega (arith, c.loop-n.invariant.points.room)

pub loop-n-preserved : goal.loop-n-preserved
loop-n-preserved c =
    let s = c.args.self.now.edges.survey in
    let n = c.loop-n.n in
    let wet = c.wet_mask.ensures ∙ mask_is s.cells.now s.corners.now s.clearance (cell_at s.cells.now n) _ c.leaf_at-leaf.ensures in
    masks_more (surveyed s) s.cells.now n c.loop-n.crossings _ (omega arith) c.loop-n.invariant wet

pub returns : goal.returns
returns c = all_filled _ _ c.loop-n.n _ (omega arith) c.loop-n.invariant
