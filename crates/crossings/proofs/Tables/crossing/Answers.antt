-- `crossings::Tables::crossing` meets its contract: the edge is even just if the marks at its two corner records are the same.
use Prim.Native.Nat.{◌≤◌}
use mathlib.Core.Path.{◌≡◌, ◌∙◌}
use native.Mathlib.Omega.{arith}
use lib.ListN.{length}
use Rattle.rules.specs.Survey.{record_count}
use Rattle.cells.specs.Laid.{cell_at, level_in}
use Rattle.crossings.proofs.Leaves.{cells-small, corners-small, octant-read}
use Rattle.crossings.proofs.Twelve.{Between, even-crossing, odd-crossing, odd-edge}
use Rattle.crossings.proofs.Tables.crossing.Goals as goal
use Rattle.crossings.proofs.Tables.crossing.Goals.{After-octant_record-end}

pub octant_record-start-requires : goal.octant_record-start-requires
octant_record-start-requires c =
    let k = c.args.self.now.known in
    omega (arith, c.requires, c.start_of.ensures.1, cells-small _ _ _ k.fit, k.cell_corners.room)

pub octant_record-end-requires : goal.octant_record-end-requires
octant_record-end-requires c =
    let k = c.args.self.now.known in
    omega (arith, c.requires, c.end_of.ensures.1, cells-small _ _ _ k.fit, k.cell_corners.room)

-- what is known when both records are read
module _ (c : After-octant_record-end) where
  abbrev level_read : level_in c.args.self.now.laid.now c.args.n ≡ (cell_at c.args.self.now.edges.survey.cells.now c.args.n).level
  level_read = (c.args.self.now.known.cell_levels.entered c.args.n c.requires.0).level

  between : Between c.args.self.now.edges.survey.cells.now c.args.self.now.edges.survey.corners.now c.args.n c.args.e c.octant_record-start.result
      c.octant_record-end.result
  between =
      let octants = c.args.self.now.known.cell_corners in record {
        inside = c.requires.0;
        few = c.requires.1;
        low = octant-read octants c.requires.0 c.start_of.ensures.0 c.start_of.ensures.1 c.octant_record-start.ensures;
        high = octant-read octants c.requires.0 c.end_of.ensures.0 c.end_of.ensures.1 c.octant_record-end.ensures;
      }

  marked : record_count c.args.self.now.edges.survey.corners.now ≤ length c.args.self.now.wets.now
  marked = omega (arith, corners-small _ _ _ c.args.self.now.known.fit, c.args.self.now.known.marks.size)

pub bounds-self-start : goal.bounds-self-start
bounds-self-start c =
    let a = (goal.at.bounds-self-start c).After-octant_record-end in
    omega (arith, (between a).low.number, marked a)

pub bounds-self-end : goal.bounds-self-end
bounds-self-end c =
    let a = (goal.at.bounds-self-end c).After-octant_record-end in
    omega (arith, (between a).high.number, marked a)

pub returns-then-self-start : goal.returns-then-self-start
returns-then-self-start c =
    even-crossing (between (goal.at.returns-then-self-start c).After-octant_record-end) c.args.self.now.known.marks c.if-self-start.true

pub point_of-requires : goal.point_of-requires
point_of-requires c =
    let k = c.args.self.now.known in
    let a = (goal.at.point_of-requires c).After-octant_record-end in
    let edge = odd-edge (between a) k.marks c.if-self-start.false (c.level_in-level.ensures ∙ level_read a) k.fit in
    record {
      wets = k.marks;
      numbered = k.points;
      axis_bound = (omega arith, edge);
    }

pub returns : goal.returns
returns c =
    let a = (goal.at.returns c).After-octant_record-end in
    odd-crossing (between a) c.args.self.now.known.marks c.if-self-start.false (c.level_in-level.ensures ∙ level_read a) c.point_of.ensures
