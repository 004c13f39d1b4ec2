-- `triangles::draw` meets its contract: either trace has room for the points.
use native.Mathlib.Omega.{arith}
use mathlib.Core.Path.{refl}
use Rattle.leaves.proofs.Leaves.{points-few}
use Rattle.triangles.proofs.draw.Goals as goal

pub draw_within-requires-2-clause-trace_in_bounds : goal.draw_within-requires-2-clause-trace_in_bounds
draw_within-requires-2-clause-trace_in_bounds c =
    let k = c.requires in
    let few = points-few c.args.cells.now k.corners k.clearance k.passed in
    (omega (arith, k.count, few), omega arith, refl)
