-- `faces::Tables::small_steps` meets its contract: a leaf across leaves the row whole; a split cell is gone down into, quarter by quarter.
-- Records rise on the way down: the measure of the recursion is how many are above. The loop's invariant: the small faces in the quarters before the one
-- at hand are recorded.
use Prim.Native.Nat.{◌+◌, ◌-◌}
use lib.ListN.{length}
use Rattle.faces.specs.Faces.{row_corner, quarters, small_table_steps}
use Rattle.faces.proofs.Recording.{Recording}
use Rattle.faces.proofs.Tables.+small_steps.Given as goal

abbrev pub decreases-small_steps : goal.decreases-small_steps
decreases-small_steps l = length l.self.cells.now - l.m

abbrev pub invariant-loop-i : goal.invariant-loop-i
invariant-loop-i l =
    Recording (λ j. small_table_steps l.self.cells.now l.self.crossings.now l.row (l.first + row_corner l.row j)) quarters l.i l.initial.trace l.trace
