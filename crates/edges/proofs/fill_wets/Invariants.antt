-- `edges::fill_wets` meets its contract: the marks of the records passed are right, and it is known whether one of them opens the pool at the box.
use Rattle.edges.proofs.Open.{OpenSoFar}
use Rattle.rules.specs.Survey.{corner_record, wet}
use Rattle.base.specs.Lists.{bit}
use lib.ListN.{length, get_or}
use Prim.Native.Nat.{ℕ, ◌<◌}
use mathlib.Core.Path.{◌≡◌}
use Rattle.edges.proofs.fill_wets.Given as goal

abbrev pub invariant-loop-k : goal.invariant-loop-k
invariant-loop-k l =
    (length l.wets ≡ 4872) × ((j : ℕ) → j < l.k → get_or l.wets j 0 ≡ bit (wet l.clearance (corner_record l.corners j))) ×
    OpenSoFar l.corners l.clearance l.k l.opened
