-- `convoy::greatest` meets its contract: each clearance is compared with the greatest before it.
use Prim.Native.Nat.{◌+◌}
use Rattle.convoy.proofs.Passes.{Passed}
use Rattle.convoy.proofs.greatest.Given as goal

abbrev pub invariant-loop-clearance : goal.invariant-loop-clearance
invariant-loop-clearance l = Passed l.clearances l.best (l.clearance-index + 1)
