-- `convoy::refusal` meets its contract: the count is looked at first, then each clearance up to one that is out of range.
use Rattle.convoy.proofs.Passes.{Looked}
use Rattle.convoy.proofs.refusal.Given as goal

abbrev pub invariant-loop-clearance : goal.invariant-loop-clearance
invariant-loop-clearance l = Looked l.clearances l.clearance-index
