-- `checks::all_marked` meets its contract: before each turn the records that are left are marked just if all are.
use mathlib.Core.Path.{◌≡◌}
use Rattle.checks.proofs.Marking.{marked_from}
use Rattle.checks.proofs.all_marked.Given as goal

abbrev pub invariant-loop-k : goal.invariant-loop-k
invariant-loop-k l = marked_from l.marks l.count l.k ≡ marked_from l.marks l.count 0
