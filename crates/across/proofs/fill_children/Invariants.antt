-- `across::fill_children` meets its contract: before each turn the table has all records before the children, and the first i sides of the children.
use Rattle.across.proofs.Filling.{ChildrenTo}
use Rattle.across.proofs.fill_children.Given as goal

abbrev pub invariant-loop-i : goal.invariant-loop-i
invariant-loop-i l = ChildrenTo l.cells l.first l.i l.across
