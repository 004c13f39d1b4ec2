-- `across::fill_side` meets its contract: before each turn side i of the first j children is written, and all else is as it was.
use Rattle.across.specs.Filling.{SideFilled}
use Rattle.across.proofs.fill_side.Given as goal

abbrev pub invariant-loop-j : goal.invariant-loop-j
invariant-loop-j l = SideFilled l.cells l.first l.far l.i l.j l.initial.across l.across
