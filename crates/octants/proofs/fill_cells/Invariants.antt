-- `octants::fill_cells` meets its contract: before each turn the table has the corners of the cells before cell n.
use Rattle.octants.specs.Octants.{LookedUp}
use Rattle.octants.proofs.fill_cells.Given as goal

abbrev pub invariant-loop-n : goal.invariant-loop-n
invariant-loop-n l = LookedUp l.corners l.laid l.octants l.n
