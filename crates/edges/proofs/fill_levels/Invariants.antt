-- `edges::fill_levels` meets its contract: before each turn the table is of the edges of the cells from record n on.
use lib.ListN.{drop}
use Rattle.rules.specs.Survey.{cells_of}
use Rattle.edges.specs.Tables.{edges_of, Levels}
use Rattle.edges.proofs.fill_levels.Given as goal

abbrev pub invariant-loop-n : goal.invariant-loop-n
invariant-loop-n l =
    Levels l.corners (edges_of (drop l.n (cells_of l.cells))) l.slots
