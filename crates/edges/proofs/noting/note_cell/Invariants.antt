-- `edges::noting::note_cell` meets its contract: before each turn the table is of the cell's edges from edge e on, and of those of the cells behind.
use Prim.Native.Nat.{◌+◌}
use mathlib.Core.List.{◌++◌}
use lib.ListN.{drop}
use Rattle.rules.specs.Survey.{cells_of}
use Rattle.cells.specs.Laid.{cell_at}
use Rattle.edges.specs.Tables.{cell_edges, edges_of, Levels}
use Rattle.edges.proofs.noting.note_cell.Given as goal

abbrev pub invariant-loop-e : goal.invariant-loop-e
invariant-loop-e l =
    Levels l.corners (drop l.e (cell_edges (cell_at l.cells l.n)) ++ edges_of (drop (l.n + 1) (cells_of l.cells))) l.slots
