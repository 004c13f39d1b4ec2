-- `leaves::LeafTables::draw_leaves` meets its contract. The loop's invariant: the triangles of the records before the one at hand are drawn.
use Rattle.leaves.specs.Leaves.{TablesReady, survey, Drew}
use Rattle.leaves.proofs.Leaves.{triangles_to}
use Rattle.leaves.proofs.LeafTables.draw_leaves.Given as goal

abbrev pub invariant-loop-n : goal.invariant-loop-n
invariant-loop-n l =
    (d : TablesReady l.self l.initial.trace) → Drew d.limit (triangles_to (survey d) l.n) l.initial.out l.out l.count l.trace
