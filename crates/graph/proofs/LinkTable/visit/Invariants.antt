-- `graph::LinkTable::visit` meets its contract: before each turn the links up to here are followed.
use Prim.Native.Nat.{◌+◌, ◌≤◌}
use mathlib.Core.Path.{◌≡◌}
use lib.ListN.{length}
use Rattle.graph.specs.Table.{visited}
use Rattle.graph.proofs.Visiting.{frontier}
use Rattle.graph.proofs.LinkTable.visit.Given as goal

abbrev pub invariant-loop-link : goal.invariant-loop-link
invariant-loop-link l =
    (l.end ≤ l.tail + l.link-index) × (length l.found ≡ 4884) × (length l.queue ≡ length l.initial.queue)
    × (frontier l.end l.found l.queue ≡ visited l.self.links.now l.rank l.k l.link-index (frontier l.tail l.initial.found l.initial.queue))
