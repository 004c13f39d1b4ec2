-- `graph::LinkTable::explore` meets its contract: before each turn the search stands as `Exploring` says.
use Prim.Native.Nat.{◌-◌}
use lib.ListN.{drop}
use Rattle.graph.proofs.Exploring.{Exploring}
use Rattle.graph.proofs.Visiting.{frontier}
use Rattle.graph.proofs.LinkTable.explore.Given as goal

abbrev pub invariant-loop-head : goal.invariant-loop-head
invariant-loop-head l =
    Exploring l.self.links.now l.self.count l.start (drop l.self.count l.initial.found) (frontier l.tail l.found l.queue) l.head 0

abbrev pub decreases-loop-head : goal.decreases-loop-head
decreases-loop-head l = 4872 - l.head
