-- `graph::LinkTable::lowest` meets its contract.
use Rattle.graph.proofs.Choosing.{Lowest}
use Rattle.graph.proofs.LinkTable.lowest.Given as goal

abbrev pub invariant-loop-link : goal.invariant-loop-link
invariant-loop-link l = Lowest l.self.links.now l.back l.self.count l.k l.rank l.link-index l.best
