-- `graph::LinkTable::follow` meets its contract.
use Rattle.graph.proofs.Following.{Following}
use Rattle.graph.proofs.LinkTable.follow.Given as goal

abbrev pub invariant-loop-i : goal.invariant-loop-i
invariant-loop-i l = Following l.self.links.now l.back l.self.count l.n l.start l.initial.way l.way l.k l.i
