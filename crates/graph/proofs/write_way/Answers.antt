-- `graph::write_way` meets its contract: a search from the end, and the way by its numbers.
use Prim.Native.Nat.{ℕ}
use mathlib.Core.Path.{ap, ◌∙◌}
use mathlib.Core.List.{List, ◌++◌}
use native.Mathlib.Omega.{arith}
use lib.ListN.{get_or, drop, get_or-append}
use Rattle.rules.specs.Ways.{fewest_steps}
use Rattle.graph.specs.Table.{graph_in}
use Rattle.graph.proofs.Steps.{stepped}
use Rattle.graph.proofs.Transfer.{followed_same}
use Rattle.graph.proofs.write_way.Goals as goal

pub returns : goal.returns
returns c =
    let a = c.args in
    let g = graph_in a.links.now a.count in
    c.follow.ensures
    ∙ ap (λ (l : List ℕ). l ++ drop a.n a.way.now)
    (followed_same a.links.now c.explore.new.found (fewest_steps g a.end) a.count
    (λ j h. ap (λ (l : List ℕ). get_or l j 0) c.explore.ensures
    ∙ get_or-append (fewest_steps g a.end) _ 0 j (let s = (stepped g a.end).sized in omega arith))
    a.n a.start)
