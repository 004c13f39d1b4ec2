-- `graph::rank_corners` meets its contract: a search, and a copy of its first ranks.
use mathlib.Core.Path.{ap, ◌∙◌}
use mathlib.Core.List.{List, ◌++◌}
use Prim.Native.Nat.{ℕ}
use lib.ListN.{take, drop}
use lib.Seq.{take_at}
use Rattle.rules.specs.Ways.{fewest_steps}
use Rattle.graph.specs.Table.{graph_in}
use Rattle.graph.proofs.Steps.{stepped}
use Rattle.graph.proofs.rank_corners.Goals as goal

pub returns : goal.returns
returns c =
    let a = c.args in
    let steps = fewest_steps (graph_in a.links.now a.count) a.start in
    ap (λ (l : List ℕ). l ++ drop a.count a.ranks.now)
    (c.copy_from_slice.ensures.after ∙ ap (take a.count) c.explore.ensures
    ∙ take_at steps _ a.count (stepped (graph_in a.links.now a.count) a.start).sized)
