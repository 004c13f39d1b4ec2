use Prim.Native.Nat.{ℕ, ◌≤◌, ◌<◌}
use mathlib.Core.Path.{◌≡◌, ◌∙◌, subst}
use native.Mathlib.Omega.{arith}
use Rattle.graph.proofs.Choosing.{Lowest, lowest-next, lowest-found, none_found}
use Rattle.graph.proofs.Links.{six_links, link_is}
use Rattle.graph.proofs.LinkTable.lowest.Goals as goal
use Rattle.graph.proofs.LinkTable.lowest.Goals.{At-loop-link}

-- what is known after i links, and after all six
abbrev LowestAt : At-loop-link → ℕ → ℕ → Type 0
LowestAt l =
    let a = l.args in
    Lowest a.self.links.now a.back.now a.self.count a.k a.rank

all_looked_at : (l : At-loop-link) → 6 ≤ l.loop-link.link-index → LowestAt l 6 l.loop-link.best
all_looked_at l h =
    let n = six_links l.args.self.links.now l.args.k (omega arith) in
    let six : l.loop-link.link-index ≡ 6 = omega arith in
    subst (λ (i : ℕ). LowestAt l i l.loop-link.best) six l.loop-link.invariant

pub loop-link-preserved : goal.loop-link-preserved
loop-link-preserved c =
    let n = six_links c.args.self.links.now c.args.k (omega arith) in
    let i : c.loop-link.link-index < 6 = omega arith in
    lowest-next c.loop-link.invariant i (c.from.ensures ∙ link_is c.args.self.links.now c.args.k c.loop-link.link-index i) c.better-best.ensures

pub returns-then-best-self-clause-value : goal.returns-then-best-self-clause-value
returns-then-best-self-clause-value c =
    let n = six_links c.args.self.links.now c.args.k (omega arith) in
    let low = all_looked_at (goal.at.returns-then-best-self-clause-value c).At-loop-link (omega arith) in
    none_found (subst (LowestAt (goal.at.returns-then-best-self-clause-value c).At-loop-link 6) c.if-best-self.true low)

pub returns-clause-value : goal.returns-clause-value
returns-clause-value c =
    let n = six_links c.args.self.links.now c.args.k (omega arith) in
    let low = all_looked_at (goal.at.returns-clause-value c).At-loop-link (omega arith) in
    lowest-found low c.if-best-self.false
