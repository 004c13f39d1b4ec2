use Prim.Native.Nat.{ℕ}
use mathlib.Core.Path.{◌≡◌, refl, ap, ◌∙◌}
use native.Mathlib.Omega.{arith}
use lib.Dec.{eqb}
use lib.ListN.{length, get_or, length-set}
use Rattle.graph.specs.Table.{link_at, Frontier, reached}
use Rattle.graph.proofs.Counting.{bit-small}
use Rattle.graph.proofs.Links.{six_links, link_is}
use Rattle.graph.proofs.Visiting.{frontier, none-visited, one_more}
use Rattle.graph.proofs.LinkTable.visit.Goals as goal

pub loop-link-init : goal.loop-link-init
loop-link-init c =
    let a = c.args in
    (omega arith, c.requires.found_len.0, refl, none-visited a.self.links.now a.rank a.k (frontier a.tail a.found.now a.queue.now))

pub loop-link-preserved : goal.loop-link-preserved
loop-link-preserved c =
    let a = c.args in
    let l = c.loop-link in
    let v = l.invariant in
    let n = six_links a.self.links.now a.k (omega (arith, a.self.room)) in
    let j-is : c.from.result ≡ link_at a.self.links.now a.k l.link-index = c.from.ensures ∙ link_is a.self.links.now a.k l.link-index (omega arith) in
    let found-is = ap (λ (s : Frontier). length s.found) c.reach-end.ensures in
    let queue-is = ap (λ (s : Frontier). length s.queue) c.reach-end.ensures in
    let tail-is = ap (λ (s : Frontier). s.tail) c.reach-end.ensures in (
      omega (arith, tail-is, v.0, bit-small (eqb (get_or l.found c.from.result 0) 0)),
      found-is ∙ length-set l.found c.from.result _ ∙ v.1,
      queue-is ∙ length-set l.queue l.end c.from.result ∙ v.2,
      c.reach-end.ensures ∙ ap (λ (j : ℕ). reached a.rank j (frontier l.end l.found l.queue)) j-is
          ∙ ap (reached a.rank (link_at a.self.links.now a.k l.link-index)) v.3
          ∙ one_more a.self.links.now a.rank a.k (frontier a.tail a.found.now a.queue.now) l.link-index,
    )
