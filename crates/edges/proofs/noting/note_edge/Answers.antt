-- `edges::noting::note_edge` meets its contract: the slot's levels and upper end change by what the three helpers return.
use Prim.Native.Nat.{◌+◌, ◌*◌, min, max}
use mathlib.Core.Path.{ap, ◌∙◌}
use mathlib.Core.Bool.{cond}
use native.Mathlib.Omega.{arith}
use lib.Dec.{ltb}
use lib.ListN.{set, length-set}
use Rattle.edges.specs.Noting.{with_edge}
use Rattle.edges.proofs.noting.note_edge.Goals as goal

pub bounds-slots-slot-2 : goal.bounds-slots-slot-2
bounds-slots-slot-2 c = omega (arith, length-set c.args.slots.now (3 * c.args.slot + 1) c.end_of_lower.result, c.requires)

pub returns : goal.returns
unfolding with_edge
returns c =
    let l = c.args.level in
    let low = c.lowest-low.ensures in
    let high = c.highest-high.ensures in
    let end = c.end_of_lower.ensures ∙ (λ i. cond (ltb l (low i)) c.args.end (c.far-known.ensures i)) in
    let lower = c.from.ensures ∙ c.min.ensures ∙ ap (min l) low in
    let higher = c.from-2.ensures ∙ c.max.ensures ∙ ap (max l) high in
    λ i. set (set c.args.slots.now (3 * c.args.slot + 1) (end i)) (3 * c.args.slot) (lower i + 16 * higher i)
