use Prim.Native.Nat.{ℕ, ◌+◌, ◌≤◌, ◌<◌}
use mathlib.Core.Path.{refl, sym, ap, ◌∙◌, subst}
use mathlib.Core.List.{List, ◌++◌}
use native.Mathlib.Omega.{arith}
use lib.ListN.{get_or, set, drop}
use Rattle.rules.specs.Ways.{fewest_steps}
use Rattle.graph.specs.Table.{graph_in, Frontier}
use Rattle.graph.proofs.Exploring.{Exploring, Grounded, tail-few, rank_small, head_inside, next_head, all_done}
use Rattle.graph.proofs.Exploring.{Cleared, first_ranks, rest_kept, past_ranked}
use Rattle.graph.proofs.LinkTable.explore.Goals as goal
use Rattle.graph.proofs.LinkTable.explore.Goals.{After-clear, At-loop-head}

made : (k : After-clear) → Cleared k.args.self.count k.args.start k.args.found.now k.clear.new.found
made k = record { few = k.args.self.few; is_start = k.requires.start_bound; ranked = k.requires.found_value.0; clear = k.clear.ensures }

module _ (l : At-loop-head) where
  -- what stands past the corners
  abbrev past : List ℕ
  past = drop l.args.self.count (set l.clear.new.found l.args.start 1)

  ground : Grounded l.args.self.links.now l.args.self.count past
  ground = record { few = l.args.self.few; within = l.args.self.within; some = past_ranked (made (goal.at.At-loop-head l).After-clear) }

  few : l.args.self.count ≤ 4872
  few = ground.few

  tail-small : l.loop-head.tail ≤ 4872
  tail-small = let a = tail-few ground l.loop-head.invariant in let b = few in omega arith

  module _ (h : l.loop-head.head < l.loop-head.tail) where
    corner-small : get_or l.loop-head.queue l.loop-head.head 0 < l.args.self.count
    corner-small = head_inside ground l.loop-head.invariant h

    step_small : get_or l.loop-head.found (get_or l.loop-head.queue l.loop-head.head 0) 0 ≤ 4872
    step_small = rank_small ground l.loop-head.invariant h

pub loop-head-init : goal.loop-head-init
loop-head-init c =
    first_ranks (made (goal.at.loop-head-init c).After-clear) c.args.self.links.now c.args.queue.now c.requires.found_value.1

pub visit-tail-requires : goal.visit-tail-requires
visit-tail-requires c =
    let l = (goal.at.visit-tail-requires c).At-loop-head in
    record {
      corner = omega (arith, few l, corner-small l c.loop-head-test.true, c.from-k.ensures);
      found_len = (c.loop-head.invariant.size, omega (arith, tail-small l, c.loop-head.invariant.queue-size));
    }

pub loop-head-preserved : goal.loop-head-preserved
loop-head-preserved c =
    let a = c.args in
    subst (λ (s : Frontier). Exploring a.self.links.now a.self.count a.start (past (goal.at.loop-head-preserved c).At-loop-head) s (c.loop-head.head + 1) 0) (sym c.visit-tail.ensures)
    (next_head (ground (goal.at.loop-head-preserved c).At-loop-head) c.loop-head.invariant c.loop-head-test.true c.from-k.result _ (sym c.from-k.ensures) refl)

pub returns : goal.returns
returns c =
    let a = c.args in
    all_done (ground (goal.at.returns c).At-loop-head) c.loop-head.invariant (made (goal.at.returns c).After-clear).is_start c.loop-head-test.false
    ∙ ap (λ (z : List ℕ). fewest_steps (graph_in a.self.links.now a.self.count) a.start ++ z) (rest_kept (made (goal.at.returns c).After-clear))

pub offset_bounds-queue-head : goal.offset_bounds-queue-head
offset_bounds-queue-head c = omega (arith, tail-small (goal.at.offset_bounds-queue-head c).At-loop-head)

pub bounds-queue-head : goal.bounds-queue-head
bounds-queue-head c = omega (arith, tail-small (goal.at.bounds-queue-head c).At-loop-head, c.loop-head.invariant.queue-size)

pub overflow_add-rank : goal.overflow_add-rank
overflow_add-rank c =
    let e = ap (λ (k : ℕ). get_or c.loop-head.found k 0) c.from-k.ensures in
    omega (arith, step_small (goal.at.overflow_add-rank c).At-loop-head c.loop-head-test.true, e)

pub overflow_add-head : goal.overflow_add-head
overflow_add-head c = omega (arith, tail-small (goal.at.overflow_add-head c).At-loop-head, c.loop-head-test.true)

pub loop-head-smaller : goal.loop-head-smaller
loop-head-smaller c = omega (arith, tail-small (goal.at.loop-head-smaller c).At-loop-head, c.loop-head-test.true)
