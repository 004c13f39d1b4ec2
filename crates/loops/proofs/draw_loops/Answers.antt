use Prim.Native.Nat.{ℕ, ◌+◌, ◌≤◌}
use mathlib.Core.Path.{refl, sym, ◌∙◌}
use native.Mathlib.Omega.{arith}
use lib.ListN.{length-set}
use Rattle.trace.specs.Trace.{Traced}
use Rattle.loops.specs.Loops.{Leaf}
use Rattle.loops.specs.Sweep.{Progress, progress, Swept}
use Rattle.loops.proofs.Sweep.{swept_none, swept_long, begins, drawn}
use Rattle.loops.proofs.Lowest.{next, scans, beyond, reaches, ready, passes_on, at_next}
use Rattle.loops.proofs.draw_loops.Goals as goal
use Rattle.loops.proofs.draw_loops.Goals.{After-draw_loop-count, At-loop-v}

abbrev entry : At-loop-v → Progress
entry c = progress c.args.trace.now c.args.out.now 0

abbrev here : At-loop-v → Progress
here c = progress c.loop-v.trace c.loop-v.out c.loop-v.count

-- the leaf at entry is swept up to the lowest point with a mark
swept : (c : At-loop-v) → Swept c.requires.leaf c.requires.limit 0 (next c.loop-v.trace) (entry c) (here c)
swept c = c.loop-v.invariant c.requires.leaf c.requires.limit c.requires.traced

-- and, when the loop of that point is drawn, so is any leaf at entry up to the point after it
passed : (c : After-draw_loop-count) (l : Leaf c.args.twins.now) (limit : ℕ)
    → Traced limit l.steps c.args.trace.now
    → (c.in-Some.v + 1 ≤ 65535) × Swept l limit 0 (c.in-Some.v + 1) (entry (goal.at.After-draw_loop-count c).At-loop-v)
    (progress c.draw_loop-count.new.trace c.draw_loop-count.new.out c.draw_loop-count.result)
passed c l limit h =
    let at = (goal.at.After-draw_loop-count c).At-loop-v in
    passes_on l limit _ (entry at) (here at) (c.loop-v.invariant l limit h) refl c.in-Some.ensures.value _ c.draw_loop-count.ensures

pub lowest_met-requires : goal.lowest_met-requires
lowest_met-requires c =
    let both = scans _ _ _ _ (swept (goal.at.lowest_met-requires c).At-loop-v).left.held in
    record { trace_in_bounds = both.0; by_index = both.1 }

pub loop-v-init : goal.loop-v-init
loop-v-init c = λ l limit h. reaches l limit 0 _ _ (omega arith, swept_none l limit 0 _ (begins l limit _ _ 0 h))

pub draw_loop-count-requires : goal.draw_loop-count-requires
draw_loop-count-requires c =
    let at = (goal.at.draw_loop-count-requires c).At-loop-v in
    ready _ _ _ (entry at) (here at) (swept at) refl c.in-Some.ensures.value

pub loop-v-smaller : goal.loop-v-smaller
loop-v-smaller c =
    let pre = c.requires in
    let on = passed (goal.at.loop-v-smaller c).After-draw_loop-count pre.leaf pre.limit pre.traced in
    omega (arith, on.0, beyond _ _ _ _ _ on, at_next c.loop-v.trace _ c.in-Some.ensures.value)

pub loop-v-preserved : goal.loop-v-preserved
loop-v-preserved c = λ l limit h. reaches l limit _ _ _ (passed (goal.at.loop-v-preserved c).After-draw_loop-count l limit h)

pub bounds-trace-0 : goal.bounds-trace-0
bounds-trace-0 c = omega (arith, (swept (goal.at.bounds-trace-0 c).At-loop-v).left.held.room)

pub shape_of-trace : goal.shape_of-trace
shape_of-trace c = rw length-set ((swept (goal.at.shape_of-trace c).At-loop-v).left.held.room ∙ sym c.requires.traced.room)

pub shape_of-out : goal.shape_of-out
shape_of-out c = swept_long _ _ _ _ _ _ (swept (goal.at.shape_of-out c).At-loop-v)

pub returns : goal.returns
returns c limit l h =
    let at = (goal.at.returns c).At-loop-v in
    drawn l limit _ (entry at) (here at) (at_next c.loop-v.trace _ c.in_default.ensures.value) refl (c.loop-v.invariant l limit h)
