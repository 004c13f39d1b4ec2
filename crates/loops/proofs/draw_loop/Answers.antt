use Prim.Native.Nat.{ℕ}
use mathlib.Core.Path.{refl, sym, ◌∙◌}
use native.Mathlib.Omega.{arith}
use Rattle.loops.specs.Loops.{Leaf}
use Rattle.loops.specs.Sweep.{Progress, progress, Left}
use Rattle.loops.proofs.Round.{Start, marked, Going, start_inside, going_inside, goes_off, walked_one}
use Rattle.loops.proofs.Round.{Drawing, drawing_short, drawing-long, draws_off, draws_on, walked-round}
use Rattle.loops.proofs.draw_loop.Goals as goal
use Rattle.loops.proofs.draw_loop.Goals.{After-step-second, After-step-w, At-loop-w, Start as Entry}

-- ---- where the walk is, of any leaf that is left at entry

abbrev entry : Entry → Progress
entry c = progress c.args.trace.now c.args.out.now c.args.count

abbrev Some : Entry → Type 0
Some c = (l : Leaf c.args.twins.now) × (limit : ℕ) × Left l limit c.args.v (entry c)

abbrev some : (c : Entry) → Some c
some c = (c.requires.leaf, c.requires.limit, c.requires.left)

start : (c : Entry) (g : Some c) → Start g.0 g.1 c.args.v (entry c)
start c g = marked g.0 g.1 c.args.v (entry c) g.2 c.requires

one : (c : After-step-second) (g : Some (goal.at.After-step-second c).Start)
    → Going g.0 g.1 c.args.v (entry (goal.at.After-step-second c).Start) (start (goal.at.After-step-second c).Start g) 0 c.step-second.result.at c.step-second.new.trace
one c g = goes_off g.0 _ _ _ (start (goal.at.After-step-second c).Start g) _ _ _ refl c.step-second.ensures

two : (c : After-step-w) (g : Some (goal.at.After-step-w c).Start)
    → Drawing g.0 g.1 c.args.v (entry (goal.at.After-step-w c).Start) (start (goal.at.After-step-w c).Start g) c.step-w.result
    (progress c.step-w.new.trace c.args.out.now c.args.count)
two c g = draws_off g.0 _ _ _ (start (goal.at.After-step-w c).Start g) _ _ _ _ (one (goal.at.After-step-w c).After-step-second g) c.if-second-v.false c.step-w.ensures

more : (c : At-loop-w) (g : Some (goal.at.At-loop-w c).Start)
    → Drawing g.0 g.1 c.args.v (entry (goal.at.At-loop-w c).Start) (start (goal.at.At-loop-w c).Start g) c.loop-w.w
    (progress c.loop-w.trace c.loop-w.out c.loop-w.k)
more c g = c.loop-w.invariant g.0 g.1 (entry (goal.at.At-loop-w c).Start) (start (goal.at.At-loop-w c).Start g) (two (goal.at.At-loop-w c).After-step-w g)

-- ---- the goals

pub step-second-requires : goal.step-second-requires
step-second-requires c = start_inside _ _ _ _ (start (goal.at.step-second-requires c).Start (some (goal.at.step-second-requires c).Start))

pub shape_of-trace-then-second-v : goal.shape_of-trace-then-second-v
shape_of-trace-then-second-v c =
    (one (goal.at.shape_of-trace-then-second-v c).After-step-second (some (goal.at.shape_of-trace-then-second-v c).Start)).held.room ∙ sym c.requires.left.held.room

pub returns-then-second-v : goal.returns-then-second-v
returns-then-second-v c limit l h =
    walked_one l _ _ _ (start (goal.at.returns-then-second-v c).Start (l, limit, h)) _ _ (one (goal.at.returns-then-second-v c).After-step-second (l, limit, h)) c.if-second-v.true

pub step-w-requires : goal.step-w-requires
step-w-requires c =
    going_inside _ _ _ _ _ _ _ _ (one (goal.at.step-w-requires c).After-step-second (some (goal.at.step-w-requires c).Start))

pub loop-w-init : goal.loop-w-init
loop-w-init c = λ l limit s h d. d

pub overflow_add-k : goal.overflow_add-k
overflow_add-k c =
    let few = drawing_short _ _ _ _ _ _ _ (more (goal.at.overflow_add-k c).At-loop-w (some (goal.at.overflow_add-k c).Start)) in
    let pre = c.requires in
    omega (arith, pre.room, pre.inside, pre.left.held.small)

pub step-w-requires-in-loop-w : goal.step-w-requires-in-loop-w
step-w-requires-in-loop-w c =
    going_inside _ _ _ _ _ _ _ _ (more (goal.at.step-w-requires-in-loop-w c).At-loop-w (some (goal.at.step-w-requires-in-loop-w c).Start)).going

pub loop-w-smaller : goal.loop-w-smaller
loop-w-smaller c =
    let few = drawing_short _ _ _ _ _ _ _ (more (goal.at.loop-w-smaller c).At-loop-w (some (goal.at.loop-w-smaller c).Start)) in
    omega arith

pub loop-w-preserved : goal.loop-w-preserved
loop-w-preserved c =
    λ l limit s h d.
    draws_on l _ _ s h _ _ _ _ (c.loop-w.invariant l limit s h d) c.loop-w-test.true c.step-w-in-loop-w.ensures c.put_triangle.ensures refl

pub shape_of-trace : goal.shape_of-trace
shape_of-trace c =
    (more (goal.at.shape_of-trace c).At-loop-w (some (goal.at.shape_of-trace c).Start)).going.held.room ∙ sym c.requires.left.held.room

pub shape_of-out : goal.shape_of-out
shape_of-out c = drawing-long _ _ _ _ _ _ _ (more (goal.at.shape_of-out c).At-loop-w (some (goal.at.shape_of-out c).Start))

pub returns : goal.returns
returns c limit l h =
    walked-round l _ _ _ (start (goal.at.returns c).Start (l, limit, h)) _ _ (more (goal.at.returns c).At-loop-w (l, limit, h)) c.loop-w-test.false
