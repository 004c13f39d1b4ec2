-- `loops::draw_loops` meets its contract. The loop's invariant: the points below the lowest with a mark are passed. The measure is how far that one is
-- below 65,535. Assumes nothing.
use Prim.Native.Nat.{ℕ, ◌-◌}
use Rattle.trace.specs.Trace.{Traced}
use Rattle.loops.specs.Loops.{Leaf}
use Rattle.loops.specs.Sweep.{progress, Swept}
use Rattle.loops.proofs.Lowest.{next}
use Rattle.loops.proofs.draw_loops.Given as goal

abbrev pub invariant-loop-v : goal.invariant-loop-v
invariant-loop-v l =
    (leaf : Leaf l.twins) (limit : ℕ) → Traced limit leaf.steps l.initial.trace
    → Swept leaf limit 0 (next l.trace) (progress l.initial.trace l.initial.out 0) (progress l.trace l.out l.count)

abbrev pub decreases-loop-v : goal.decreases-loop-v
decreases-loop-v l = 65535 - next l.trace
