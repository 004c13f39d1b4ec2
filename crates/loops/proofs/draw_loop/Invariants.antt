-- `loops::draw_loop` meets its contract. The loop's invariant: whatever leaf the walk was drawing where the loop begins, it still draws. The
-- measure is what is left of the most triangles that one loop can have. Assumes nothing.
use Prim.Native.Nat.{ℕ, ◌+◌, ◌-◌}
use Rattle.loops.specs.Loops.{Leaf}
use Rattle.loops.specs.Sweep.{Progress, progress}
use Rattle.loops.proofs.Round.{Start}
use Rattle.loops.proofs.Round.{Drawing}
use Rattle.loops.proofs.draw_loop.Given as goal

abbrev pub invariant-loop-w : goal.invariant-loop-w
invariant-loop-w l =
    (leaf : Leaf l.twins) (limit : ℕ) (s : Progress) (h : Start leaf limit l.v s)
    → Drawing leaf limit l.v s h l.initial.w (progress l.initial.trace l.initial.out l.initial.k)
    → Drawing leaf limit l.v s h l.w (progress l.trace l.out l.k)

abbrev pub decreases-loop-w : goal.decreases-loop-w
decreases-loop-w l = l.count + 14617 - l.k
