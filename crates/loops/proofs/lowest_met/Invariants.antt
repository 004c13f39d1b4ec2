-- `loops::lowest_met` meets its contract. The loop's invariant: the number at hand is the lowest point with a mark of those looked at, or 65,535.
-- Assumes nothing.
use mathlib.Core.Path.{◌≡◌}
use Rattle.loops.specs.Sweep.{lowest_of}
use Rattle.loops.proofs.lowest_met.Given as goal

abbrev pub invariant-loop-i : goal.invariant-loop-i
invariant-loop-i l = l.lowest ≡ lowest_of l.trace l.i
