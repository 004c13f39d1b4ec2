-- `cells::put_children` meets its contract: before each turn the first i children are written, and all else is as it was.
use Prim.Native.Nat.{◌+◌, ◌*◌}
use mathlib.Core.Path.{◌≡◌}
use Rattle.cells.specs.Laid.{octant_key, written_at}
use Rattle.cells.proofs.put_children.Given as goal

abbrev pub invariant-loop-i : goal.invariant-loop-i
invariant-loop-i l =
    l.laid ≡ written_at (λ j. l.key + octant_key j l.size + 281474976710656 * l.level) l.at l.i l.initial.laid
