-- `octants::fill_cell` meets its contract: before each turn the first i corners are written, and all else is as it was.
use Prim.Native.Nat.{◌+◌, ◌*◌}
use mathlib.Core.Path.{◌≡◌}
use Rattle.records.specs.Keys.{record_at}
use Rattle.cells.specs.Laid.{octant_key, written_at}
use Rattle.octants.proofs.fill_cell.Given as goal

abbrev pub invariant-loop-i : goal.invariant-loop-i
invariant-loop-i l = l.octants ≡ written_at (λ j. record_at l.corners (l.key + octant_key j l.size)) (8 * l.n) l.i l.initial.octants
