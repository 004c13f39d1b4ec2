-- `text::Writer::points` meets its contract: each turn adds one line.
-- Assumes nothing.
use Prim.Native.Nat.{◌*◌}
use Rattle.text.specs.Text.{point_lines}
use Rattle.text.specs.Writing.{Writes}
use Rattle.text.proofs.Writer.points.Given as goal

abbrev pub invariant-loop-i : goal.invariant-loop-i
invariant-loop-i l = Writes (point_lines l.i l.points) (29 * l.i) l.initial.self l.self
