-- `text::Writer::triangles` meets its contract: each turn adds one line.
-- Assumes nothing.
use Prim.Native.Nat.{◌*◌}
use Rattle.text.specs.Text.{triangle_lines}
use Rattle.text.specs.Writing.{Writes}
use Rattle.text.proofs.Writer.triangles.Given as goal

abbrev pub invariant-loop-i : goal.invariant-loop-i
invariant-loop-i l = Writes (triangle_lines l.i l.triangles) (35 * l.i) l.initial.self l.self
