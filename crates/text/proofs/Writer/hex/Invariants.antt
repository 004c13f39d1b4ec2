-- `text::Writer::hex` meets its contract: each turn adds one digit.
-- Assumes nothing.
use lib.ListN.{take}
use Rattle.text.specs.Writing.{Writes}
use Rattle.text.proofs.Digits.{hex_by}
use Rattle.text.proofs.Writer.hex.Given as goal

abbrev pub invariant-loop-shift : goal.invariant-loop-shift
invariant-loop-shift l = Writes (hex_by l.v (take l.shift-index l.shift-items)) l.shift-index l.initial.self l.self
