-- `text::Writer::refusal` meets its contract: the word, the number and the end of the line.
-- Assumes nothing.
use native.Mathlib.Omega.{arith}
use Rattle.text.specs.Text.{refusal}
use Rattle.text.proofs.Stores.{writes_then}
use Rattle.text.proofs.Writer.refusal.Goals as goal

pub returns : goal.returns
unfolding refusal
returns c = writes_then (writes_then c.bytes.ensures c.number.ensures (omega arith)) c.byte.ensures (omega arith)
