-- `text::Writer::counts` meets its contract: two numbers and the end of the line.
-- Assumes nothing.
use native.Mathlib.Omega.{arith}
use Rattle.text.specs.Text.{count_line}
use Rattle.text.proofs.Stores.{writes_then}
use Rattle.text.proofs.Writer.counts.Goals as goal

pub returns : goal.returns
unfolding count_line
returns c = writes_then (writes_then c.decimal.ensures c.number.ensures (omega arith)) c.byte.ensures (omega arith)
