-- `text::Writer::number` meets its contract: a space, then the digits.
-- Assumes nothing.
use native.Mathlib.Omega.{arith}
use Rattle.text.proofs.Stores.{writes_then}
use Rattle.text.proofs.Writer.number.Goals as goal

pub returns : goal.returns
returns c = writes_then c.byte.ensures c.decimal.ensures (omega arith)
