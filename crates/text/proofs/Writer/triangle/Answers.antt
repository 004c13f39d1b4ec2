-- `text::Writer::triangle` meets its contract: a letter, three numbers and the end of the line.
-- Assumes nothing.
use native.Mathlib.Omega.{arith}
use Rattle.text.specs.Text.{triangle_line}
use Rattle.text.proofs.Stores.{writes_then}
use Rattle.text.proofs.Writer.triangle.Goals as goal

pub returns : goal.returns
unfolding triangle_line
returns c =
    let one = writes_then c.byte.ensures c.number.ensures (omega arith) in
    let two = writes_then one c.number-2.ensures (omega arith) in
    let three = writes_then two c.number-3.ensures (omega arith) in
    writes_then three c.byte-2.ensures (omega arith)
