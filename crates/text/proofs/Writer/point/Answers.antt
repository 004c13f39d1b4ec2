-- `text::Writer::point` meets its contract: a letter, three floats and the end of the line.
-- Assumes nothing.
use native.Mathlib.Omega.{arith}
use Rattle.text.specs.Text.{point_line}
use Rattle.text.proofs.Stores.{writes_then}
use Rattle.text.proofs.Writer.point.Goals as goal

pub returns : goal.returns
unfolding point_line
returns c =
    let one = writes_then c.byte.ensures c.float.ensures (omega arith) in
    let two = writes_then one c.float-2.ensures (omega arith) in
    let three = writes_then two c.float-3.ensures (omega arith) in
    writes_then three c.byte-2.ensures (omega arith)
