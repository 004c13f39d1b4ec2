-- `text::Writer::float` meets its contract: a space, then the digits.
-- Assumes nothing.
use mathlib.Core.Path.{ap}
use native.Mathlib.Omega.{arith}
use native.Mathlib.Nat.{le_of_eq}
use Rattle.text.specs.Text.{hex}
use Rattle.text.proofs.Digits.{hex-length}
use Rattle.text.proofs.Stores.{writes_then, writes-renamed}
use Rattle.text.proofs.Writer.float.Goals as goal

pub returns : goal.returns
returns c =
    writes_then c.byte.ensures (writes-renamed 8 (ap hex c.bits_of.ensures) (le_of_eq (hex-length _)) c.hex.ensures) (omega arith)
