-- `text::Writer::byte` meets its contract: one store.
-- Assumes nothing.
use mathlib.Core.Path.{refl}
use native.Mathlib.Omega.{arith}
use lib.ListN.{length-set}
use Rattle.text.proofs.Stores.{stored}
use Rattle.text.proofs.Writer.byte.Goals as goal

pub returns : goal.returns
returns c = record {
  wrote = record { ends = refl; room = omega arith; slice = stored _ _ _ c.requires };
  long = length-set _ _ _;
  same = refl;
}
