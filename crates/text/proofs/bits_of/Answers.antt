-- `text::bits_of` meets its contract: the bit pattern of a NaN.
-- Assumes nothing.
use Rattle.text.proofs.Patterns.{nan_bits}
use Rattle.text.proofs.bits_of.Goals as goal

pub returns-then-is_nan : goal.returns-then-is_nan
returns-then-is_nan c = nan_bits c.args.x c.if-is_nan.ensures.value
