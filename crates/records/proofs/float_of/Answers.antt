-- `records::float_of` meets its contract: above the infinity's pattern are the NaNs'.
use Rattle.std.proofs.Common.{arith}
use Rattle.records.proofs.Patterns.{nan_made, no_nan_bits}
use Rattle.records.proofs.float_of.Goals as goal

pub returns-then-bits-gt2139095040 : goal.returns-then-bits-gt2139095040
returns-then-bits-gt2139095040 c = nan_made c.args.bits (omega arith)

pub float_from_bits-result : goal.float_from_bits-result
float_from_bits-result c = no_nan_bits c.args.bits (omega arith)
