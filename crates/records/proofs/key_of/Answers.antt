-- `records::key_of` meets its contract: the sum is the definition's.
use Rattle.std.proofs.Common.{rules}
use Rattle.records.specs.Keys.{key_of}
use Rattle.records.proofs.key_of.Goals as goal

pub returns : goal.returns
unfolding key_of
returns c = search rules
