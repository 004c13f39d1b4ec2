-- `records::is_wet` meets its contract: the comparison is that of the rules.
use Rattle.std.proofs.Common.{refl}
use Rattle.rules.specs.Survey.{wet}
use Rattle.records.proofs.is_wet.Goals as goal

pub returns : goal.returns
unfolding wet
returns c = refl
