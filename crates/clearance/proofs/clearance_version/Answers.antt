-- `clearance::clearance_version` meets its contract: the constant is the number of this version.
use mathlib.Core.Path.{refl}
use Rattle.clearance.proofs.clearance_version.Goals as goal

pub returns : goal.returns
returns c = refl
