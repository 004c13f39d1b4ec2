-- `cells::level_in` meets its contract: the quotient of the entry.
use mathlib.Core.Path.{refl}
use Rattle.cells.specs.Laid.{level_in}
use Rattle.cells.proofs.level_in.Goals as goal

pub returns : goal.returns
unfolding level_in
returns c = refl
