-- `cells::key_in` meets its contract: the remainder of the entry.
use mathlib.Core.Path.{refl}
use native.Mathlib.Omega.{arith}
use Rattle.cells.specs.Laid.{key_in}
use Rattle.cells.proofs.key_in.Goals as goal

pub returns : goal.returns
unfolding key_in
returns c = (refl, omega arith)
