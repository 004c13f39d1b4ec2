-- `edges::table::number` meets its contract: the third element of the slot.
use mathlib.Core.Path.{refl}
use Rattle.edges.specs.Tables.{number_at}
use Rattle.edges.proofs.table.number.Goals as goal

pub returns : goal.returns
unfolding number_at
returns c = refl
