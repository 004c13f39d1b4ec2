-- `edges::table::far` meets its contract: the second element of the slot.
use mathlib.Core.Path.{refl}
use Rattle.edges.specs.Tables.{far_at}
use Rattle.edges.proofs.table.far.Goals as goal

pub returns : goal.returns
unfolding far_at
returns c = refl
