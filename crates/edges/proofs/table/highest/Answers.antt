-- `edges::table::highest` meets its contract: the quotient of the pair.
use mathlib.Core.Path.{refl}
use Rattle.edges.specs.Tables.{highest_at}
use Rattle.edges.proofs.table.highest.Goals as goal

pub returns : goal.returns
unfolding highest_at
returns c = refl
