-- `edges::table::lowest` meets its contract: the remainder of the pair.
use mathlib.Core.Path.{refl}
use Rattle.edges.specs.Tables.{lowest_at}
use Rattle.edges.proofs.table.lowest.Goals as goal

pub returns : goal.returns
unfolding lowest_at
returns c = refl
