-- `cells::enter_children` meets its contract: before each turn the table holds the cells of 1 + 8 × (split records before n) records, and no split
-- cell of depth 10 was met.
use Prim.Native.Nat.{◌+◌, ◌*◌}
use mathlib.Core.Path.{◌≡◌}
use lib.ListN.{drop}
use Rattle.base.specs.Lists.{any}
use Rattle.rules.specs.Survey.{entries, cells_of}
use Rattle.octree.proofs.Records.{splits}
use Rattle.cells.specs.Laid.{too_deep, LaidTo}
use Rattle.cells.proofs.enter_children.Given as goal

abbrev pub invariant-loop-n : goal.invariant-loop-n
invariant-loop-n l = record {
  laid_to : LaidTo l.cells l.laid (1 + 8 * splits l.n (entries l.cells));
  deep : any too_deep (drop l.n (cells_of l.cells)) ≡ any too_deep (cells_of l.cells);
}
