-- `across::fill` meets its contract: before each turn the table has 1 + 8 × (split records before n) records.
use Prim.Native.Nat.{◌+◌, ◌*◌}
use Rattle.rules.specs.Survey.{entries}
use Rattle.octree.proofs.Records.{splits}
use Rattle.across.specs.Across.{BeyondTo}
use Rattle.across.proofs.fill.Given as goal

abbrev pub invariant-loop-n : goal.invariant-loop-n
invariant-loop-n l = BeyondTo l.cells l.across (1 + 8 * splits l.n (entries l.cells))
