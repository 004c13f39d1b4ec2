-- `cells::entries_right` meets its contract: before each turn the rule of the entries holds of what is left just if it holds of all.
use Prim.Native.Nat.{◌≤◌}
use mathlib.Core.Path.{◌≡◌}
use lib.ListN.{drop}
use Rattle.rules.specs.Survey.{entries}
use Rattle.rules.specs.Outputs.{entries_right}
use Rattle.cells.proofs.entries_right.Given as goal

abbrev pub invariant-loop-n : goal.invariant-loop-n
invariant-loop-n l = record {
  splits : l.k ≤ l.n;
  rest : entries_right l.n l.k (drop l.n (entries l.cells)) ≡ entries_right 0 0 (entries l.cells);
}
