-- `checks::mark_all` meets its contract: before each turn the numbers that are left decide whether one is no record, and what is left to mark.
use mathlib.Core.Path.{◌≡◌}
use lib.ListN.{drop}
use lib.Dec.{ltb}
use Rattle.base.specs.Lists.{all}
use Rattle.checks.specs.Marks.{marked}
use Rattle.checks.proofs.mark_all.Given as goal

abbrev pub invariant-loop-octant : goal.invariant-loop-octant
invariant-loop-octant l =
    (all (λ k. ltb k l.count) (drop l.octant-index l.octants) ≡ all (λ k. ltb k l.count) l.octants)
    × (marked (drop l.octant-index l.octants) l.marks ≡ marked l.octants l.initial.marks)
