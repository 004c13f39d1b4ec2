-- `water::sum` meets its contract: before each turn the total is that of the triangles passed, and small enough.
use Rattle.std.proofs.Common.{◌≡◌, ◌*◌, ◌^◌, ◌≤◌, nat_abs}
use Rattle.rules.specs.Closing.{triangles_in}
use Rattle.rules.specs.Water.{sixfold}
use Rattle.water.specs.Corners.{reference_place}
use Rattle.water.proofs.sum.Given as goal

abbrev pub invariant-loop-k : goal.invariant-loop-k
invariant-loop-k l =
    let passed = sixfold (reference_place l.reference) l.points (triangles_in l.k l.triangles) in
    record { total : l.total ≡ passed; small : nat_abs passed ≤ l.k * (6 * 2 ^ 42) }
