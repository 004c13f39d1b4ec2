-- `places::put_point` meets its contract: a store leaves the length.
-- Assumes nothing.
use native.Mathlib.Omega.{arith}
use lib.ListN.{length-set}
use Rattle.places.proofs.put_point.Goals as goal

pub bounds-points-at-2 : goal.bounds-points-at-2
bounds-points-at-2 c = simp length-set (omega arith)

pub bounds-points-at-3 : goal.bounds-points-at-3
bounds-points-at-3 c = simp length-set (omega arith)
