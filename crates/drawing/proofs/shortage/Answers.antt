-- `drawing::shortage` meets its contract. Assumes nothing.
use Prim.Native.Nat.{◌*◌}
use native.Mathlib.Omega.{arith}
use Rattle.drawing.proofs.Slices.{points_short, triangles_short, none_short}
use Rattle.drawing.proofs.shortage.Goals as goal

pub returns-then-points-n : goal.returns-then-points-n
returns-then-points-n c = let a = c.args in points_short a.points (3 * a.n) a.triangles (3 * a.m) (omega arith)

pub returns-then-triangles-m : goal.returns-then-triangles-m
returns-then-triangles-m c = let a = c.args in triangles_short a.points (3 * a.n) a.triangles (3 * a.m) (omega arith) (omega arith)

pub returns : goal.returns
returns c = let a = c.args in none_short a.points (3 * a.n) a.triangles (3 * a.m) (omega arith) (omega arith)
