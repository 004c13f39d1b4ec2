-- A coordinate of the box taken down to a whole sixteenth: exactly, and no further from the reference than the box is long.
-- Assumes nothing.
use Rattle.std.proofs.Common.{◌≡◌, ℕ, ◌+◌, ◌*◌, ◌≤◌, Bool, false, not, ◌||◌, T, ltb, List, get_or, ℤ, pos, ◌-ℤ◌, nat_abs, refl, ap₂, arith, lit<, nltb→le, w64, SFits, to_z, of_z}
use lib.Ieee as Ieee
use lib.Ieee.{Float, nan, binary32}
use Rattle.base.specs.Grid.{Place, Axis, X, Y, Z, axis_number, along}
use Rattle.rules.specs.Edges.{float}
use Rattle.rules.specs.Water.{sixteenths, offset, beyond_box, TakenDown, InBox}
use Rattle.rounding.proofs.Sixteenths.{exact, whole_part, whole-most}
use Rattle.water.specs.Corners.{part, taken, Near, Placed}
use Rattle.water.proofs.Signed.{is_minus, size-most, fits}
use Rattle.water.proofs.Sizes.{own}

pub taken-down : (v : Float) → T (Ieee.fits binary32 v) → InBox v → TakenDown v
unfolding sixteenths float
taken-down v held inBox = record { inside = inBox; exact = exact v held inBox; whole = whole_part v held inBox; most = whole-most v inBox }

-- a reference of the box has no coordinate above 1,024
pub in_box : (r : Place) → T (not (beyond_box r)) → (a : Axis) → along a r ≤ 1024
in_box r t = go (ltb 1024 r.x) (ltb 1024 r.y) (ltb 1024 r.z) (nltb→le 1024 r.x) (nltb→le 1024 r.y) (nltb→le 1024 r.z) t
  where
    go : (x y z : Bool) → (T (not x) → r.x ≤ 1024) → (T (not y) → r.y ≤ 1024) → (T (not z) → r.z ≤ 1024) → T (not (x || (y || (z || false))))
        → (a : Axis) → along a r ≤ 1024
    go false false false p q r t X = p tt
    go false false false p q r t Y = q tt
    go false false false p q r t Z = r tt
    go false false mathlib.Core.Bool.true p q r t a = elim t [ ]
    go false mathlib.Core.Bool.true z p q r t a = elim t [ ]
    go mathlib.Core.Bool.true y z p q r t a = elim t [ ]

-- the difference of two natural numbers is no further from zero than both are
pub near : (m n k : ℕ) → m ≤ k → n ≤ k → nat_abs (pos m -ℤ pos n) ≤ k
near m n k h j = size-most (pos m -ℤ pos n) m n k (let d = is_minus (pos m) (pos n) m 0 n 0 refl refl in omega arith) h j

-- a point of the box is near a reference of the box
pub offset_near : (r : Place) (points : List Float) (p : ℕ) → T (not (beyond_box r)) → Placed points p → Near (offset r points p)
unfolding offset sixteenths float
offset_near r points p t placed a =
    let v = get_or points (3 * p + axis_number a) nan in
    near (sixteenths v) (16 * along a r) 16384 (whole-most v (placed.1 a)) (let h = in_box r t a in omega arith)

pub taken_near : (r : Place) (points : List Float) (p : ℕ) → T (not (beyond_box r)) → Placed points p → Near (part (taken r points p))
taken_near r points p t placed X = offset_near r points p t placed X
taken_near r points p t placed Y = offset_near r points p t placed Y
taken_near r points p t placed Z = offset_near r points p t placed Z

-- such a difference as the machine has it
module _ (m n : ℕ) (h : m ≤ 16384) (j : n ≤ 16384) where
  difference : to_z w64 m -ℤ to_z w64 n ≡ pos m -ℤ pos n
  difference = ap₂ (λ (y z : ℤ). y -ℤ z) (own (pos m) h) (own (pos n) j)

  pub difference_fits : SFits w64 (to_z w64 m -ℤ to_z w64 n)
  difference_fits = rw difference (fits (pos m -ℤ pos n) 16384 (near m n 16384 h j) (lit< tt))

  pub difference_back : to_z w64 (of_z w64 (to_z w64 m -ℤ to_z w64 n)) ≡ pos m -ℤ pos n
  difference_back = rw difference (own (pos m -ℤ pos n) (near m n 16384 h j))
