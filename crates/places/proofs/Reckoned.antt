-- What the code reckons is what the rules say: the coordinate on an axis given by its number, the moving coordinate by the way it moves, and the
-- place of a point by the end that is wet.
-- Assumes nothing.
use Prim.Native.Nat.{ℕ, zero, suc, ◌^◌, ◌<◌, ◌≤◌}
use mathlib.Core.Path.{◌≡◌, refl, ap}
use mathlib.Core.Logic.{◌≢◌}
use mathlib.Core.Bool.{true, false}
use mathlib.Core.List.{List}
use lib.IntN.{pos}
use lib.Ieee.{Float, binary32, add, sub, mul, div, of_int}
use borrow.Author.Tests.{lt-ltb, le-ltb}
use Rattle.base.specs.Grid.{Axis, X, Y, Z, along, axis_of}
use Rattle.rules.specs.Survey.{place_of, wet, corner_at}
use Rattle.rules.specs.Edges.{CellEdge, upper_end, float, fraction, moving, spot, spot_on}
use Rattle.rules.specs.declared.Corner.{Corner}
use Rattle.octree.proofs.Corners.{corner-there}
use Rattle.places.specs.Places.{spot_between}

-- ---- the axis with a number

pub axis-x : (n : ℕ) → n ≡ 0 → axis_of n ≡ X
axis-x n h = ap axis_of h

pub axis-y : (n : ℕ) → n ≡ 1 → axis_of n ≡ Y
axis-y n h = ap axis_of h

pub axis-z : (n : ℕ) → n ≢ 0 → n ≢ 1 → axis_of n ≡ Z
axis-z zero p q = absurd (p refl)
axis-z (suc zero) p q = absurd (q refl)
axis-z (suc (suc n)) p q = refl

module _ (v : Float) (c : Corner) (n : ℕ) where
  pub spread_x : n ≡ 0 → spot (axis_of n) v (place_of c) ≡ record { x = v; y = of_int binary32 (pos c.y); z = of_int binary32 (pos c.z) }
  unfolding spot float
  spread_x h = ap (λ (a : Axis). spot a v (place_of c)) (axis-x n h)

  pub spread_y : n ≡ 1 → spot (axis_of n) v (place_of c) ≡ record { x = of_int binary32 (pos c.x); y = v; z = of_int binary32 (pos c.z) }
  unfolding spot float
  spread_y h = ap (λ (a : Axis). spot a v (place_of c)) (axis-y n h)

  pub spread_z : n ≢ 0 → n ≢ 1 → spot (axis_of n) v (place_of c) ≡ record { x = of_int binary32 (pos c.x); y = of_int binary32 (pos c.y); z = v }
  unfolding spot float
  spread_z p q = ap (λ (a : Axis). spot a v (place_of c)) (axis-z n p q)

-- ---- the moving coordinate, where the dry end's coordinate is `from` and the wet end's is `to`

abbrev pub way : Float → ℕ → Corner → Corner → Float
way clearance length dry far =
    mul binary32 (of_int binary32 (pos length))
    (div binary32 (sub binary32 clearance dry.sounding) (sub binary32 far.sounding dry.sounding))

module _ (clearance : Float) (a : Axis) (length : ℕ) (dry far : Corner) (from to : ℕ)
    (p : from ≡ along a (place_of dry)) (q : to ≡ along a (place_of far)) where
  pub moving-up : from < to → add binary32 (of_int binary32 (pos from)) (way clearance length dry far) ≡ moving clearance a length dry far
  unfolding moving fraction float
  moving-up h = rw (← p, ← q, lt-ltb from to h)

  pub moving-down : to ≤ from → sub binary32 (of_int binary32 (pos from)) (way clearance length dry far) ≡ moving clearance a length dry far
  unfolding moving fraction float
  moving-down h = rw (← p, ← q, le-ltb from to h)

-- ---- the place, by which end is wet

module _ (clearance : Float) (a : Axis) (length : ℕ) (lower upper : Corner) (v : Float) where
  pub upper-wet : v ≡ moving clearance a length lower upper → wet clearance upper ≡ true
      → spot a v (place_of lower) ≡ spot_between clearance a length lower upper
  unfolding spot_between
  upper-wet e h = rw (e, h)

  pub upper_dry : v ≡ moving clearance a length upper lower → wet clearance upper ≡ false
      → spot a v (place_of lower) ≡ spot_between clearance a length lower upper
  unfolding spot_between
  upper_dry e h = rw (e, h)

-- ---- the place on an edge is that of its two corners

pub spot_on_lem : (corners : List Corner) (clearance : Float) (e : CellEdge)
    → spot_between clearance e.axis (2 ^ e.level) (corner_at corners e.low) (corner_at corners (upper_end e)) ≡ spot_on corners clearance e
unfolding spot_between spot_on
spot_on_lem corners clearance e = rw (corner-there corners e.low)
