-- Corners taken from the reference, as the code holds them, and what must be known of the slices to sum over their triangles.
-- Assumes nothing: these are definitions.
use Rattle.std.specs.Prelude.{ℕ, ◌+◌, ◌*◌, ◌<◌, ◌≤◌, List, length, ℤ, slice_index, slice_index_or, unsigned_abs, Float}
use Rattle.std.specs.Float.{nan}
use Rattle.base.specs.Grid.{Place, Axis, X, Y, Z, axis_number}
use Rattle.rules.specs.Steps.{Triangle}
use Rattle.rules.specs.Water.{offset, InBox}
use Rattle.water.specs.declared.Reference.{Reference}
use Rattle.water.specs.declared.Offset.{Offset}

abbrev pub reference_place : Reference → Place
reference_place r = record { x = r.x; y = r.y; z = r.z }

-- an offset by its axis
abbrev pub part : Offset → Axis → ℤ
part o X = o.x
part o Y = o.y
part o Z = o.z

-- point p taken from the reference
abbrev pub taken : Place → List Float → ℕ → Offset
taken reference points p = record { x = offset reference points p X; y = offset reference points p Y; z = offset reference points p Z }

-- no coordinate is further from the reference than the box is long, in sixteenths
abbrev pub Near : (Axis → ℤ) → Type 0
Near v = (a : Axis) → unsigned_abs (v a) ≤ 16384

-- the slice has point p, and it lies in the box
abbrev pub Placed : List Float → ℕ → Type 0
Placed points p = (3 * p + 3 ≤ length points) × ((a : Axis) → InBox (slice_index_or points (3 * p + axis_number a) nan))

-- the triangle whose numbers begin at an element of a slice
abbrev pub triangle_at : List ℕ → ℕ → Triangle
triangle_at triangles at = (slice_index triangles at, slice_index triangles (at + 1), slice_index triangles (at + 2))

-- the slices have that triangle and its points
pub record Held (points : List Float) (triangles : List ℕ) (at : ℕ) : Type 0 where
  pub room : at + 3 ≤ length triangles
  pub first : Placed points (slice_index triangles at)
  pub second : Placed points (slice_index triangles (at + 1))
  pub third : Placed points (slice_index triangles (at + 2))

-- the slices have m triangles, with their points, and few enough for 64 bits: four for each of 14,616 points
pub record Summable (points : List Float) (triangles : List ℕ) (m : ℕ) : Type 0 where
  pub few : m ≤ 58464
  pub drawn : (k : ℕ) → k < m → Held points triangles (3 * k)
