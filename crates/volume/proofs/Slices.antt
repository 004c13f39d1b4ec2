-- What stands in the slices after a drawing: triangles whose sum can be taken, and it is the sum over the drawing of the rules.
-- Assumes nothing.
use Prim.Native.Nat.{ℕ, zero, suc, ◌+◌, ◌*◌, ◌≤◌, ◌<◌}
use mathlib.Core.Path.{◌≡◌, refl, sym, ap, ap₂, ◌∙◌, subst}
use mathlib.Core.Logic.{inl, inr}
use mathlib.Core.List.{List, [], ◌∷◌}
use native.Mathlib.Omega.{arith}
use lib.Dec.{T, lit<}
use lib.IntN.{ℤ, pos, ◌+ℤ◌, ◌-ℤ◌}
use lib.ListN.{length, get_or, drop, get_or-append}
use lib.Ieee.{Float, nan}
use Rattle.base.specs.Grid.{Place, Axis, X, Y, Z, axis_number, along}
use Rattle.base.specs.Lists.{collect}
use Rattle.base.proofs.Lists.{In, in_get}
use Rattle.base.proofs.Tests.{true→}
use Rattle.rules.specs.Edges.{point_edges}
use Rattle.rules.specs.Steps.{Triangle, all_triangles}
use Rattle.rules.specs.Outputs.{accepted, survey_of, numbers, point_floats, triangle_numbers, written}
use Rattle.rules.specs.Closing.{triangles_in}
use Rattle.rules.specs.Water.{sixteenths, offset, determinant, sixfold_of, sixfold, InBox}
use Rattle.octree.proofs.Accepted.{lawful}
use Rattle.closing.proofs.Few.{triangles-few, triangle_below}
use Rattle.closing.proofs.Weights.{Below}
use Rattle.places.proofs.Stored.{point_floats_lem}
use Rattle.places.proofs.InBox.{floats_boxed}
use Rattle.edges.proofs.PointSlots.{points-few}
use Rattle.loops.proofs.Slices.{length-numbers}
use Rattle.water.specs.Corners.{Placed, triangle_at, Summable}
use Rattle.water.proofs.Sums.{later}
use Rattle.drawing.proofs.Slices.{room, triangles-back}

-- a triangle of a slice, by its number, is one of those in it
in_slice : (m k : ℕ) (triangles : List ℕ) → k < m → In (triangle_at triangles (3 * k)) (triangles_in m triangles)
in_slice zero k triangles h = absurd (omega arith)
in_slice (suc m) zero triangles h = inl refl
in_slice (suc m) (suc k) triangles h =
    inr (subst (λ (t : Triangle). In t (triangles_in m (drop 3 triangles))) (later triangles k) (in_slice m k (drop 3 triangles) (omega arith)))

axis-small : (a : Axis) → axis_number a < 3
axis-small X = lit< tt
axis-small Y = lit< tt
axis-small Z = lit< tt

-- ---- the sum by the coordinates of the points alone

module _ (r : Place) (n : ℕ) (xs ys : List Float)
    (alike : (p : ℕ) → p < n → (a : Axis) → get_or xs (3 * p + axis_number a) nan ≡ get_or ys (3 * p + axis_number a) nan) where
  offset_alike : (p : ℕ) → p < n → (a : Axis) → offset r xs p a ≡ offset r ys p a
  unfolding offset
  offset_alike p h a = ap (λ (v : Float). pos (sixteenths v) -ℤ pos (16 * along a r)) (alike p h a)

  triangle_alike : (t : Triangle) → (t.0 < n) × (t.1 < n) × (t.2 < n) → sixfold_of r xs t ≡ sixfold_of r ys t
  unfolding sixfold_of
  triangle_alike t (a, b, c) =
      λ i. determinant (λ x. offset_alike t.0 a x i) (λ x. offset_alike t.1 b x i) (λ x. offset_alike t.2 c x i)

  sum_alike : (ts : List Triangle) → Below n ts → sixfold r xs ts ≡ sixfold r ys ts
  sum_alike [] below = refl
  sum_alike (t ∷ ts) below = ap₂ (λ (y z : ℤ). y +ℤ z) (triangle_alike t (below t (inl refl))) (sum_alike ts (λ u i. below u (inr i)))

-- ---- of an accepted survey

module _ (tc tk : List ℕ) (clearance : Float) (ok : T (accepted tc tk clearance)) where
  abbrev count : ℕ
  count = length (point_edges (survey_of tc tk clearance))

  abbrev drawing : List Triangle
  drawing = all_triangles (survey_of tc tk clearance)

  pub all_below : Below (length (point_edges (survey_of tc tk clearance))) (all_triangles (survey_of tc tk clearance))
  all_below = triangle_below (survey_of tc tk clearance) (lawful tc tk clearance ok)

  -- a coordinate of a point has its element
  element_below : (p : ℕ) → p < count → (a : Axis) → 3 * p + axis_number a < length (point_floats tc tk clearance)
  element_below p h a = omega (arith, point_floats_lem tc tk clearance, axis-small a)

  -- every point of the drawing is there and lies in the box
  pub floats_placed : (p : ℕ) → p < length (point_edges (survey_of tc tk clearance)) → Placed (point_floats tc tk clearance) p
  floats_placed p h =
      let fs = point_floats tc tk clearance in (
        omega (arith, point_floats_lem tc tk clearance),
        λ a. (floats_boxed tc tk clearance ok (get_or fs (3 * p + axis_number a) nan) (in_get fs (3 * p + axis_number a) nan (element_below p h a))).inside,
      )

  module _ (ps : List Float) (ts : List ℕ) where
    abbrev points : List Float
    points = written (point_floats tc tk clearance) ps

    abbrev triangles : List ℕ
    triangles = written (triangle_numbers tc tk clearance) ts

    element : (p : ℕ) → p < count → (a : Axis)
        → get_or (written (point_floats tc tk clearance) ps) (3 * p + axis_number a) nan ≡ get_or (point_floats tc tk clearance) (3 * p + axis_number a) nan
    element p h a =
        let fs = point_floats tc tk clearance in
        get_or-append fs (drop (length fs) ps) nan (3 * p + axis_number a) (element_below p h a)

    placed : (p : ℕ) → p < count → Placed (written (point_floats tc tk clearance) ps) p
    placed p h =
        let (there, inside) = floats_placed p h in
        (omega (arith, there, room (point_floats tc tk clearance) ps), λ a. subst InBox (sym (element p h a)) (inside a))

    triangles_are : triangles_in (length (all_triangles (survey_of tc tk clearance))) (written (triangle_numbers tc tk clearance) ts)
        ≡ all_triangles (survey_of tc tk clearance)
    triangles_are = unfold triangle_numbers in triangles-back drawing (drop (length (collect numbers drawing)) ts)

    long : 3 * length (all_triangles (survey_of tc tk clearance)) ≤ length (written (triangle_numbers tc tk clearance) ts)
    unfolding triangle_numbers
    long = omega (arith, length-numbers drawing, room (collect numbers drawing) ts)

    pub summable : Summable (written (point_floats tc tk clearance) ps) (written (triangle_numbers tc tk clearance) ts)
        (length (all_triangles (survey_of tc tk clearance)))
    summable = record {
      few = omega (arith, triangles-few tc tk clearance ok, points-few tc tk clearance (true→ (accepted tc tk clearance) ok));
      drawn = λ k h.
          let t = triangle_at triangles (3 * k) in
          let (a, b, c) = all_below t (subst (λ (l : List Triangle). In t l) triangles_are (in_slice (length drawing) k triangles h)) in
          record { room = omega (arith, long); first = placed t.0 a; second = placed t.1 b; third = placed t.2 c };
    }

    -- the sum over the slices is that over the drawing
    pub slices_sum : (r : Place) → sixfold r (written (point_floats tc tk clearance) ps)
        (triangles_in (length (all_triangles (survey_of tc tk clearance))) (written (triangle_numbers tc tk clearance) ts))
        ≡ sixfold r (point_floats tc tk clearance) (all_triangles (survey_of tc tk clearance))
    slices_sum r = ap (sixfold r points) triangles_are ∙ sum_alike r count points (point_floats tc tk clearance) element drawing all_below
