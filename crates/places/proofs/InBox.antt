-- Every coordinate of every point of an accepted survey lies in the box, and is a binary32 number.
-- Assumes nothing.
use Prim.Native.Nat.{ℕ, ◌+◌, ◌^◌, ◌≤◌}
use mathlib.Core.Path.{◌≡◌, refl, sym, subst}
use mathlib.Core.Logic.{inl, inr}
use mathlib.Core.Bool.{cond}
use mathlib.Core.List.{List, [], ◌∷◌}
use native.Mathlib.Nat.{mul-le-mul_right}
use native.Mathlib.Omega.{arith}
use lib.Dec.{T, ltb, lit≤}
use lib.IntN.{pos}
use lib.Ieee.{Float, binary32, add, sub, mul, of_int, fits}
use lib.Ieee.Fits.{add-fits, sub-fits, cond-fits, of_int-fits}
use lib.Ieee.Positive.{den}
use Rattle.base.specs.Grid.{Place, Axis, X, Y, Z, along}
use Rattle.base.proofs.Lists.{In, in_collect}
use Rattle.base.proofs.Places.{along-put}
use Rattle.rules.specs.Survey.{corners_of, place_of, corner_at, wet}
use Rattle.rules.specs.Edges.{CellEdge, upper_end, point_edges, number_of, float, fraction, moving, Spot, spot, spot_on, coordinate, OnEdge}
use Rattle.rules.specs.Outputs.{accepted, survey_of, coordinates, point_floats}
use Rattle.rules.specs.Water.{InBox}
use Rattle.rules.specs.declared.Corner.{Corner}
use Rattle.octree.specs.Lawful.{Lawful}
use Rattle.octree.proofs.Accepted.{lawful}
use Rattle.octree.proofs.Edges.{edge→, undivided→, crossed→}
use Rattle.octree.proofs.Aligned.{corner-place, edge_in_box}
use Rattle.octree.proofs.Points.{point-crossed, crossed-carries}
use Rattle.rounding.proofs.Rounds.{whole_is, between_wider}
use Rattle.rounding.proofs.Parts.{at_most-between}
use Rattle.places.proofs.OnEdge.{on_edge}

-- a coordinate lies in the box, and is a binary32 number
pub record Boxed (v : Float) : Type 0 where
  pub inside : InBox v
  pub held : T (fits binary32 v)

-- a whole number of the box
whole_boxed : (n : ℕ) → n ≤ 1024 → Boxed (float n)
unfolding float
whole_boxed n h =
    let (finite, positive, is) = whole_is binary32 n (omega arith) in
    record {
      inside = at_most-between binary32 1024 (of_int binary32 (pos n)) (lit≤ tt)
          (finite, positive, omega (arith, is, mul-le-mul_right (den (of_int binary32 (pos n))) h));
      held = of_int-fits binary32 (pos n);
    }

-- the moving coordinate is held
moving-held : (clearance : Float) (a : Axis) (length : ℕ) (dry far : Corner) → T (fits binary32 (moving clearance a length dry far))
unfolding moving
moving-held clearance a length dry far =
    let way = mul binary32 (float length) (fraction clearance dry far) in
    let from = float (along a (place_of dry)) in
    cond-fits binary32 (ltb (along a (place_of dry)) (along a (place_of far))) (add binary32 from way) (sub binary32 from way) (add-fits binary32 from way)
    (sub-fits binary32 from way)

spot-held : (corners : List Corner) (clearance : Float) (e : CellEdge) → T (fits binary32 (coordinate e.axis (spot_on corners clearance e)))
unfolding spot_on
spot-held corners clearance e =
    let lower = corner_at corners e.low in
    let upper = corner_at corners (upper_end e) in
    let v = moving clearance e.axis (2 ^ e.level) lower upper in
    let w = moving clearance e.axis (2 ^ e.level) upper lower in
    let u = cond (wet clearance upper) v w in
    subst (λ (x : Float). T (fits binary32 x)) (sym (own e.axis u e.low))
    (cond-fits binary32 (wet clearance upper) v w (moving-held clearance e.axis (2 ^ e.level) lower upper)
    (moving-held clearance e.axis (2 ^ e.level) upper lower))
  where
    own : (a : Axis) (v : Float) (p : Place) → coordinate a (spot a v p) ≡ v
    own X v p = unfold spot in refl
    own Y v p = unfold spot in refl
    own Z v p = unfold spot in refl

three_boxed : (a b c : Float) → Boxed a → Boxed b → Boxed c → (x : Float) → In x (a ∷ b ∷ c ∷ []) → Boxed x
three_boxed a b c ha hb hc x (inl e) = subst Boxed (sym e) ha
three_boxed a b c ha hb hc x (inr (inl e)) = subst Boxed (sym e) hb
three_boxed a b c ha hb hc x (inr (inr (inl e))) = subst Boxed (sym e) hc
three_boxed a b c ha hb hc x (inr (inr (inr x4))) = elim x4 [ ]

-- a spot with a boxed coordinate on an axis, at a place of the box
spot_boxed : (a : Axis) (v : Float) (p : Place) → Boxed v → ((b : Axis) → along b p ≤ 1024) → (x : Float) → In x (coordinates (spot a v p)) → Boxed x
unfolding spot
spot_boxed X v p h inside = three_boxed v (float p.y) (float p.z) h (whole_boxed p.y (inside Y)) (whole_boxed p.z (inside Z))
spot_boxed Y v p h inside = three_boxed (float p.x) v (float p.z) (whole_boxed p.x (inside X)) h (whole_boxed p.z (inside Z))
spot_boxed Z v p h inside = three_boxed (float p.x) (float p.y) v (whole_boxed p.x (inside X)) (whole_boxed p.y (inside Y)) h

module _ (tc tk : List ℕ) (clearance : Float) (ok : T (accepted tc tk clearance)) where
  edge_boxed : (e : CellEdge) → In e (point_edges (survey_of tc tk clearance)) → (x : Float) → In x (coordinates (spot_on (corners_of tk) clearance e)) → Boxed x
  unfolding OnEdge
  edge_boxed e i x j =
      let s = survey_of tc tk clearance in
      let law : Lawful s = lawful tc tk clearance ok in
      let crossed = point-crossed s e i in
      let t = (undivided→ s.cells e.axis e.low e.level (crossed→ s e.axis e.low e.level crossed).0).0 in
      let (q, c, g, f) = edge→ s.cells e.axis e.low e.level t in
      let (from, to, is) = on_edge tc tk clearance ok e (number_of s e) (crossed-carries s law e crossed) in
      let v = coordinate e.axis (spot_on (corners_of tk) clearance e) in
      let low = along e.axis e.low in
      let high = along e.axis (upper_end e) in
      let end : high ≡ low + 2 ^ e.level = along-put e.axis (low + 2 ^ e.level) e.low in
      let top = edge_in_box s.cells law.octree e.axis e.low e.level t in
      let inside : InBox v =
      unfold float in between_wider binary32 low high 0 1024 v (omega arith) (omega arith) (omega arith) (lit≤ tt) (from, to) in
      spot_boxed e.axis v e.low (record { inside = inside; held = spot-held (corners_of tk) clearance e })
      (λ b. (corner-place s.cells law.octree e.level q e.low c f b).1) x (subst (λ (s : Spot). In x (coordinates s)) is j)

  -- each coordinate of each point
  pub floats_boxed : (x : Float) → In x (point_floats tc tk clearance) → Boxed x
  unfolding point_floats
  floats_boxed x i =
      let (e, j, k) = in_collect (λ e. coordinates (spot_on (corners_of tk) clearance e)) (point_edges (survey_of tc tk clearance)) x i in
      edge_boxed e j x k
