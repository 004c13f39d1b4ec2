-- Where every corner on an outer face of the box is dry, no point's edge lies in one. A survey that is drawable is such a survey.
-- Assumes nothing.
use Prim.Native.Nat.{ℕ}
use mathlib.Core.Path.{◌≡◌, refl, sym, ap₂, subst}
use mathlib.Core.Logic.{◌⊎◌, inl, inr}
use mathlib.Core.Bool.{Bool, false, not, ◌&&◌, ◌||◌, beq}
use mathlib.Core.List.{List}
use lib.Dec.{T, not_T, eqb, eqb→eq}
use lib.Ieee.{Float}
use Rattle.base.specs.Grid.{Place, Axis, axes, along}
use Rattle.base.proofs.Tests.{and→, →and, or→, or_left, or_right, either, eq→eqb, not_both}
use Rattle.base.proofs.Lists.{In, any→in, in→any}
use Rattle.base.proofs.Places.{each-axis}
use Rattle.rules.specs.Survey.{corners_of, place_of, wet, wet_at, Survey}
use Rattle.rules.specs.Edges.{CellEdge, upper_end, odd}
use Rattle.rules.specs.OpenAtBox.{is_outer, open_at_box}
use Rattle.rules.specs.Outputs.{drawable, survey_of}
use Rattle.rules.specs.Closing.{lies_in, in_one_face, Carries, is_odd}
use Rattle.rules.specs.declared.Corner.{Corner}
use Rattle.octree.specs.Lawful.{Lawful}
use Rattle.octree.proofs.Accepted.{drawable→}
use Rattle.octree.proofs.Corners.{corner-there, at_listed}
use Rattle.octree.proofs.Edges.{lower_end, upper_end_lem, undivided→, crossed→}
use Rattle.octree.proofs.Points.{carried-crossed}
use Rattle.closing.specs.Outside.{DryOutside}

-- ---- a drawable survey

dry_corner : (tk : List ℕ) (clearance : Float) → open_at_box tk clearance ≡ false → (c : Corner) → In c (corners_of tk) → T (is_outer (place_of c))
    → wet clearance c ≡ false
unfolding open_at_box
dry_corner tk clearance shut c i outer = go (either (wet clearance c))
  where
    go : T (wet clearance c) ⊎ (wet clearance c ≡ false) → wet clearance c ≡ false
    go (inl w) =
        let both = →and (is_outer (place_of c)) (wet clearance c) outer w in
        absurd (not_both (in→any (λ c. is_outer (place_of c) && wet clearance c) (corners_of tk) c i both) shut)
    go (inr d) = d

pub dry_outside : (tc tk : List ℕ) (clearance : Float) → T (drawable tc tk clearance) → DryOutside (survey_of tc tk clearance)
unfolding survey_of wet_at
dry_outside tc tk clearance ok q listed outer =
    let shut = (drawable→ tc tk clearance ok).1 in
    let P : Corner → Type 0 = λ c. T (is_outer (place_of c)) → wet clearance c ≡ false in
    at_listed P (corners_of tk) q (dry_corner tk clearance shut) listed (subst (λ p. T (is_outer p)) (sym (corner-there (corners_of tk) q)) outer)

-- ---- no point's edge lies in an outer face

-- an odd edge has a wet end
dry_even : (s : Survey) (e : CellEdge) → s.is_wet e.low ≡ false → s.is_wet (upper_end e) ≡ false → T (is_odd s e) → ⊥
unfolding odd
dry_even s e a b o = subst (λ (t : Bool). T t) (ap₂ (λ (x y : Bool). not (beq x y)) a b) o

-- a place at an end of the box on an axis is on an outer face
outer_at : (q : Place) (a : Axis) (v : ℕ) → (v ≡ 0) ⊎ (v ≡ 1024) → T (eqb v (along a q)) → T (is_outer q)
outer_at q a v w t = in→any (λ a. eqb (along a q) 0 || eqb (along a q) 1024) axes a (each-axis a) (go w)
  where
    at : along a q ≡ v
    at = sym (eqb→eq v (along a q) t)

    go : (v ≡ 0) ⊎ (v ≡ 1024) → T (eqb (along a q) 0 || eqb (along a q) 1024)
    go (inl z) = or_left (eqb (along a q) 0) (eqb (along a q) 1024) (subst (λ n. T (eqb (along a q) n)) z (eq→eqb (along a q) v at))
    go (inr k) = or_right (eqb (along a q) 0) (eqb (along a q) 1024) (subst (λ n. T (eqb (along a q) n)) k (eq→eqb (along a q) v at))

module _ (s : Survey) (law : Lawful s) (dry : DryOutside s) (e : CellEdge) (p : ℕ) (carries : Carries s e p) where
  -- the edge of a point lies in no outer face, since an end of it is wet
  off_face : (a : Axis) (v : ℕ) → (v ≡ 0) ⊎ (v ≡ 1024) → T (lies_in e a v) → ⊥
  off_face a v w t =
      let ends = and→ (eqb v (along a e.low)) (eqb v (along a (upper_end e))) t in
      let c = crossed→ s e.axis e.low e.level (carried-crossed s e p carries) in
      let is = (undivided→ s.cells e.axis e.low e.level c.0).0 in
      dry_even s e (dry e.low (lower_end s law e.axis e.low e.level is) (outer_at e.low a v w ends.0))
      (dry (upper_end e) (upper_end_lem s law e.axis e.low e.level is) (outer_at (upper_end e) a v w ends.1)) c.1

  -- so demand 3's exception excepts nothing
  pub never_outer : (f : CellEdge) → T (not (in_one_face e f))
  never_outer f = not_T (in_one_face e f) (λ t. let a = any→in both axes t in go a.0 (or→ (at a.0 0) (at a.0 1024) a.2))
    where
      at : Axis → ℕ → Bool
      at a v = lies_in e a v && lies_in f a v

      both : Axis → Bool
      both a = at a 0 || at a 1024

      go : (a : Axis) → T (at a 0) ⊎ T (at a 1024) → ⊥
      go a (inl u) = off_face a 0 (inl refl) (and→ (lies_in e a 0) (lies_in f a 0) u).0
      go a (inr u) = off_face a 1024 (inr refl) (and→ (lies_in e a 1024) (lies_in f a 1024) u).0
