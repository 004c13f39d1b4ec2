-- What request 4 of document 02 says of the number, of every survey.
--     same_answer        the call gives the same from any two references of the box
--     all-taken-down     each coordinate of each point is taken down exactly
--     numbers_below      every number in a triangle is that of a point
--     few-triangles      at most four triangles for each point
--     nothing_lost       no determinant and no partial sum is too large for 64 bits
-- That the sum is equal from any two references is `any_reference`, in Reckoned.antt.
-- Assumes nothing.
use Prim.Native.Nat.{ℕ, zero, suc, ◌*◌, ◌^◌, ◌≤◌}
use mathlib.Core.Path.{◌≡◌, refl, sym, ap, ◌∙◌}
use mathlib.Core.Bool.{Bool, true, false, not, ◌&&◌, cond}
use mathlib.Core.Logic.{inl, inr}
use mathlib.Core.List.{List, [], ◌∷◌, ◌++◌}
use native.Mathlib.Omega.{arith}
use lib.Dec.{T, eqb, leb, ltb, eqb→eq, le→leb, lt→ltb}
use lib.IntN.{pos, nat_abs}
use lib.ListN.{length, get_or, take, length-take}
use lib.Ieee.{Float, nan}
use Rattle.base.specs.Lists.{all}
use Rattle.base.specs.Grid.{Place}
use Rattle.base.proofs.Lists.{In, in_get, in→all}
use Rattle.base.proofs.Tests.{→and, eq→eqb, true→, false→, →true}
use Rattle.rules.specs.Edges.{point_edges}
use Rattle.rules.specs.Steps.{Triangle, all_triangles}
use Rattle.rules.specs.Outputs.{numbers, first_of, table_checks, survey_checks, checks, accepted, drawing_checks, drawable, survey_of, point_floats}
use Rattle.rules.specs.Outputs.{slice_checks, draw}
use Rattle.rules.specs.Water.{sixfold_of, beyond_box, volume_checks, volume}
use Rattle.rules.specs.Water.{AnyReference, SameAnswer, AllTakenDown, NumbersBelow, FewTriangles, NothingLost}
use Rattle.octree.proofs.Accepted.{first-none}
use Rattle.closing.proofs.Few.{triangles-few}
use Rattle.places.proofs.InBox.{floats_boxed}
use Rattle.edges.proofs.PointSlots.{points-few}
use Rattle.water.proofs.Down.{taken-down}
use Rattle.water.proofs.Sums.{triangle_size, sixfold-size}
use Rattle.volume.proofs.Outcome.{total}
use Rattle.volume.proofs.Reckoned.{any_reference}
use Rattle.volume.proofs.Slices.{all_below, floats_placed}

module _ {A : Type 0} where
  in_take : (k : ℕ) (xs : List A) (x : A) → In x (take k xs) → In x xs
  in_take zero xs x i = absurd i
  in_take (suc k) [] x i = absurd i
  in_take (suc k) (y ∷ ys) x (inl e) = inl e
  in_take (suc k) (y ∷ ys) x (inr i) = inr (in_take k ys x i)

pub all-taken-down : AllTakenDown
unfolding AllTakenDown
all-taken-down tc tk clearance ok i h =
    let fs = point_floats tc tk clearance in
    let boxed = floats_boxed tc tk clearance ok (get_or fs i nan) (in_get fs i nan h) in
    taken-down (get_or fs i nan) boxed.held boxed.inside

-- the numbers given are equal, and where they are 0 the survey is drawable
module _ (tc tk : List ℕ) (clearance : Float) (p q : Place) (ps : List Float) (ts : List ℕ) (own : T (not (beyond_box p)))
    (other : T (not (beyond_box q))) where
  abbrev number : Place → ℕ
  number r = first_of (volume_checks tc tk clearance r ++ slice_checks tc tk clearance ps ts)

  same_number : first_of (volume_checks tc tk clearance p ++ slice_checks tc tk clearance ps ts)
      ≡ first_of (volume_checks tc tk clearance q ++ slice_checks tc tk clearance ps ts)
  unfolding volume_checks
  same_number =
      ap (λ (b : Bool). first_of ((drawing_checks tc tk clearance ++ (13, b) ∷ []) ++ slice_checks tc tk clearance ps ts))
      (false→ (beyond_box p) own ∙ sym (false→ (beyond_box q) other))

  can_draw : number q ≡ 0 → T (drawable tc tk clearance)
  unfolding volume_checks drawable
  can_draw given =
      let none = (first-none (volume_checks tc tk clearance q) (slice_checks tc tk clearance ps ts)
      (unfold drawing_checks checks survey_checks table_checks in tt) given).0 in
      eq→eqb (first_of (drawing_checks tc tk clearance)) 0
      (first-none (drawing_checks tc tk clearance) ((13, beyond_box q) ∷ []) (unfold drawing_checks checks survey_checks table_checks in tt) none).0

  same-volume : cond (eqb (number p) 0) (total tc tk clearance p ps ts) (pos 0) ≡ cond (eqb (number q) 0) (total tc tk clearance q ps ts) (pos 0)
  same-volume =
      ap (λ (n : ℕ). cond (eqb n 0) (total tc tk clearance p ps ts) (pos 0)) same_number ∙ go (eqb (number q) 0) refl
    where
      go : (b : Bool) → eqb (number q) 0 ≡ b → cond b (total tc tk clearance p ps ts) (pos 0) ≡ cond b (total tc tk clearance q ps ts) (pos 0)
      go true e = unfold AnyReference in any_reference tc tk clearance (can_draw (eqb→eq (number q) 0 (→true e))) p q own other
      go false e = refl

pub same_answer : SameAnswer
unfolding SameAnswer volume
same_answer tc tk clearance p q ps ts own other =
    let drawn = draw tc tk clearance ps ts in
    let n = same_number tc tk clearance p q ps ts own other in
    λ i. record {
      result = record {
        number = n i;
        points = cond (eqb (n i) 13) 0 drawn.result.points;
        triangles = cond (eqb (n i) 13) 0 drawn.result.triangles;
        sixfold = same-volume tc tk clearance p q ps ts own other i;
      };
      points = cond (eqb (n i) 13) ps drawn.points;
      triangles = cond (eqb (n i) 13) ts drawn.triangles;
    }

pub numbers_below : NumbersBelow
unfolding NumbersBelow
numbers_below tc tk clearance ok =
    let s = survey_of tc tk clearance in
    let n = length (point_edges s) in
    in→all (λ t. all (λ p. ltb p n) (numbers t)) (all_triangles s)
    (λ t i. let (a, b, c) = all_below tc tk clearance ok t i in
    →and (ltb t.0 n) (ltb t.1 n && (ltb t.2 n && true)) (lt→ltb t.0 n a)
    (→and (ltb t.1 n) (ltb t.2 n && true) (lt→ltb t.1 n b) (→and (ltb t.2 n) true (lt→ltb t.2 n c) tt)))

pub few-triangles : FewTriangles
unfolding FewTriangles
few-triangles = triangles-few

pub nothing_lost : NothingLost
unfolding NothingLost
nothing_lost tc tk clearance ok reference box =
    let points = point_floats tc tk clearance in
    let triangles = all_triangles (survey_of tc tk clearance) in
    let one : (t : Triangle) → In t triangles → nat_abs (sixfold_of reference points t) ≤ 6 * 2 ^ 42 =
    λ t i.
    let (a, b, c) = all_below tc tk clearance ok t i in
    triangle_size reference points box t.0 t.1 t.2 (floats_placed tc tk clearance ok t.0 a) (floats_placed tc tk clearance ok t.1 b)
    (floats_placed tc tk clearance ok t.2 c) in
    record {
      each = in→all (λ t. leb (nat_abs (sixfold_of reference points t)) (6 * 2 ^ 42)) triangles
          (λ t i. le→leb (nat_abs (sixfold_of reference points t)) (6 * 2 ^ 42) (one t i));
      sums = λ k.
          let first = sixfold-size reference points (6 * 2 ^ 42) (take k triangles) (λ t i. one t (in_take k triangles t i)) in
          omega (arith, first, length-take k triangles, triangles-few tc tk clearance ok, points-few tc tk clearance (true→ (accepted tc tk clearance) ok));
    }
