-- Document 02, request 4, "Water in the pool": the call that draws and gives six times the volume inside the surface, a signed whole number; and what the
-- request says of that number. Check 13 stands after 12 and before 9. All is without amendments; with them, see Resounding.antt.
use Rattle.std.specs.Prelude.{ℕ, ◌+◌, ◌*◌, ◌/◌, ◌^◌, ◌≤◌, ◌<◌, ◌≡◌, Bool, false, not, cond, List, [], ◌∷◌, ◌++◌, eqb, ltb, leb, T, length, get_or, take, ℤ, pos, nat_abs, ◌+ℤ◌, ◌-ℤ◌, ◌*ℤ◌, Float}
use Rattle.std.specs.Float.{nan, fin, binary32}
use Rattle.std.specs.Float.Ieee.{mul, le, to_unsigned}
use Rattle.std.specs.Float.Ieee.Positive.{num, den}
use Rattle.base.specs.Lists.{any, all}
use Rattle.base.specs.Grid.{Place, Axis, X, Y, Z, axes, axis_number, next, along}
use Rattle.rules.specs.Edges.{point_edges, float}
use Rattle.rules.specs.Steps.{Triangle, all_triangles}
use Rattle.rules.specs.Outputs.{numbers, first_of, accepted, drawing_checks, drawable, survey_of, point_floats, slice_checks, draw}
use Rattle.rules.specs.declared.Water.{Water}

-- "Each coordinate of each point is taken down to a whole sixteenth": a coordinate, which is never below 0 (`AllTakenDown`), is num / den, and this is how many
-- whole sixteenths are in it. (`num` drops the sign: below 0 it would be that of the opposite number.)
unfoldable pub sixteenths : Float → ℕ
sixteenths v = 16 * num v / den v

-- a coordinate of point p taken from the reference, in sixteenths. Of the points' floats three are x, y and z of point 0, the next three of point 1, and so on;
-- the reference is in whole units.
unfoldable pub offset : Place → List Float → ℕ → Axis → ℤ
unfolding sixteenths
offset reference points p a = pos (sixteenths (get_or points (3 * p + axis_number a) nan)) -ℤ pos (16 * along a reference)

-- the term of a determinant's expansion that has the first corner's coordinate on an axis
abbrev pub term : (Axis → ℤ) → (Axis → ℤ) → (Axis → ℤ) → Axis → ℤ
term a b c x = a x *ℤ (b (next x) *ℤ c (next (next x)) -ℤ b (next (next x)) *ℤ c (next x))

-- the determinant of three corners, given by their coordinates
abbrev pub determinant : (Axis → ℤ) → (Axis → ℤ) → (Axis → ℤ) → ℤ
determinant a b c = term a b c X +ℤ term a b c Y +ℤ term a b c Z

-- the determinant of a triangle's three corners taken from the reference
unfoldable pub sixfold_of : Place → List Float → Triangle → ℤ
unfolding offset
sixfold_of reference points t = let corner = offset reference points in determinant (corner t.0) (corner t.1) (corner t.2)

-- "Over all triangles, sum the determinant": six times the volume, in cubic sixteenths, of which a cubic unit has 4,096
abbrev pub sixfold : Place → List Float → List Triangle → ℤ
sixfold reference points [] = pos 0
sixfold reference points (t ∷ ts) = sixfold_of reference points t +ℤ sixfold reference points ts

-- "13 is a reference coordinate above 1,024"
abbrev pub beyond_box : Place → Bool
beyond_box reference = any (λ a. ltb 1024 (along a reference)) axes

-- the checks of the call but those of the slices, which come after: 13 stands between 12 and 9
unfoldable pub volume_checks : List ℕ → List ℕ → Float → Place → List (ℕ × Bool)
unfolding drawing_checks
volume_checks tc tk clearance reference = drawing_checks tc tk clearance ++ (13, beyond_box reference) ∷ []

-- what the call returns, and what the two lent slices hold afterwards
pub record Reckoning : Type 0 where
  pub result : Water
  pub points : List Float
  pub triangles : List ℕ

-- The call, of what the two slices hold before. All is as for a drawing, but for 13, which has the counts 0 and 0; and six times the volume, which is zero for
-- a refusal.
unfoldable pub volume : List ℕ → List ℕ → Float → Place → List Float → List ℕ → Reckoning
unfolding sixfold_of volume_checks survey_of point_edges point_floats all_triangles draw
volume tc tk clearance reference ps ts =
    let number = first_of (volume_checks tc tk clearance reference ++ slice_checks tc tk clearance ps ts) in
    let drawn = draw tc tk clearance ps ts in
    let total = sixfold reference (point_floats tc tk clearance) (all_triangles (survey_of tc tk clearance)) in
    let beyond = eqb number 13 in
    record {
      result = record {
        number = number;
        points = cond beyond 0 drawn.result.points;
        triangles = cond beyond 0 drawn.result.triangles;
        sixfold = cond (eqb number 0) total (pos 0);
      };
      points = cond beyond ps drawn.points;
      triangles = cond beyond ts drawn.triangles;
    }

-- ---- what the request says of the number

-- "The sum must come out equal for any two reference points": of the box, for whatever is drawn. (That they lie in the box is not needed.)
unfoldable pub AnyReference : Type 0
unfolding drawable survey_of point_floats all_triangles
AnyReference = (tc tk : List ℕ) (clearance : Float) → T (drawable tc tk clearance) → (p q : Place) → T (not (beyond_box p)) → T (not (beyond_box q))
    → let points = point_floats tc tk clearance in
    let triangles = all_triangles (survey_of tc tk clearance) in
    sixfold p points triangles ≡ sixfold q points triangles

-- So the call gives the same from any two references of the box, whatever is handed in.
unfoldable pub SameAnswer : Type 0
unfolding volume
SameAnswer = (tc tk : List ℕ) (clearance : Float) (p q : Place) (ps : List Float) (ts : List ℕ) → T (not (beyond_box p)) → T (not (beyond_box q))
    → volume tc tk clearance p ps ts ≡ volume tc tk clearance q ps ts

-- a coordinate lies in the box
abbrev pub InBox : Float → Type 0
InBox v = T (le (float 0) v) × T (le v (float 1024))

-- A sixteenth is taken down exactly: the coordinate is not below 0, sixteen times it comes out in binary32 without rounding, and the whole part of that, at
-- most 16,384, is what is taken.
pub record TakenDown (v : Float) : Type 0 where
  pub inside : InBox v
  pub exact : num (mul binary32 v (fin false 1 (pos 4))) * den v ≡ 16 * num v * den (mul binary32 v (fin false 1 (pos 4)))
  pub whole : to_unsigned 64 (mul binary32 v (fin false 1 (pos 4))) ≡ sixteenths v
  pub most : sixteenths v ≤ 16384

-- so is every coordinate of every point
unfoldable pub AllTakenDown : Type 0
unfolding accepted point_floats
AllTakenDown = (tc tk : List ℕ) (clearance : Float) → T (accepted tc tk clearance) → (i : ℕ) → i < length (point_floats tc tk clearance)
    → TakenDown (get_or (point_floats tc tk clearance) i nan)

-- every number in every triangle is that of a point: below the point count
unfoldable pub NumbersBelow : Type 0
unfolding accepted survey_of point_edges all_triangles
NumbersBelow = (tc tk : List ℕ) (clearance : Float) → T (accepted tc tk clearance)
    → let s = survey_of tc tk clearance in T (all (λ t. all (λ p. ltb p (length (point_edges s))) (numbers t)) (all_triangles s))

-- the bound on the number of triangles: at most four for each point
unfoldable pub FewTriangles : Type 0
unfolding accepted survey_of point_edges all_triangles
FewTriangles = (tc tk : List ℕ) (clearance : Float) → T (accepted tc tk clearance)
    → let s = survey_of tc tk clearance in length (all_triangles s) ≤ 4 * length (point_edges s)

-- Nothing is lost in 64 bits: no determinant is beyond ±6 × 2 ^ 42, and no sum over the first k triangles is as far from zero as 2 ^ 61.
pub record Small (reference : Place) (points : List Float) (triangles : List Triangle) : Type 0 where
  pub each : T (all (λ t. leb (nat_abs (sixfold_of reference points t)) (6 * 2 ^ 42)) triangles)
  pub sums : (k : ℕ) → nat_abs (sixfold reference points (take k triangles)) < 2 ^ 61

unfoldable pub NothingLost : Type 0
unfolding accepted survey_of point_floats all_triangles
NothingLost = (tc tk : List ℕ) (clearance : Float) → T (accepted tc tk clearance) → (reference : Place) → T (not (beyond_box reference))
    → Small reference (point_floats tc tk clearance) (all_triangles (survey_of tc tk clearance))
