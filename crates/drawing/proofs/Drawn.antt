-- Drawing by the rules, step by step as the call goes: refused by a check, by a slice that is too short, or drawn. And what then stands in the
-- slices is closed.
use Prim.Native.Nat.{ℕ, ◌*◌, ◌≤◌}
use native.Mathlib.Omega.{arith}
use mathlib.Core.Path.{◌≡◌, refl, sym, ap, ◌∙◌, subst}
use mathlib.Core.Bool.{Bool, true, false, cond}
use mathlib.Core.List.{List, [], ◌∷◌}
use lib.Dec.{T, eqb, ltb, nltb→le}
use lib.ListN.{length, drop}
use lib.Ieee.{Float}
use Rattle.base.specs.Lists.{collect}
use Rattle.base.proofs.Tests.{eq→eqb, true→, →false}
use Rattle.rules.specs.Survey.{corners_of}
use Rattle.rules.specs.Edges.{CellEdge, point_edges, spot_on, OnEdge}
use Rattle.rules.specs.Steps.{all_triangles}
use Rattle.rules.specs.Outputs.{numbers, first_of, table_checks, survey_checks, checks, drawing_checks, drawable, survey_of, point_floats, triangle_numbers, written}
use Rattle.rules.specs.Outputs.{Drawing, slice_checks, draw}
use Rattle.rules.specs.Closing.{Carries, Closed, ClosedIn}
use Rattle.octree.proofs.Accepted.{first_append, first-none}
use Rattle.places.proofs.Stored.{point_floats_lem, placed}
use Rattle.loops.proofs.Slices.{length-numbers}
use Rattle.drawing.proofs.Slices.{room, triangles-back}

-- neither slice is too short where the first check that applies has the number 0
pub both_fit : (a b n m : ℕ) → first_of ((9, ltb a n) ∷ (10, ltb b m) ∷ []) ≡ 0 → (n ≤ a) × (m ≤ b)
both_fit a b n m = go (ltb a n) (ltb b m) refl refl
  where
    go : (u v : Bool) → ltb a n ≡ u → ltb b m ≡ v → ◌≡◌ {A = ℕ} (cond u 9 (cond v 10 0)) 0 → (n ≤ a) × (m ≤ b)
    go true v d e h = absurd (omega arith)
    go false true d e h = absurd (omega arith)
    go false false d e h = (nltb→le a n (→false d), nltb→le b m (→false e))

module _ (tc tk : List ℕ) (clearance : Float) (ps : List Float) (ts : List ℕ) where
  -- what drawing gives at a number
  unfoldable pub given : ℕ → Drawing
  unfolding survey_of point_edges all_triangles point_floats triangle_numbers drawable
  given number =
      let s = survey_of tc tk clearance in
      let new_points = written (point_floats tc tk clearance) ps in
      let new_triangles = written (triangle_numbers tc tk clearance) ts in
      record {
        result = record {
          number = number;
          points = cond (drawable tc tk clearance) (length (point_edges s)) 0;
          triangles = cond (drawable tc tk clearance) (length (all_triangles s)) 0;
        };
        points = cond (eqb number 0) new_points ps;
        triangles = cond (eqb number 0) new_triangles ts;
      }

  -- drawing: refused by the checks before the slices', else by the slices'
  pub draw-is : draw tc tk clearance ps ts
      ≡ given (cond (drawable tc tk clearance) (first_of (slice_checks tc tk clearance ps ts)) (first_of (drawing_checks tc tk clearance)))
  unfolding draw given drawable
  draw-is = ap given (first_append (drawing_checks tc tk clearance) (slice_checks tc tk clearance ps ts)
      (unfold drawing_checks checks survey_checks table_checks in tt))

  -- the number is 0 only where the survey is drawable and both slices are long enough
  pub drawn-fits : (draw tc tk clearance ps ts).result.number ≡ 0 → let s = survey_of tc tk clearance in
      T (drawable tc tk clearance) × (3 * length (point_edges s) ≤ length ps) × (3 * length (all_triangles s) ≤ length ts)
  unfolding draw drawable
  drawn-fits zero =
      let s = survey_of tc tk clearance in
      let none = first-none (drawing_checks tc tk clearance) (slice_checks tc tk clearance ps ts)
      (unfold drawing_checks checks survey_checks table_checks in tt) zero in
      let f = both_fit (length ps) (length ts) (3 * length (point_edges s)) (3 * length (all_triangles s)) none.1 in
      (eq→eqb (first_of (drawing_checks tc tk clearance)) 0 none.0, f.0, f.1)

  -- what is drawn where nothing refuses
  unfoldable pub whole : Drawing
  unfolding survey_of point_edges all_triangles point_floats triangle_numbers
  whole =
      let s = survey_of tc tk clearance in
      record {
        result = record { number = 0; points = length (point_edges s); triangles = length (all_triangles s) };
        points = written (point_floats tc tk clearance) ps;
        triangles = written (triangle_numbers tc tk clearance) ts;
      }

  pub drawn-is : (draw tc tk clearance ps ts).result.number ≡ 0 → draw tc tk clearance ps ts ≡ whole
  unfolding given whole
  drawn-is zero =
      let n = cond (drawable tc tk clearance) (first_of (slice_checks tc tk clearance ps ts)) (first_of (drawing_checks tc tk clearance)) in
      let h : n ≡ 0 = ap (λ (d : Drawing). d.result.number) (sym draw-is) ∙ zero in
      draw-is ∙ ap given h ∙ rw (true→ (drawable tc tk clearance) (drawn-fits zero).0)

  -- Demand 3 of what stands in the lent slices, given that the rules' triangles close and their points lie on their edges.
  module _ (closes : let s = survey_of tc tk clearance in Closed s (length (point_edges s)) (all_triangles s))
      (on_edge : (e : CellEdge) (p : ℕ) → Carries (survey_of tc tk clearance) e p → OnEdge e (spot_on (corners_of tk) clearance e)) where
    whole-closed : ClosedIn tc tk clearance whole.result whole.points whole.triangles
    unfolding whole triangle_numbers
    whole-closed =
        let s = survey_of tc tk clearance in
        let written-numbers = collect numbers (all_triangles s) in
        record {
          closed = subst (λ t. Closed s (length (point_edges s)) t) (sym (triangles-back (all_triangles s) (drop (length written-numbers) ts))) closes;
          points_fit = omega (arith, point_floats_lem tc tk clearance, room (point_floats tc tk clearance) ps);
          triangles_fit = omega (arith, length-numbers (all_triangles s), room written-numbers ts);
          placed = placed tc tk clearance ps;
          on_edge = on_edge;
        }

    pub closed_in : let d = draw tc tk clearance ps ts in d.result.number ≡ 0 → ClosedIn tc tk clearance d.result d.points d.triangles
    closed_in zero = subst (λ (d : Drawing). ClosedIn tc tk clearance d.result d.points d.triangles) (sym (drawn-is zero)) whole-closed
