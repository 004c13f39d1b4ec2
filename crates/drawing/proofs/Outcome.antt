-- The three ways that drawing goes: refused by a check, by a slice that is too short, or drawn; each with what it returns and leaves in the slices.
-- Assumes nothing.
use Prim.Native.Nat.{ℕ, ◌*◌, ◌≤◌}
use mathlib.Core.Path.{◌≡◌, refl, sym, ap, ◌∙◌, subst}
use mathlib.Core.Bool.{Bool, true, false, cond}
use mathlib.Core.List.{List, [], ◌∷◌}
use lib.Dec.{T, eqb, ltb}
use lib.ListN.{length}
use lib.Ieee.{Float}
use Rattle.std.specs.Prelude.{Result, Ok, Err, IsErrAnd}
use Rattle.rules.specs.Refusals.{refusal_number}
use Rattle.rules.specs.declared.refusal.Refusal.{Refusal}
use borrow.Author.Tests.{ne_eqb}
use Rattle.rules.specs.Edges.{point_edges}
use Rattle.rules.specs.Steps.{all_triangles}
use Rattle.rules.specs.Outputs.{first_of, drawing_checks, drawable, survey_of, point_floats, triangle_numbers, written, Drawing, slice_checks, draw}
use Rattle.rules.specs.Closing.{ClosedIn}
use Rattle.rules.specs.declared.Drawn.{Drawn}
use Rattle.octree.proofs.Accepted.{drawable→}
use Rattle.closing.proofs.Closing.{closes}
use Rattle.places.proofs.OnEdge.{on_edge}
use Rattle.drawing.specs.Draws.{Draws, drawn_of}
use Rattle.drawing.proofs.Drawn.{given, draw-is, both_fit, drawn-fits, closed_in}

abbrev pub returned : ℕ → ℕ → ℕ → Drawn
returned number n m = record { number = number; points = n; triangles = m }

module _ (tc tk : List ℕ) (clearance : Float) (ps : List Float) (ts : List ℕ) where
  abbrev pub point_count : ℕ
  point_count = length (point_edges (survey_of tc tk clearance))

  abbrev pub triangle_count : ℕ
  triangle_count = length (all_triangles (survey_of tc tk clearance))

  -- what is drawn, by whether the survey is drawable, whether the number is 0, and the number
  outcome : Bool → Bool → ℕ → Drawing
  outcome a z number = record {
    result = returned number (cond a point_count 0) (cond a triangle_count 0);
    points = cond z (written (point_floats tc tk clearance) ps) ps;
    triangles = cond z (written (triangle_numbers tc tk clearance) ts) ts;
  }

  draw_outcome : (a z : Bool) (number : ℕ) → drawable tc tk clearance ≡ a → eqb number 0 ≡ z
      → cond a (first_of (slice_checks tc tk clearance ps ts)) (first_of (drawing_checks tc tk clearance)) ≡ number
      → draw tc tk clearance ps ts ≡ outcome a z number
  unfolding given outcome
  draw_outcome a z number passed zero is =
      let k = ap (λ (b : Bool). cond b (first_of (slice_checks tc tk clearance ps ts)) (first_of (drawing_checks tc tk clearance))) passed ∙ is in
      draw-is tc tk clearance ps ts ∙ (λ i. outcome (passed i) ((ap (λ (n : ℕ). eqb n 0) k ∙ zero) i) (k i))

  -- drawable: the checks before the slices' find nothing to refuse
  pub passes : (number : ℕ) → number ≡ first_of (drawing_checks tc tk clearance) → number ≡ 0 → drawable tc tk clearance ≡ true
  unfolding drawable
  passes number is zero = ap (λ (n : ℕ). eqb n 0) (sym is ∙ zero)

  -- refused by a check before the slices': nothing is written
  pub refused : (number : ℕ) → number ≡ first_of (drawing_checks tc tk clearance) → (number ≡ 0 → ⊥)
      → Draws (draw tc tk clearance ps ts) (returned number 0 0) ps ts
  unfolding outcome drawable
  refused number is some =
      let d = draw_outcome false false number (ap (λ (n : ℕ). eqb n 0) (sym is) ∙ ne_eqb number 0 some) (ne_eqb number 0 some) (sym is) in
      record {
        result_is = sym (ap (λ (d : Drawing). d.result) d);
        points_are = sym (ap (λ (d : Drawing). d.points) d);
        triangles_are = sym (ap (λ (d : Drawing). d.triangles) d);
      }

  -- a drawable survey, with both counts as the code has them, and the number of the slice that is too short, or 0
  module _ (ok : drawable tc tk clearance ≡ true) (n m number : ℕ) (points_are : n ≡ point_count) (triangles_are : m ≡ triangle_count)
      (is : number ≡ first_of ((9, ltb (length ps) (3 * n)) ∷ (10, ltb (length ts) (3 * m)) ∷ [])) where
    short_is : first_of (slice_checks tc tk clearance ps ts) ≡ number
    short_is = sym (is ∙ (λ i. first_of ((9, ltb (length ps) (3 * points_are i)) ∷ (10, ltb (length ts) (3 * triangles_are i)) ∷ [])))

    -- a slice is too short: nothing is written
    pub short : (number ≡ 0 → ⊥) → Draws (draw tc tk clearance ps ts) (returned number n m) ps ts
    unfolding outcome
    short some =
        let d = draw_outcome true false number ok (ne_eqb number 0 some) short_is in
        let counts : returned number n m ≡ returned number point_count triangle_count = λ i. returned number (points_are i) (triangles_are i) in
        record {
          result_is = counts ∙ sym (ap (λ (d : Drawing). d.result) d);
          points_are = sym (ap (λ (d : Drawing). d.points) d);
          triangles_are = sym (ap (λ (d : Drawing). d.triangles) d);
        }

    -- both slices have room
    pub fits : number ≡ 0 → (3 * n ≤ length ps) × (3 * m ≤ length ts)
    fits zero = both_fit (length ps) (length ts) (3 * n) (3 * m) (sym is ∙ zero)

    -- drawn: the points and the triangles are written
    pub drawn : number ≡ 0 → (new_points : List Float) (new_triangles : List ℕ) → new_points ≡ written (point_floats tc tk clearance) ps
        → new_triangles ≡ written (triangle_numbers tc tk clearance) ts → Draws (draw tc tk clearance ps ts) (returned 0 n m) new_points new_triangles
    unfolding outcome
    drawn zero new_points new_triangles p t =
        let d = draw_outcome true true 0 ok refl (short_is ∙ zero) in
        let counts : returned 0 n m ≡ returned 0 point_count triangle_count = λ i. returned 0 (points_are i) (triangles_are i) in
        record {
          result_is = counts ∙ sym (ap (λ (d : Drawing). d.result) d);
          points_are = p ∙ sym (ap (λ (d : Drawing). d.points) d);
          triangles_are = t ∙ sym (ap (λ (d : Drawing). d.triangles) d);
        }

-- a call that passes on a refusal returns what the refusal says
pub refused_with : (d : Drawing) (r : Result Drawn Refusal) (e : Refusal) {points : List Float} {triangles : List ℕ} → IsErrAnd r (λ y. y ≡ e)
    → Draws d (returned (refusal_number e) 0 0) points triangles → Draws d (drawn_of r) points triangles
refused_with d (Ok x) e is = absurd is
refused_with d (Err y) e {points} {triangles} is = subst (λ (u : Refusal). Draws d (returned (refusal_number u) 0 0) points triangles) (sym is)

-- what the rules draw is closed wherever the number is 0
pub drawn-closed : (tc tk : List ℕ) (clearance : Float) (ps : List Float) (ts : List ℕ) (r : Drawn) (points : List Float) (triangles : List ℕ)
    → Draws (draw tc tk clearance ps ts) r points triangles → r.number ≡ 0 → ClosedIn tc tk clearance r points triangles
drawn-closed tc tk clearance ps ts r points triangles d zero =
    let D : Drawing = draw tc tk clearance ps ts in
    let none : D.result.number ≡ 0 = sym (ap (λ (r : Drawn). r.number) d.result_is) ∙ zero in
    let ok : T (drawable tc tk clearance) = (drawn-fits tc tk clearance ps ts none).0 in
    let c : ClosedIn tc tk clearance D.result D.points D.triangles =
    closed_in tc tk clearance ps ts (closes tc tk clearance ok) (on_edge tc tk clearance (drawable→ tc tk clearance ok).0) none in
    subst (λ (r : Drawn). ClosedIn tc tk clearance r points triangles) (sym d.result_is)
    (subst (λ (p : List Float). ClosedIn tc tk clearance D.result p triangles) (sym d.points_are)
    (subst (λ (t : List ℕ). ClosedIn tc tk clearance D.result D.points t) (sym d.triangles_are) c))
