-- The ways that the call for the volume goes, by the rules: refused before the slices are looked at, or as a drawing.
-- Assumes nothing.
use Prim.Native.Nat.{ℕ}
use mathlib.Core.Path.{◌≡◌, refl, sym, ap, ◌∙◌}
use mathlib.Core.Bool.{Bool, true, false, cond}
use mathlib.Core.List.{List, [], ◌∷◌, ◌++◌}
use native.Mathlib.Omega.{arith}
use lib.Dec.{eqb}
use lib.IntN.{ℤ, pos}
use lib.Ieee.{Float}
use borrow.Author.Tests.{eq-eqb, ne_eqb}
use Rattle.base.specs.Grid.{Place}
use Rattle.rules.specs.Steps.{all_triangles}
use Rattle.rules.specs.Outputs.{first_of, table_checks, survey_checks, checks, drawing_checks, drawable, survey_of, point_floats, slice_checks, Drawing, draw}
use Rattle.rules.specs.Water.{sixfold, beyond_box, volume_checks, Reckoning, volume}
use Rattle.rules.specs.Resounding.{unreckoned}
use Rattle.rules.specs.declared.Drawn.{Drawn}
use Rattle.rules.specs.declared.Water.{Water}
use Rattle.octree.proofs.Accepted.{first_append, first-none, first_unlike, refused-before, refused_last, refused_never}
use Rattle.drawing.specs.Draws.{Draws}
use Rattle.drawing.proofs.Outcome.{refused}
use Rattle.volume.specs.Reckons.{Reckons}

-- ---- the checks of drawing, and then 13

module _ (tc tk : List ℕ) (clearance : Float) (reference : Place) where
  pub refused-earlier : (n : ℕ) → n ≡ first_of (drawing_checks tc tk clearance) → (n ≡ 0 → ⊥) → n ≡ first_of (volume_checks tc tk clearance reference)
  unfolding volume_checks
  refused-earlier = refused-before (drawing_checks tc tk clearance) (unfold drawing_checks checks survey_checks table_checks in tt) 13 (beyond_box reference)

  module _ (pass : 0 ≡ first_of (drawing_checks tc tk clearance)) where
    pub refused-beyond : beyond_box reference ≡ true → 13 ≡ first_of (volume_checks tc tk clearance reference)
    unfolding volume_checks
    refused-beyond =
        refused_last (drawing_checks tc tk clearance) (unfold drawing_checks checks survey_checks table_checks in tt) 13 (beyond_box reference) 0 pass refl

    pub refused-not : beyond_box reference ≡ false → 0 ≡ first_of (volume_checks tc tk clearance reference)
    unfolding volume_checks
    refused-not =
        refused_never (drawing_checks tc tk clearance) (unfold drawing_checks checks survey_checks table_checks in tt) 13 (beyond_box reference) 0 pass refl

-- ---- what the call gives

-- a drawing's result with a volume
abbrev pub with_volume : Drawn → ℤ → Water
with_volume d v = record { number = d.number; points = d.points; triangles = d.triangles; sixfold = v }

module _ (tc tk : List ℕ) (clearance : Float) (reference : Place) (ps : List Float) (ts : List ℕ) where
  abbrev pub total : ℤ
  total = sixfold reference (point_floats tc tk clearance) (all_triangles (survey_of tc tk clearance))

  -- what the call gives at a number, of a drawing, by whether the number is 13 and whether it is 0
  abbrev given : Drawing → ℕ → Bool → Bool → Reckoning
  given d number beyond none = record {
    result = record {
      number = number;
      points = cond beyond 0 d.result.points;
      triangles = cond beyond 0 d.result.triangles;
      sixfold = cond none total (pos 0);
    };
    points = cond beyond ps d.points;
    triangles = cond beyond ts d.triangles;
  }

  abbrev first : ℕ
  first = first_of (volume_checks tc tk clearance reference)

  by_number : volume tc tk clearance reference ps ts ≡ let n = first_of (volume_checks tc tk clearance reference ++ slice_checks tc tk clearance ps ts) in
      given (draw tc tk clearance ps ts) n (eqb n 13) (eqb n 0)
  unfolding volume
  by_number = refl

  -- the checks before the slices', and then those
  in_order : first_of (volume_checks tc tk clearance reference ++ slice_checks tc tk clearance ps ts)
      ≡ cond (eqb (first_of (volume_checks tc tk clearance reference)) 0) (first_of (slice_checks tc tk clearance ps ts))
      (first_of (volume_checks tc tk clearance reference))
  in_order =
      first_append (volume_checks tc tk clearance reference) (slice_checks tc tk clearance ps ts)
      (unfold volume_checks drawing_checks checks survey_checks table_checks in tt)

  -- ---- no check before the slices' applies: as for a drawing

  module _ (pass : 0 ≡ first_of (volume_checks tc tk clearance reference)) where
    both : (first_of (drawing_checks tc tk clearance) ≡ 0) × (first_of ((13, beyond_box reference) ∷ []) ≡ 0)
    both =
        first-none (drawing_checks tc tk clearance) ((13, beyond_box reference) ∷ []) (unfold drawing_checks checks survey_checks table_checks in tt)
        (unfold volume_checks in sym pass)

    pub can_draw : drawable tc tk clearance ≡ true
    unfolding drawable
    can_draw = eq-eqb (first_of (drawing_checks tc tk clearance)) 0 both.0

    pub inside : beyond_box reference ≡ false
    inside = go (beyond_box reference) refl both.1
      where
        go : (b : Bool) → beyond_box reference ≡ b → ◌≡◌ {A = ℕ} (cond b 13 0) 0 → beyond_box reference ≡ false
        go true e h = absurd (omega (arith, h))
        go false e h = e

    as_drawn : first_of (volume_checks tc tk clearance reference ++ slice_checks tc tk clearance ps ts) ≡ (draw tc tk clearance ps ts).result.number
    unfolding draw
    as_drawn =
        let slices = first_of (slice_checks tc tk clearance ps ts) in
        in_order ∙ ap (λ (b : Bool). cond b slices first) (eq-eqb first 0 (sym pass))
        ∙ sym (first_append (drawing_checks tc tk clearance) (slice_checks tc tk clearance ps ts)
        (unfold drawing_checks checks survey_checks table_checks in tt)
        ∙ ap (λ (b : Bool). cond b slices (first_of (drawing_checks tc tk clearance))) (eq-eqb (first_of (drawing_checks tc tk clearance)) 0 both.0))

    never : eqb (draw tc tk clearance ps ts).result.number 13 ≡ false
    unfolding draw drawing_checks checks survey_checks table_checks
    never = first_unlike 13 (drawing_checks tc tk clearance ++ slice_checks tc tk clearance ps ts) tt tt

    within : volume tc tk clearance reference ps ts ≡ given (draw tc tk clearance ps ts) (draw tc tk clearance ps ts).result.number false
        (eqb (draw tc tk clearance ps ts).result.number 0)
    within =
        let d = draw tc tk clearance ps ts in
        by_number ∙ (λ i. given d (as_drawn i) (eqb (as_drawn i) 13) (eqb (as_drawn i) 0))
        ∙ ap (λ (b : Bool). given d d.result.number b (eqb d.result.number 0)) never

    -- what was drawn, with the volume that goes with its number
    pub reckoned : (r : Drawn) (points : List Float) (triangles : List ℕ) (v : ℤ) (none : Bool) → Draws (draw tc tk clearance ps ts) r points triangles
        → eqb r.number 0 ≡ none → v ≡ cond none total (pos 0) → Reckons (volume tc tk clearance reference ps ts) (with_volume r v) points triangles
    reckoned r points triangles v none drew zero is =
        let d = draw tc tk clearance ps ts in
        let none_is : eqb d.result.number 0 ≡ none = sym (ap (λ (r : Drawn). eqb r.number 0) drew.result_is) ∙ zero in
        let w = within ∙ ap (given d d.result.number false) none_is in
        record {
          result_is = (λ i. with_volume (drew.result_is i) (is i)) ∙ sym (ap (λ (w : Reckoning). w.result) w);
          points_are = drew.points_are ∙ sym (ap (λ (w : Reckoning). w.points) w);
          triangles_are = drew.triangles_are ∙ sym (ap (λ (w : Reckoning). w.triangles) w);
        }

  -- ---- one does: nothing is written

  module _ (n : ℕ) (is : n ≡ first_of (volume_checks tc tk clearance reference)) (some : n ≡ 0 → ⊥) where
    same_number : first_of (volume_checks tc tk clearance reference ++ slice_checks tc tk clearance ps ts) ≡ n
    same_number =
        in_order ∙ ap (λ (b : Bool). cond b (first_of (slice_checks tc tk clearance ps ts)) first) (ne_eqb first 0 (λ z. some (is ∙ z))) ∙ sym is

    -- a check before 13: as a drawing that is refused
    earlier : (b : Bool) → Draws (draw tc tk clearance ps ts) (record { number = n; points = 0; triangles = 0 }) ps ts
        → given (draw tc tk clearance ps ts) n b false ≡ unreckoned n ps ts
    earlier true drew = refl
    earlier false drew = sym (λ i. record {
      result = record { number = n; points = (drew.result_is i).points; triangles = (drew.result_is i).triangles; sixfold = pos 0 };
      points = drew.points_are i;
      triangles = drew.triangles_are i;
    })

    -- by the first number of drawing's checks, and whether 13 applies
    by-checks : (k : ℕ) (b : Bool) → k ≡ first_of (drawing_checks tc tk clearance) → n ≡ cond (eqb k 0) (cond b 13 0) k
        → given (draw tc tk clearance ps ts) n (eqb n 13) false ≡ unreckoned n ps ts
    by-checks k b k-is e = go (eqb k 0) refl b e
      where
        go : (t : Bool) → eqb k 0 ≡ t → (b : Bool) → n ≡ cond t (cond b 13 0) k
            → given (draw tc tk clearance ps ts) n (eqb n 13) false ≡ unreckoned n ps ts
        go true z true e = ap (λ (b : Bool). given (draw tc tk clearance ps ts) n b false) (eq-eqb n 13 e)
        go true z false e = absurd (some e)
        go false z b e = earlier (eqb n 13) (refused tc tk clearance ps ts n (e ∙ k-is) some)

    pub not_reckoned : volume tc tk clearance reference ps ts ≡ unreckoned n ps ts
    not_reckoned =
        by_number ∙ (λ i. given (draw tc tk clearance ps ts) (same_number i) (eqb (same_number i) 13) (eqb (same_number i) 0))
        ∙ ap (given (draw tc tk clearance ps ts) n (eqb n 13)) (ne_eqb n 0 some)
        ∙ by-checks (first_of (drawing_checks tc tk clearance)) (beyond_box reference) refl (is ∙ parts)
      where
        parts : first_of (volume_checks tc tk clearance reference)
            ≡ cond (eqb (first_of (drawing_checks tc tk clearance)) 0) (cond (beyond_box reference) 13 0) (first_of (drawing_checks tc tk clearance))
        parts =
            unfold volume_checks in
            first_append (drawing_checks tc tk clearance) ((13, beyond_box reference) ∷ []) (unfold drawing_checks checks survey_checks table_checks in tt)
