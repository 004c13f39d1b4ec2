-- The ways that the call goes: refused by the survey, by the calendar, or drawn at the clearance in force.
-- Assumes nothing.
use Rattle.std.specs.Prelude.{Ok, Err}
use Prim.Native.Nat.{ℕ}
use mathlib.Core.Path.{◌≡◌, refl, sym, ap, ◌∙◌}
use mathlib.Core.Bool.{Bool, true, false, not, cond, true≢false}
use mathlib.Core.List.{List, [], ◌∷◌, ◌++◌}
use lib.Dec.{eqb, eqb→eq}
use lib.Ieee.{Float}
use borrow.Author.Tests.{eqb-false, ne_eqb}
use Rattle.base.proofs.Tests.{→true}
use Rattle.rules.specs.Refusals.{refusal_number, outcome}
use Rattle.rules.specs.declared.refusal.Refusal.{Refusal}
use Rattle.rules.specs.declared.refusal.Refusal.TheVariants.{Calendar, Minute}
use Rattle.rules.specs.OpenAtBox.{open_at_box}
use Rattle.rules.specs.Outputs.{in_range, first_of, table_checks, sounding_check, survey_checks, checks, drawing_checks}
use Rattle.rules.specs.Resounding.{amended, amendment_checks, undrawn, draw_amended, check_order}
use Rattle.rules.specs.Calendar.{clearance_at, bad_calendar, none_holds, calendar_checks, draw_by_calendar}
use Rattle.octree.proofs.Accepted.{first_append}
use Rattle.amendments.proofs.Calls.{tables_pass, amended_pass}
use Rattle.amendments.proofs.Refusals.{some_number}
use Rattle.amendments.proofs.Laws.{all_numbered, survey_number, after-survey}
use Rattle.drawing.proofs.Outcome.{refused}
use Rattle.drawing.proofs.Amended.{refused-is, drawn-is}
use Rattle.calendar.specs.ReadingAt.{reading_at}
use Rattle.calendar.proofs.Pass.{Reading}

module _ (tc tk ta : List ℕ) where
  -- of the checks of the survey by itself, the first that applies
  abbrev number : ℕ
  number = survey_number tc tk ta

  -- a survey that is refused by itself is drawn at no clearance
  module _ (clearance : Float) (ps : List Float) (ts : List ℕ) (some : number ≡ 0 → ⊥) where
    abbrev tables_number : ℕ
    tables_number = first_of (amendment_checks tc tk ta)

    seven_after : number ≡ cond (eqb tables_number 0) (first_of (sounding_check (amended tk ta) ∷ [])) tables_number
    unfolding check_order
    seven_after = first_append (amendment_checks tc tk ta) (sounding_check (amended tk ta) ∷ []) (all_numbered tc tk ta)

    -- by 1 to 6, 14 or 15
    by-tables : (tables_number ≡ 0 → ⊥) → draw_amended tc tk ta clearance ps ts ≡ undrawn number ps ts
    by-tables apply =
        refused-is tc tk ta clearance ps ts tables_number refl apply
        ∙ ap (λ m. undrawn m ps ts) (sym (seven_after ∙ rw (ne_eqb tables_number 0 apply)))

    -- by 7 of the table as amended
    seven_first : tables_number ≡ 0 → number ≡ first_of (drawing_checks tc (amended tk ta) clearance)
    unfolding drawing_checks checks survey_checks table_checks
    seven_first pass = seven_after ∙ rw pass (go seven.1 (λ z. some (seven_after ∙ rw (pass, z) refl)) ∙ sym behind_tables)
      where
        seven : ℕ × Bool
        seven = sounding_check (amended tk ta)

        further : List (ℕ × Bool)
        further = (8, not (in_range clearance)) ∷ (12, open_at_box (amended tk ta) clearance) ∷ []

        behind_tables : first_of (drawing_checks tc (amended tk ta) clearance) ≡ first_of (seven ∷ further)
        behind_tables =
            first_append (table_checks tc (amended tk ta)) (seven ∷ further) tt
            ∙ rw (amended_pass tc tk ta (amended tk ta) (tables_pass tc tk ta pass) refl) refl

        go : (b : Bool) → (b ≡ false → ⊥) → cond b 7 0 ≡ cond b 7 (first_of further)
        go true applies = refl
        go false applies = absurd (applies refl)

    by_seven : tables_number ≡ 0 → draw_amended tc tk ta clearance ps ts ≡ undrawn number ps ts
    by_seven pass =
        let d = refused tc (amended tk ta) clearance ps ts number (seven_first pass) some in
        drawn-is tc tk ta clearance ps ts pass
        ∙ (λ i. record { result = sym d.result_is i; points = sym d.points_are i; triangles = sym d.triangles_are i })

    pub survey-undrawn : draw_amended tc tk ta clearance ps ts ≡ undrawn number ps ts
    survey-undrawn = go (eqb tables_number 0) refl
      where
        go : (b : Bool) → eqb tables_number 0 ≡ b → draw_amended tc tk ta clearance ps ts ≡ undrawn number ps ts
        go true e = by_seven (eqb→eq tables_number 0 (→true e))
        go false e = by-tables (eqb-false tables_number 0 e)

-- ---- what the calendar reads

abbrev is_refused : Reading → Bool
is_refused (Err e) = true
is_refused (Ok v) = false

abbrev clearance_in : Float → Reading → Float
clearance_in other (Err e) = other
clearance_in other (Ok v) = v

module _ (t : List ℕ) (minute : ℕ) where
  abbrev pub own : List (ℕ × Bool)
  own = (16, bad_calendar t) ∷ (17, none_holds t minute) ∷ []

  abbrev reading : Bool → Bool → Reading
  reading bad none = cond bad (Err Calendar) (cond none (Err Minute) (Ok (clearance_at t minute)))

  -- where it refuses, 16 or 17 applies
  pub refused→ : (e : Refusal) → Err e ≡ reading_at t minute → first_of own ≡ refusal_number e
  unfolding reading_at
  refused→ e is = go (bad_calendar t) (none_holds t minute) is
    where
      go : (bad none : Bool) → Err e ≡ reading bad none → cond bad 16 (cond none 17 0) ≡ refusal_number e
      go true none is = sym (ap outcome is)
      go false true is = sym (ap outcome is)
      go false false is = absurd (true≢false (ap is_refused is))

  -- where it has a clearance, neither does, and that one is in force
  pub clearance→ : (v : Float) → Ok v ≡ reading_at t minute → (bad_calendar t ≡ false) × (none_holds t minute ≡ false) × (v ≡ clearance_at t minute)
  unfolding reading_at
  clearance→ v e = go (bad_calendar t) (none_holds t minute) e refl refl
    where
      go : (bad none : Bool) → Ok v ≡ reading bad none → bad_calendar t ≡ bad → none_holds t minute ≡ none
          → (bad_calendar t ≡ false) × (none_holds t minute ≡ false) × (v ≡ clearance_at t minute)
      go true none e a b = absurd (true≢false (sym (ap is_refused e)))
      go false true e a b = absurd (true≢false (sym (ap is_refused e)))
      go false false e a b = (a, b, ap (clearance_in v) e)

-- ---- the call

module _ (tc tk ta t : List ℕ) (minute : ℕ) (ps : List Float) (ts : List ℕ) where
  -- refused by the calendar, or by the survey before it
  pub undrawn-by : (e : Refusal) → Err e ≡ reading_at t minute
      → draw_by_calendar tc tk ta t minute ps ts ≡ undrawn (first_of (check_order tc tk ta ++ (refusal_number e, true) ∷ [])) ps ts
  unfolding draw_by_calendar calendar_checks
  undrawn-by e is =
      rw (after-survey tc tk ta (own t minute), after-survey tc tk ta ((n, true) ∷ []), refused→ t minute e is) (go (eqb (survey_number tc tk ta) 0) refl)
    where
      n : ℕ
      n = refusal_number e

      m : ℕ
      m = survey_number tc tk ta

      go : (b : Bool) → eqb m 0 ≡ b
          → cond (eqb (cond b n m) 0) (draw_amended tc tk ta (clearance_at t minute) ps ts) (undrawn (cond b n m) ps ts) ≡ undrawn (cond b n m) ps ts
      go true z = rw (ne_eqb n 0 (some_number e)) refl
      go false z = rw z refl

  -- by neither: drawn at the clearance in force, as by hand; a survey that is refused by itself is refused either way
  pub drawn-by : bad_calendar t ≡ false → none_holds t minute ≡ false
      → draw_by_calendar tc tk ta t minute ps ts ≡ draw_amended tc tk ta (clearance_at t minute) ps ts
  unfolding draw_by_calendar calendar_checks
  drawn-by lawful held = rw (after-survey tc tk ta (own t minute), lawful, held) (go (eqb n 0) refl)
    where
      n : ℕ
      n = survey_number tc tk ta

      go : (b : Bool) → eqb n 0 ≡ b
          → cond (eqb (cond b 0 n) 0) (draw_amended tc tk ta (clearance_at t minute) ps ts) (undrawn (cond b 0 n) ps ts)
          ≡ draw_amended tc tk ta (clearance_at t minute) ps ts
      go true e = refl
      go false e = rw e (sym (survey-undrawn tc tk ta (clearance_at t minute) ps ts (eqb-false n 0 e)))
