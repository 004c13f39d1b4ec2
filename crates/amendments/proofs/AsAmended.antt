-- Three tables that are accepted, or drawable, as amended: checks 1 to 6, 14 and 15 pass them, and cell table and corner table as amended are accepted, or
-- drawable. So each law of those two is a law of the three.
-- Assumes nothing.
use Prim.Native.Nat.{ℕ}
use mathlib.Core.Path.{◌≡◌, refl, sym, ap, ◌∙◌}
use mathlib.Core.Bool.{Bool, true, false, not}
use mathlib.Core.List.{List}
use lib.Dec.{T, eqb, eqb→eq}
use lib.Ieee.{Float}
use borrow.Author.Tests.{eqb-false}
use Rattle.base.proofs.Tests.{and→, →true, true→, false→, eq→eqb}
use Rattle.rules.specs.OpenAtBox.{open_at_box}
use Rattle.rules.specs.Outputs.{in_range, first_of, table_checks, survey_checks, survey_refusal, checks, accepted, drawing_checks, drawable}
use Rattle.rules.specs.Resounding.{amended, amendment_checks, check_amended}
use Rattle.rules.specs.AsAmended.{accepted_amended, drawable_amended}
use Rattle.octree.proofs.Accepted.{refused_never}
use Rattle.amendments.proofs.Calls.{refused-by_amendments, called}

module _ (tc tk ta : List ℕ) where
  -- where the check by itself gives 0, no check of the three tables applies, nor one of the survey as amended
  none-refused : check_amended tc tk ta ≡ 0 → (first_of (amendment_checks tc tk ta) ≡ 0) × (survey_refusal tc (amended tk ta) ≡ 0)
  unfolding check_amended
  none-refused given = go (eqb number 0) refl
    where
      number : ℕ
      number = first_of (amendment_checks tc tk ta)

      go : (b : Bool) → eqb number 0 ≡ b → (number ≡ 0) × (survey_refusal tc (amended tk ta) ≡ 0)
      go true e = let pass = eqb→eq number 0 (→true e) in (pass, sym (called tc tk ta (λ n. n) (survey_refusal tc) pass) ∙ given)
      go false e =
          let some = eqb-false number 0 e in
          absurd (some (sym (refused-by_amendments tc tk ta (λ n. n) (survey_refusal tc) number refl some) ∙ given))

  module _ (clearance : Float) where
    pub accepted→ : T (accepted_amended tc tk ta clearance) → (first_of (amendment_checks tc tk ta) ≡ 0) × T (accepted tc (amended tk ta) clearance)
    unfolding accepted_amended accepted checks survey_refusal
    accepted→ ok =
        let t = amended tk ta in
        let (zero, range) = and→ (eqb (check_amended tc tk ta) 0) (in_range clearance) ok in
        let (pass, none) = none-refused (eqb→eq (check_amended tc tk ta) 0 zero) in
        let first : 0 ≡ first_of (checks tc t clearance) =
        refused_never (survey_checks tc t) (unfold survey_checks table_checks in tt) 8 (not (in_range clearance)) 0 (sym none) refl
        (ap not (true→ (in_range clearance) range)) in
        (pass, eq→eqb (first_of (checks tc t clearance)) 0 (sym first))

    pub drawable→ : T (drawable_amended tc tk ta clearance) → T (drawable tc (amended tk ta) clearance)
    unfolding drawable_amended drawable drawing_checks accepted
    drawable→ ok =
        let t = amended tk ta in
        let (ok, closed) = and→ (accepted_amended tc tk ta clearance) (not (open_at_box t clearance)) ok in
        let first : 0 ≡ first_of (drawing_checks tc t clearance) =
        refused_never (checks tc t clearance) (unfold checks survey_checks table_checks in tt) 12 (open_at_box t clearance) 0
        (sym (eqb→eq (first_of (checks tc t clearance)) 0 (accepted→ ok).1)) refl (false→ (open_at_box t clearance) closed) in
        eq→eqb (first_of (drawing_checks tc t clearance)) 0 (sym first)
