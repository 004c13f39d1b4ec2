-- The enquiry as amended, step by step as it goes: refused by a check of the tables, or answered with the corner table in force. And its place stays on
-- the edge.
-- Assumes nothing.
use Prim.Native.Nat.{ℕ}
use mathlib.Core.Path.{◌≡◌, refl, sym, ap, ◌∙◌, subst}
use mathlib.Core.Bool.{Bool, true, false}
use mathlib.Core.List.{List, []}
use lib.Dec.{eqb, eqb→eq}
use lib.Ieee.{Float}
use Rattle.base.specs.Grid.{Place}
use Rattle.base.proofs.Tests.{→true, eq→eqb, not_both}
use Rattle.rules.specs.Outputs.{first_of, table_checks, survey_of, Enquired, refused, enquiry, asked, StaysOn}
use Rattle.rules.specs.Resounding.{amended, amendment_checks, enquiry_amended}
use Rattle.amendments.proofs.Calls.{refused-by-tables, refused-by_amendments, called, none-amended}
use Rattle.enquiry.proofs.Staying.{enquiry-stays}

module _ (tc tk ta : List ℕ) (clearance : Float) (axis : ℕ) (p : Place) (size : ℕ) where
  -- refused by one of checks 1 to 6
  pub refused-first : (n : ℕ) → n ≡ first_of (table_checks tc tk) → (n ≡ 0 → ⊥) → refused n ≡ enquiry_amended tc tk ta clearance axis p size
  unfolding enquiry_amended
  refused-first n is some = sym (refused-by-tables tc tk ta refused (λ t. enquiry tc t clearance axis p size) n is some)

  -- or by 14 or 15
  pub refused-next : (n : ℕ) → n ≡ first_of (amendment_checks tc tk ta) → (n ≡ 0 → ⊥) → refused n ≡ enquiry_amended tc tk ta clearance axis p size
  unfolding enquiry_amended
  refused-next n is some = sym (refused-by_amendments tc tk ta refused (λ t. enquiry tc t clearance axis p size) n is some)

  -- by none: answered with the corner table as amended
  answered-is : first_of (amendment_checks tc tk ta) ≡ 0 → enquiry tc (amended tk ta) clearance axis p size ≡ enquiry_amended tc tk ta clearance axis p size
  unfolding enquiry_amended
  answered-is pass = sym (called tc tk ta refused (λ t. enquiry tc t clearance axis p size) pass)

  pub in_force : 0 ≡ first_of (amendment_checks tc tk ta) → (u t : List ℕ) → (u ≡ tc) × (t ≡ amended tk ta)
      → enquiry u t clearance axis p size ≡ enquiry_amended tc tk ta clearance axis p size
  in_force pass u t (d, e) = (λ i. enquiry (d i) (e i) clearance axis p size) ∙ answered-is (sym pass)

  -- without amendments: with the corner table as it was lent
  pub without : ta ≡ [] → 0 ≡ first_of (table_checks tc tk) → (u t : List ℕ) → (u ≡ tc) × (t ≡ tk)
      → enquiry u t clearance axis p size ≡ enquiry_amended tc tk ta clearance axis p size
  without none pass u t (d, e) =
      let plain : enquiry_amended tc tk [] clearance axis p size ≡ enquiry tc tk clearance axis p size =
      unfold enquiry_amended in none-amended tc tk refused (λ t. enquiry tc t clearance axis p size) (sym pass) in
      (λ i. enquiry (d i) (e i) clearance axis p size) ∙ sym (ap (λ (u : List ℕ). enquiry_amended tc tk u clearance axis p size) none ∙ plain)

  amended-stays : StaysOn (survey_of tc (amended tk ta) clearance) (asked axis p size) (enquiry_amended tc tk ta clearance axis p size)
  amended-stays = go (eqb (first_of (amendment_checks tc tk ta)) 0) refl
    where
      go : (b : Bool) → eqb (first_of (amendment_checks tc tk ta)) 0 ≡ b
          → StaysOn (survey_of tc (amended tk ta) clearance) (asked axis p size) (enquiry_amended tc tk ta clearance axis p size)
      go true e =
          subst (StaysOn (survey_of tc (amended tk ta) clearance) (asked axis p size))
          (answered-is (eqb→eq (first_of (amendment_checks tc tk ta)) 0 (→true e))) (enquiry-stays tc (amended tk ta) clearance axis p size)
      go false e =
          let n = first_of (amendment_checks tc tk ta) in
          subst (StaysOn (survey_of tc (amended tk ta) clearance) (asked axis p size)) (refused-next n refl (λ z. not_both (eq→eqb n 0 z) e))
          (record { on_asked = tt; on_carrier = tt })

  -- both promises of the enquiry, of an answer that equals the rules'
  pub both : (r : Enquired) → r ≡ enquiry_amended tc tk ta clearance axis p size → record {
    exact : r ≡ enquiry_amended tc tk ta clearance axis p size;
    on_edge : StaysOn (survey_of tc (amended tk ta) clearance) (asked axis p size) r;
  }
  both r h = record { exact = h; on_edge = subst (StaysOn (survey_of tc (amended tk ta) clearance) (asked axis p size)) (sym h) amended-stays }
