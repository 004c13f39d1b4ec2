-- The call for the volume as amended, step by step as it goes: refused by a check of the tables, or reckoned with the corner table in force.
-- Assumes nothing.
use Rattle.std.specs.Prelude.{Result, IsErrAnd}
use Prim.Native.Nat.{ℕ}
use mathlib.Core.Path.{◌≡◌, sym, ap, ◌∙◌, subst}
use mathlib.Core.List.{List, []}
use lib.Ieee.{Float}
use Rattle.base.specs.Grid.{Place}
use Rattle.rules.specs.Refusals.{refusal_number}
use Rattle.rules.specs.Outputs.{first_of, table_checks}
use Rattle.rules.specs.Water.{Reckoning, volume}
use Rattle.rules.specs.Resounding.{amended, amendment_checks, unreckoned, volume_amended}
use Rattle.rules.specs.declared.Water.{Water}
use Rattle.rules.specs.declared.refusal.Refusal.{Refusal}
use Rattle.amendments.proofs.Refusals.{some_number}
use Rattle.amendments.proofs.Calls.{amended-none, refused-by-tables, refused-by_amendments, called, none-amended}
use Rattle.volume.specs.Reckons.{water_of, Reckons, ClosedAnywhere}
use Rattle.volume.proofs.Reckoned.{Promised, passed_on}

module _ (tc tk ta : List ℕ) (clearance : Float) (ps : List Float) (ts : List ℕ) (reference : Place) where
  -- what the call promises of its result and the slices
  abbrev pub PromisedAmended : List Float → List ℕ → Water → Type 0
  PromisedAmended points triangles w =
      Reckons (volume_amended tc tk ta clearance reference ps ts) w points triangles × ClosedAnywhere tc (amended tk ta) clearance w points triangles

  -- refused by one of checks 1 to 6, and that is passed on
  pub refused-first : (w : Result Water Refusal) (e : Refusal) → IsErrAnd w (λ d. d ≡ e) → refusal_number e ≡ first_of (table_checks tc tk)
      → PromisedAmended ps ts (water_of w)
  refused-first w e on is =
      passed_on tc (amended tk ta) clearance ps ts (volume_amended tc tk ta clearance reference ps ts) w e on
      (unfold volume_amended in
      refused-by-tables tc tk ta (λ m. unreckoned m ps ts) (λ t. volume tc t clearance reference ps ts) (refusal_number e) is (some_number e))

  -- or by 14 or 15
  pub refused-next : (w : Result Water Refusal) (e : Refusal) → IsErrAnd w (λ d. d ≡ e) → refusal_number e ≡ first_of (amendment_checks tc tk ta)
      → PromisedAmended ps ts (water_of w)
  refused-next w e on is =
      passed_on tc (amended tk ta) clearance ps ts (volume_amended tc tk ta clearance reference ps ts) w e on
      (unfold volume_amended in
      refused-by_amendments tc tk ta (λ m. unreckoned m ps ts) (λ t. volume tc t clearance reference ps ts) (refusal_number e) is (some_number e))

  module _ (w : Water) (points : List Float) (triangles : List ℕ) where
    -- by none: reckoned with the corner table as amended
    pub in_force : 0 ≡ first_of (amendment_checks tc tk ta) → Promised tc (amended tk ta) clearance ps ts reference points triangles w
        → PromisedAmended points triangles w
    in_force pass p =
        let is : volume_amended tc tk ta clearance reference ps ts ≡ volume tc (amended tk ta) clearance reference ps ts =
        unfold volume_amended in called tc tk ta (λ m. unreckoned m ps ts) (λ t. volume tc t clearance reference ps ts) (sym pass) in
        (subst (λ (k : Reckoning). Reckons k w points triangles) (sym is) p.0, p.1)

    -- without amendments: with the corner table as it was lent
    pub without : ta ≡ [] → 0 ≡ first_of (table_checks tc tk) → Promised tc tk clearance ps ts reference points triangles w
        → PromisedAmended points triangles w
    without none pass p =
        let is : volume_amended tc tk [] clearance reference ps ts ≡ volume tc tk clearance reference ps ts =
        unfold volume_amended in none-amended tc tk (λ m. unreckoned m ps ts) (λ t. volume tc t clearance reference ps ts) (sym pass) in (
          subst (λ (k : Reckoning). Reckons k w points triangles)
              (sym (ap (λ (u : List ℕ). volume_amended tc tk u clearance reference ps ts) none ∙ is)) p.0,
          subst (λ (u : List ℕ). ClosedAnywhere tc u clearance w points triangles) (sym (ap (amended tk) none ∙ amended-none tc tk (sym pass))) p.1,
        )
