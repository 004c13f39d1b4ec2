-- Drawing as amended, step by step as the call goes: refused by a check of the tables, or drawn with the corner table in force. And what is drawn is closed.
-- Assumes nothing.
use Prim.Native.Nat.{ℕ}
use mathlib.Core.Path.{◌≡◌, refl, sym, ap, ◌∙◌, subst}
use mathlib.Core.Bool.{Bool, true, false}
use mathlib.Core.List.{List, []}
use lib.Dec.{eqb, eqb→eq}
use lib.Ieee.{Float}
use Rattle.base.proofs.Tests.{→true, eq→eqb, not_both}
use Rattle.rules.specs.Outputs.{first_of, table_checks, Drawing, draw}
use Rattle.rules.specs.Closing.{ClosedIn}
use Rattle.rules.specs.Resounding.{amended, amendment_checks, undrawn, draw_amended}
use Rattle.rules.specs.declared.Drawn.{Drawn}
use Rattle.amendments.proofs.Calls.{refused-by-tables, refused-by_amendments, called, none-amended}
use Rattle.drawing.specs.Draws.{Draws}
use Rattle.drawing.proofs.Outcome.{returned, drawn-closed}

module _ (tc tk ta : List ℕ) (clearance : Float) (ps : List Float) (ts : List ℕ) where
  nothing : (n : ℕ) → draw_amended tc tk ta clearance ps ts ≡ undrawn n ps ts → Draws (draw_amended tc tk ta clearance ps ts) (returned n 0 0) ps ts
  nothing n e = record {
    result_is = sym (ap (λ (d : Drawing). d.result) e);
    points_are = sym (ap (λ (d : Drawing). d.points) e);
    triangles_are = sym (ap (λ (d : Drawing). d.triangles) e);
  }

  -- refused by one of checks 1 to 6
  pub refused-first : (n : ℕ) → n ≡ first_of (table_checks tc tk) → (n ≡ 0 → ⊥) → Draws (draw_amended tc tk ta clearance ps ts) (returned n 0 0) ps ts
  refused-first n is some =
      nothing n (unfold draw_amended in refused-by-tables tc tk ta (λ m. undrawn m ps ts) (λ t. draw tc t clearance ps ts) n is some)

  -- or by 14 or 15
  pub refused-is : (n : ℕ) → n ≡ first_of (amendment_checks tc tk ta) → (n ≡ 0 → ⊥) → draw_amended tc tk ta clearance ps ts ≡ undrawn n ps ts
  unfolding draw_amended
  refused-is = refused-by_amendments tc tk ta (λ m. undrawn m ps ts) (λ t. draw tc t clearance ps ts)

  pub refused-next : (n : ℕ) → n ≡ first_of (amendment_checks tc tk ta) → (n ≡ 0 → ⊥) → Draws (draw_amended tc tk ta clearance ps ts) (returned n 0 0) ps ts
  refused-next n is some = nothing n (refused-is n is some)

  -- by none: drawn with the corner table as amended
  pub drawn-is : first_of (amendment_checks tc tk ta) ≡ 0 → draw_amended tc tk ta clearance ps ts ≡ draw tc (amended tk ta) clearance ps ts
  unfolding draw_amended
  drawn-is = called tc tk ta (λ m. undrawn m ps ts) (λ t. draw tc t clearance ps ts)

  module _ (r : Drawn) (points : List Float) (triangles : List ℕ) where
    pub in_force : first_of (amendment_checks tc tk ta) ≡ 0 → (t : List ℕ) → t ≡ amended tk ta → Draws (draw tc t clearance ps ts) r points triangles
        → Draws (draw_amended tc tk ta clearance ps ts) r points triangles
    in_force pass t e =
        subst (λ (d : Drawing). Draws d r points triangles) (ap (λ (u : List ℕ). draw tc u clearance ps ts) e ∙ sym (drawn-is pass))

    -- without amendments: with the corner table as it was lent
    pub without : ta ≡ [] → first_of (table_checks tc tk) ≡ 0 → Draws (draw tc tk clearance ps ts) r points triangles
        → Draws (draw_amended tc tk ta clearance ps ts) r points triangles
    without none pass =
        let plain : draw_amended tc tk [] clearance ps ts ≡ draw tc tk clearance ps ts =
        unfold draw_amended in none-amended tc tk (λ m. undrawn m ps ts) (λ t. draw tc t clearance ps ts) pass in
        subst (λ (d : Drawing). Draws d r points triangles) (sym (ap (λ (u : List ℕ). draw_amended tc tk u clearance ps ts) none ∙ plain))

    -- what is so drawn is closed wherever the number is 0
    pub amended-closed : Draws (draw_amended tc tk ta clearance ps ts) r points triangles → r.number ≡ 0
        → ClosedIn tc (amended tk ta) clearance r points triangles
    amended-closed drew zero = go (eqb (first_of (amendment_checks tc tk ta)) 0) refl
      where
        go : (b : Bool) → eqb (first_of (amendment_checks tc tk ta)) 0 ≡ b → ClosedIn tc (amended tk ta) clearance r points triangles
        go true e =
            drawn-closed tc (amended tk ta) clearance ps ts r points triangles
            (subst (λ (d : Drawing). Draws d r points triangles) (drawn-is (eqb→eq (first_of (amendment_checks tc tk ta)) 0 (→true e))) drew) zero
        go false e =
            let n = first_of (amendment_checks tc tk ta) in
            let some : n ≡ 0 → ⊥ = λ z. not_both (eq→eqb n 0 z) e in
            absurd (some (sym (ap (λ (d : Drawing). d.result.number) (refused-is n refl some)) ∙ sym (ap (λ (q : Drawn). q.number) drew.result_is)
            ∙ zero))
