-- What the call returns and leaves in the slices, each way it goes; and the other promises, which follow from its equation.
-- Assumes nothing.
use Rattle.std.specs.Prelude.{Ok, Err}
use Prim.Native.Nat.{ℕ}
use mathlib.Core.Path.{◌≡◌, refl, sym, ap, ◌∙◌, subst}
use mathlib.Core.Bool.{Bool, true, false, cond}
use mathlib.Core.List.{List, [], ◌∷◌, ◌++◌}
use lib.Dec.{eqb}
use lib.Ieee.{Float}
use borrow.Author.Tests.{eqb-false}
use Rattle.rules.specs.Refusals.{refusal_number}
use Rattle.rules.specs.declared.refusal.Refusal.{Refusal}
use Rattle.rules.specs.Outputs.{first_of, Drawing}
use Rattle.rules.specs.Closing.{ClosedIn}
use Rattle.rules.specs.Resounding.{amended, undrawn, draw_amended, check_order}
use Rattle.rules.specs.Calendar.{period_at, clearance_at, calendar_checks, draw_by_calendar, InForce}
use Rattle.rules.specs.declared.Drawn.{Drawn}
use Rattle.drawing.specs.Draws.{Draws}
use Rattle.drawing.proofs.Amended.{amended-closed}
use Rattle.calendar.specs.ReadingAt.{reading_at}
use Rattle.calendar.proofs.Calls.{clearance→, undrawn-by, drawn-by}
use Rattle.calendar.proofs.Laws.{hand}

module _ (tc tk ta t : List ℕ) (minute : ℕ) (ps : List Float) (ts : List ℕ) where
  abbrev drawing : Drawing
  drawing = draw_by_calendar tc tk ta t minute ps ts

  -- the calendar refuses
  pub refuses : (e : Refusal) (r : Drawn) → Err e ≡ reading_at t minute
      → r ≡ (undrawn (first_of (check_order tc tk ta ++ (refusal_number e, true) ∷ [])) ps ts).result
      → Draws drawing r ps ts
  refuses refusal r read is =
      let e = sym (undrawn-by tc tk ta t minute ps ts refusal read) in
      record {
        result_is = is ∙ ap (λ (d : Drawing). d.result) e;
        points_are = ap (λ (d : Drawing). d.points) e;
        triangles_are = ap (λ (d : Drawing). d.triangles) e;
      }

  module _ (r : Drawn) (points : List Float) (triangles : List ℕ) where
    -- it has a clearance
    pub draws : (v : Float) → Ok v ≡ reading_at t minute → Draws (draw_amended tc tk ta v ps ts) r points triangles → Draws drawing r points triangles
    draws v read =
        let (lawful, held, is) = clearance→ t minute v read in
        subst (λ (d : Drawing). Draws d r points triangles) (ap (λ (w : Float). draw_amended tc tk ta w ps ts) is
        ∙ sym (drawn-by tc tk ta t minute ps ts lawful held))

    module _ (drew : Draws drawing r points triangles) where
      -- where a record is in force, this is the drawing at its clearance given by hand
      as_by_hand : (k : ℕ) → InForce t minute k → Draws (draw_amended tc tk ta (period_at t k).clearance ps ts) r points triangles
      as_by_hand k force = subst (λ (d : Drawing). Draws d r points triangles) (hand t minute k force tc tk ta ps ts) drew

      -- where the number is 0, it is closed
      closed-by : r.number ≡ 0 → ClosedIn tc (amended tk ta) (clearance_at t minute) r points triangles
      unfolding draw_by_calendar
      closed-by zero = go (eqb n 0) refl drew
        where
          n : ℕ
          n = first_of (calendar_checks tc tk ta t minute)

          go : (b : Bool) → eqb n 0 ≡ b → Draws (cond b (draw_amended tc tk ta (clearance_at t minute) ps ts) (undrawn n ps ts)) r points triangles
              → ClosedIn tc (amended tk ta) (clearance_at t minute) r points triangles
          go true e d = amended-closed tc tk ta (clearance_at t minute) ps ts r points triangles d zero
          go false e d = absurd (eqb-false n 0 e (sym (ap (λ (q : Drawn). q.number) d.result_is) ∙ zero))

      pub all_promises : Draws drawing r points triangles
          × (((k : ℕ) → InForce t minute k → Draws (draw_amended tc tk ta (period_at t k).clearance ps ts) r points triangles)
          × (r.number ≡ 0 → ClosedIn tc (amended tk ta) (clearance_at t minute) r points triangles))
      all_promises = (drew, (as_by_hand, closed-by))
