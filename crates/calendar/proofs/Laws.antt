-- The laws of request 7: the call is the drawing by hand; one record at most is in force, and one is where neither 16 nor 17 applies; a calendar has no more
-- records than the year has minutes; an empty one gives 17; and the checks come in their order.
-- Assumes nothing.
use Prim.Native.Nat.{ℕ, ◌%◌, ◌<◌}
use mathlib.Core.Path.{◌≡◌, refl, sym, ap, ◌∙◌, subst}
use mathlib.Core.Bool.{Bool, true, false, not, ◌&&◌, ◌||◌, cond}
use mathlib.Core.List.{List, [], ◌∷◌, ◌++◌, append_assoc}
use native.Mathlib.Omega.{arith}
use lib.Dec.{T, eqb, eqb→eq}
use lib.ListN.{length, get_or}
use lib.Ieee.{Float}
use Rattle.base.specs.Lists.{any, all, position}
use Rattle.base.proofs.Tests.{→true, true→, false→}
use Rattle.base.proofs.Lists.{position_of}
use Rattle.base.proofs.Below.{get_table, length-table, position_at, first-position, any-position}
use Rattle.rules.specs.OpenAtBox.{open_at_box}
use Rattle.rules.specs.Outputs.{in_range, first_of, slice_checks, table_checks}
use Rattle.rules.specs.Resounding.{amended, amendment_checks, undrawn, draw_amended, check_order, drawing_order, InOrder, ChecksInOrder}
use Rattle.rules.specs.Calendar.{period_size, period_count, period_at, periods_of, holds_at, right_period, in_turn, no_period, clearance_at, bad_calendar}
use Rattle.rules.specs.Calendar.{none_holds, calendar_checks, draw_by_calendar, InForce, ByHand, SomeInForce, AtMostOne, FewPeriods, EmptyGivesSeventeen}
use Rattle.rules.specs.Calendar.{CalendarInOrder}
use Rattle.rules.specs.declared.Period.{Period}
use Rattle.octree.proofs.Accepted.{numbered, first_append, first-none}
use Rattle.amendments.proofs.Laws.{checks_in_order, survey_number, survey_numbered, after-survey}
use Rattle.calendar.proofs.Periods.{all_follow, all_follow_is, few, not_ahead}
use Rattle.calendar.proofs.Calls.{own, drawn-by}

-- ---- a lawful calendar

-- each of its records begins no earlier than the one ahead of it ends
following : (t : List ℕ) → T (not (bad_calendar t)) → T (all_follow 0 (periods_of t))
unfolding bad_calendar
following t lawful = rw (all_follow_is (periods_of t)) (go (eqb (length t % period_size) 0) (all right_period (periods_of t) && in_turn (periods_of t)) lawful)
  where
    go : (whole right : Bool) → T (not (not whole || not right)) → T right
    go true true h = tt
    go true false h = absurd h
    go false right h = absurd h

-- each takes a minute at least
pub few_periods : FewPeriods
unfolding FewPeriods periods_of
few_periods t lawful = omega (arith, few 0 (periods_of t) (omega arith) (following t lawful), length-table (period_at t) (period_count t))

-- record k is in force at a minute
module _ (t : List ℕ) (minute k : ℕ) (force : InForce t minute k) where
  inside : k < length (periods_of t)
  unfolding periods_of
  inside = omega (arith, length-table (period_at t) (period_count t), force.there)

  kth : get_or (periods_of t) k no_period ≡ period_at t k
  unfolding periods_of
  kth = get_table (period_at t) no_period (period_count t) k force.there

  it_holds : T (holds_at minute (get_or (periods_of t) k no_period))
  it_holds = subst (λ (p : Period). T (holds_at minute p)) (sym kth) force.holds

  -- it is the first that holds
  first-held : position (holds_at minute) 0 (periods_of t) ≡ k
  first-held =
      position_at (holds_at minute) no_period (periods_of t) 0 k inside (true→ (holds_at minute (get_or (periods_of t) k no_period)) it_holds)
      (λ j l. not_ahead no_period minute 0 (periods_of t) j k (following t force.lawful) l inside it_holds)
      ∙ omega arith

  -- so its clearance is in force, and 17 does not apply
  in_force : clearance_at t minute ≡ (period_at t k).clearance
  unfolding clearance_at
  in_force =
      ap (λ (p : Period). p.clearance)
      (first-position (holds_at minute) no_period (periods_of t) ∙ ap (λ j. get_or (periods_of t) j no_period) first-held ∙ kth)

  some_holds : none_holds t minute ≡ false
  unfolding none_holds
  some_holds = ap not (true→ (any (holds_at minute) (periods_of t)) (any-position (holds_at minute) (periods_of t) 0 (omega (arith, first-held, inside))))

  pub hand : (tc tk ta : List ℕ) (ps : List Float) (ts : List ℕ)
      → draw_by_calendar tc tk ta t minute ps ts ≡ draw_amended tc tk ta (period_at t k).clearance ps ts
  hand tc tk ta ps ts =
      drawn-by tc tk ta t minute ps ts (false→ (bad_calendar t) force.lawful) some_holds ∙ ap (λ (v : Float). draw_amended tc tk ta v ps ts) in_force

pub by_hand : ByHand
unfolding ByHand
by_hand tc tk ta t minute k force ps ts = hand t minute k force tc tk ta ps ts

-- the first record that holds, where there is one
pub some_in_force : SomeInForce
unfolding SomeInForce none_holds periods_of
some_in_force t minute lawful held =
    let (k, at, inside, holds) = position_of (holds_at minute) no_period (periods_of t) 0 (not-not (any (holds_at minute) (periods_of t)) held) in
    let there : k < period_count t = omega (arith, inside, length-table (period_at t) (period_count t)) in
    let kth = get_table (period_at t) no_period (period_count t) k there in
    let force : InForce t minute k = record { lawful = lawful; there = there; holds = subst (λ (p : Period). T (holds_at minute p)) kth holds } in
    (k, force, in_force t minute k force)
  where
    not-not : (b : Bool) → T (not (not b)) → T b
    not-not true h = tt
    not-not false h = absurd h

pub at_most_one : AtMostOne
unfolding AtMostOne
at_most_one t minute j k a b = sym (first-held t minute j a) ∙ first-held t minute k b

-- ---- the checks

pub empty_gives_seventeen : EmptyGivesSeventeen
unfolding EmptyGivesSeventeen draw_by_calendar calendar_checks bad_calendar none_holds periods_of in_turn
empty_gives_seventeen tc tk ta minute ps ts pass = rw (after-survey tc tk ta (own [] minute), pass) refl

calendar_numbered : (tc tk ta t : List ℕ) (minute : ℕ) → T (numbered (calendar_checks tc tk ta t minute))
unfolding calendar_checks check_order amendment_checks table_checks
calendar_numbered tc tk ta t minute = tt

-- where a check of the survey by itself passes, the further checks of drawing decide
further_first : (tc tk ta : List ℕ) (v : Float) (ps : List Float) (ts : List ℕ) → survey_number tc tk ta ≡ 0
    → (draw_amended tc tk ta v ps ts).result.number
    ≡ first_of ((8, not (in_range v)) ∷ (12, open_at_box (amended tk ta) v) ∷ slice_checks tc (amended tk ta) v ps ts)
unfolding drawing_order
further_first tc tk ta v ps ts pass =
    let slices = slice_checks tc (amended tk ta) v ps ts in
    let further : List (ℕ × Bool) = (8, not (in_range v)) ∷ (12, open_at_box (amended tk ta) v) ∷ [] in
    let in_order : InOrder tc tk ta = unfold ChecksInOrder in checks_in_order tc tk ta in
    in_order.drawing v ps ts
    ∙ ap first_of (append_assoc (check_order tc tk ta) further slices) ∙ after-survey tc tk ta (further ++ slices) ∙ rw pass refl

pub calendar_in_order : CalendarInOrder
unfolding CalendarInOrder draw_by_calendar calendar_checks
calendar_in_order tc tk ta t minute ps ts = go (eqb n 0) refl
  where
    v : Float
    v = clearance_at t minute

    n : ℕ
    n = first_of (calendar_checks tc tk ta t minute)

    later : List (ℕ × Bool)
    later = (8, not (in_range v)) ∷ (12, open_at_box (amended tk ta) v) ∷ slice_checks tc (amended tk ta) v ps ts

    behind : first_of (calendar_checks tc tk ta t minute ++ later) ≡ cond (eqb n 0) (first_of later) n
    behind = first_append (calendar_checks tc tk ta t minute) later (calendar_numbered tc tk ta t minute)

    go : (b : Bool) → eqb n 0 ≡ b
        → (cond b (draw_amended tc tk ta v ps ts) (undrawn n ps ts)).result.number ≡ first_of (calendar_checks tc tk ta t minute ++ later)
    go true e =
        let pass = (first-none (check_order tc tk ta) (own t minute) (survey_numbered tc tk ta) (eqb→eq n 0 (→true e))).0 in
        further_first tc tk ta v ps ts pass ∙ sym (behind ∙ rw e refl)
    go false e = sym (behind ∙ rw e refl)
