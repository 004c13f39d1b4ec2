-- Document 02, request 7, "Clearance by calendar": a calendar lent as bytes, its rules, the clearance in force at a minute, checks 16 and 17, and the call that
-- draws at that clearance.
use Rattle.std.specs.Prelude.{ℕ, ◌*◌, ◌/◌, ◌%◌, ◌≤◌, ◌<◌, ◌≡◌, Bool, true, not, ◌&&◌, ◌||◌, cond, List, [], ◌∷◌, ◌++◌, map, eqb, ltb, leb, T, length, Float}
use Rattle.std.specs.Float.{nan, binary32}
use Rattle.std.specs.Float.Ieee.{of_bits}
use Rattle.base.specs.Lists.{any, all, first, count, little, bytes}
use Rattle.rules.specs.OpenAtBox.{open_at_box}
use Rattle.rules.specs.Outputs.{in_range, first_of, slice_checks, Drawing}
use Rattle.rules.specs.Resounding.{amended, undrawn, draw_amended, check_order}
use Rattle.rules.specs.declared.Period.{Period}

-- ---- the calendar

-- "12-byte records", and how many a calendar has
abbrev pub period_size : ℕ
period_size = 12

abbrev pub period_count : List ℕ → ℕ
period_count t = length t / period_size

-- record k: "from and until (32 bits each) and a clearance in binary32, little-endian in this order"
unfoldable pub period_at : List ℕ → ℕ → Period
unfolding of_bits
period_at t k =
    let r = bytes t (period_size * k) period_size in
    record { from = little (bytes r 0 4); until = little (bytes r 4 4); clearance = of_bits binary32 (little (bytes r 8 4)) }

unfoldable pub periods_of : List ℕ → List Period
unfolding period_at
periods_of t = map (period_at t) (count 0 (period_count t))

-- "A record holds from its first minute up to, not including, its last"
abbrev pub holds_at : ℕ → Period → Bool
holds_at minute p = leb p.from minute && ltb minute p.until

-- "minutes of the year, until at most 527,040"
abbrev pub year_end : ℕ
year_end = 527040

-- "Each from is below its until", and that is no later than the year's end
abbrev pub right_period : Period → Bool
right_period p = ltb p.from p.until && leb p.until year_end

-- "no record begins before the one ahead of it has ended, though it may begin at that very minute"
unfoldable pub in_turn : List Period → Bool
in_turn [] = true
in_turn (p ∷ []) = true
in_turn (p ∷ q ∷ rest) = let r = in_turn (q ∷ rest) in leb p.until q.from && r

-- what stands for a record where there is none: it never holds, and its clearance is not a number
abbrev pub no_period : Period
no_period = record { from = 0; until = 0; clearance = nan }

-- the clearance in force at a minute: that of the record that holds then, of which a lawful calendar has at most one (`AtMostOne`); where there is none, 17
-- refuses
unfoldable pub clearance_at : List ℕ → ℕ → Float
unfolding periods_of
clearance_at t minute = (first (holds_at minute) no_period (periods_of t)).clearance

-- ---- the checks

-- "16 is a calendar not of whole records or breaking one of these rules"
unfoldable pub bad_calendar : List ℕ → Bool
unfolding periods_of in_turn
bad_calendar t = not (eqb (length t % period_size) 0) || not (all right_period (periods_of t) && in_turn (periods_of t))

-- "17 a minute in no record"
unfoldable pub none_holds : List ℕ → ℕ → Bool
unfolding periods_of
none_holds t minute = not (any (holds_at minute) (periods_of t))

-- "both stand between 7 and 8": those of the survey by itself come first
unfoldable pub calendar_checks : List ℕ → List ℕ → List ℕ → List ℕ → ℕ → List (ℕ × Bool)
unfolding check_order bad_calendar none_holds
calendar_checks tc tk ta t minute = check_order tc tk ta ++ (16, bad_calendar t) ∷ (17, none_holds t minute) ∷ []

-- ---- the call

-- "For a given minute the drawing is made at the clearance in force": refused by the first of these checks that applies, "counts 0 and 0", else that drawing
unfoldable pub draw_by_calendar : List ℕ → List ℕ → List ℕ → List ℕ → ℕ → List Float → List ℕ → Drawing
unfolding calendar_checks clearance_at draw_amended
draw_by_calendar tc tk ta t minute ps ts =
    let number = first_of (calendar_checks tc tk ta t minute) in
    let drawing = draw_amended tc tk ta (clearance_at t minute) ps ts in
    cond (eqb number 0) drawing (undrawn number ps ts)

-- ---- what the request says of it

-- record k of a lawful calendar holds at a minute
pub record InForce (t : List ℕ) (minute k : ℕ) : Type 0 where
  pub lawful : T (not (bad_calendar t))
  pub there : k < period_count t
  pub holds : T (holds_at minute (period_at t k))

-- the call "equals the drawing at that clearance given by hand": what is returned, and both slices
unfoldable pub ByHand : Type 0
unfolding period_at draw_amended draw_by_calendar
ByHand = (tc tk ta t : List ℕ) (minute k : ℕ) → InForce t minute k → (ps : List Float) (ts : List ℕ)
    → draw_by_calendar tc tk ta t minute ps ts ≡ draw_amended tc tk ta (period_at t k).clearance ps ts

-- Where neither 16 nor 17 applies, a record is in force, and its clearance is the one that the drawing is made at;
unfoldable pub SomeInForce : Type 0
unfolding period_at clearance_at bad_calendar none_holds
SomeInForce = (t : List ℕ) (minute : ℕ) → T (not (bad_calendar t)) → T (not (none_holds t minute))
    → (k : ℕ) × InForce t minute k × (clearance_at t minute ≡ (period_at t k).clearance)

-- no other is;
unfoldable pub AtMostOne : Type 0
AtMostOne = (t : List ℕ) (minute j k : ℕ) → InForce t minute j → InForce t minute k → j ≡ k

-- and as each holds for a minute at least, a lawful calendar has no more of them than the year has minutes. No other limit is on its length.
unfoldable pub FewPeriods : Type 0
unfolding bad_calendar
FewPeriods = (t : List ℕ) → T (not (bad_calendar t)) → period_count t ≤ year_end

-- "An empty calendar is lawful and gives 17 at every minute", to every survey that a check by itself passes
unfoldable pub EmptyGivesSeventeen : Type 0
unfolding check_order draw_by_calendar
EmptyGivesSeventeen = (tc tk ta : List ℕ) (minute : ℕ) (ps : List Float) (ts : List ℕ) → first_of (check_order tc tk ta) ≡ 0
    → draw_by_calendar tc tk ta [] minute ps ts ≡ undrawn 17 ps ts

-- all checks of the call in their order: "8 looks only at the clearance in force", and those of the slices come last
unfoldable pub CalendarInOrder : Type 0
unfolding calendar_checks clearance_at in_range open_at_box amended draw_by_calendar
CalendarInOrder = (tc tk ta t : List ℕ) (minute : ℕ) (ps : List Float) (ts : List ℕ)
    → let clearance = clearance_at t minute in
    (draw_by_calendar tc tk ta t minute ps ts).result.number
    ≡ first_of (calendar_checks tc tk ta t minute ++ (8, not (in_range clearance)) ∷ (12, open_at_box (amended tk ta) clearance)
    ∷ slice_checks tc (amended tk ta) clearance ps ts)
