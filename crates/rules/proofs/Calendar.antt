-- Examples of document 02, request 7: one dry leaf, drawn by calendars of a few records.
-- Assumes nothing.
use Prim.Native.Nat.{ℕ}
use mathlib.Core.Bool.{Bool}
use mathlib.Core.List.{List, [], ◌∷◌, ◌++◌}
use lib.Dec.{eqb, T}
use lib.ListN.{take}
use Rattle.base.specs.Lists.{all}
use Rattle.base.specs.Grid.{origin}
use Rattle.rules.specs.Calendar.{draw_by_calendar}
use Rattle.rules.proofs.Surveys.{bytes_of, place, Soundings, at, one, minus_one, least, not_a_number, resounded, corner_table, leaf}

-- a survey, a calendar, a minute, and the number that the call returns
pub record Dated : Type 0 where
  pub soundings : Soundings
  pub amendments : List ℕ
  pub calendar : List ℕ
  pub minute : ℕ
  pub number : ℕ

abbrev dated : List ℕ → ℕ → ℕ → Dated
dated t minute n = record { soundings = at [] one minus_one; amendments = []; calendar = t; minute = minute; number = n }

-- where a sounding is not a number, with amendments
abbrev unsound : List ℕ → List ℕ → ℕ → ℕ → Dated
unsound ta t minute n = record { soundings = at (origin ∷ []) not_a_number minus_one; amendments = ta; calendar = t; minute = minute; number = n }

-- a record: from, until and the bits of its clearance
abbrev period : ℕ → ℕ → ℕ → List ℕ
period from until v = bytes_of 4 from ++ bytes_of 4 until ++ bytes_of 4 v

-- the corner where the sounding is not a number, sounded again
abbrev mended : List ℕ
mended = resounded origin minus_one 0

-- at clearance 1
abbrev plain : ℕ → ℕ → List ℕ
plain from until = period from until one

unfoldable pub calendars : List Dated
calendars =
    -- an empty calendar
    dated [] 0 17 ∷
    dated [] 527040 17 ∷
    -- from the first minute up to, not including, the last
    dated (plain 10 20) 9 17 ∷
    dated (plain 10 20) 10 0 ∷
    dated (plain 10 20) 19 0 ∷
    dated (plain 10 20) 20 17 ∷
    -- numbers of four bytes
    dated (plain 256 65536) 255 17 ∷
    dated (plain 256 65536) 65535 0 ∷
    dated (plain 10 16777236) 10 16 ∷
    -- the year's end
    dated (plain 0 527040) 527039 0 ∷
    dated (plain 0 527040) 527040 17 ∷
    dated (plain 0 527041) 10 16 ∷
    -- records that touch, and a gap
    dated (plain 10 20 ++ period 20 30 least) 19 0 ∷
    dated (plain 10 20 ++ period 20 30 least) 20 12 ∷
    dated (plain 10 20 ++ plain 21 30) 20 17 ∷
    -- a record that begins before the one ahead of it has ended; also where the first has ended, and before that has begun
    dated (plain 10 20 ++ plain 19 30) 10 16 ∷
    dated (plain 10 20 ++ plain 30 40 ++ plain 25 28) 10 16 ∷
    dated (plain 10 20 ++ plain 5 8) 10 16 ∷
    -- from not below until; part of a record
    dated (plain 10 10) 10 16 ∷
    dated (plain 11 10) 10 16 ∷
    dated (take 11 (plain 10 20)) 10 16 ∷
    dated (plain 10 20 ++ 0 ∷ []) 10 16 ∷
    -- 16 before 17, 8 and 12, and behind the record in force too
    dated (plain 10 20 ++ plain 19 30) 40 16 ∷
    dated (period 10 20 not_a_number ++ plain 19 30) 10 16 ∷
    dated (period 10 20 least ++ plain 19 30) 10 16 ∷
    dated (plain 10 20 ++ plain 30 30) 10 16 ∷
    -- 8 looks at the clearance in force alone
    dated (plain 10 20 ++ period 20 30 not_a_number) 19 0 ∷
    dated (plain 10 20 ++ period 20 30 not_a_number) 20 8 ∷
    dated (plain 10 20 ++ period 20 30 not_a_number) 30 17 ∷
    -- the refusals of the survey, as amended, come first
    unsound [] (plain 10 20) 10 7 ∷
    unsound [] (plain 10 10) 10 7 ∷
    unsound [] [] 10 7 ∷
    unsound mended (plain 10 20) 10 0 ∷
    unsound mended (plain 10 10) 10 16 ∷
    unsound (mended ++ 0 ∷ []) (plain 10 10) 10 14 ∷
    unsound (resounded (place 512 0 0) one 0) (plain 10 10) 10 15 ∷ []

unfoldable pub right : Dated → Bool
unfolding draw_by_calendar
right d =
    let tk = corner_table leaf.corners d.soundings in
    eqb (draw_by_calendar leaf.cells tk d.amendments d.calendar d.minute [] []).result.number d.number

pub calendars_right : T (all right calendars)
unfolding right calendars
calendars_right = tt
