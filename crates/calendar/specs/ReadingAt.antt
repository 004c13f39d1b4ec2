-- What a calendar reads at a minute.
-- Assumes nothing: these are definitions.
use Rattle.std.specs.Prelude.{ℕ, cond, List, Float, Result, Ok, Err}
use Rattle.rules.specs.Calendar.{clearance_at, bad_calendar, none_holds}
use Rattle.rules.specs.declared.refusal.Refusal.{Refusal}
use Rattle.rules.specs.declared.refusal.Refusal.TheVariants.{Calendar, Minute}

-- the first of checks 16 and 17 that applies, or the clearance in force
unfoldable pub reading_at : List ℕ → ℕ → Result Float Refusal
unfolding clearance_at bad_calendar none_holds
reading_at t minute = cond (bad_calendar t) (Err Calendar) (cond (none_holds t minute) (Err Minute) (Ok (clearance_at t minute)))
