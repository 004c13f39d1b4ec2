-- One pass over the records gives what the rules say of a calendar at a minute.
-- Assumes nothing.
use Rattle.std.specs.Prelude.{Result, Ok, Err, Option, Some, None}
use Prim.Native.Nat.{ℕ, ◌+◌, ◌%◌, ◌≤◌, ◌<◌}
use mathlib.Core.Path.{◌≡◌, refl, sym, ap, ◌∙◌}
use mathlib.Core.Bool.{Bool, true, false, not, ◌&&◌, ◌||◌, cond, true≢false}
use mathlib.Core.List.{List, [], ◌∷◌}
use native.Mathlib.Omega.{arith}
use lib.Dec.{T}
use lib.Ieee.{Float}
use lib.ListN.{length, drop, drop_of_length-le}
use borrow.Author.Tests.{eq-eqb, ne_eqb}
use Rattle.base.specs.Lists.{any, first}
use Rattle.base.proofs.Tests.{and→, →true, true→}
use Rattle.base.proofs.Below.{rest as next, get_table, length-table}
use Rattle.rules.specs.Calendar.{period_size, period_count, period_at, periods_of, holds_at, clearance_at, bad_calendar, none_holds}
use Rattle.rules.specs.declared.Period.{Period}
use Rattle.rules.specs.declared.refusal.Refusal.{Refusal}
use Rattle.rules.specs.declared.refusal.Refusal.TheVariants.{Calendar, Minute}
use Rattle.calendar.specs.ReadingAt.{reading_at}
use Rattle.calendar.proofs.Periods.{follows, all_follow, all_follow_is, lawful→, holds→, none_yet}

-- a calendar read at a minute: the clearance in force, or 16 or 17
abbrev pub Reading : Type 0
Reading = Result Float Refusal

-- what is read where the record in force, if one was met, is known by its number
abbrev pub read_of : List ℕ → Option ℕ → Reading
read_of t None = Err Minute
read_of t (Some k) = Ok (period_at t k).clearance

module _ (minute : ℕ) where
  -- what is read with one record more
  abbrev pub noted : Reading → Period → Reading
  noted reading p = cond (holds_at minute p) (Ok p.clearance) reading

  pub noted_now : (reading : Reading) (p q : Period) → p ≡ q → holds_at minute q ≡ true → Ok p.clearance ≡ noted reading q
  noted_now reading p q e h = ap (λ (p : Period). Ok p.clearance) e ∙ rw h refl

  pub noted_not : (reading : Reading) (q : Period) → holds_at minute q ≡ false → reading ≡ noted reading q
  noted_not reading q h = rw h refl

  -- the records that are left, behind one that has ended at a minute, with what is read so far
  abbrev pub pass : Reading → ℕ → List Period → Reading
  pass reading ended [] = reading
  pass reading ended (p ∷ rest) = let r = pass (noted reading p) p.until rest in cond (follows ended p) r (Err Calendar)

  -- some record breaks a rule
  breach : (reading : Reading) (ended : ℕ) (ps : List Period) → all_follow ended ps ≡ false → pass reading ended ps ≡ Err Calendar
  breach reading ended [] e = absurd (true≢false e)
  breach reading ended (p ∷ rest) e = go (follows ended p) e (breach (noted reading p) p.until rest)
    where
      go : (b : Bool) → b && all_follow p.until rest ≡ false
          → (all_follow p.until rest ≡ false → pass (noted reading p) p.until rest ≡ Err Calendar)
          → cond b (pass (noted reading p) p.until rest) (Err Calendar) ≡ Err Calendar
      go true r later = later r
      go false r later = refl

  -- none does: then the first is passed
  passed : (reading : Reading) (ended : ℕ) (p : Period) (rest : List Period) → T (all_follow ended (p ∷ rest))
      → pass reading ended (p ∷ rest) ≡ pass (noted reading p) p.until rest
  passed reading ended p rest f = rw (true→ (follows ended p) (and→ (follows ended p) (all_follow p.until rest) f).0) refl

  -- where no record holds, what was read stays
  unmoved : (reading : Reading) (ended : ℕ) (ps : List Period) → T (all_follow ended ps) → any (holds_at minute) ps ≡ false → pass reading ended ps ≡ reading
  unmoved reading ended [] f e = refl
  unmoved reading ended (p ∷ rest) f e =
      passed reading ended p rest f ∙ go (holds_at minute p) e (unmoved reading p.until rest (lawful→ ended p rest f).behind)
    where
      go : (b : Bool) → b || any (holds_at minute) rest ≡ false → (any (holds_at minute) rest ≡ false → pass reading p.until rest ≡ reading)
          → pass (cond b (Ok p.clearance) reading) p.until rest ≡ reading
      go true r later = absurd (true≢false r)
      go false r later = later r

  -- and where one holds, its clearance is read
  found : (d : Period) (reading : Reading) (ended : ℕ) (ps : List Period) → T (all_follow ended ps) → any (holds_at minute) ps ≡ true
      → pass reading ended ps ≡ Ok (first (holds_at minute) d ps).clearance
  found d reading ended [] f e = absurd (true≢false (sym e))
  found d reading ended (p ∷ rest) f e =
      passed reading ended p rest f ∙ go (holds_at minute p) refl e (found d reading p.until rest (lawful→ ended p rest f).behind)
    where
      go : (b : Bool) → holds_at minute p ≡ b → b || any (holds_at minute) rest ≡ true
          → (any (holds_at minute) rest ≡ true → pass reading p.until rest ≡ Ok (first (holds_at minute) d rest).clearance)
          → pass (cond b (Ok p.clearance) reading) p.until rest ≡ Ok (cond b p (first (holds_at minute) d rest)).clearance
      go true q r later =
          let behind = (lawful→ ended p rest f).behind in
          unmoved (Ok p.clearance) p.until rest behind (none_yet minute p.until rest (holds→ minute p (→true q)).1 behind)
      go false q r later = later r

-- the whole of a calendar of whole records is read so
pub reads : (t : List ℕ) (minute : ℕ) → length t % period_size ≡ 0 → pass minute (Err Minute) 0 (periods_of t) ≡ reading_at t minute
unfolding reading_at bad_calendar none_holds clearance_at
reads t minute whole = rw (eq-eqb (length t % period_size) 0 whole, ← all_follow_is (periods_of t)) (go (all_follow 0 (periods_of t)) refl)
  where
    ps : List Period
    ps = periods_of t

    held : (b : Bool) → any (holds_at minute) ps ≡ b → T (all_follow 0 ps)
        → pass minute (Err Minute) 0 ps ≡ cond (not b) (Err Minute) (Ok (clearance_at t minute))
    held true e f = found minute _ (Err Minute) 0 ps f e
    held false e f = unmoved minute (Err Minute) 0 ps f e

    go : (b : Bool) → all_follow 0 ps ≡ b
        → pass minute (Err Minute) 0 ps ≡ cond (not b) (Err Calendar) (cond (not (any (holds_at minute) ps)) (Err Minute) (Ok (clearance_at t minute)))
    go true e = held (any (holds_at minute) ps) refl (→true e)
    go false e = breach minute (Err Minute) 0 ps e

-- part of a record is left: 16
pub part_left : (t : List ℕ) (minute : ℕ) → (length t % period_size ≡ 0 → ⊥) → Err Calendar ≡ reading_at t minute
unfolding reading_at bad_calendar
part_left t minute some = sym (rw (ne_eqb (length t % period_size) 0 some))

-- ---- one turn after the other

module _ (t : List ℕ) (minute : ℕ) (reading : Reading) (ended k : ℕ) where
  abbrev left : List Period
  left = drop k (periods_of t)

  -- before a turn: the record at hand, and those behind it
  at_hand : k < period_count t → left ≡ period_at t k ∷ drop (k + 1) (periods_of t)
  unfolding periods_of
  at_hand h =
      next (periods_of t) k (period_at t k) (omega (arith, length-table (period_at t) (period_count t)))
      ∙ ap (λ (p : Period). p ∷ drop (k + 1) (periods_of t)) (get_table (period_at t) (period_at t k) (period_count t) k h)

  -- it breaks a rule
  pub stopped : k < period_count t → follows ended (period_at t k) ≡ false → pass minute reading ended left ≡ Err Calendar
  stopped h e = rw (at_hand h, e) refl

  -- it does not
  pub went_on : k < period_count t → follows ended (period_at t k) ≡ true
      → pass minute (noted minute reading (period_at t k)) (period_at t k).until (drop (k + 1) (periods_of t)) ≡ pass minute reading ended left
  went_on h e = rw (at_hand h, e) refl

  -- none is left
  pub ended_all : period_count t ≤ k → pass minute reading ended left ≡ reading
  unfolding periods_of
  ended_all h = rw (drop_of_length-le (periods_of t) {i = k} (omega (arith, length-table (period_at t) (period_count t)))) refl
