-- Records in turn: each begins when the one ahead of it has ended or later. So at most one holds at a minute, and there are no more records than minutes.
-- Assumes nothing.
use Prim.Native.Nat.{ℕ, zero, suc, ◌+◌, ◌*◌, ◌≤◌, ◌<◌}
use mathlib.Core.Path.{◌≡◌, refl, sym, ap, ◌∙◌}
use mathlib.Core.Logic.{◌⊎◌, inl, inr}
use mathlib.Core.Bool.{Bool, true, false, ◌&&◌}
use mathlib.Core.List.{List, [], ◌∷◌}
use native.Mathlib.Omega.{arith}
use lib.Dec.{T, leb, ltb, leb→le, le→leb, ltb→lt, lit≤}
use lib.ListN.{length, get_or}
use lib.Ieee.{Float, binary32, of_bits}
use borrow.Author.Tests.{lt-leb}
use native.Mathlib.Nat.{add-zero}
use Rattle.base.specs.Lists.{any, all, little, bytes}
use Rattle.base.proofs.Tests.{and→, true→, either}
use Rattle.rules.specs.Calendar.{period_size, period_at, holds_at, year_end, right_period, in_turn}
use Rattle.rules.specs.declared.Period.{Period}
use Rattle.records.proofs.Bytes.{part}

-- a record, from its numbers as they stand in the table
pub period_is : (t : List ℕ) (k : ℕ) {a b : ℕ} {v : Float} → a ≡ little (bytes t (period_size * k) 4) → b ≡ little (bytes t (period_size * k + 4) 4)
    → v ≡ of_bits binary32 (little (bytes t (period_size * k + 8) 4)) → ◌≡◌ {A = Period} (record { from = a; until = b; clearance = v }) (period_at t k)
unfolding period_at
period_is t k ea eb ev =
    let at : (i : ℕ) → i + 4 ≤ period_size → little (bytes t (period_size * k + i) 4) ≡ little (bytes (bytes t (period_size * k) period_size) i 4) = λ i h.
    ap little (sym (part t (period_size * k) period_size i 4 h)) in
    λ i. record {
      from = (ea ∙ ap (λ j. little (bytes t j 4)) (sym (add-zero (period_size * k))) ∙ at 0 (lit≤ tt)) i;
      until = (eb ∙ at 4 (lit≤ tt)) i;
      clearance = (ev ∙ ap (of_bits binary32) (at 8 (lit≤ tt))) i;
    }

-- a record is lawful behind one that has ended at a minute
abbrev pub follows : ℕ → Period → Bool
follows ended p = leb ended p.from && right_period p

-- so is each behind the one ahead of it, the first behind one that has ended at a minute
abbrev pub all_follow : ℕ → List Period → Bool
all_follow ended [] = true
all_follow ended (p ∷ rest) = let r = all_follow p.until rest in follows ended p && r

-- the rules of a calendar, one by one, say the same
regroup : (a b c d e : Bool) → (a && b) && (c && (d && e)) ≡ a && ((b && d) && (c && e))
regroup true true c true e = refl
regroup true true true false e = refl
regroup true true false false e = refl
regroup true false c d e = refl
regroup false b c d e = refl

from_first : (ended : ℕ) (p : Period) (rest : List Period)
    → all_follow ended (p ∷ rest) ≡ leb ended p.from && (all right_period (p ∷ rest) && in_turn (p ∷ rest))
unfolding in_turn
from_first ended p [] = regroup (leb ended p.from) (right_period p) true true true
from_first ended p (q ∷ rest) =
    ap (λ b. follows ended p && b) (from_first p.until q rest)
    ∙ regroup (leb ended p.from) (right_period p) (leb p.until q.from) (all right_period (q ∷ rest)) (in_turn (q ∷ rest))

pub all_follow_is : (ps : List Period) → all_follow 0 ps ≡ all right_period ps && in_turn ps
unfolding in_turn
all_follow_is [] = refl
all_follow_is (p ∷ rest) =
    from_first 0 p rest ∙ ap (λ b. b && (all right_period (p ∷ rest) && in_turn (p ∷ rest))) (true→ (leb 0 p.from) (le→leb 0 p.from (omega arith)))

-- what the rules say of the first record and of those behind it
pub record LawfulBehind (ended : ℕ) (p : Period) (rest : List Period) : Type 0 where
  pub begins : ended ≤ p.from
  pub lasts : p.from < p.until
  pub ends : p.until ≤ year_end
  pub behind : T (all_follow p.until rest)

pub lawful→ : (ended : ℕ) (p : Period) (rest : List Period) → T (all_follow ended (p ∷ rest)) → LawfulBehind ended p rest
lawful→ ended p rest f =
    let (here, behind) = and→ (follows ended p) (all_follow p.until rest) f in
    let (begins, right) = and→ (leb ended p.from) (right_period p) here in
    let (lasts, ends) = and→ (ltb p.from p.until) (leb p.until year_end) right in
    record { begins = leb→le ended p.from begins; lasts = ltb→lt p.from p.until lasts; ends = leb→le p.until year_end ends; behind = behind }

-- each takes a minute at least
pub few : (ended : ℕ) (ps : List Period) → ended ≤ year_end → T (all_follow ended ps) → ended + length ps ≤ year_end
few ended [] h f = omega arith
few ended (p ∷ rest) h f = let s = lawful→ ended p rest f in omega (arith, few p.until rest s.ends s.behind, s.begins, s.lasts)

module _ (minute : ℕ) where
  pub holds→ : (p : Period) → T (holds_at minute p) → (p.from ≤ minute) × (minute < p.until)
  holds→ p h =
      let (a, b) = and→ (leb p.from minute) (ltb minute p.until) h in
      (leb→le p.from minute a, ltb→lt minute p.until b)

  -- before all records have begun none holds
  pub none_yet : (ended : ℕ) (ps : List Period) → minute < ended → T (all_follow ended ps) → any (holds_at minute) ps ≡ false
  none_yet ended [] h f = refl
  none_yet ended (p ∷ rest) h f =
      let s = lawful→ ended p rest f in
      rw (not_begun s.begins) (none_yet p.until rest (omega (arith, s.begins, s.lasts)) s.behind)
    where
      not_begun : ended ≤ p.from → holds_at minute p ≡ false
      not_begun b = rw (lt-leb p.from minute (omega arith)) refl

-- a record does not begin before every one ahead of it has ended
module _ (d : Period) where
  begun : (ended : ℕ) (ps : List Period) (k : ℕ) → T (all_follow ended ps) → k < length ps → ended ≤ (get_or ps k d).from
  begun ended [] k f h = absurd (omega arith)
  begun ended (p ∷ rest) zero f h = (lawful→ ended p rest f).begins
  begun ended (p ∷ rest) (suc k) f h =
      let s = lawful→ ended p rest f in omega (arith, begun p.until rest k s.behind (omega arith), s.begins, s.lasts)

  pub apart : (ended : ℕ) (ps : List Period) (j k : ℕ) → T (all_follow ended ps) → j < k → k < length ps → (get_or ps j d).until ≤ (get_or ps k d).from
  apart ended [] j k f l h = absurd (omega arith)
  apart ended (p ∷ rest) j zero f l h = absurd (omega arith)
  apart ended (p ∷ rest) zero (suc k) f l h = begun p.until rest k (lawful→ ended p rest f).behind (omega arith)
  apart ended (p ∷ rest) (suc j) (suc k) f l h = apart p.until rest j k (lawful→ ended p rest f).behind (omega arith) (omega arith)

  -- so no one ahead of a record that holds does
  pub not_ahead : (minute ended : ℕ) (ps : List Period) (j k : ℕ) → T (all_follow ended ps) → j < k → k < length ps → T (holds_at minute (get_or ps k d))
      → holds_at minute (get_or ps j d) ≡ false
  not_ahead minute ended ps j k f l h held = go (either (holds_at minute (get_or ps j d)))
    where
      go : T (holds_at minute (get_or ps j d)) ⊎ (holds_at minute (get_or ps j d) ≡ false) → holds_at minute (get_or ps j d) ≡ false
      go (inl t) = absurd (omega (arith, (holds→ minute (get_or ps j d) t).1, (holds→ minute (get_or ps k d) held).0, apart ended ps j k f l h))
      go (inr e) = e
