-- Check 3, one record further.
use Prim.Native.Nat.{ℕ, ◌+◌, ◌*◌, ◌/◌, ◌≤◌, ◌<◌}
use mathlib.Core.Path.{◌≡◌, sym, ap, ◌∙◌}
use mathlib.Core.Bool.{false, ◌&&◌, cond}
use mathlib.Core.List.{List, [], ◌∷◌}
use native.Mathlib.Numerals.{add-one}
use lib.Dec.{eqb, ltb}
use lib.ListN.{length, drop, drop_of_length-le}
use borrow.Author.Tests.{lt-ltb, le-ltb, eq-eqb, ne_eqb}
use Rattle.base.proofs.Below.{rest}
use Rattle.octree.proofs.Records.{entry-count, entry_of}
use Rattle.rules.specs.Survey.{entry, entries}
use Rattle.rules.specs.Outputs.{entries_right}

-- what is left of the entries before record n
pub entries-left : (t : List ℕ) (n : ℕ) → n < length t / 4 → drop n (entries t) ≡ entry t n ∷ drop (n + 1) (entries t)
entries-left t n h = rest (entries t) n 0 (rw (entry-count t) h) ∙ ap (λ e. e ∷ drop (n + 1) (entries t)) (entry_of t n h)

pub entries_end : (t : List ℕ) (n : ℕ) → length t / 4 ≤ n → drop n (entries t) ≡ []
entries_end t n h = drop_of_length-le (entries t) {i = n} (rw (entry-count t) h)

module _ (t : List ℕ) (n k e : ℕ) (read : e ≡ entry t n) (h : n < length t / 4) where
  clause : entries_right n k (drop n (entries t))
      ≡ cond (eqb e 0) (entries_right (n + 1) k (drop (n + 1) (entries t)))
      (eqb e (1 + 8 * k) && (ltb n e && entries_right (n + 1) (k + 1) (drop (n + 1) (entries t))))
  unfolding entries_right
  clause = rw (entries-left t n h, ← read, add-one n, add-one k)

  pub leaf_passes : e ≡ 0 → entries_right (n + 1) k (drop (n + 1) (entries t)) ≡ entries_right n k (drop n (entries t))
  leaf_passes z = sym (clause ∙ rw (eq-eqb e 0 z))

  module _ (split : e ≡ 0 → ⊥) where
    pub wrong-entry : (e ≡ 1 + 8 * k → ⊥) → entries_right n k (drop n (entries t)) ≡ false
    wrong-entry w = clause ∙ rw (ne_eqb e 0 split, ne_eqb e (1 + 8 * k) w)

    pub early_entry : e ≡ 1 + 8 * k → e ≤ n → entries_right n k (drop n (entries t)) ≡ false
    early_entry w l = clause ∙ rw (ne_eqb e 0 split, eq-eqb e (1 + 8 * k) w, le-ltb n e l)

    pub split_passes : e ≡ 1 + 8 * k → n < e → entries_right (n + 1) (k + 1) (drop (n + 1) (entries t)) ≡ entries_right n k (drop n (entries t))
    split_passes w l = sym (clause ∙ rw (ne_eqb e 0 split, eq-eqb e (1 + 8 * k) w, lt-ltb n e l))

pub entries-counted : (t : List ℕ) (n k : ℕ) → length t / 4 ≤ n → entries_right n k (drop n (entries t)) ≡ eqb n (1 + 8 * k)
unfolding entries_right
entries-counted t n k h = rw (entries_end t n h)
