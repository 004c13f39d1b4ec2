-- Marks, one record further; and what is marked in the end.
use Prim.Native.Nat.{ℕ, zero, suc, ◌+◌, ◌*◌, ◌^◌, ◌≤◌, ◌<◌}
use mathlib.Core.Path.{◌≡◌, refl, sym, ap, ◌∙◌}
use mathlib.Core.Bool.{Bool, true, false, ◌||◌, cond}
use mathlib.Core.List.{List, [], ◌∷◌, ◌++◌}
use native.Mathlib.Decide.{ℕ_discrete}
use native.Mathlib.Omega.{arith}
use lib.Dec.{eqb, ltb}
use lib.ListN.{length, get_or, set, take, drop, drop_of_length-le, length-set, length-drop}
use lib.Seq.{get_or-set_same, get_or-set_other, get_or-take, get_or-drop, length-take-le, take-add, drop-drop, ext_get_or}
use borrow.Author.Tests.{lt-ltb, le-ltb, eq-eqb, ne_eqb}
use Rattle.base.specs.Lists.{all, any, collect, count, count as up_to}
use Rattle.base.proofs.Lists.{length-count, get_count}
use Rattle.base.proofs.Below.{rest, all_fails, all_passes, get_table}
use Rattle.records.specs.Keys.{record_at}
use Rattle.cells.specs.Laid.{octant_key, key_in, level_in}
use Rattle.octants.specs.Octants.{LookedUp}
use Rattle.checks.specs.Marks.{corner_numbers, all_numbers, marked}

pub marked-none : (marks : List ℕ) → marked [] marks ≡ marks
unfolding marked
marked-none marks = refl

pub marked_append : (ks js marks : List ℕ) → marked (ks ++ js) marks ≡ marked js (marked ks marks)
unfolding marked
marked_append [] js marks = refl
marked_append (k ∷ ks) js marks = marked_append ks js (set marks k 1)

pub marked-length : (ks marks : List ℕ) → length (marked ks marks) ≡ length marks
unfolding marked
marked-length [] marks = refl
marked-length (k ∷ ks) marks = marked-length ks (set marks k 1) ∙ length-set marks k 1

-- the mark at k: 1 if k is one of the positions, else as it was
pub mark_at : (k : ℕ) (ks marks : List ℕ) → k < length marks → get_or (marked ks marks) k 0 ≡ cond (any (eqb k) ks) 1 (get_or marks k 0)
unfolding marked
mark_at k [] marks h = refl
mark_at k (j ∷ ks) marks h = mark_at k ks (set marks j 1) (omega (arith, length-set marks j 1)) ∙ go (ℕ_discrete k j) (any (eqb k) ks)
  where
    go : Dec (k ≡ j) → (b : Bool) → cond b 1 (get_or (set marks j 1) k 0) ≡ cond (eqb k j || b) 1 (get_or marks k 0)
    go (yes e) true = rw (eq-eqb k j e)
    go (yes e) false = rw (eq-eqb k j e, e) (get_or-set_same marks j 1 0 (omega arith))
    go (no e) true = rw (ne_eqb k j e)
    go (no e) false = rw (ne_eqb k j e) (get_or-set_other marks j k 1 0 e)

-- a pass over a list of positions, one further
module _ (l : List ℕ) (i n : ℕ) (h : i < length l) where
  pub number_missing : n ≤ get_or l i 0 → all (λ k. ltb k n) (drop i l) ≡ false
  number_missing g = all_fails (λ k. ltb k n) l i 0 h (le-ltb (get_or l i 0) n g)

  pub number-there : get_or l i 0 < n → all (λ k. ltb k n) (drop (i + 1) l) ≡ all (λ k. ltb k n) (drop i l)
  number-there g = all_passes (λ k. ltb k n) l i 0 h (lt-ltb (get_or l i 0) n g)

  pub number-marked : (marks : List ℕ) → marked (drop (i + 1) l) (set marks (get_or l i 0) 1) ≡ marked (drop i l) marks
  unfolding marked
  number-marked marks = rw (rest l i 0 h)

-- ---- the table of cells' corners as one list

module _ (tk table t : List ℕ) (cells : ℕ) (o : LookedUp tk table t cells) (few : cells ≤ 2049) where
  -- the corner records of one cell
  abbrev numbers_at : ℕ → List ℕ
  numbers_at j = corner_numbers tk (key_in table j) (level_in table j)

  -- they are the table's eight numbers for it
  cell-numbers : (n : ℕ) → n < cells → take 8 (drop (8 * n) t) ≡ numbers_at n
  unfolding corner_numbers
  cell-numbers n h = ext_get_or 0 (take 8 (drop (8 * n) t)) (numbers_at n) eight (λ i g. at i (omega (arith, eight)))
    where
      eight : length (take 8 (drop (8 * n) t)) ≡ 8
      eight = length-take-le 8 (drop (8 * n) t) (omega (arith, length-drop (8 * n) t, o.room))

      at : (i : ℕ) → i < 8 → get_or (take 8 (drop (8 * n) t)) i 0 ≡ get_or (numbers_at n) i 0
      at i g =
          get_or-take 8 (drop (8 * n) t) i 0 g ∙ get_or-drop (8 * n) t i 0 ∙ o.number n i h g
          ∙ sym (get_table (λ i. record_at tk (key_in table n + octant_key i (2 ^ level_in table n))) 0 8 i g)

  -- those of k cells from cell n on
  from : (k n : ℕ) → n + k ≤ cells → take (8 * k) (drop (8 * n) t) ≡ collect numbers_at (count n k)
  from zero n h = refl
  from (suc k) n h =
      ap (λ m. take m (drop (8 * n) t)) (let e : 8 * suc k ≡ 8 + 8 * k = omega arith in e)
      ∙ take-add 8 (8 * k) (drop (8 * n) t)
      ∙ (λ j. cell-numbers n (omega arith) j ++ take (8 * k) ((drop-drop 8 (8 * n) t ∙ ap (λ m. drop m t) (let e : 8 * n + 8 ≡ 8 * suc n = omega arith in e)) j))
      ∙ ap (λ r. numbers_at n ++ r) (from k (suc n) (omega arith))

  pub table_is : take (8 * cells) t ≡ all_numbers tk table cells
  unfolding all_numbers
  table_is = from cells 0 (omega arith)

-- ---- every record

module _ (marks : List ℕ) (count : ℕ) where
  -- the records from k on are marked
  abbrev pub marked_from : ℕ → Bool
  marked_from k = all (λ k. eqb (get_or marks k 0) 1) (drop k (up_to 0 count))

  at_number : (k : ℕ) → k < count → get_or (up_to 0 count) k 0 ≡ k
  at_number k h = get_count count 0 k 0 h ∙ (let e : 0 + k ≡ k = omega arith in e)

  pub unmarked_here : (k : ℕ) → k < count → (get_or marks k 0 ≡ 1 → ⊥) → marked_from k ≡ false
  unmarked_here k h e =
      all_fails (λ k. eqb (get_or marks k 0) 1) (up_to 0 count) k 0 (omega (arith, length-count count 0))
      (rw (at_number k h) (ne_eqb (get_or marks k 0) 1 e))

  pub marked-here : (k : ℕ) → k < count → get_or marks k 0 ≡ 1 → marked_from (k + 1) ≡ marked_from k
  marked-here k h e =
      all_passes (λ k. eqb (get_or marks k 0) 1) (up_to 0 count) k 0 (omega (arith, length-count count 0))
      (rw (at_number k h) (eq-eqb (get_or marks k 0) 1 e))

  pub marked_end : (k : ℕ) → count ≤ k → marked_from k ≡ true
  marked_end k h = ap (all (λ k. eqb (get_or marks k 0) 1)) (drop_of_length-le (up_to 0 count) {i = k} (omega (arith, length-count count 0)))
