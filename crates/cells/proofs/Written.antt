-- Numbers written over a list from a position on: one more of them, and what then stands where.
use Prim.Native.Nat.{ℕ, zero, suc, ◌+◌, ◌≤◌, ◌<◌}
use mathlib.Core.Path.{◌≡◌, sym, ap, ◌∙◌}
use mathlib.Core.List.{List, [], ◌∷◌, ◌++◌, map, append_assoc}
use native.Mathlib.Numerals.{add-one}
use native.Mathlib.Nat.{add-zero}
use native.Mathlib.Omega.{arith}
use lib.ListN.{length, get_or, take, drop, set, take-append-drop, length-append, length-drop, get_or-append}
use lib.Seq.{drop-cons, set_at, length-take-le, get_or-append-add, get_or-take}
use Rattle.base.specs.Lists.{count}
use Rattle.base.proofs.Below.{get_table, length-table}
use Rattle.cells.specs.Laid.{written_at}

module _ (f : ℕ → ℕ) where
  map_more : (i n : ℕ) → map f (count i (suc n)) ≡ map f (count i n) ++ (f (i + n) ∷ [])
  map_more i zero = ap (λ k. f k ∷ []) (sym (add-zero i))
  map_more i (suc n) = ap (λ l. f i ∷ l) (map_more (suc i) n ∙ ap (λ k. map f (count (suc i) n) ++ (f k ∷ [])) (let e : suc i + n
      ≡ i + suc n = omega arith in e))

  -- nothing written yet
  pub written_none : (at : ℕ) (l : List ℕ) → l ≡ written_at f at 0 l
  unfolding written_at
  written_none at l = sym (take-append-drop at l) ∙ ap (λ k. take at l ++ drop k l) (sym (add-zero at))

  -- one more
  written-more : (at i : ℕ) (l : List ℕ) → at + i < length l → set (written_at f at i l) (at + i) (f i) ≡ written_at f at (i + 1) l
  unfolding written_at
  written-more at i l h =
      let front : length (take at l ++ map f (count 0 i)) ≡ at + i = length-append (take at l) (map f (count 0 i))
      ∙ omega (arith, length-take-le at l (omega arith), length-table f i) in
      let grown : map f (count 0 (i + 1)) ≡ map f (count 0 i) ++ (f i ∷ []) = rw add-one (map_more 0 i
      ∙ ap (λ k. map f (count 0 i) ++ (f k ∷ [])) (let e : 0 + i ≡ i = omega arith in e)) in
      let next : suc (at + i) ≡ at + (i + 1) = omega arith in
      rw (
        drop-cons l (at + i) 0 h,
        grown,
        ← append_assoc (take at l) (map f (count 0 i)) _,
        set_at (take at l ++ map f (count 0 i)) _ _ (f i)
            (at + i) front,
        next,
      )
      (append_assoc (take at l) (map f (count 0 i)) _ ∙ ap (λ k. take at l ++ k) (sym (append_assoc (map f (count 0 i)) (f i ∷ []) _)))

  -- one turn of a loop that writes
  pub written-turn : (at i v : ℕ) (xs l : List ℕ) → xs ≡ written_at f at i l → v ≡ f i → at + i < length l → set xs (at + i) v ≡ written_at f at (i + 1) l
  written-turn at i v xs l e g h = rw (e, g) (written-more at i l h)

  pub written-length : (at n : ℕ) (l : List ℕ) → at + n ≤ length l → length (written_at f at n l) ≡ length l
  unfolding written_at
  written-length at n l h =
      rw (length-append, length-append, length-table f n, length-drop) (omega (arith, length-take-le at l (omega arith)))

  -- what was written, and what stands before it
  pub written-here : (at n i : ℕ) (l : List ℕ) → at + n ≤ length l → i < n → get_or (written_at f at n l) (at + i) 0 ≡ f i
  unfolding written_at
  written-here at n i l h k =
      let front : length (take at l) ≡ at = length-take-le at l (omega arith) in
      ap (λ m. get_or (take at l ++ (map f (count 0 n) ++ drop (at + n) l)) (m + i) 0) (sym front)
      ∙ get_or-append-add (take at l) (map f (count 0 n) ++ drop (at + n) l) i 0
      ∙ get_or-append (map f (count 0 n)) (drop (at + n) l) 0 i (omega (arith, length-table f n))
      ∙ get_table f 0 n i k

  pub written-before : (at n j : ℕ) (l : List ℕ) → at + n ≤ length l → j < at → get_or (written_at f at n l) j 0 ≡ get_or l j 0
  unfolding written_at
  written-before at n j l h k =
      get_or-append (take at l) (map f (count 0 n) ++ drop (at + n) l) 0 j (omega (arith, length-take-le at l (omega arith)))
      ∙ get_or-take at l j 0 k
