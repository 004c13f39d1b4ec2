-- No corner has a rank above the count of corners.
use Prim.Native.Nat.{ℕ, zero, suc, ◌≤◌}
use mathlib.Core.Path.{◌≡◌, refl}
use mathlib.Core.Logic.{inl, inr}
use native.Mathlib.Omega.{arith}
use lib.ListN.{get_or}
use Rattle.rules.specs.Ways.{Graph, rounds, fewest_steps}
use Rattle.graph.proofs.Walks.{walk_last}
use Rattle.graph.proofs.Rounds.{inside, Known, Enough, after, stays_new}
use Rattle.graph.proofs.Counting.{reached-few}

module _ (graph : Graph) (start k : ℕ) where
  round-few : (s : ℕ) → graph.size ≡ s → get_or (rounds graph start s) k 0 ≤ s
  unfolding rounds
  round-few zero e = go (get_or (rounds graph start 0) k 0) refl
    where
      go : (x : ℕ) → get_or (rounds graph start 0) k 0 ≡ x → get_or (rounds graph start 0) k 0 ≤ 0
      go zero f = omega arith
      go (suc m) f = let i = inside graph k (walk_last graph m start k ((after graph start 0).known.there k m f)) in absurd (omega arith)
  round-few (suc n) e = go (get_or (rounds graph start (suc n)) k 0) refl
    where
      known : Known graph start n (rounds graph start n)
      known = (after graph start n).known

      later : Known graph start (suc n) (rounds graph start (suc n))
      later = (after graph start (suc n)).known

      -- a corner that the rounds before have reached
      old : (x : ℕ) → get_or (rounds graph start n) k 0 ≡ x → 1 ≤ get_or (rounds graph start n) k 0 → get_or (rounds graph start (suc n)) k 0 ≤ suc n
      old zero f h = absurd (omega arith)
      old (suc m) f h = let a = stays_new known k m f in let b = known.top k in omega arith

      reached-before : (m : ℕ) → get_or (rounds graph start (suc n)) k 0 ≡ suc m → Enough graph start n (rounds graph start n) →
          1 ≤ get_or (rounds graph start n) k 0
      reached-before m f (inl c) = c k m (later.there k m f)
      reached-before m f (inr h) = pick (get_or (rounds graph start n) k 0) refl
        where
          pick : (x : ℕ) → get_or (rounds graph start n) k 0 ≡ x → 1 ≤ get_or (rounds graph start n) k 0
          pick (suc x) g = omega arith
          pick zero g =
              let i = inside graph k (walk_last graph m start k (later.there k m f)) in
              let a = reached-few (λ (j : ℕ). get_or (rounds graph start n) j 0) graph.size k i g in
              absurd (omega arith)

      go : (x : ℕ) → get_or (rounds graph start (suc n)) k 0 ≡ x → get_or (rounds graph start (suc n)) k 0 ≤ suc n
      go zero f = omega arith
      go (suc m) f = old (get_or (rounds graph start n) k 0) refl (reached-before m f (after graph start n).enough)

pub steps-few : (graph : Graph) (start k : ℕ) → get_or (fewest_steps graph start) k 0 ≤ graph.size
unfolding fewest_steps
steps-few graph start k = round-few graph start k graph.size refl
