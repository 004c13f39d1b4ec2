-- Laws of slices that are filled from the front.
use Prim.Native.Nat.{ℕ, zero, suc, ◌≤◌, ◌<◌}
use mathlib.Core.Path.{◌≡◌, refl, ap, ◌∙◌}
use mathlib.Core.List.{List, [], ◌∷◌, ◌++◌}
use native.Mathlib.Omega.{arith}
use lib.ListN.{length, get_or, set, take, drop, replicate, length-append, length-drop, length-replicate}

-- the length stays
pub filled_length : (k v : ℕ) (d l : List ℕ) → k ≤ length d → l ≡ replicate k v ++ drop k d → length l ≡ length d
filled_length k v d l h e = ap length e ∙ simp (length-append, length-drop, length-replicate) (omega arith)

-- one element more is copied
pub copy_more : (from to : List ℕ) (i : ℕ) → i < length from → i < length to
    → set (take i from ++ drop i to) i (get_or from i 0) ≡ take (suc i) from ++ drop (suc i) to
copy_more [] to i h k = absurd (omega arith)
copy_more (x ∷ from) [] i h k = absurd (omega arith)
copy_more (x ∷ from) (y ∷ to) zero h k = refl
copy_more (x ∷ from) (y ∷ to) (suc i) h k = ap (λ (l : List ℕ). x ∷ l) (copy_more from to i (omega arith) (omega arith))

-- in a list of zeros there is nothing else
pub zeros : (n k : ℕ) → ◌≡◌ {A = ℕ} (get_or (replicate n 0) k 0) 0
zeros zero k = refl
zeros (suc n) zero = refl
zeros (suc n) (suc k) = zeros n k
