-- Triangles written piece by piece, each into the part of a slice not yet filled, as far as the slice goes.
-- Assumes nothing.
use Prim.Native.Nat.{ℕ, zero, suc, ◌-◌, min}
use native.Mathlib.Omega.{arith}
use mathlib.Core.Path.{◌≡◌, refl, sym, ap, ◌∙◌}
use mathlib.Core.List.{List, [], ◌∷◌, ◌++◌, append-nil}
use lib.ListN.{length, take, drop, length-drop}
use lib.Seq.{take_all, take-nil, drop-nil, drop-length}
use Rattle.loops.specs.Loops.{into}

pub into_nil : (slice : List ℕ) → into [] slice ≡ slice
into_nil slice = ap (λ (l : List ℕ). l ++ slice) (take-nil (length slice))

pub into-length : (new slice : List ℕ) → length (into new slice) ≡ length slice
into-length [] slice = ap length (into_nil slice)
into-length (x ∷ new) [] = refl
into-length (x ∷ new) (y ∷ slice) = ap suc (into-length new slice)

-- a second piece goes into what the first has left of the slice
into_append : (a b slice : List ℕ) (at : ℕ) → at ≡ min (length a) (length slice)
    → into (a ++ b) slice ≡ take at (into a slice) ++ into b (drop at (into a slice))
into_append [] b slice zero h = ap (into b) (sym (into_nil slice))
into_append [] b slice (suc at) h = absurd (omega arith)
into_append (x ∷ a) b [] zero h = sym (drop-nil (length b))
into_append (x ∷ a) b [] (suc at) h = absurd (omega arith)
into_append (x ∷ a) b (y ∷ slice) zero h = absurd (omega arith)
into_append (x ∷ a) b (y ∷ slice) (suc at) h = ap (λ (l : List ℕ). x ∷ l) (into_append a b slice at (omega arith))

-- the same of the slice at hand, of which the part from `at` on was lent and has come back
pub into_more : (a b slice xs ys : List ℕ) (at : ℕ) → xs ≡ into a slice → at ≡ min (length a) (length xs) → ys ≡ into b (take (length xs - at) (drop at xs))
    → take at xs ++ (ys ++ drop (length xs - at) (drop at xs)) ≡ into (a ++ b) slice
into_more a b slice xs ys at e h g =
    let size : length (drop at xs) ≡ length xs - at = length-drop at xs in
    let whole : take (length xs - at) (drop at xs) ≡ drop at xs = take_all (length xs - at) (drop at xs) (omega arith) in
    let past : drop (length xs - at) (drop at xs) ≡ [] = ap (λ (k : ℕ). drop k (drop at xs)) (sym size) ∙ drop-length (drop at xs) in
    let rest : ys ++ drop (length xs - at) (drop at xs) ≡ into b (drop at xs) =
    ap (λ (l : List ℕ). ys ++ l) past ∙ append-nil ys ∙ g ∙ ap (into b) whole in
    let same_length : length xs ≡ length slice = ap length e ∙ into-length a slice in
    ap (λ (l : List ℕ). take at xs ++ l) rest
    ∙ ap (λ (l : List ℕ). take at l ++ into b (drop at l)) e
    ∙ sym (into_append a b slice at (omega arith))
