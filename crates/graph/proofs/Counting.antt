-- How many corners have a rank, as a search goes on: f k is the rank of corner k, or 0.
use Prim.Native.Nat.{ℕ, zero, suc, ◌+◌, ◌≤◌, ◌<◌}
use mathlib.Core.Path.{◌≡◌, refl, sym, ap, subst}
use mathlib.Core.Logic.{◌⊎◌, inl, inr}
use mathlib.Core.Bool.{Bool, true, false, not, cond}
use mathlib.Core.List.{List, [], ◌∷◌}
use native.Mathlib.Omega.{arith}
use lib.Dec.{eqb}
use borrow.Author.Tests.{eq-eqb, ne_eqb}
use Rattle.base.specs.Lists.{sum, count, bit}
use Rattle.base.proofs.Tests.{below}
use Rattle.base.proofs.Lists.{In, in_count, length-count}
use Rattle.base.proofs.Sums.{sum-le, sum_one, sum_same}

-- ---- sums

-- one that is greater makes the sum greater
pub sum_more : (f g : ℕ → ℕ) (xs : List ℕ) → ((x : ℕ) → f x ≤ g x) → (x : ℕ) → In x xs → f x < g x → sum f xs < sum g xs
sum_more f g [] h x i l = absurd i
sum_more f g (y ∷ ys) h x (inl e) l =
    let a = sum-le f g ys (λ z i. h z) in
    let b : f y < g y = subst (λ z. f z < g z) e l in
    omega arith
sum_more f g (y ∷ ys) h x (inr i) l = let a = sum_more f g ys h x i l in let b = h y in omega arith

-- one that is greater by one
sum-once : (f g : ℕ → ℕ) (n a j : ℕ) → a ≤ j → j < a + n → ((k : ℕ) → (k ≡ j → ⊥) → f k ≡ g k) → g j ≡ f j + 1 →
    sum g (count a n) ≡ sum f (count a n) + 1
sum-once f g zero a j h l e d = absurd (omega arith)
sum-once f g (suc n) a j h l e d = go (λ b. sum-once f g n (suc a) j b (omega arith) e d) (below a j)
  where
    go : (a < j → sum g (count (suc a) n) ≡ sum f (count (suc a) n) + 1) → (a < j) ⊎ (j ≤ a) →
        g a + sum g (count (suc a) n) ≡ f a + sum f (count (suc a) n) + 1
    go rest (inl b) = let r = rest b in let c = e a (λ z. omega arith) in omega arith
    go rest (inr b) =
        let z : a ≡ j = omega arith in
        let c : g a ≡ f a + 1 = subst (λ (k : ℕ). g k ≡ f k + 1) (sym z) d in
        let r = sum_same f g (count (suc a) n) (λ k m. e k (λ y. let v = (in_count n (suc a) k m).0 in omega arith)) in
        omega arith

-- ---- corners with a rank

-- how many corners have a rank
abbrev pub reached : (ℕ → ℕ) → ℕ → ℕ
reached f n = sum (λ k. bit (not (eqb (f k) 0))) (count 0 n)

pub mark : (x : ℕ) → 1 ≤ x → bit (not (eqb x 0)) ≡ 1
mark x h = ap (λ b. bit (not b)) (ne_eqb x 0 (λ e. omega arith))

pub no_mark : (x : ℕ) → x ≡ 0 → bit (not (eqb x 0)) ≡ 0
no_mark x h = ap (λ b. bit (not b)) (eq-eqb x 0 h)

-- one more corner has a rank
pub reached-more : (f g : ℕ → ℕ) (n j : ℕ) → j < n → f j ≡ 0 → 1 ≤ g j → ((k : ℕ) → (k ≡ j → ⊥) → g k ≡ f k) → reached g n ≡ reached f n + 1
reached-more f g n j h e d o =
    sum-once (λ k. bit (not (eqb (f k) 0))) (λ k. bit (not (eqb (g k) 0))) n 0 j (omega arith) (omega arith)
    (λ k u. ap (λ (x : ℕ). bit (not (eqb x 0))) (sym (o k u))) (let a = no_mark (f j) e in let b = mark (g j) d in omega arith)

pub bit-small : (b : Bool) → bit b ≤ 1
bit-small true = omega arith
bit-small false = omega arith

-- no more than there are
pub reached-le : (f : ℕ → ℕ) (n : ℕ) → reached f n ≤ n
reached-le f n =
    let b = sum-le (λ k. bit (not (eqb (f k) 0))) (λ k. 1) (count 0 n) (λ k i. bit-small (not (eqb (f k) 0))) in
    let c = sum_one (count 0 n) in
    let d = length-count n 0 in
    omega arith

-- while a corner has no rank, not all have one
pub reached-few : (f : ℕ → ℕ) (n j : ℕ) → j < n → f j ≡ 0 → reached f n < n
reached-few f n j h e =
    let a = reached-more f g n j h e one-there others in
    let b = reached-le g n in
    omega arith
  where
    g : ℕ → ℕ
    g k = cond (eqb k j) 1 (f k)

    one-there : 1 ≤ cond (eqb j j) 1 (f j)
    one-there = rw (eq-eqb j j refl) (omega arith)

    others : (k : ℕ) → (k ≡ j → ⊥) → cond (eqb k j) 1 (f k) ≡ f k
    others k u = rw (ne_eqb k j u)
