-- How often a number stands in a list of numbers.
--     equal                          1 for equal numbers, else 0
--     take_out, sum-sub, sum_perm    a list that has each number at most (just) as often has at most (just) the other's sums
--     any_has                        a sum that is not 0, of which only elements that pass a test have a share
-- Assumes nothing.
use mathlib.Core.Path.{◌≡◌, refl, sym, ap}
use mathlib.Core.Bool.{Bool, true, false, ◌||◌}
use mathlib.Core.List.{List, [], ◌∷◌}
use Prim.Native.Nat.{ℕ, zero, suc, ◌+◌, ◌≤◌}
use native.Mathlib.Nat.{le_antisymm}
use native.Mathlib.Omega.{arith}
use native.Mathlib.Decide.{ℕ_discrete}
use lib.Dec.{eqb, eqb→eq, T}
use lib.ListN.{length}
use borrow.Author.Tests.{eq-eqb, ne_eqb}
use Rattle.base.specs.Lists.{sum, any, count, bit, often}
use Rattle.base.proofs.Lists.{In}
use Rattle.base.proofs.Sums.{in_sum, times_in}

-- 1 for equal numbers, else 0
abbrev pub equal : ℕ → ℕ → ℕ
equal a b = bit (eqb a b)

pub equal_eq : (a b : ℕ) → a ≡ b → equal a b ≡ 1
equal_eq a b h = ap bit (eq-eqb a b h)

pub equal_ne : (a b : ℕ) → (a ≡ b → ⊥) → equal a b ≡ 0
equal_ne a b h = ap bit (ne_eqb a b h)

pub equal_le : (a b : ℕ) → equal a b ≤ 1
equal_le a b = go (eqb a b)
  where
    go : (u : Bool) → bit u ≤ 1
    go true = omega arith
    go false = omega arith

pub in_often : (x : ℕ) (l : List ℕ) → In x l → 1 ≤ often x l
in_often x l i = omega (arith, in_sum (equal x) l x i, equal_eq x x refl)

pub often_in : (x : ℕ) (l : List ℕ) → 1 ≤ often x l → In x l
often_in = times_in eqb eqb→eq

-- a number that a list has can be taken out of it
pub take_out : (x : ℕ) (b : List ℕ) → 1 ≤ often x b → (r : List ℕ) × ((f : ℕ → ℕ) → sum f b ≡ f x + sum f r)
take_out x [] h = absurd (omega arith)
take_out x (y ∷ b) h = go (take_out x b) (ℕ_discrete x y)
  where
    go : (1 ≤ often x b → (r : List ℕ) × ((f : ℕ → ℕ) → sum f b ≡ f x + sum f r)) → Dec (x ≡ y)
        → (r : List ℕ) × ((f : ℕ → ℕ) → f y + sum f b ≡ f x + sum f r)
    go ih (yes e) = (b, λ f. ap (λ (z : ℕ). f z + sum f b) (sym e))
    go ih (no d) = let i = ih (omega (arith, equal_ne x y d)) in (y ∷ i.0, λ f. omega (arith, i.1 f))

pub sum-sub : (f : ℕ → ℕ) (a b : List ℕ) → ((x : ℕ) → often x a ≤ often x b) → sum f a ≤ sum f b
sum-sub f [] b h = omega arith
sum-sub f (x ∷ a) b h =
    let t = take_out x b (omega (arith, h x, equal_eq x x refl)) in
    omega (arith, t.1 f, sum-sub f a t.0 (λ y. omega (arith, h y, t.1 (equal y))))

pub sum_perm : (f : ℕ → ℕ) (a b : List ℕ) → ((x : ℕ) → often x a ≡ often x b) → sum f a ≡ sum f b
sum_perm f a b h = le_antisymm (sum-sub f a b (λ x. omega (arith, h x))) (sum-sub f b a (λ x. omega (arith, h x)))

pub length-count : (n i : ℕ) → length (count i n) ≡ n
length-count zero i = refl
length-count (suc n) i = ap suc (length-count n (suc i))

-- where only elements that pass the test have a share of a sum, and it is not 0, some element passes
pub any_has : {A : Type 0} (t : A → Bool) (f : A → ℕ) (l : List A) → ((x : A) → t x ≡ false → f x ≡ 0) → 1 ≤ sum f l → T (any t l)
any_has t f [] h i = absurd (omega arith)
any_has {A} t f (x ∷ l) h i = go (t x) refl (any_has t f l h)
  where
    go : (u : Bool) → t x ≡ u → (1 ≤ sum f l → T (any t l)) → T (u || any t l)
    go true e r = tt
    go false e r = r (omega (arith, h x e))
