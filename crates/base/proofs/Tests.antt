-- Tests as facts.
use Prim.Native.Nat.{ℕ, ◌≤◌, ◌<◌}
use mathlib.Core.Path.{◌≡◌, refl, sym, subst}
use mathlib.Core.Logic.{◌⊎◌, inl, inr}
use mathlib.Core.Bool.{Bool, true, false, not, ◌&&◌, ◌||◌}
use native.Mathlib.Omega.{arith}
use lib.Dec.{T, eqb, eqb_refl, ltb, ltb→lt, nltb→le}
use Rattle.base.specs.Lists.{bit}

pub and→ : (a b : Bool) → T (a && b) → T a × T b
and→ true b t = (tt, t)
and→ false b t = absurd t

pub →and : (a b : Bool) → T a → T b → T (a && b)
→and true b s t = t
→and false b s t = s

pub or→ : (a b : Bool) → T (a || b) → T a ⊎ T b
or→ true b t = inl tt
or→ false b t = inr t

pub or_left : (a b : Bool) → T a → T (a || b)
or_left true b t = tt
or_left false b t = absurd t

pub or_right : (a b : Bool) → T b → T (a || b)
or_right true b t = tt
or_right false b t = t

pub or_or : (a b c : Bool) → (a || b) || c ≡ a || (b || c)
or_or true b c = refl
or_or false b c = refl

pub or_none : (a : Bool) → a || false ≡ a
or_none true = refl
or_none false = refl

pub true→ : (b : Bool) → T b → b ≡ true
true→ true t = refl
true→ false t = absurd t

pub false→ : (b : Bool) → T (not b) → b ≡ false
false→ true t = absurd t
false→ false t = refl

pub →true : {b : Bool} → b ≡ true → T b
→true e = subst T (sym e) tt

pub →false : {b : Bool} → b ≡ false → T (not b)
→false e = subst (λ b. T (not b)) (sym e) tt

-- a test that passes does not fail
pub not_both : {b : Bool} → T b → b ≡ false → ⊥
not_both t e = subst T e t

-- a test and its opposite
pub either : (b : Bool) → T b ⊎ (b ≡ false)
either true = inl tt
either false = inr refl

-- tests that give one another are equal
pub tests_equal : (a b : Bool) → (T a → T b) → (T b → T a) → a ≡ b
tests_equal true true f g = refl
tests_equal true false f g = absurd (f tt)
tests_equal false true f g = absurd (g tt)
tests_equal false false f g = refl

pub eq→eqb : (m n : ℕ) → m ≡ n → T (eqb m n)
eq→eqb m n p = subst (λ (k : ℕ). T (eqb m k)) p (eqb_refl m)

-- one number is below another, or not
pub below : (m n : ℕ) → (m < n) ⊎ (n ≤ m)
below m n = go (either (ltb m n))
  where
    go : T (ltb m n) ⊎ (ltb m n ≡ false) → (m < n) ⊎ (n ≤ m)
    go (inl t) = inl (ltb→lt m n t)
    go (inr e) = inr (nltb→le m n (→false e))

pub bit-true : (b : Bool) → T b → bit b ≡ 1
bit-true true t = refl
bit-true false t = absurd t

pub bit_le : (a b : Bool) → (T a → T b) → bit a ≤ bit b
bit_le true true f = omega arith
bit_le true false f = absurd (f tt)
bit_le false b f = omega arith
