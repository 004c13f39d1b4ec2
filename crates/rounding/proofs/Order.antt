-- What `lt`, `le` and `eq` say of finite floats of any signs, as one comparison of natural numbers: a float is read as (hi - lo) / den.
-- Assumes nothing.
use Prim.Native.Nat.{ℕ, ◌+◌, ◌*◌, ◌≤◌, ◌<◌}
use mathlib.Core.Path.{◌≡◌, refl, sym, ap₂, ◌∙◌, subst}
use mathlib.Core.Logic.{inl, inr, ◌⊎◌}
use mathlib.Core.Bool.{Bool, true, false, not, ◌&&◌, ◌||◌}
use native.Mathlib.Nat.{le_of_eq, eq-or-lt_of_le, mul-le-mul_right, mul-lt-mul_of_pos_right, lt_of_mul-lt-mul_right, le_of_mul-le-mul_right}
use native.Mathlib.Omega.{arith}
use lib.IntN.{pos}
use lib.Dec.{T, leb, ltb, eqb, leb→le, le→leb, ltb→lt, lt→ltb, eqb→eq}
use lib.Ieee.{Float, nan, inf, fin, Format, up, down, lt, eq, le, of_int}
use lib.Ieee.Fits.{and_i, and_l, and_r, eq→eqb}
use lib.Ieee.Scale.{finite}
use lib.Ieee.Positive.{den, den_pos}
use borrow.Author.Tests.{leb-true, ltb-true, ltb-false, le-ltb}

-- a finite float is (hi - lo) / den, and one of hi and lo is 0
abbrev pub hi : Float → ℕ
hi nan = 0
hi (inf s) = 0
hi (fin true m e) = 0
hi (fin false m e) = m * up e

abbrev pub lo : Float → ℕ
lo nan = 0
lo (inf s) = 0
lo (fin true m e) = m * up e
lo (fin false m e) = 0

-- x ≤ y, x < y and x = y, with the denominators multiplied out
abbrev pub Le : Float → Float → Type 0
Le x y = hi x * den y + lo y * den x ≤ hi y * den x + lo x * den y

abbrev pub Lt : Float → Float → Type 0
Lt x y = hi x * den y + lo y * den x < hi y * den x + lo x * den y

abbrev pub Eq : Float → Float → Type 0
Eq x y = hi x * den y + lo y * den x ≡ hi y * den x + lo x * den y

-- r is a number from low to high, ends included: no NaN and no infinity, since every comparison with a NaN is false
abbrev pub Between : Format → ℕ → ℕ → Float → Type 0
Between f low high r = T (le (of_int f (pos low)) r) × T (le r (of_int f (pos high)))

-- two tests that say the same are equal
same : (a b : Bool) → (T a → T b) → (T b → T a) → a ≡ b
same true true p q = refl
same true false p q = absurd (p tt)
same false true p q = absurd (q tt)
same false false p q = refl

ltb-same : (a b c d : ℕ) → (a < b → c < d) → (c < d → a < b) → ltb a b ≡ ltb c d
ltb-same a b c d p q = same (ltb a b) (ltb c d) (λ t. lt→ltb c d (p (ltb→lt a b t))) (λ t. lt→ltb a b (q (ltb→lt c d t)))

eqb_of : (a b : ℕ) → a ≡ b → T (eqb a b)
eqb_of a b h = eq→eqb h

-- each comparison is the test of its numbers
lt-is : (x y : Float) → T (finite x) → T (finite y)
    → lt x y ≡ ltb (hi x * den y + lo y * den x) (hi y * den x + lo x * den y)
unfolding lt
lt-is (fin false m e) (fin false n d) p q =
    let a = m * up e * down d in
    let b = n * up d * down e in
    ltb-same a b (a + 0 * down e) (b + 0 * down d) (λ h. omega arith) (λ h. omega arith)
lt-is (fin false m e) (fin true n d) p q =
    let a = m * up e * down d in
    let b = n * up d * down e in
    ltb-same 0 0 (a + b) (0 * down e + 0 * down d) (λ h. omega arith) (λ h. omega arith)
lt-is (fin true m e) (fin false n d) p q =
    let a = m * up e * down d in
    let b = n * up d * down e in
    ltb-same 0 (a + b) (0 * down d + 0 * down e) (b + a) (λ h. omega arith) (λ h. omega arith)
lt-is (fin true m e) (fin true n d) p q =
    let a = m * up e * down d in
    let b = n * up d * down e in
    ltb-same b a (0 * down d + b) (0 * down e + a) (λ h. omega arith) (λ h. omega arith)
lt-is nan y p q = elim p [ ]
lt-is (inf _) y p q = elim p [ ]
lt-is (fin false m e) nan p q = elim q [ ]
lt-is (fin false m e) (inf _) p q = elim q [ ]
lt-is (fin true m e) nan p q = elim q [ ]
lt-is (fin true m e) (inf _) p q = elim q [ ]

-- a test z that says a ≡ b
eqb_is : (z : Bool) (a b : ℕ) → (T z → a ≡ b) → (a ≡ b → T z) → z ≡ eqb a b
eqb_is z a b p q = same z (eqb a b) (λ t. eq→eqb (p t)) (λ t. q (eqb→eq a b t))

-- zeros of unlike signs
zeros : (a b : ℕ) → T (eqb a b && eqb a 0) → a + b ≡ 0
zeros a b t =
    let h : a ≡ b = eqb→eq a b (and_l (eqb a b) (eqb a 0) t) in
    let k : a ≡ 0 = eqb→eq a 0 (and_r (eqb a b) (eqb a 0) t) in
    omega arith

eq_is : (x y : Float) → T (finite x) → T (finite y)
    → eq x y ≡ eqb (hi x * den y + lo y * den x) (hi y * den x + lo x * den y)
unfolding eq
eq_is (fin false m e) (fin false n d) p q =
    let a = m * up e * down d in
    let b = n * up d * down e in
    eqb_is (eqb a b && true) (a + 0 * down e) (b + 0 * down d)
    (λ t. omega (arith, eqb→eq a b (and_l (eqb a b) true t))) (λ h. and_i (eqb a b) true (omega (arith, eqb_of)) tt)
eq_is (fin false m e) (fin true n d) p q =
    let a = m * up e * down d in
    let b = n * up d * down e in
    eqb_is (eqb a b && eqb a 0) (a + b) (0 * down e + 0 * down d)
    (λ t. omega (arith, zeros a b t)) (λ h. and_i (eqb a b) (eqb a 0) (omega (arith, eqb_of)) (omega (arith, eqb_of)))
eq_is (fin true m e) (fin false n d) p q =
    let a = m * up e * down d in
    let b = n * up d * down e in
    eqb_is (eqb a b && eqb a 0) (0 * down d + 0 * down e) (b + a)
    (λ t. omega (arith, zeros a b t)) (λ h. and_i (eqb a b) (eqb a 0) (omega (arith, eqb_of)) (omega (arith, eqb_of)))
eq_is (fin true m e) (fin true n d) p q =
    let a = m * up e * down d in
    let b = n * up d * down e in
    eqb_is (eqb a b && true) (0 * down d + b) (0 * down e + a)
    (λ t. omega (arith, eqb→eq a b (and_l (eqb a b) true t))) (λ h. and_i (eqb a b) true (omega (arith, eqb_of)) tt)
eq_is nan y p q = elim p [ ]
eq_is (inf _) y p q = elim p [ ]
eq_is (fin false m e) nan p q = elim q [ ]
eq_is (fin false m e) (inf _) p q = elim q [ ]
eq_is (fin true m e) nan p q = elim q [ ]
eq_is (fin true m e) (inf _) p q = elim q [ ]

le_is : (x y : Float) → T (finite x) → T (finite y)
    → le x y ≡ leb (hi x * den y + lo y * den x) (hi y * den x + lo x * den y)
unfolding le
le_is x y p q = ap₂ (λ a b. a || b) (lt-is x y p q) (eq_is x y p q) ∙ lt_or_eq (hi x * den y + lo y * den x) (hi y * den x + lo x * den y)
  where
    or_is : (x y w : Bool) → (T x → T w) → (T y → T w) → (T w → T x ⊎ T y) → (x || y) ≡ w
    or_is true y w p q r = same true w p (λ t. tt)
    or_is false y w p q r = same y w q (λ t. right (r t))
      where
        right : ⊥ ⊎ T y → T y
        right (inr t) = t
        right (inl x6) = elim x6 [ ]

    lt_or_eq : (a b : ℕ) → (ltb a b || eqb a b) ≡ leb a b
    lt_or_eq a b =
        or_is (ltb a b) (eqb a b) (leb a b) (λ t. omega (arith, ltb→lt, le→leb)) (λ t. le→leb a b (le_of_eq (eqb→eq a b t)))
        (λ t. elim (eq-or-lt_of_le (leb→le a b t)) [ inl e ↦ inr (eq→eqb e) | inr h ↦ inl (lt→ltb a b h) ])

module _ (x y : Float) (p : T (finite x)) (q : T (finite y)) where
  pub le→Le : le x y ≡ true → Le x y
  le→Le e = leb-true _ _ (sym (le_is x y p q) ∙ e)

  pub lt→Lt : lt x y ≡ true → Lt x y
  lt→Lt e = ltb-true _ _ (sym (lt-is x y p q) ∙ e)

  pub Lt→lt : Lt x y → T (lt x y)
  Lt→lt h = subst T (sym (lt-is x y p q)) (lt→ltb _ _ h)

  pub not_lt→Le : lt x y ≡ false → Le y x
  not_lt→Le e = ltb-false _ _ (sym (lt-is x y p q) ∙ e)

  pub Le→not_lt : Le x y → lt y x ≡ false
  Le→not_lt h = lt-is y x q p ∙ le-ltb _ _ h

  pub eq→Eq : T (eq x y) → Eq x y
  eq→Eq t = eqb→eq _ _ (subst T (eq_is x y p q) t)

  pub Eq→eq : Eq x y → T (eq x y)
  Eq→eq h = subst T (sym (eq_is x y p q)) (eq→eqb h)

  pub Le→le : Le x y → T (le x y)
  Le→le h = subst T (sym (le_is x y p q)) (le→leb _ _ h)

pub le-lt : (x y z : Float) → Le x y → Lt y z → Lt x z
le-lt x y z h k = lt_of_mul-lt-mul_right (den y) (omega (arith, mul-le-mul_right (den z) h, mul-lt-mul_of_pos_right k (den_pos x)))

pub le-le : (x y z : Float) → Le x y → Le y z → Le x z
le-le x y z h k = le_of_mul-le-mul_right {k = den y} (omega (arith, mul-le-mul_right (den z) h, mul-le-mul_right (den x) k)) (den_pos y)

-- nothing is below what is not a number, and every finite float below one infinity
lt-nan : (x : Float) → lt x nan ≡ false
unfolding lt
lt-nan nan = refl
lt-nan (inf s) = refl
lt-nan (fin s m e) = refl

lt-inf : (x : Float) (t : Bool) → T (finite x) → lt x (inf t) ≡ not t
unfolding lt
lt-inf nan t h = absurd h
lt-inf (inf s) t h = absurd h
lt-inf (fin s m e) t h = refl

-- what exceeds x exceeds y, if x is not below y: it may be an infinity, or not a number
pub exceeds : (x y z : Float) → T (finite x) → T (finite y) → lt x y ≡ false → T (lt x z) → T (lt y z)
exceeds x y nan p q h t = absurd (subst T (lt-nan x) t)
exceeds x y (inf s) p q h t = subst T (lt-inf x s p ∙ sym (lt-inf y s q)) t
exceeds x y (fin s m e) p q h t =
    Lt→lt y (fin s m e) q tt (le-lt y x (fin s m e) (not_lt→Le x y p q h) (ltb-true _ _ (sym (lt-is x (fin s m e) p tt) ∙ true_of (lt x (fin s m e)) t)))
  where
    true_of : (b : Bool) → T b → b ≡ true
    true_of true t = refl
    true_of false t = absurd t

-- what lies between two finite floats is finite
pub finite-between : (x v y : Float) → T (finite x) → T (finite y) → T (le x v) → T (le v y) → T (finite v)
unfolding le
finite-between (fin s m e) nan (fin u n d) p q a b = absurd a
finite-between (fin s m e) (inf true) (fin u n d) p q a b = absurd a
finite-between (fin s m e) (inf false) (fin u n d) p q a b = absurd b
finite-between (fin s m e) (fin t k c) (fin u n d) p q a b = tt
finite-between nan v y p q a b = elim p [ ]
finite-between (inf _) v y p q a b = elim p [ ]
finite-between (fin s m e) nan nan p q a b = elim q [ ]
finite-between (fin s m e) nan (inf _) p q a b = elim q [ ]
finite-between (fin s m e) (inf false) nan p q a b = elim q [ ]
finite-between (fin s m e) (inf false) (inf _) p q a b = elim q [ ]
finite-between (fin s m e) (inf true) nan p q a b = elim q [ ]
finite-between (fin s m e) (inf true) (inf _) p q a b = elim q [ ]
finite-between (fin s m e) (fin t k c) nan p q a b = elim q [ ]
finite-between (fin s m e) (fin t k c) (inf _) p q a b = elim q [ ]
