-- Whole numbers with sign, each as a difference of two natural numbers: so equations and bounds are those of natural numbers.
--     Is z a b                                   z is a − b
--     is_same                                    equal differences are one number
--     is_difference, is-add, is_minus, is_times  what operations make of differences
--     size-most, size-add, size_minus, size_times, fits, back   how far from zero a number is; whether 64 bits hold it
-- Assumes nothing.
use Rattle.std.proofs.Common.{◌≡◌, ℕ, zero, suc, ◌+◌, ◌-◌, ◌*◌, ◌^◌, ◌<◌, ◌≤◌, Bool, true, false, cond, ltb, ℤ, pos, negsuc, ◌+ℤ◌, ◌-ℤ◌, ◌*ℤ◌, neg_ℤ, nat_abs, refl, ap, mul-le-mul, arith, ltb→lt, nltb→le, to_z-of_z, w64, SFits, to_z, of_z}
use lib.IntN.{sub_ℕ}
use lib.Signed.{mag}
use Rattle.base.proofs.Tests.{→true, →false}

-- how far above zero a number is, and how far below
abbrev pub over : ℤ → ℕ
over (pos n) = n
over (negsuc n) = 0

abbrev pub under : ℤ → ℕ
under (pos n) = 0
under (negsuc n) = suc n

-- z is a − b
abbrev pub Is : ℤ → ℕ → ℕ → Type 0
Is z a b = over z + b ≡ a + under z

pub is_same : (y z : ℤ) (a b c d : ℕ) → Is y a b → Is z c d → a + d ≡ c + b → y ≡ z
is_same (pos m) (pos n) a b c d h k e = ap pos (let r : m ≡ n = omega arith in r)
is_same (pos m) (negsuc n) a b c d h k e = absurd (omega arith)
is_same (negsuc m) (pos n) a b c d h k e = absurd (omega arith)
is_same (negsuc m) (negsuc n) a b c d h k e = ap negsuc (let r : m ≡ n = omega arith in r)

-- ---- operations

pub is_difference : (a b : ℕ) → Is (sub_ℕ a b) a b
is_difference a b = go (ltb a b) refl
  where
    go : (t : Bool) → ltb a b ≡ t → Is (cond t (negsuc (b - suc a)) (pos (a - b))) a b
    go true e = let h = ltb→lt a b (→true e) in omega arith
    go false e = let h = nltb→le a b (→false e) in omega arith

is_negative : (n : ℕ) → Is (neg_ℤ (pos n)) 0 n
is_negative zero = refl
is_negative (suc n) = refl

is-neg : (z : ℤ) (a b : ℕ) → Is z a b → Is (neg_ℤ z) b a
is-neg (pos n) a b h = omega (arith, is_negative n)
is-neg (negsuc n) a b h = omega arith

pub is-add : (y z : ℤ) (a b c d : ℕ) → Is y a b → Is z c d → Is (y +ℤ z) (a + c) (b + d)
is-add (pos m) (pos n) a b c d h k = omega arith
is-add (pos m) (negsuc n) a b c d h k = omega (arith, is_difference m (suc n))
is-add (negsuc m) (pos n) a b c d h k = omega (arith, is_difference n (suc m))
is-add (negsuc m) (negsuc n) a b c d h k = omega arith

pub is_minus : (y z : ℤ) (a b c d : ℕ) → Is y a b → Is z c d → Is (y -ℤ z) (a + d) (b + c)
is_minus y z a b c d h k = is-add y (neg_ℤ z) a b d c h (is-neg z c d k)

-- (o − u) × (p − v) by the differences that the two factors are
products : (o u p v a b c d : ℕ) → o + b ≡ a + u → p + d ≡ c + v → o * p + u * v + (a * d + b * c) ≡ a * c + b * d + (o * v + u * p)
products o u p v a b c d h k = omega (
  arith,
  ap (λ (n : ℕ). n * p) h,
  ap (λ (n : ℕ). n * v) h,
  ap (λ (n : ℕ). a * n) k,
  ap (λ (n : ℕ). b * n) k,
)

own : (y z : ℤ) → Is (y *ℤ z) (over y * over z + under y * under z) (over y * under z + under y * over z)
own (pos m) (pos n) = omega arith
own (pos m) (negsuc n) = omega (arith, is_negative (m * suc n))
own (negsuc m) (pos n) = omega (arith, is_negative (suc m * n))
own (negsuc m) (negsuc n) = omega arith

pub is_times : (y z : ℤ) (a b c d : ℕ) → Is y a b → Is z c d → Is (y *ℤ z) (a * c + b * d) (a * d + b * c)
is_times y z a b c d h k = omega (arith, own y z, products (over y) (under y) (over z) (under z) a b c d h k)

-- ---- size

pub size-most : (z : ℤ) (a b k : ℕ) → Is z a b → a ≤ k → b ≤ k → nat_abs z ≤ k
size-most (pos n) a b k h p q = omega arith
size-most (negsuc n) a b k h p q = omega arith

size_is : (z : ℤ) → nat_abs z ≡ over z + under z
size_is (pos n) = omega arith
size_is (negsuc n) = omega arith

pub size-add : (y z : ℤ) (k l : ℕ) → nat_abs y ≤ k → nat_abs z ≤ l → nat_abs (y +ℤ z) ≤ k + l
size-add y z k l h j =
    let sum = is-add y z (over y) (under y) (over z) (under z) (omega arith) (omega arith) in
    size-most (y +ℤ z) (over y + over z) (under y + under z) (k + l) sum (omega (arith, size_is y, size_is z)) (omega (arith, size_is y, size_is z))

pub size_minus : (y z : ℤ) (k l : ℕ) → nat_abs y ≤ k → nat_abs z ≤ l → nat_abs (y -ℤ z) ≤ k + l
size_minus y z k l h j =
    let difference = is_minus y z (over y) (under y) (over z) (under z) (omega arith) (omega arith) in
    size-most (y -ℤ z) (over y + under z) (under y + over z) (k + l) difference (omega (arith, size_is y, size_is z)) (omega (arith, size_is y, size_is z))

pub size_times : (y z : ℤ) (k l : ℕ) → nat_abs y ≤ k → nat_abs z ≤ l → nat_abs (y *ℤ z) ≤ k * l
size_times y z k l h j =
    let most : (over y + under y) * (over z + under z) ≤ k * l = mul-le-mul (omega (arith, size_is y)) (omega (arith, size_is z)) in
    size-most (y *ℤ z) (over y * over z + under y * under z) (over y * under z + under y * over z) (k * l) (own y z) (omega arith) (omega arith)

-- 64 bits hold what is less than 2 ^ 63 from zero
pub fits : (z : ℤ) (k : ℕ) → nat_abs z ≤ k → k < 2 ^ 63 → SFits w64 z
fits (pos n) k h b = record { sfits = omega arith }
fits (negsuc n) k h b = record { sfits = omega arith }

-- such a number is read back from its bits
pub back : (z : ℤ) (k : ℕ) → nat_abs z ≤ k → k < 2 ^ 63 → to_z w64 (of_z w64 z) ≡ z
back z k h b = to_z-of_z (fits z k h b)

-- a call's result is read back too
pub kept : (z : ℤ) → mag z < 2 ^ 63 → to_z w64 (of_z w64 z) ≡ z
kept z h = to_z-of_z {w = w64} (record { sfits = h })

-- y and z, which are u and v, as the machine adds them
module _ (y z u v : ℤ) (k l : ℕ) (p : y ≡ u) (q : z ≡ v) (hu : nat_abs u ≤ k) (hv : nat_abs v ≤ l) (room : k + l < 2 ^ 63) where
  pub sum_is : to_z w64 (of_z w64 y) +ℤ to_z w64 (of_z w64 z) ≡ u +ℤ v
  sum_is = rw (p, q, back u k hu (omega arith), back v l hv (omega arith))

  pub sum_fits : SFits w64 (to_z w64 (of_z w64 y) +ℤ to_z w64 (of_z w64 z))
  sum_fits = rw sum_is (fits (u +ℤ v) (k + l) (size-add u v k l hu hv) room)

  pub sum_back : to_z w64 (of_z w64 (to_z w64 (of_z w64 y) +ℤ to_z w64 (of_z w64 z))) ≡ u +ℤ v
  sum_back = rw sum_is (back (u +ℤ v) (k + l) (size-add u v k l hu hv) room)
