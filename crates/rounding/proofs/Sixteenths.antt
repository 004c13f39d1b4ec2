-- Sixteen times a binary32 number from 0 to 1,024 is reckoned without rounding, so its whole part is that of sixteen times the number's value.
-- Assumes nothing.
use Prim.Native.Nat.{ℕ, suc, ◌+◌, ◌-◌, ◌*◌, ◌/◌, ◌^◌, ◌≤◌, ◌<◌, min}
use mathlib.Core.Path.{◌≡◌, refl, sym, ap, ◌∙◌}
use mathlib.Core.Bool.{true, false, true≢false}
use native.Mathlib.Nat.{lt_of_le_of_lt, mul-one, mul_assoc, mul-le-mul_right, le_of_mul-le-mul_right, div-lt_iff_lt-mul, zero-div}
use native.Mathlib.Omega.{arith}
use lib.IntN.{ℤ, pos, negsuc}
use lib.Dec.{T, lit≤, lit<}
use lib.Pow.{pow-add}
use lib.Ieee.{Float, fin, binary32, up, down, round, mul, lt, to_unsigned, fits, of_bits, inf, nan}
use lib.Ieee.Digits.{back}
use lib.Ieee.Fits.{down_pos}
use lib.Ieee.Exact.{HasValue, round_exact}
use lib.Ieee.Nearest.{div_same}
use lib.Ieee.Scale.{finite}
use lib.Ieee.Positive.{num, den, den_pos}
use Rattle.rounding.proofs.Order.{hi, lo, Between, Lt→lt}
use Rattle.rounding.proofs.Rounds.{AtMost, mul-rounds, rounded_whole}
use Rattle.rounding.proofs.Gaps.{exponent, fits-says}
use Rattle.rounding.proofs.Parts.{between_at_most}

abbrev pub sixteen : Float
sixteen = fin false 1 (pos 4)

-- 16 × 2 ^ e in units of 2 ^ -149 is a power of two
power : (e : ℤ) → down e ≤ 2 ^ 149 → (j : ℕ) × (up e * 16 * 2 ^ 149 ≡ 2 ^ j * down e)
power (pos k) h =
    (k + 4 + 149, sym (mul-one (2 ^ (k + 4 + 149)) ∙ pow-add 2 (k + 4) 149 ∙ ap (λ (z : ℕ). z * 2 ^ 149) (pow-add 2 k 4)))
power (negsuc k) h =
    let n = 149 - suc k in
    let whole : 2 ^ n * 2 ^ suc k ≡ 2 ^ 149 = sym (pow-add 2 n (suc k)) ∙ ap (λ (z : ℕ). 2 ^ z) (back 149 (suc k) (exponent (suc k) 149 h)) in
    (4 + n, sym (ap (λ (z : ℕ). z * 2 ^ suc k) (pow-add 2 4 n) ∙ mul_assoc 16 (2 ^ n) (2 ^ suc k) ∙ ap (λ (z : ℕ). 16 * z) whole))

below : (m u d p l : ℕ) → 0 < d → u * 16 * l ≡ p * d → m * u * 1 ≤ 1024 * d → m * p ≤ 16384 * l
below m u d p l D e h = le_of_mul-le-mul_right {k = d} (omega (arith, ap (λ (z : ℕ). m * z) e, mul-le-mul_right (16 * l) h)) D

-- the product has the value 16 x
exact_at : (x : Float) → T (finite x) → T (fits binary32 x) → hi x * 1 ≤ 1024 * den x → lo x ≡ 0
    → hi (mul binary32 x sixteen) * den x ≡ 16 * hi x * den (mul binary32 x sixteen)
exact_at (fin true m e) p c h z =
    let r = mul binary32 (fin true m e) sixteen in
    let rounds = mul-rounds binary32 (fin true m e) sixteen tt tt z refl in
    let a = rounded_whole binary32 r (0 * (1 * 2 ^ 4)) (down e * 1) 0 (omega (arith, down_pos e)) rounds (lit≤ tt) (omega arith) in
    let b : hi r ≡ 0 = omega (arith, a.2) in
    rw b (omega arith)
exact_at (fin false m e) p c h z =
    let (j, q) = power e (fits-says binary32 false m e c).1 in
    unfold mul in go (round binary32 false (m * up e * (1 * 2 ^ 4)) (down e * 1))
    (round_exact binary32 false (m * up e * (1 * 2 ^ 4)) (down e * 1) m j (omega (arith, down_pos e)) (fits-says binary32 false m e c).0
    (lt_of_le_of_lt (below m (up e) (down e) (2 ^ j) (2 ^ 149) (down_pos e) q h) (lit< tt)) (unit m (up e) (down e) (2 ^ j) (2 ^ 149) q))
  where
    unit : (m u d p l : ℕ) → u * 16 * l ≡ p * d → m * u * 16 * l ≡ m * p * (d * 1)
    unit m u d p l e = omega (arith, ap (λ (z : ℕ). m * z) e)

    go : (r : Float) → HasValue r false (m * up e * (1 * 2 ^ 4)) (down e * 1) → hi r * down e ≡ 16 * (m * up e) * den r
    go (fin true n d) v = absurd (true≢false v.0)
    go (fin false n d) v = omega (arith, v.1)
    go nan v = elim v [ ]
    go (inf _) v = elim v [ ]
exact_at nan p c h z = elim p [ ]
exact_at (inf _) p c h z = elim p [ ]

-- the whole part of a value a / b
cut : (r : Float) (a b : ℕ) → T (finite r) → 0 < b → hi r * b ≡ a * den r → hi r ≤ 16384 * den r → to_unsigned 64 r ≡ a / b
unfolding to_unsigned
cut (fin true n d) a b p B h k = sym (zero-div (down d)) ∙ div_same 0 (down d) a b (down_pos d) B h
cut (fin false n d) a b p B h k =
    let t : n * up d / down d < 16385 = (div-lt_iff_lt-mul (down_pos d)).1 (omega (arith, down_pos d)) in
    let e : min (n * up d / down d) (2 ^ 64 - 1) ≡ n * up d / down d = small (n * up d / down d) t in
    e ∙ div_same (n * up d) (down d) a b (down_pos d) B h
  where
    small : (i : ℕ) → i < 16385 → min i (2 ^ 64 - 1) ≡ i
    small i h = omega arith
cut nan a b p B h k = elim p [ ]
cut (inf _) a b p B h k = elim p [ ]

-- of what is not below zero, the value is num / den
value : (x : Float) → T (finite x) → lo x ≡ 0 → hi x ≡ num x
value (fin true m e) p h = sym h
value (fin false m e) p h = refl
value nan p h = elim p [ ]
value (inf _) p h = elim p [ ]

pub whole-most : (x : Float) → Between binary32 0 1024 x → 16 * num x / den x ≤ 16384
whole-most x between =
    let most = between_at_most binary32 1024 x (lit≤ tt) between in
    let t : 16 * num x / den x < 16385 =
    (div-lt_iff_lt-mul (den_pos x)).1 (rw (sym (value x most.0 most.1)) (omega (arith, den_pos x, most.2))) in
    omega arith

module _ (x : Float) (held : T (fits binary32 x)) (between : Between binary32 0 1024 x) where
  abbrev product : Float
  product = mul binary32 x sixteen

  most : AtMost x 1024 1
  most = between_at_most binary32 1024 x (lit≤ tt) between

  product_most : AtMost (mul binary32 x sixteen) 16384 1
  product_most =
      rounded_whole binary32 product (hi x * (1 * 2 ^ 4)) (den x * 1) 16384 (omega (arith, den_pos x))
      (mul-rounds binary32 x sixteen most.0 tt most.1 refl) (lit≤ tt) (omega (arith, most.2))

  exact_hi : hi (mul binary32 x sixteen) * den x ≡ 16 * hi x * den (mul binary32 x sixteen)
  exact_hi = exact_at x most.0 held most.2 most.1

  -- sixteen times x, without rounding
  pub exact : num (mul binary32 x sixteen) * den x ≡ 16 * num x * den (mul binary32 x sixteen)
  exact =
      let a = value product product_most.0 product_most.1 in
      let b = value x most.0 most.1 in
      sym (ap (λ (n : ℕ). n * den x) a) ∙ exact_hi ∙ ap (λ (n : ℕ). 16 * n * den product) b

  pub whole_part : to_unsigned 64 (mul binary32 x sixteen) ≡ 16 * num x / den x
  whole_part =
      cut product (16 * hi x) (den x) product_most.0 (den_pos x) exact_hi (omega (arith, product_most.2))
      ∙ ap (λ (n : ℕ). 16 * n / den x) (value x most.0 most.1)

  -- what a cast to a whole number asks
  pub above : T (lt (fin true 1 (pos 0)) (mul binary32 x sixteen))
  above = Lt→lt (fin true 1 (pos 0)) product tt product_most.0 (rw product_most.1 (omega (arith, den_pos product)))

  pub under : T (lt (mul binary32 x sixteen) (fin false 1 (pos 64)))
  under = Lt→lt product (fin false 1 (pos 64)) product_most.0 tt (omega (arith, den_pos product, product_most.2))

-- 16.0 as code has it, by its bits
pub as_written : (x : Float) → mul binary32 x (of_bits binary32 0x4180_0000) ≡ mul binary32 x sixteen
unfolding of_bits
as_written x = refl
