-- The gap between two values of a format: it grows with the upper one, is at most 2K between -K and K, and where it is no zero it is
-- at least the least value of the format, so that it is not rounded to zero.
-- Assumes nothing.
use Prim.Native.Nat.{ℕ, zero, suc, ◌+◌, ◌-◌, ◌*◌, ◌%◌, ◌^◌, ◌≤◌, ◌<◌}
use mathlib.Core.Path.{◌≡◌, sym, ap, ◌∙◌, subst}
use mathlib.Core.Bool.{Bool, true, false, not, ◌&&◌}
use native.Mathlib.Nat.{le_trans, not-le_of_lt, mul-one, one-mul, mul-zero, mul-sub, mul-pos, mul-le-mul_right, zero-lt-suc, lt_irrefl}
use native.Mathlib.Omega.{arith}
use lib.IntN.{ℤ, pos, negsuc}
use lib.Dec.{T, leb, ltb, eqb, leb→le, ltb→lt, nleb→lt, eqb→eq}
use lib.Pow.{pow-add, pow_pos, pow-lt}
use lib.Ieee.{Float, nan, inf, fin, Format, prec, emax, low, up, down, round, fits}
use lib.Ieee.Digits.{back}
use lib.Ieee.Fits.{up_pos, and_l, and_r, two, two-le_pos}
use lib.Ieee.Exact.{HasValue, round_exact}
use lib.Ieee.Back.{round_whole}
use lib.Ieee.Order.{round_mono}
use lib.Ieee.Positive.{num, den, positive, between, positive_of_value}
use Rattle.rounding.proofs.Order.{hi, lo, Le}
use Rattle.rounding.proofs.Rounds.{Gap}

pub gap_mono : (c d w : Float) (g k : ℕ) → Gap c d g → Gap w d k → Le c w → g * (den w * den d) ≤ k * (den c * den d)
gap_mono c d w g k a b h =
    omega (arith, ap (λ (z : ℕ). z * (den w * den d)) a, ap (λ (z : ℕ). z * (den c * den d)) b, mul-le-mul_right (den d * den d) h)

pub gap_top : (w d : Float) (K g : ℕ) → Gap w d g → hi w ≤ K * den w + lo w → lo d ≤ K * den d + hi d → g ≤ (K + K) * (den w * den d)
gap_top w d K g a t b = omega (arith, mul-le-mul_right (den d) t, mul-le-mul_right (den w) b)

-- ---- the denominators of a format's values divide 2 ^ low

pub exponent : (k l : ℕ) → 2 ^ k ≤ 2 ^ l → k ≤ l
exponent k l h = go (leb k l) (leb→le k l) (nleb→lt k l)
  where
    go : (b : Bool) → (T b → k ≤ l) → (T (not b) → l < k) → k ≤ l
    go true p q = p tt
    go false p q = absurd (not-le_of_lt (pow-lt (q tt)) h)

down_divides : (l : ℕ) (e : ℤ) → down e ≤ 2 ^ l → (u : ℕ) × (2 ^ l ≡ u * down e)
down_divides l (pos k) h = (2 ^ l, sym (mul-one (2 ^ l)))
down_divides l (negsuc k) h =
    (2 ^ (l - suc k), ap (λ (z : ℕ). 2 ^ z) (sym (back l (suc k) (exponent (suc k) l h))) ∙ pow-add 2 (l - suc k) (suc k))

-- of a value that a format holds: its digits and its denominator
pub fits-says : (f : Format) (s : Bool) (m : ℕ) (e : ℤ) → T (fits f (fin s m e)) → (m < 2 ^ prec f) × (down e ≤ 2 ^ low f)
unfolding fits
fits-says f s zero e h = (pow_pos (prec f), le_trans (flat (up e) (down e) (eqb→eq (up e * down e) 1 h)) (pow_pos (low f)))
  where
    flat : (u d : ℕ) → u * d ≡ 1 → d ≤ 1
    flat zero d h = omega arith
    flat (suc u) d h = omega arith
fits-says f s (suc m) e h =
    let a : Bool = eqb (suc m % 2) 1 in
    let b : Bool = ltb (suc m) (2 ^ prec f) in
    let c : Bool = leb (down e) (2 ^ low f) in
    let t : T (a && b && c) = and_l (a && b && c) (ltb (suc m * up e) (2 ^ suc (emax f) * down e)) h in
    (ltb→lt (suc m) (2 ^ prec f) (and_r a b (and_l (a && b) c t)), leb→le (down e) (2 ^ low f) (and_r (a && b) c t))

den_divides : (f : Format) (x : Float) → T (fits f x) → (u : ℕ) × (2 ^ low f ≡ u * den x)
den_divides f nan h = (2 ^ low f, sym (mul-one (2 ^ low f)))
den_divides f (inf s) h = (2 ^ low f, sym (mul-one (2 ^ low f)))
den_divides f (fin s m e) h = down_divides (low f) e (fits-says f s m e h).1

pub gap_unit : (f : Format) (x y : Float) (g : ℕ) → T (fits f x) → T (fits f y) → Gap x y g → 0 < g → 1 * (den x * den y) ≤ g * 2 ^ low f
gap_unit f x y g i j h G =
    let (u, a) = den_divides f x i in
    let (v, b) = den_divides f y j in
    go (2 ^ low f) u v a b (pow_pos (low f))
  where
    flat : (x y k : ℕ) → k + y ≡ x → x - y ≡ k
    flat x y k p = omega arith

    pick : (l z : ℕ) → 0 < l → (den x * den y) * z ≡ g * l → 1 * (den x * den y) ≤ g * l
    pick l zero L e = absurd (lt_irrefl 0 (subst (λ (k : ℕ). 0 < k) (sym e ∙ mul-zero (den x * den y)) (mul-pos G L)))
    pick l (suc z) L e = omega arith

    go : (l u v : ℕ) → l ≡ u * den x → l ≡ v * den y → 0 < l → 1 * (den x * den y) ≤ g * l
    go l u v a b L =
        pick l ((hi x * u + lo y * v) - (hi y * v + lo x * u)) L
        (mul-sub (den x * den y) (hi x * u + lo y * v) (hi y * v + lo x * u)
        ∙ flat (den x * den y * (hi x * u + lo y * v)) (den x * den y * (hi y * v + lo x * u)) (g * l)
        (omega (
          arith,
          ap (λ (k : ℕ). k * l) h,
          ap (λ (k : ℕ). k * (hi x * den y)) a,
          ap (λ (k : ℕ). k * (lo x * den y)) a,
          ap (λ (k : ℕ). k * (hi y * den x)) b,
          ap (λ (k : ℕ). k * (lo y * den x)) b,
        )))

-- ---- a rounded fraction that is one unit of the format at least, and at most K, is finite and above zero

unit_value : (f : Format) → HasValue (round f false 1 (2 ^ low f)) false 1 (2 ^ low f)
unit_value f =
    round_exact f false 1 (2 ^ low f) 1 0 (pow_pos (low f)) (pow-lt (two-le_pos (prec f) (two f))) (pow-lt (room (low f) (emax f)))
    (sym (one-mul (2 ^ low f) ∙ sym (one-mul (2 ^ low f))))
  where
    room : (l e : ℕ) → 0 < l + suc e
    room l e = omega arith

pub rounded_positive : (f : Format) (n d K : ℕ) → 0 < d → 0 < n → 1 * d ≤ n * 2 ^ low f → n ≤ K * d → K ≤ 2 ^ prec f → T (positive (round f false n d))
rounded_positive f n d K D N u t fit =
    between (round f false 1 (2 ^ low f)) (round f false n d) (round f false K 1)
    (positive_of_value (round f false 1 (2 ^ low f)) 1 (2 ^ low f) (unit_value f) (zero-lt-suc 0))
    (positive_of_value (round f false K 1) K 1 (round_whole f false K fit) (some K t))
    (round_mono f 1 (2 ^ low f) n d (pow_pos (low f)) D u)
    (round_mono f n d K 1 D (zero-lt-suc 0) (omega arith))
  where
    some : (K : ℕ) → n ≤ K * d → 0 < K
    some zero h = omega arith
    some (suc K) h = omega arith

pub num_pos : (y : Float) → T (positive y) → 0 < num y
num_pos (fin true m e) p = absurd p
num_pos (fin false m e) p = mul-pos (ltb→lt 0 m p) (up_pos e)
num_pos nan p = elim p [ ]
num_pos (inf _) p = elim p [ ]
