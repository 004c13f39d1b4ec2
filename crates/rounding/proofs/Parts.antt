-- The four roundings of a part of a length, one after the other: (c - d) / (w - d) lies from 0 to 1 for d ≤ c ≤ w, a length times it from 0 to
-- the length, and a whole number plus or minus that between two whole numbers, without a minus sign. Where c equals d nothing moves.
-- Assumes nothing.
use Prim.Native.Nat.{ℕ, ◌+◌, ◌*◌, ◌^◌, ◌≤◌, ◌<◌}
use mathlib.Core.Path.{◌≡◌, refl, sym, ap, ◌∙◌, subst}
use mathlib.Core.Bool.{Bool, true, false}
use native.Mathlib.Nat.{mul-le-mul_right, le_of_mul-le-mul_right, mul-pos, zero-lt-suc, lt_irrefl}
use native.Mathlib.Omega.{arith}
use lib.Dec.{T}
use lib.IntN.{pos}
use lib.Pow.{pow_pos}
use lib.Ieee.{Float, fin, Format, prec, round, add, sub, mul, div, eq, le, of_int, fits, inf, nan}
use lib.Ieee.Bits.{is_true}
use lib.Ieee.Order.{round_mono}
use lib.Ieee.Scale.{finite, round_same}
use lib.Ieee.Positive.{num, den, positive, den_pos, own_value}
use Rattle.rounding.proofs.Order.{hi, lo, Le, Lt, Eq, Between, le→Le, Eq→eq, Le→le, finite-between}
use Rattle.rounding.proofs.Rounds.{Bare, round_bare, whole_bare, plain, AtMost, Whole, whole_is, Gap}
use Rattle.rounding.proofs.Rounds.{sub_bare, sub-rounds, add_bare, mul-rounds, div-rounds, rounded_at_most, rounded_whole, rounded_between}
use Rattle.rounding.proofs.Gaps.{gap_mono, gap_top, gap_unit, rounded_positive, num_pos}

-- c lies from d to w, which are two values of the format, d below w, with their gap at most 2K
pub record Within (f : Format) (K : ℕ) (c d w : Float) : Type 0 where
  pub c_finite : T (finite c)
  pub d_finite : T (finite d)
  pub w-finite : T (finite w)
  pub d_fits : T (fits f d)
  pub w_fits : T (fits f w)
  pub d_c : Le d c
  pub c_w : Le c w
  pub d_w : Lt d w
  pub top : hi w ≤ K * den w + lo w
  pub bottom : lo d ≤ K * den d + hi d
  pub room : K + K ≤ 2 ^ prec f

div_at_most : (f : Format) (x d : Float) (k : ℕ) → k ≤ 2 ^ prec f → T (finite x) → lo x ≡ 0 → T (positive d) → hi x * den d ≤ k * (num d * den x)
    → AtMost (div f x d) k 1
div_at_most f x d k fit p z q h =
    rounded_whole f (div f x d) (hi x * den d) (num d * den x) k (mul-pos (num_pos d q) (den_pos x)) (div-rounds f x d p z q) fit h

module _ (f : Format) (K : ℕ) (c d w : Float) (i : Within f K c d w) where
  -- w - d does not overflow, and is rounded to no zero
  gap_positive : (k : ℕ) × Gap w d k × (sub f w d ≡ round f false k (den w * den d)) × T (positive (sub f w d))
  gap_positive =
      let (k, b, q) = sub-rounds f w d i.w-finite i.d_finite (omega (arith, i.d_w)) in
      let G : 0 < k = omega (arith, i.d_w) in
      let is : sub f w d ≡ round f false k (den w * den d) = bare (sub f w d) k (den w * den d) q.0 q.1 q.2 G in
      let unit = gap_unit f w d k i.w_fits i.d_fits b G in
      let top = gap_top w d K k b i.top i.bottom in
      (k, b, is, rw is (rounded_positive f k (den w * den d) (K + K) (mul-pos (den_pos w) (den_pos d)) G unit top i.room))
    where
      bare : (r : Float) (k n : ℕ) (s : Bool) → r ≡ round f s k n → (s ≡ true → k ≡ 0) → 0 < k → r ≡ round f false k n
      bare r k n false e z G = e
      bare r k n true e z G = absurd (lt_irrefl 0 (subst (λ (n : ℕ). 0 < n) (z refl) G))

  -- c - d is rounded to no more than that
  pub part : AtMost (div f (sub f c d) (sub f w d)) 1 1
  part =
      let (g, a, r) = sub-rounds f c d i.c_finite i.d_finite i.d_c in
      let (k, b, is, P) = gap_positive in
      let D = sub f w d in
      let C : 0 < den c * den d = mul-pos (den_pos c) (den_pos d) in
      let W : 0 < den w * den d = mul-pos (den_pos w) (den_pos d) in
      let below : T (le (round f false g (den c * den d)) D) =
      rw is (round_mono f g (den c * den d) k (den w * den d) C W (gap_mono c d w g k a b i.c_w)) in
      let N : AtMost (sub f c d) (num D) (den D) = rounded_at_most f (sub f c d) g (den c * den d) D (num D) (den D) C r (own_value D P) below in
      div_at_most f (sub f c d) D 1 (pow_pos (prec f)) N.0 N.1 P (omega (arith, N.2))

  -- where c equals d, c - d is a zero
  pub part-zero : Eq d c → AtMost (div f (sub f c d) (sub f w d)) 0 1
  part-zero e =
      let (g, a, r) = sub-rounds f c d i.c_finite i.d_finite i.d_c in
      let (k, b, is, P) = gap_positive in
      let N = rounded_whole f (sub f c d) g (den c * den d) 0 (mul-pos (den_pos c) (den_pos d)) r (omega arith) (omega arith) in
      let none : hi (sub f c d) ≡ 0 = omega (arith, N.2) in
      div_at_most f (sub f c d) (sub f w d) 0 (omega arith) N.0 N.1 P (rw none (omega arith))

pub mul_at_most : (f : Format) (l k m : ℕ) (x t : Float) → l * k ≤ m → m ≤ 2 ^ prec f → Whole x l → AtMost t k 1 → AtMost (mul f x t) m 1
mul_at_most f l k m x t h fit v p =
    rounded_whole f (mul f x t) (hi x * hi t) (den x * den t) m (mul-pos (den_pos x) (den_pos t))
    (mul-rounds f x t v.0 p.0 v.1 p.1) fit
    (omega (arith, ap (λ (z : ℕ). z * hi t) v.2, mul-le-mul_right (l * den x) p.2, mul-le-mul_right (den x * den t) h))

-- the bounds as comparisons say them
pub at_most-between : (f : Format) (k : ℕ) (x : Float) → k ≤ 2 ^ prec f → AtMost x k 1 → Between f 0 k x
at_most-between f k x fit p =
    let v = whole_is f 0 (omega arith) in
    let w = whole_is f k fit in (
      Le→le (of_int f (pos 0)) x v.0 p.0 (rw (v.1, v.2, p.1) (omega arith)),
      Le→le x (of_int f (pos k)) p.0 w.0
          (rw (w.1, w.2, p.1) (omega (arith, mul-le-mul_right (den (of_int f (pos k))) p.2))),
    )

pub between_at_most : (f : Format) (k : ℕ) (x : Float) → k ≤ 2 ^ prec f → Between f 0 k x → AtMost x k 1
between_at_most f k x fit (a, b) =
    let z = of_int f (pos 0) in
    let y = of_int f (pos k) in
    let (fz, lz, hz) = whole_is f 0 (omega arith) in
    let (fy, ly, hy) = whole_is f k fit in
    let p = finite-between z x y fz fy a b in
    let bottom : Le z x = le→Le z x fz p (is_true (le z x) a) in
    let top : Le x y = le→Le x y p fy (is_true (le x y) b) in
    let l : lo x ≤ hi x = le_of_mul-le-mul_right {k = den z} (omega (arith, ap (λ (n : ℕ). n * den x) hz, ap (λ (n : ℕ). n * den x) lz)) (den_pos z) in
    let n : lo x ≡ 0 = one_sided x p l in
    let hn = ap (λ (m : ℕ). m * den y) n in
    (p, n, le_of_mul-le-mul_right {k = den y} (omega (arith, ap (λ (m : ℕ). m * den x) hy, ap (λ (m : ℕ). m * den x) ly, hn)) (den_pos y))
  where
    one_sided : (r : Float) → T (finite r) → lo r ≤ hi r → lo r ≡ 0
    one_sided (fin true m e) p h = omega arith
    one_sided (fin false m e) p h = refl
    one_sided nan p h = elim p [ ]
    one_sided (inf _) p h = elim p [ ]

pub at_most-zero : (f : Format) (x : Float) → AtMost x 0 1 → T (eq x (of_int f (pos 0)))
at_most-zero f x p =
    let v = whole_is f 0 (omega arith) in
    let none : hi x ≡ 0 = omega (arith, p.2) in
    Eq→eq x (of_int f (pos 0)) p.0 v.0 (rw (v.1, v.2, p.1, none) (omega arith))

-- r is the whole number n moved by y: it lies from low to high, has no minus sign, and is n where y is a zero
pub record Moved (f : Format) (low high n : ℕ) (y r : Float) : Type 0 where
  pub between : Between f low high r
  pub bare : Bare r
  pub still : AtMost y 0 1 → r ≡ of_int f (pos n)

module _ (f : Format) (a l : ℕ) (y : Float) (fit : a + l ≤ 2 ^ prec f) (p : AtMost y l 1) where
  moved : (n g d : ℕ) (r : Float) → 0 < d → r ≡ round f false g d → a * d ≤ g → g ≤ (a + l) * d → (hi y ≡ 0 → g ≡ n * d) → Moved f a (a + l) n y r
  unfolding of_int
  moved n g d r D e low high still =
      record {
        between = rounded_between f r g d a (a + l) D (plain f r g d e) (omega arith) fit low high;
        bare = subst Bare (sym e) (round_bare f g d);
        still = λ z. e ∙ round_same f false g d n 1 D (zero-lt-suc 0) (omega (arith, still (omega (arith, z.2))));
      }

  pub add_moved : Moved f a (a + l) a y (add f (of_int f (pos a)) y)
  add_moved =
      let x = of_int f (pos a) in
      let v = whole_is f a (omega arith) in
      let e = ap (λ (z : ℕ). z * den y) v.2 in
      let h = mul-le-mul_right (den x) p.2 in
      moved a (hi x * den y + hi y * den x) (den x * den y) (add f x y) (mul-pos (den_pos x) (den_pos y))
      (add_bare f x y v.0 (whole_bare f a) p.0 p.1) (omega arith) (omega arith) (λ z. rw z (omega arith))

  pub sub_moved : Moved f a (a + l) (a + l) y (sub f (of_int f (pos (a + l))) y)
  sub_moved =
      let x = of_int f (pos (a + l)) in
      let v = whole_is f (a + l) fit in
      let e = ap (λ (z : ℕ). z * den y) v.2 in
      let h = mul-le-mul_right (den x) p.2 in
      let i = ap (λ (z : ℕ). z * den y) v.1 in
      let j = ap (λ (z : ℕ). z * den x) p.1 in
      let (g, c, r) = sub_bare f x y v.0 (whole_bare f (a + l)) p.0 (omega arith) in
      moved (a + l) g (den x * den y) (sub f x y) (mul-pos (den_pos x) (den_pos y)) r (omega arith) (omega arith)
      (λ z. omega (arith, ap (λ (k : ℕ). k * den x) z))
