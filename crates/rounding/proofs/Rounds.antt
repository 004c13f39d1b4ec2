-- Each operation rounds once, and one rounding keeps a bound that is a value of the format. `Rounds f r n d`: r is the fraction n / d,
-- rounded once. `rounded_at_most`, `rounded_whole`, `rounded_between`: a bound on the fraction is one on the rounded value.
-- Assumes nothing.
use Prim.Native.Nat.{ℕ, suc, ◌+◌, ◌-◌, ◌*◌, ◌^◌, ◌≤◌, ◌<◌}
use mathlib.Core.Path.{◌≡◌, refl, sym, ap, ◌∙◌, subst}
use mathlib.Core.Logic.{inl, inr}
use mathlib.Core.Bool.{Bool, true, false, not, cond, true≢false, false≢true}
use native.Mathlib.Nat.{
  le_of_eq,
  eq-or-lt_of_le,
  not-le_of_lt,
  mul-one,
  zero-mul,
  mul-le-mul_right,
  mul-pos,
  eq_of_mul-eq-mul_right,
  zero-lt-suc,
  lt_irrefl,
  le_of_mul-le-mul_right,
}
use native.Mathlib.Omega.{arith}
use lib.IntN.{ℤ, pos}
use lib.Dec.{T, ltb, eqb, ltb→lt}
use lib.Pow.{pow_pos}
use lib.Ieee.{Float, nan, inf, fin, Format, prec, emax, low, up, down, round, units, odd, sum, add, sub, mul, div, le, of_int}
use lib.Ieee.Fits.{down_pos, round_is}
use lib.Ieee.Exact.{HasValue, round_exact, odd_sign}
use lib.Ieee.Back.{round_whole}
use lib.Ieee.Bits.{is_true}
use lib.Ieee.Order.{round_mono}
use lib.Ieee.Scale.{finite}
use lib.Ieee.Positive.{num, den, positive}
use borrow.Author.Tests.{le-ltb, lt-ltb, ne_eqb}
use Rattle.rounding.proofs.Order.{hi, lo, Le, Between, le→Le, Le→le, le-le, finite-between}

-- r is n / d, not below zero, rounded once; only a zero can have the sign, as -0 - 0 has
abbrev pub Rounds : Format → Float → ℕ → ℕ → Type 0
Rounds f r n d = (s : Bool) × (r ≡ round f s n d) × (s ≡ true → n ≡ 0)

pub plain : (f : Format) (r : Float) (n d : ℕ) → r ≡ round f false n d → Rounds f r n d
plain f r n d e = (false, e, (λ t. absurd (false≢true t)))

null : (f : Format) (s : Bool) (r : Float) (m n d : ℕ) → m ≡ 0 → n ≡ 0 → r ≡ round f s m d → Rounds f r n d
null f s r m n d p q e = (s, e ∙ ap (λ (k : ℕ). round f s k d) (p ∙ sym q), (λ t. q))

-- ---- signs

-- a number without a minus sign
abbrev pub Bare : Float → Type 0
Bare nan = ⊥
Bare (inf s) = s ≡ false
Bare (fin s m e) = s ≡ false

-- what is rounded without a sign has none
pub round_bare : (f : Format) (n d : ℕ) → Bare (round f false n d)
round_bare f n d = rw (round_is f false n d) (units_bare _ _)
  where
    value_bare : (x : Float) (a c : ℕ) → HasValue x false a c → Bare x
    value_bare (fin s m e) a c h = h.0
    value_bare nan a c h = elim h [ ]
    value_bare (inf _) a c h = elim h [ ]

    pick : (q k : ℕ) (b : Bool) → Bare (cond b (odd (suc (prec f)) false q k (low f)) (inf false))
    pick q k true = value_bare (odd (suc (prec f)) false q k (low f)) (q * 2 ^ k) (2 ^ low f) (odd_sign (suc (prec f)) false q k (low f))
    pick q k false = refl

    units_bare : (q k : ℕ) → Bare (units f false q k)
    units_bare q k = unfold units in pick q k (ltb (q * 2 ^ k) (2 ^ (low f + suc (emax f))))

-- ---- sums by their signs

sum_like : (f : Format) (s : Bool) (a b c : ℕ) → sum f s a s b c ≡ round f s (a + b) c
unfolding sum
sum_like f false a b c = refl
sum_like f true a b c = refl

sum_unlike : (f : Format) (a b c : ℕ) → b ≤ a → sum f false a true b c ≡ round f false (a - b) c
unfolding sum
sum_unlike f a b c h = rw (le-ltb a b h)

sum-neg : (f : Format) (a b c : ℕ) → a ≤ b → sum f true a false b c ≡ round f false (b - a) c
unfolding sum
sum-neg f a b c h = elim (eq-or-lt_of_le h) [ inl e ↦ rw (e, le-ltb b b (le_of_eq refl)) | inr k ↦ rw (lt-ltb a b k) ]

module _ (f : Format) (s : Bool) (m : ℕ) (e : ℤ) (t : Bool) (n : ℕ) (d : ℤ) where
  subtracted : sub f (fin s m e) (fin t n d) ≡ sum f s (m * up e * down d) (not t) (n * up d * down e) (down e * down d)
  unfolding sub
  subtracted = refl

  added : add f (fin s m e) (fin t n d) ≡ sum f s (m * up e * down d) t (n * up d * down e) (down e * down d)
  unfolding add
  added = refl

-- ---- the operations

-- g is the gap x - y for y ≤ x, of any signs, over the two denominators
abbrev pub Gap : Float → Float → ℕ → Type 0
Gap x y g = g + (hi y * den x + lo x * den y) ≡ hi x * den y + lo y * den x

-- from a number without a sign, y at most that
pub sub_bare : (f : Format) (x y : Float) → T (finite x) → Bare x → T (finite y) → Le y x
    → (g : ℕ) × Gap x y g × (sub f x y ≡ round f false g (den x * den y))
sub_bare f (fin true m e) y p s q h = absurd (true≢false s)
sub_bare f (fin false m e) (fin false n d) p s q h =
    let a = m * up e * down d in
    let b = n * up d * down e in
    (a - b, omega arith, subtracted f false m e false n d ∙ sum_unlike f a b (down e * down d) (omega arith))
sub_bare f (fin false m e) (fin true n d) p s q h =
    let a = m * up e * down d in
    let b = n * up d * down e in
    (a + b, omega arith, subtracted f false m e true n d ∙ sum_like f false a b (down e * down d))
sub_bare f nan y p s q h = elim p [ ]
sub_bare f (inf _) y p s q h = elim p [ ]
sub_bare f (fin false m e) nan p s q h = elim q [ ]
sub_bare f (fin false m e) (inf _) p s q h = elim q [ ]

pub sub-rounds : (f : Format) (x y : Float) → T (finite x) → T (finite y) → Le y x → (g : ℕ) × Gap x y g × Rounds f (sub f x y) g (den x * den y)
sub-rounds f (fin false m e) y p q h =
    let (g, a, r) = sub_bare f (fin false m e) y p refl q h in
    (g, a, plain f _ g (down e * den y) r)
sub-rounds f (fin true m e) (fin false n d) p q h =
    let a = m * up e * down d in
    let b = n * up d * down e in (
      a + b,
      omega arith,
      null f true _ (a + b) (a + b) (down e * down d) (omega arith) (omega arith)
          (subtracted f true m e false n d ∙ sum_like f true a b (down e * down d)),
    )
sub-rounds f (fin true m e) (fin true n d) p q h =
    let a = m * up e * down d in
    let b = n * up d * down e in
    (b - a, omega arith, plain f _ (b - a) (down e * down d) (subtracted f true m e true n d ∙ sum-neg f a b (down e * down d) (omega arith)))
sub-rounds f nan y p q h = elim p [ ]
sub-rounds f (inf _) y p q h = elim p [ ]
sub-rounds f (fin true m e) nan p q h = elim q [ ]
sub-rounds f (fin true m e) (inf _) p q h = elim q [ ]

-- to a number without a sign, y not below zero: `lo y ≡ 0`
pub add_bare : (f : Format) (x y : Float) → T (finite x) → Bare x → T (finite y) → lo y ≡ 0
    → add f x y ≡ round f false (hi x * den y + hi y * den x) (den x * den y)
add_bare f (fin true m e) y p s q k = absurd (true≢false s)
add_bare f (fin false m e) (fin false n d) p s q k = added f false m e false n d ∙ sum_like f false _ _ _
add_bare f (fin false m e) (fin true n d) p s q k =
    let a = m * up e * down d in
    let b = n * up d * down e in
    let z : b ≡ 0 = rw k (omega arith) in
    let same : a - b ≡ a + 0 * down e = omega arith in
    added f false m e true n d ∙ sum_unlike f a b (down e * down d) (omega arith) ∙ ap (λ (i : ℕ). round f false i (down e * down d)) same
add_bare f nan y p s q k = elim p [ ]
add_bare f (inf _) y p s q k = elim p [ ]
add_bare f (fin false m e) nan p s q k = elim q [ ]
add_bare f (fin false m e) (inf _) p s q k = elim q [ ]

-- the other operations, at operands that are not below zero
pub mul-rounds : (f : Format) (x y : Float) → T (finite x) → T (finite y) → lo x ≡ 0 → lo y ≡ 0 → Rounds f (mul f x y) (hi x * hi y) (den x * den y)
unfolding mul
mul-rounds f (fin false m e) (fin false n d) p q h k = plain f _ (m * up e * (n * up d)) (down e * down d) refl
mul-rounds f (fin false m e) (fin true n d) p q h k =
    null f true _ (m * up e * (n * up d)) (m * up e * 0) (down e * down d) (rw k (omega arith)) (omega arith) refl
mul-rounds f (fin true m e) (fin false n d) p q h k =
    null f true _ (m * up e * (n * up d)) (0 * (n * up d)) (down e * down d) (rw h (omega arith)) (omega arith) refl
mul-rounds f (fin true m e) (fin true n d) p q h k =
    null f false _ (m * up e * (n * up d)) (0 * 0) (down e * down d) (rw h (omega arith)) (omega arith) refl
mul-rounds f nan y p q h k = elim p [ ]
mul-rounds f (inf _) y p q h k = elim p [ ]
mul-rounds f (fin false m e) nan p q h k = elim q [ ]
mul-rounds f (fin false m e) (inf _) p q h k = elim q [ ]
mul-rounds f (fin true m e) nan p q h k = elim q [ ]
mul-rounds f (fin true m e) (inf _) p q h k = elim q [ ]

not-zero : {A : Type 0} (n : ℕ) (a b : A) → 0 < n → cond (eqb n 0) a b ≡ b
not-zero n a b h = rw (ne_eqb n 0 (λ e. lt_irrefl 0 (subst (λ (k : ℕ). 0 < k) e h)))

pub div-rounds : (f : Format) (x y : Float) → T (finite x) → lo x ≡ 0 → T (positive y) → Rounds f (div f x y) (hi x * den y) (num y * den x)
unfolding div
div-rounds f (fin false m e) (fin false n d) p h q = plain f _ (m * up e * down d) (n * up d * down e) (not-zero n _ _ (ltb→lt 0 n q))
div-rounds f (fin true m e) (fin false n d) p h q =
    null f true _ (m * up e * down d) (0 * down d) (n * up d * down e) (rw h (omega arith)) (omega arith) (not-zero n _ _ (ltb→lt 0 n q))
div-rounds f x (fin true n d) p h q = absurd q
div-rounds f x nan p h q = elim q [ ]
div-rounds f x (inf _) p h q = elim q [ ]
div-rounds f nan (fin false n d) p h q = elim p [ ]
div-rounds f (inf _) (fin false n d) p h q = elim p [ ]

-- ---- bounds through one rounding

-- x is finite, not below zero, and at most a / c
abbrev pub AtMost : Float → ℕ → ℕ → Type 0
AtMost x a c = T (finite x) × (lo x ≡ 0) × (hi x * c ≤ a * den x)

-- x is the whole number a
abbrev pub Whole : Float → ℕ → Type 0
Whole x a = T (finite x) × (lo x ≡ 0) × (hi x ≡ a * den x)

pub whole_is : (f : Format) (n : ℕ) → n ≤ 2 ^ prec f → Whole (of_int f (pos n)) n
unfolding of_int
whole_is f n h = go (round f false n 1) (round_whole f false n h)
  where
    go : (x : Float) → HasValue x false n 1 → Whole x n
    go (fin true m e) v = absurd (true≢false v.0)
    go (fin false m e) v = (tt, refl, sym (mul-one (m * up e)) ∙ v.1)
    go nan v = elim v [ ]
    go (inf _) v = elim v [ ]

pub whole_bare : (f : Format) (n : ℕ) → Bare (of_int f (pos n))
unfolding of_int
whole_bare f n = round_bare f n 1

cross : (m e n d p q : ℕ) → 0 < d → n * q ≡ p * d → m * d ≤ n * e → m * q ≤ p * e
cross m e n d p q D h k = le_of_mul-le-mul_right {k = d} (omega (arith, mul-le-mul_right q k, ap (λ (z : ℕ). z * e) h)) D

under : (x y : Float) (p q : ℕ) → Bare x → HasValue y false p q → T (le x y) → AtMost x p q
unfolding le
under (inf true) y p q b v t = absurd (true≢false b)
under (inf false) (fin u n d) p q b v t = absurd t
under (fin true m e) y p q b v t = absurd (true≢false b)
under (fin false m e) (fin true n d) p q b v t = absurd (true≢false v.0)
under (fin false m e) (fin false n d) p q b v t =
    let h = le→Le (fin false m e) (fin false n d) tt tt (is_true _ t) in
    (tt, refl, cross (m * up e) (down e) (n * up d) (down d) p q (down_pos d) v.1 (omega arith))
under nan y p q b v t = elim b [ ]
under (inf false) nan p q b v t = elim v [ ]
under (inf false) (inf _) p q b v t = elim v [ ]
under (fin false m e) nan p q b v t = elim v [ ]
under (fin false m e) (inf _) p q b v t = elim v [ ]

-- a zero that is rounded with the sign
signed_zero : (x : Float) (c p q : ℕ) → 0 < c → HasValue x true 0 c → AtMost x p q
signed_zero (fin false m e) c p q C v = absurd (false≢true v.0)
signed_zero (fin true m e) c p q C v =
    (tt, eq_of_mul-eq-mul_right c C (m * up e) 0 (v.1 ∙ zero-mul (down e) ∙ sym (zero-mul c)), omega arith)
signed_zero nan c p q C v = elim v [ ]
signed_zero (inf _) c p q C v = elim v [ ]

-- y is the bound, a value of the format
pub rounded_at_most : (f : Format) (r : Float) (n d : ℕ) (y : Float) (p q : ℕ) → 0 < d → Rounds f r n d → HasValue y false p q
    → T (le (round f false n d) y) → AtMost r p q
rounded_at_most f r n d y p q D k v t = rw k.1 (go k.0 k.2)
  where
    go : (s : Bool) → (s ≡ true → n ≡ 0) → AtMost (round f s n d) p q
    go false z = under (round f false n d) y p q (round_bare f n d) v t
    go true z =
        rw (z refl)
        (signed_zero (round f true 0 d) d p q D
        (round_exact f true 0 d 0 0 D (pow_pos (prec f)) (pow_pos (low f + suc (emax f))) (zero-mul (2 ^ low f) ∙ sym (zero-mul d))))

pub rounded_whole : (f : Format) (r : Float) (n d k : ℕ) → 0 < d → Rounds f r n d → k ≤ 2 ^ prec f → n ≤ k * d → AtMost r k 1
rounded_whole f r n d k D x fit h =
    rounded_at_most f r n d (round f false k 1) k 1 D x (round_whole f false k fit) (round_mono f n d k 1 D (zero-lt-suc 0) (omega arith))

pub rounded_between : (f : Format) (r : Float) (n d low high : ℕ) → 0 < d → Rounds f r n d → low ≤ 2 ^ prec f → high ≤ 2 ^ prec f
    → low * d ≤ n → n ≤ high * d → Between f low high r
rounded_between f r n d low high D k L H a b =
    let m = rounded_whole f r n d high D k H b in
    let w = whole_is f high H in
    let y = of_int f (pos high) in (
      go k.0 k.1 k.2 m (whole_is f low L),
      Le→le r y m.0 w.0 (rw (m.1, w.1) (omega (arith, mul-le-mul_right (den y) m.2, ap (λ (z : ℕ). z * den r) w.2))),
    )
  where
    none : (n ≡ 0) → low ≡ 0
    none e = elim (eq-or-lt_of_le {n = 0} {m = low} (omega arith)) [ inl h ↦ sym h | inr h ↦ absurd (not-le_of_lt (mul-pos h D) (omega arith)) ]

    go : (s : Bool) → r ≡ round f s n d → (s ≡ true → n ≡ 0) → AtMost r high 1 → Whole (of_int f (pos low)) low → T (le (of_int f (pos low)) r)
    go false e z m v = rw e (unfold of_int in round_mono f low 1 n d (zero-lt-suc 0) D (omega arith))
    go true e z m v =
        let x = of_int f (pos low) in
        let zero : hi x ≡ 0 = v.2 ∙ ap (λ (i : ℕ). i * den x) (none (z refl)) ∙ zero-mul (den x) in
        Le→le x r v.0 m.0 (rw (zero, m.1) (omega arith))

-- a number between two whole ones lies between every lower and every higher one
pub between_wider : (f : Format) (low high from to : ℕ) (r : Float) → from ≤ low → low ≤ high → high ≤ to → to ≤ 2 ^ prec f
    → Between f low high r → Between f from to r
between_wider f low high from to r a b c fit (h, k) =
    let wl = whole_is f low (omega arith) in
    let wh = whole_is f high (omega arith) in
    let wf = whole_is f from (omega arith) in
    let wt = whole_is f to fit in
    let x = of_int f (pos low) in
    let y = of_int f (pos high) in
    let finite-r = finite-between x r y wl.0 wh.0 h k in (
      Le→le (of_int f (pos from)) r wf.0 finite-r
          (le-le (of_int f (pos from)) x r (whole_le (of_int f (pos from)) x from low wf wl a) (le→Le x r wl.0 finite-r (is_true _ h))),
      Le→le r (of_int f (pos to)) finite-r wt.0
          (le-le r y (of_int f (pos to)) (le→Le r y finite-r wh.0 (is_true _ k)) (whole_le y (of_int f (pos to)) high to wh wt c)),
    )
  where
    whole_le : (x y : Float) (m n : ℕ) → Whole x m → Whole y n → m ≤ n → Le x y
    whole_le x y m n v w h =
        rw (v.1, w.1, v.2, w.2) (omega (arith, mul-le-mul_right (den x * den y) h))
