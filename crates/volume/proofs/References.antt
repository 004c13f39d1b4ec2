-- The sum over triangles that close is the same from every reference. The determinant of a triangle's corners taken from a reference is that of the corners
-- themselves, less a part that is a weight of its three runs: the reference with the cross product of a run's ends. Turned round, a run has that weight with
-- the other sign, so over triangles that run between any two points as often one way as the other these parts come to nothing.
-- Assumes nothing.
use Prim.Native.Nat.{ℕ, ◌+◌, ◌*◌, ◌<◌}
use mathlib.Core.Path.{◌≡◌, refl, sym, ◌∙◌}
use mathlib.Core.List.{List, [], ◌∷◌}
use native.Mathlib.Omega.{arith}
use lib.IntN.{ℤ, pos, ◌-ℤ◌, ◌*ℤ◌, ◌+ℤ◌}
use lib.ListN.{get_or}
use lib.Ieee.{Float, nan}
use Rattle.base.specs.Lists.{sum}
use Rattle.base.specs.Grid.{Place, Axis, X, Y, Z, axis_number, next, along}
use Rattle.rules.specs.Steps.{Triangle}
use Rattle.rules.specs.Closing.{run, runs}
use Rattle.rules.specs.Water.{sixteenths, offset, term, determinant, sixfold_of, sixfold}
use Rattle.closing.specs.Cutting.{turn}
use Rattle.closing.proofs.Weights.{Below, balanced}
use Rattle.water.proofs.Signed.{Is, is_same, is-add, is_minus, is_times}

-- ---- a determinant of differences

-- the sum over the three axes
abbrev three : (Axis → ℕ) → ℕ
three f = f X + f Y + f Z

-- of places A, B and C, the determinant's parts above and below zero
abbrev above : (Axis → ℕ) → (Axis → ℕ) → (Axis → ℕ) → Axis → ℕ
above A B C x = A x * B (next x) * C (next (next x))

abbrev below : (Axis → ℕ) → (Axis → ℕ) → (Axis → ℕ) → Axis → ℕ
below A B C x = A x * B (next (next x)) * C (next x)

-- of three corners A − R, B − R and C − R
module _ (A B C R : Axis → ℕ) where
  -- the minor that goes with an axis; products of two coordinates of the reference are in both parts, and left out
  abbrev minor_over : Axis → ℕ
  minor_over x = let y = next x in let z = next (next x) in B y * C z + B z * R y + R z * C y

  abbrev minor_under : Axis → ℕ
  minor_under x = let y = next x in let z = next (next x) in B z * C y + B y * R z + R y * C z

  abbrev term_over : Axis → ℕ
  term_over x = A x * minor_over x + R x * minor_under x

  abbrev term_under : Axis → ℕ
  term_under x = A x * minor_under x + R x * minor_over x

  module _ (a b c : Axis → ℤ) (ha : (x : Axis) → Is (a x) (A x) (R x)) (hb : (x : Axis) → Is (b x) (B x) (R x)) (hc : (x : Axis) → Is (c x) (C x) (R x)) where
    term_is : (x : Axis) → Is (term a b c x) (term_over x) (term_under x)
    term_is x =
        let y = next x in
        let z = next (next x) in
        let bc = is_times (b y) (c z) (B y) (R y) (C z) (R z) (hb y) (hc z) in
        let cb = is_times (b z) (c y) (B z) (R z) (C y) (R y) (hb z) (hc y) in
        let both = is_minus (b y *ℤ c z) (b z *ℤ c y) _ _ _ _ bc cb in
        let minor : Is (b y *ℤ c z -ℤ b z *ℤ c y) (minor_over x) (minor_under x) = omega (arith, both) in
        is_times (a x) (b y *ℤ c z -ℤ b z *ℤ c y) (A x) (R x) (minor_over x) (minor_under x) (ha x) minor

    terms_are : Is (determinant a b c) (three term_over) (three term_under)
    terms_are =
        is-add (term a b c X +ℤ term a b c Y) (term a b c Z) _ _ _ _
        (is-add (term a b c X) (term a b c Y) _ _ _ _ (term_is X) (term_is Y)) (term_is Z)

  -- a term multiplied out: a part of the volume, of each run, and two products of one point with the reference twice
  abbrev second : Axis → ℕ
  second x = B (next x) * R (next (next x)) * R x

  abbrev third : Axis → ℕ
  third x = C (next (next x)) * R x * R (next x)

  over_out : (x : Axis) → term_over x
      ≡ above A B C x + above R B A (next x) + above R A C (next (next x)) + above R C B x + second x + third x
  over_out X = omega arith
  over_out Y = omega arith
  over_out Z = omega arith

  under_out : (x : Axis) → term_under x
      ≡ below A B C x + above R A B (next (next x)) + above R C A (next x) + above R B C x + second (next x) + third (next (next x))
  under_out X = omega arith
  under_out Y = omega arith
  under_out Z = omega arith

-- over the three axes, what stands at the next one adds up alike
rotated : (v u ab bc ca ba cb ac s t : Axis → ℕ)
    → three (λ x. v x + ba (next x) + ac (next (next x)) + cb x + s x + t x) + (three u + (three ab + three bc + three ca))
    ≡ three v + (three ba + three cb + three ac) + three (λ x. u x + ab (next (next x)) + ca (next x) + bc x + s (next x) + t (next (next x)))
rotated v u ab bc ca ba cb ac s t = omega arith

-- the weight of a run from A to B: the part above zero of R with their cross product. The part below is that of the run back.
abbrev across : (Axis → ℕ) → (Axis → ℕ) → (Axis → ℕ) → ℕ
across R A B = three (above R A B)

split : (A B C R : Axis → ℕ)
    → three (term_over A B C R) + (three (below A B C) + (across R A B + across R B C + across R C A))
    ≡ three (above A B C) + (across R B A + across R C B + across R A C) + three (term_under A B C R)
split A B C R =
    let rest = three (below A B C) + (across R A B + across R B C + across R C A) in
    let whole = three (above A B C) + (across R B A + across R C B + across R A C) in
    (λ i. over_out A B C R X i + over_out A B C R Y i + over_out A B C R Z i + rest)
    ∙ rotated (above A B C) (below A B C) (above R A B) (above R B C) (above R C A) (above R B A) (above R C B) (above R A C) (second A B C R) (third A B C R)
    ∙ sym (λ i. whole + (under_out A B C R X i + under_out A B C R Y i + under_out A B C R Z i))

-- ---- the sum over triangles

module _ (points : List Float) where
  -- a point's coordinates in sixteenths
  abbrev coordinate : ℕ → Axis → ℕ
  coordinate p a = sixteenths (get_or points (3 * p + axis_number a) nan)

  -- a triangle's parts that know nothing of the reference
  abbrev above_of : Triangle → ℕ
  above_of t = three (above (coordinate t.0) (coordinate t.1) (coordinate t.2))

  abbrev below_of : Triangle → ℕ
  below_of t = three (below (coordinate t.0) (coordinate t.1) (coordinate t.2))

  module _ (r : Place) where
    abbrev origin : Axis → ℕ
    origin a = 16 * along a r

    -- the weight of a run
    abbrev weight : ℕ → ℕ → ℕ
    weight p q = across origin (coordinate p) (coordinate q)

    offset-is : (p : ℕ) (a : Axis) → Is (offset r points p a) (coordinate p a) (origin a)
    unfolding offset
    offset-is p a = omega (arith, is_minus (pos (coordinate p a)) (pos (origin a)) (coordinate p a) 0 (origin a) 0 refl refl)

    triangle_is : (t : Triangle) → Is (sixfold_of r points t) (above_of t + run (turn weight) t) (below_of t + run weight t)
    unfolding sixfold_of
    triangle_is t =
        let A = coordinate t.0 in
        let B = coordinate t.1 in
        let C = coordinate t.2 in
        other (sixfold_of r points t) _ _ _ _
        (terms_are A B C origin (offset r points t.0) (offset r points t.1) (offset r points t.2) (offset-is t.0) (offset-is t.1)
        (offset-is t.2))
        (split A B C origin)
      where
        other : (z : ℤ) (a b c d : ℕ) → Is z a b → a + d ≡ c + b → Is z c d
        other z a b c d h e = omega (arith, h, e)

    sum_is : (ts : List Triangle) → Is (sixfold r points ts) (sum above_of ts + sum (run (turn weight)) ts) (sum below_of ts + sum (run weight) ts)
    sum_is [] = refl
    sum_is (t ∷ ts) =
        regrouped (sixfold r points (t ∷ ts)) (above_of t) (run (turn weight) t) (sum above_of ts) (sum (run (turn weight)) ts) (below_of t) (run weight t)
        (sum below_of ts) (sum (run weight) ts) (is-add (sixfold_of r points t) (sixfold r points ts) _ _ _ _ (triangle_is t) (sum_is ts))
      where
        regrouped : (z : ℤ) (a b c d e f g h : ℕ) → Is z (a + b + (c + d)) (e + f + (g + h)) → Is z (a + c + (b + d)) (e + g + (f + h))
        regrouped z a b c d e f g h i = omega (arith, i)

  -- the sum does not depend on the reference
  pub same_sum : (n : ℕ) (ts : List Triangle) → Below n ts → ((p q : ℕ) → p < n → q < n → runs p q ts ≡ runs q p ts)
      → (r s : Place) → sixfold r points ts ≡ sixfold s points ts
  same_sum n ts inside balance r s =
      is_same (sixfold r points ts) (sixfold s points ts) _ _ _ _ (sum_is r ts) (sum_is s ts)
      (omega (arith, balanced n ts inside balance (weight r), balanced n ts inside balance (weight s)))
