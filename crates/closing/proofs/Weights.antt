-- What closing says of weights: where triangles run between any two points as often one way as the other, every weight of steps comes to the same over their
-- runs as with each step turned round.
-- Assumes nothing.
use Prim.Native.Nat.{ℕ, zero, suc, ◌+◌, ◌*◌, ◌≤◌, ◌<◌}
use mathlib.Core.Path.{◌≡◌, refl, sym, ap, ◌∙◌}
use mathlib.Core.Bool.{Bool, true, false, ◌&&◌}
use mathlib.Core.Logic.{inl, inr}
use mathlib.Core.List.{List, [], ◌∷◌}
use native.Mathlib.Omega.{arith}
use native.Mathlib.Decide.{ℕ_discrete}
use lib.Dec.{eqb}
use Rattle.base.specs.Lists.{bit, sum, count}
use Rattle.base.proofs.Lists.{In, in_count}
use Rattle.base.proofs.Sums.{sum_same, sum-add, sum_swap, sum-zero}
use Rattle.base.proofs.Counts.{equal, equal_eq, equal_ne}
use Rattle.rules.specs.Steps.{Triangle}
use Rattle.rules.specs.Closing.{run, step, runs}
use Rattle.closing.specs.Cutting.{turn}

-- every point of every triangle is below n
abbrev pub Below : ℕ → List Triangle → Type 0
Below n ts = (t : Triangle) → In t ts → (t.0 < n) × (t.1 < n) × (t.2 < n)

-- ---- sums over numbers of which one alone adds

passed : (g : ℕ → ℕ) (n i a : ℕ) → a < i → sum (λ p. equal p a * g p) (count i n) ≡ 0
passed g n i a h =
    sum_same (λ p. equal p a * g p) (λ p. 0) (count i n)
    (λ p k. let e = equal_ne p a (let from = (in_count n i p k).0 in omega arith) in rw e (omega arith)) ∙ sum-zero (count i n)

picked : (g : ℕ → ℕ) (n i a : ℕ) → i ≤ a → a < i + n → sum (λ p. equal p a * g p) (count i n) ≡ g a
picked g zero i a h k = absurd (omega arith)
picked g (suc n) i a h k = go (picked g n (suc i) a) (ℕ_discrete i a)
  where
    go : (suc i ≤ a → a < suc i + n → sum (λ p. equal p a * g p) (count (suc i) n) ≡ g a) → Dec (i ≡ a)
        → equal i a * g i + sum (λ p. equal p a * g p) (count (suc i) n) ≡ g a
    go later (yes e) = rw (equal_eq i a e, passed g n (suc i) a (omega arith)) (ap (λ (x : ℕ). 1 * g x + 0) e ∙ omega arith)
    go later (no d) = rw (equal_ne i a d) (omega (arith, later (omega arith) (omega arith)))

-- ---- sums over pairs of numbers below n

abbrev pairs : ℕ → (ℕ → ℕ → ℕ) → ℕ
pairs n f = sum (λ p. sum (f p) (count 0 n)) (count 0 n)

pairs_same : (n : ℕ) (f g : ℕ → ℕ → ℕ) → ((p q : ℕ) → p < n → q < n → f p q ≡ g p q) → pairs n f ≡ pairs n g
pairs_same n f g h =
    sum_same (λ p. sum (f p) (count 0 n)) (λ p. sum (g p) (count 0 n)) (count 0 n)
    (λ p i. sum_same (f p) (g p) (count 0 n) (λ q j. h p q (inside p i) (inside q j)))
  where
    inside : (p : ℕ) → In p (count 0 n) → p < n
    inside p i = let b = (in_count n 0 p i).1 in omega arith

pairs_add : (n : ℕ) (f g : ℕ → ℕ → ℕ) → pairs n (λ p q. f p q + g p q) ≡ pairs n f + pairs n g
pairs_add n f g =
    sum_same (λ p. sum (λ q. f p q + g p q) (count 0 n)) (λ p. sum (f p) (count 0 n) + sum (g p) (count 0 n)) (count 0 n)
    (λ p i. sum-add (f p) (g p) (count 0 n))
    ∙ sum-add (λ p. sum (f p) (count 0 n)) (λ p. sum (g p) (count 0 n)) (count 0 n)

pairs_turn : (n : ℕ) (f : ℕ → ℕ → ℕ) → pairs n f ≡ pairs n (turn f)
pairs_turn n f = sum_swap f (count 0 n) (count 0 n)

-- ---- a weight, by how often each step is run

-- the step from a to b
step_weight : (n : ℕ) (w : ℕ → ℕ → ℕ) (a b : ℕ) → a < n → b < n → pairs n (λ p q. step p q a b * w p q) ≡ w a b
step_weight n w a b ha hb =
    sum_same (λ p. sum (λ q. step p q a b * w p q) (count 0 n)) (λ p. equal p a * w p b) (count 0 n) (λ p i. inner p)
    ∙ picked (λ p. w p b) n 0 a (omega arith) (omega arith)
  where
    both : (s t : Bool) (x : ℕ) → bit (s && t) * x ≡ bit t * (bit s * x)
    both true t x = omega arith
    both false t x = omega arith

    inner : (p : ℕ) → sum (λ q. step p q a b * w p q) (count 0 n) ≡ equal p a * w p b
    inner p =
        sum_same (λ q. step p q a b * w p q) (λ q. equal q b * (equal p a * w p q)) (count 0 n)
        (λ q j. unfold step in both (eqb p a) (eqb q b) (w p q))
        ∙ picked (λ q. equal p a * w p q) n 0 b (omega arith) (omega arith)

-- the three runs of a triangle
run_weight : (n : ℕ) (w : ℕ → ℕ → ℕ) (t : Triangle) → (t.0 < n) × (t.1 < n) × (t.2 < n) → pairs n (λ p q. run (step p q) t * w p q) ≡ run w t
run_weight n w t (ha, hb, hc) =
    let s : ℕ → ℕ → ℕ → ℕ → ℕ = λ a b p q. step p q a b * w p q in
    let ab = s t.0 t.1 in
    let bc = s t.1 t.2 in
    let ca = s t.2 t.0 in
    let parts : pairs n (λ p q. run (step p q) t * w p q) ≡ pairs n (λ p q. ab p q + bc p q + ca p q) =
    pairs_same n (λ p q. run (step p q) t * w p q) (λ p q. ab p q + bc p q + ca p q) (λ p q hp hq. omega arith) in
    omega (
      arith,
      parts,
      pairs_add n (λ p q. ab p q + bc p q) ca,
      pairs_add n ab bc,
      step_weight n w t.0 t.1 ha hb,
      step_weight n w t.1 t.2 hb hc,
      step_weight n w t.2 t.0 hc ha,
    )

weight : (n : ℕ) (w : ℕ → ℕ → ℕ) (ts : List Triangle) → Below n ts → pairs n (λ p q. runs p q ts * w p q) ≡ sum (run w) ts
weight n w [] below = sum_same (λ p. sum (λ q. 0 * w p q) (count 0 n)) (λ p. 0) (count 0 n) (λ p i. none p) ∙ sum-zero (count 0 n)
  where
    none : (p : ℕ) → sum (λ q. 0 * w p q) (count 0 n) ≡ 0
    none p = sum_same (λ q. 0 * w p q) (λ q. 0) (count 0 n) (λ q j. omega arith) ∙ sum-zero (count 0 n)
weight n w (t ∷ ts) below =
    let f : ℕ → ℕ → ℕ = λ p q. run (step p q) t * w p q in
    let g : ℕ → ℕ → ℕ = λ p q. runs p q ts * w p q in
    let parts : pairs n (λ p q. runs p q (t ∷ ts) * w p q) ≡ pairs n (λ p q. f p q + g p q) =
    pairs_same n (λ p q. runs p q (t ∷ ts) * w p q) (λ p q. f p q + g p q) (λ p q hp hq. omega arith) in
    omega (arith, parts, pairs_add n f g, run_weight n w t (below t (inl refl)), weight n w ts (λ u i. below u (inr i)))

pub balanced : (n : ℕ) (ts : List Triangle) → Below n ts → ((p q : ℕ) → p < n → q < n → runs p q ts ≡ runs q p ts)
    → (w : ℕ → ℕ → ℕ) → sum (run w) ts ≡ sum (run (turn w)) ts
balanced n ts below balance w =
    sym (weight n w ts below)
    ∙ pairs_same n (λ p q. runs p q ts * w p q) (λ p q. runs q p ts * w p q) (λ p q hp hq. ap (λ (x : ℕ). x * w p q) (balance p q hp hq))
    ∙ pairs_turn n (λ p q. runs q p ts * w p q)
    ∙ weight n (turn w) ts below
