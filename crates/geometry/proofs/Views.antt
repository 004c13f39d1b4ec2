-- A square as one of its two cells sees it: its steps one by one, and the points of its edges that they meet.
use Prim.Native.Nat.{ℕ, zero, suc, ◌+◌, ◌*◌, ◌^◌, ◌≤◌}
use native.Mathlib.Omega.{arith}
use mathlib.Core.Path.{◌≡◌, refl, sym, ◌∙◌}
use mathlib.Core.Logic.{◌⊎◌, inl, inr}
use mathlib.Core.Bool.{Bool, true, false, ◌&&◌, false≢true}
use mathlib.Core.List.{List, [], ◌∷◌}
use lib.Dec.{T, eqb, eqb→eq}
use Rattle.base.specs.Lists.{sum, bit}
use Rattle.base.specs.Grid.{Axis, next}
use Rattle.rules.specs.Survey.{Survey}
use Rattle.rules.specs.Steps.{Step}
use Rattle.rules.specs.Closing.{step}
use Rattle.base.proofs.Tests.{→and, eq→eqb, bit-true}
use Rattle.base.proofs.Lists.{In}
use Rattle.base.proofs.Sums.{in_sum}
use Rattle.geometry.proofs.Grid.{At, place, half, total_whole, views}
use Rattle.geometry.proofs.Face.{rises}
use Rattle.geometry.proofs.Square.{turned, point_at, square_point, square_steps, drawn, fore, back, left_is, entered-is}
use Rattle.geometry.proofs.Sides.{parted}
use Rattle.geometry.proofs.Trees.{differ, odd_is}
use Rattle.geometry.proofs.Points.{odd_at}
use Rattle.geometry.proofs.Located.{hits}

-- ---- steps found by a sum

sum-some : {A : Type 0} (f : A → ℕ) (xs : List A) → 1 ≤ sum f xs → (x : A) × In x xs × (1 ≤ f x)
sum-some f [] h = absurd (omega arith)
sum-some f (x ∷ xs) h = go (f x) refl (sum-some f xs)
  where
    go : (n : ℕ) → f x ≡ n → (1 ≤ sum f xs → (y : _) × In y xs × (1 ≤ f y)) → (y : _) × In y (x ∷ xs) × (1 ≤ f y)
    go zero e ih = let r = ih (omega arith) in (r.0, inr r.1, r.2)
    go (suc n) e ih = (x, inl refl, omega arith)

pub either_pos : (m n : ℕ) → 1 ≤ m + n → (1 ≤ m) ⊎ (1 ≤ n)
either_pos zero n h = inr (omega arith)
either_pos (suc m) n h = inl (omega arith)

pub hits_pos : (v x : ℕ) → 1 ≤ hits v x → v ≡ x
hits_pos v x h = go (eqb v x) (eqb→eq v x) h
  where
    go : (b : Bool) → (T b → v ≡ x) → 1 ≤ bit b → v ≡ x
    go true f h = f tt
    go false f h = absurd (omega arith)

pub hits_same : (v x : ℕ) → v ≡ x → 1 ≤ hits v x
hits_same v x e = omega (arith, bit-true (eqb v x) (eq→eqb v x e))

pub step_same : (p q a b : ℕ) → p ≡ a → q ≡ b → 1 ≤ step p q a b
unfolding step
step_same p q a b e f = omega (arith, bit-true (eqb p a && eqb q b) (→and (eqb p a) (eqb q b) (eq→eqb p a e) (eq→eqb q b f)))

-- a sum over some steps of a leaf, of which each that counts can be named
abbrev pub Named : ((Step → ℕ) → ℕ) → Type 0
Named total = (f : Step → ℕ) → 1 ≤ total f → (t : Step) × (1 ≤ f t) × ((h : Step → ℕ) → h t ≤ total h)

-- ---- one edge of a square

module _ (s : Survey) where
  -- how often the edge carries x, either way
  abbrev pub weight : ℕ → Axis → At ℕ
  weight x b k i j l = fore s (hits x) b k i j l + back s (hits x) b k i j l

  marks : (lo hi t : Bool) → 1 ≤ bit (rises lo hi) * bit t + bit (rises hi lo) * bit t → T t × (differ lo hi ≡ true)
  marks true true t h = absurd (omega arith)
  marks true false true h = (tt, refl)
  marks true false false h = absurd (omega arith)
  marks false true true h = (tt, refl)
  marks false true false h = absurd (omega arith)
  marks false false t h = absurd (omega arith)

  pub weight→ : (x : ℕ) (b : Axis) (k i j l : ℕ) → 1 ≤ weight x b k i j l → (x ≡ point_at s b k i j l) × (odd_is s b k (place b i j l) ≡ true)
  unfolding fore back
  weight→ x b k i j l h =
      let (t, d) = marks (s.is_wet (place b i j l)) (s.is_wet (place b (i + 2 ^ k) j l)) (eqb x (point_at s b k i j l)) h in
      (eqb→eq x (point_at s b k i j l) t, odd_at s b k i j l ∙ d)

  marked : (lo hi t : Bool) → T t → differ lo hi ≡ true → 1 ≤ bit (rises lo hi) * bit t + bit (rises hi lo) * bit t
  marked true true t u d = absurd (false≢true d)
  marked true false true u d = omega arith
  marked true false false u d = absurd u
  marked false true true u d = omega arith
  marked false true false u d = absurd u
  marked false false t u d = absurd (false≢true d)

  pub →weight : (x : ℕ) (b : Axis) (k i j l : ℕ) → x ≡ point_at s b k i j l → odd_is s b k (place b i j l) ≡ true → 1 ≤ weight x b k i j l
  unfolding fore back
  →weight x b k i j l e o =
      marked (s.is_wet (place b i j l)) (s.is_wet (place b (i + 2 ^ k) j l)) (eqb x (point_at s b k i j l))
      (eq→eqb x (point_at s b k i j l) e) (sym (odd_at s b k i j l) ∙ o)

  -- ---- a square as one of its two cells sees it

  abbrev seen_as : Bool → (Step → ℕ) → Step → ℕ
  seen_as true f = f
  seen_as false f = turned f

  pub view : Bool → Axis → ℕ → ℕ → ℕ → ℕ → (Step → ℕ) → ℕ
  view o b k n u v f = drawn s (seen_as o f) b k n u v

  drawn-named : (b : Axis) (k n u v : ℕ) → Named (λ f. drawn s f b k n u v)
  unfolding drawn
  drawn-named b k n u v f h =
      let P : Step → Step = λ t. (square_point s b k n u v t.0, square_point s b k n u v t.1) in
      let (t, i, p) = sum-some (λ t. f (P t)) (square_steps s b k n u v) h in
      (P t, p, λ h. in_sum (λ t. h (P t)) (square_steps s b k n u v) t i)

  pub view_named : (o : Bool) (b : Axis) (k n u v : ℕ) → Named (view o b k n u v)
  unfolding view
  view_named true b k n u v f h = drawn-named b k n u v f h
  view_named false b k n u v f h =
      let (t, p, q) = drawn-named b k n u v (turned f) h in
      ((t.1, t.0), p, λ h. q (turned h))

  -- the four edges carry what the steps meet
  pub view_ends : (o : Bool) (b : Axis) (k n u v x : ℕ) → view o b k n u v (λ t. hits x t.0) + view o b k n u v (λ t. hits x t.1)
      ≡ weight x (next b) k u v n + weight x (next (next b)) k v n (u + 2 ^ k) + (weight x (next b) k u (v + 2 ^ k) n + weight x (next (next b)) k v n u)
  unfolding view
  view_ends true b k n u v x = omega (arith, left_is s (hits x) b k n u v, entered-is s (hits x) b k n u v)
  view_ends false b k n u v x = omega (arith, left_is s (hits x) b k n u v, entered-is s (hits x) b k n u v)

  -- on a side that is not divided, a cell sees the square itself
  pub side_shows : (f : Step → ℕ) (o : Bool) (b : Axis) (k n u v : ℕ) → parted s.cells b k (half o k n) u v ≡ false
      → view o b k (half o k n) u v f ≤ views (parted s.cells) (drawn s f) (drawn s (turned f)) k b n u v
  unfolding view
  side_shows f true b k n u v h = omega (arith, total_whole (parted s.cells b) (drawn s f b) k (n + 2 ^ k) u v h)
  side_shows f false b k n u v h = omega (arith, total_whole (parted s.cells b) (drawn s (turned f) b) k n u v h)
