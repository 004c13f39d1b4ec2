-- Each step drawn between two cells is seen once from either side, so over a whole tree only the outer sides remain.
use Prim.Native.Nat.{ℕ, zero, suc, ◌+◌, ◌^◌}
use native.Mathlib.Omega.{arith}
use mathlib.Core.Path.{◌≡◌, refl, ◌∙◌}
use mathlib.Core.Bool.{Bool, true, false}
use Rattle.base.specs.Grid.{Place, Axis, X, Y, Z}
use Rattle.octree.proofs.Leaves.{tree_sum, tree_leaf, tree_split}
use Rattle.geometry.proofs.Grid.{At, place, far, four, eight, around, total, total_divided, views, seen}

-- a function of cells by coordinates
abbrev at : (ℕ → Place → ℕ) → At ℕ
at f k x y z = f k (place X x y z)

tree_eight : (split : ℕ → Place → Bool) (f : ℕ → Place → ℕ) (k x y z : ℕ) → split (suc k) (place X x y z) ≡ true
    → tree_sum split f (suc k) (place X x y z) ≡ eight (at (tree_sum split f) k) (2 ^ k) x y z
tree_eight split f k x y z e = tree_split split f k (place X x y z) e ∙ omega arith

-- One axis: the outer quarters of the eight children make up the cell's sides; what lies between two children is seen from both.
-- s: as the lower cell sees it; t: as the upper cell sees it.
column : (k n u v : ℕ) (s t : At ℕ)
    → s (suc k) n u v ≡ four (s k n) (2 ^ k) u v
    → t (suc k) n u v ≡ four (t k n) (2 ^ k) u v
    → s (suc k) (n + 2 ^ suc k) u v ≡ four (s k (n + 2 ^ suc k)) (2 ^ k) u v
    → t (suc k) (n + 2 ^ suc k) u v ≡ four (t k (n + 2 ^ suc k)) (2 ^ k) u v
    → eight (λ n u v. s k (n + 2 ^ k) u v + t k n u v) (2 ^ k) n u v + (t (suc k) (n + 2 ^ suc k) u v + s (suc k) n u v)
    ≡ eight (λ n u v. t k (n + 2 ^ k) u v + s k n u v) (2 ^ k) n u v + (s (suc k) (n + 2 ^ suc k) u v + t (suc k) n u v)
column k n u v s t low-s low-t high-s high-t = rw (high-s, high-t, ← far k n) (omega arith)

-- sums over three axes, regrouped: the eight children in each axis's own order
regroup : (f g f' g' : Axis → ℕ → ℕ → ℕ → ℕ) (s x y z : ℕ)
    → eight (f X) s x y z + g' X x y z ≡ eight (g X) s x y z + f' X x y z
    → eight (f Y) s y z x + g' Y y z x ≡ eight (g Y) s y z x + f' Y y z x
    → eight (f Z) s z x y + g' Z z x y ≡ eight (g Z) s z x y + f' Z z x y
    → eight (around f) s x y z + around g' x y z ≡ eight (around g) s x y z + around f' x y z
regroup f g f' g' s x y z hx hy hz = omega arith

-- the inductive step, with what the children are known to satisfy
gather : (f g f' g' : ℕ → ℕ → ℕ → ℕ) (p q s x y z : ℕ)
    → ((x y z : ℕ) → f x y z + g' x y z ≡ g x y z + f' x y z)
    → eight f' s x y z + q ≡ eight g' s x y z + p
    → eight f s x y z + q ≡ eight g s x y z + p
gather f g f' g' p q s x y z ih h =
    omega (
      arith,
      ih x y z,
      ih (x + s) y z,
      ih x (y + s) z,
      ih x y (z + s),
      ih (x + s) (y + s) z,
      ih (x + s) y (z + s),
      ih x (y + s) (z + s),
      ih (x + s) (y + s) (z + s),
    )

-- A tree of cells, and the squares that are divided: both sides of every split cell are, along each axis.
module _ (split : ℕ → Place → Bool) (d : Axis → At Bool)
    (sides : (a : Axis) (k n u v : ℕ) → split k (place a n u v) ≡ true → (d a k n u v ≡ true) × (d a k (n + 2 ^ k) u v ≡ true)) where
  axis : (s t : Axis → At ℕ) (a : Axis) (k n u v : ℕ) → split (suc k) (place a n u v) ≡ true
      → eight (views d s t k a) (2 ^ k) n u v + views d t s (suc k) a n u v ≡ eight (views d t s k a) (2 ^ k) n u v + views d s t (suc k) a n u v
  axis s t a k n u v e =
      let (low, high) = sides a (suc k) n u v e in
      column k n u v (total (d a) (s a)) (total (d a) (t a)) (total_divided (d a) (s a) k n u v low) (total_divided (d a) (t a) k n u v low)
      (total_divided (d a) (s a) k (n + 2 ^ suc k) u v high) (total_divided (d a) (t a) k (n + 2 ^ suc k) u v high)

  flow : (s t : Axis → At ℕ) (k x y z : ℕ) → split (suc k) (place X x y z) ≡ true
      → eight (at (seen d s t) k) (2 ^ k) x y z + seen d t s (suc k) (place X x y z)
      ≡ eight (at (seen d t s) k) (2 ^ k) x y z + seen d s t (suc k) (place X x y z)
  unfolding seen
  flow s t k x y z e =
      regroup (views d s t k) (views d t s k) (views d s t (suc k)) (views d t s (suc k)) (2 ^ k) x y z
      (axis s t X k x y z e) (axis s t Y k y z x e) (axis s t Z k z x y e)

  abbrev Telescopes : (s t : Axis → At ℕ) → ℕ → ℕ → ℕ → ℕ → Type 0
  Telescopes s t k x y z = at (tree_sum split (seen d s t)) k x y z + at (seen d t s) k x y z ≡ at (tree_sum split (seen d t s)) k x y z + at (seen d s t) k x y z

  -- over all leaves in a cell, what is seen of s and of t differs only by what the cell's own six sides show
  pub telescope : (s t : Axis → At ℕ) (k x y z : ℕ) → at (tree_sum split (seen d s t)) k x y z + at (seen d t s) k x y z
      ≡ at (tree_sum split (seen d t s)) k x y z + at (seen d s t) k x y z
  unfolding tree_sum
  telescope s t zero x y z = omega arith
  telescope s t (suc k) x y z = go (telescope s t k) (split (suc k) (place X x y z)) refl
    where
      go : ((x y z : ℕ) → Telescopes s t k x y z) → (b : Bool) → split (suc k) (place X x y z) ≡ b → Telescopes s t (suc k) x y z
      go ih true e =
          rw (tree_eight split (seen d s t) k x y z e, tree_eight split (seen d t s) k x y z e)
          (gather (at (tree_sum split (seen d s t)) k) (at (tree_sum split (seen d t s)) k) (at (seen d s t) k) (at (seen d t s) k)
          (at (seen d s t) (suc k) x y z) (at (seen d t s) (suc k) x y z) (2 ^ k) x y z ih (flow s t k x y z e))
      go ih false e = rw (tree_leaf split (seen d s t) (suc k) (place X x y z) e, tree_leaf split (seen d t s) (suc k) (place X x y z) e) (omega arith)
