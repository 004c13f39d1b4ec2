-- Cells and edges stand at multiples of their size, within the box.
use Prim.Native.Nat.{ℕ, zero, suc, ◌+◌, ◌-◌, ◌*◌, ◌/◌, ◌^◌, ◌≤◌, ◌<◌}
use mathlib.Core.Path.{◌≡◌, refl, sym, ap, ◌∙◌, subst}
use mathlib.Core.Logic.{◌⊎◌, inl, inr}
use mathlib.Core.List.{List}
use native.Mathlib.Nat.{mul_assoc, suc-mul, pow-succ', eq_of_mul-eq-mul_right}
use native.Mathlib.Omega.{arith}
use lib.Arith.{digits_div}
use lib.Pow.{pow_pos, pow-add}
use lib.Dec.{T}
use Rattle.base.specs.Grid.{Place, origin, Axis, X, Y, Z, along}
use Rattle.rules.specs.Survey.{Cell}
use Rattle.rules.specs.Edges.{is_edge}
use Rattle.base.proofs.Places.{place_equal}
use Rattle.base.proofs.Octants.{Holds}
use Rattle.octree.specs.Lawful.{is_cell, CornerOf, Octree}
use Rattle.octree.proofs.Cells.{split-cell}
use Rattle.octree.proofs.Edges.{edge→}

-- ---- multiples of powers of two

abbrev pub Multiple : ℕ → ℕ → Type 0
Multiple l v = (k : ℕ) × (v ≡ k * 2 ^ l)

double : (k l : ℕ) → k * 2 ^ suc l ≡ k * 2 * 2 ^ l
double k l = ap (λ n. k * n) (pow-succ' 2 l) ∙ sym (mul_assoc k 2 (2 ^ l))

-- the two halves of an interval
pub lower_multiple : (l v : ℕ) → Multiple (suc l) v → Multiple l v
lower_multiple l v (k, h) = (k * 2, h ∙ double k l)

pub upper_multiple : (l v : ℕ) → Multiple (suc l) v → Multiple l (v + 2 ^ l)
upper_multiple l v (k, h) = (suc (k * 2), ap (λ n. n + 2 ^ l) (h ∙ double k l) ∙ sym (suc-mul (k * 2) (2 ^ l)))

pub next_multiple : (l v : ℕ) → Multiple l v → Multiple l (v + 2 ^ l)
next_multiple l v (k, h) = (suc k, ap (λ n. n + 2 ^ l) h ∙ sym (suc-mul k (2 ^ l)))

pub multiple_down : (n l v : ℕ) → Multiple (n + l) v → Multiple l v
multiple_down n l v (k, h) = (k * 2 ^ n, h ∙ ap (λ m. k * m) (pow-add 2 n l) ∙ sym (mul_assoc k (2 ^ n) (2 ^ l)))

-- a multiple of 2 ^ (l + 1) is not 2 ^ l above another one
pub no_middle : (l v w : ℕ) → Multiple (suc l) v → Multiple (suc l) w → v ≡ w + 2 ^ l → ⊥
no_middle l v w (j, f) (k, g) h =
    let e : j * 2 * 2 ^ l ≡ suc (k * 2) * 2 ^ l =
    sym (f ∙ double j l) ∙ h ∙ ap (λ n. n + 2 ^ l) (g ∙ double k l) ∙ sym (suc-mul (k * 2) (2 ^ l)) in
    let i = eq_of_mul-eq-mul_right (2 ^ l) (pow_pos l) (j * 2) (suc (k * 2)) e in
    omega arith

-- a number is less than 2 ^ l above one multiple of 2 ^ l only
pub one_multiple : (l v w t : ℕ) → Multiple l v → Multiple l w → v ≤ t → t < v + 2 ^ l → w ≤ t → t < w + 2 ^ l → v ≡ w
one_multiple l v w t (j, f) (k, g) a b c d =
    f ∙ ap (λ n. n * 2 ^ l) (sym (quotient j (omega arith) (omega arith)) ∙ quotient k (omega arith) (omega arith)) ∙ sym g
  where
    quotient : (i : ℕ) → i * 2 ^ l ≤ t → t < i * 2 ^ l + 2 ^ l → t / 2 ^ l ≡ i
    quotient i lo hi =
        let e : t ≡ i * 2 ^ l + (t - i * 2 ^ l) = omega arith in
        ap (λ n. n / 2 ^ l) e ∙ digits_div i {m = 2 ^ l} {r = t - i * 2 ^ l} (omega arith)

-- ---- places

-- every coordinate is a multiple of 2 ^ l
abbrev pub Aligned : ℕ → Place → Type 0
Aligned l p = (a : Axis) → Multiple l (along a p)

-- the cube of level l at p is in the box
abbrev pub InBox : ℕ → Place → Type 0
InBox l p = (a : Axis) → along a p + 2 ^ l ≤ 1024

-- cubes of one level at aligned places that hold one place are one
pub one_cube : (l : ℕ) (p q r : Place) → Aligned l p → Aligned l q → Holds (2 ^ l) p r → Holds (2 ^ l) q r → p ≡ q
one_cube l p q r f g h k =
    let e : (a : Axis) → along a p ≡ along a q =
    λ a. one_multiple l (along a p) (along a q) (along a r) (f a) (g a) (h a).0 (h a).1 (k a).0 (k a).1 in
    place_equal p q e

module _ (cells : List Cell) (tree : Octree cells) where
  -- n levels below the box
  below_box : (n l : ℕ) (p : Place) → T (is_cell cells l p) → n + l ≡ 10 → (a : Axis) → Multiple l (along a p) × (along a p + 2 ^ l ≤ 1024)
  below_box zero l p c e a =
      let ten : l ≡ 10 = omega arith in
      let o = ap (along a) (tree.only_box p (subst (λ m. T (is_cell cells m p)) ten c)) ∙ zeros a in
      subst (λ m. Multiple m (along a p) × (along a p + 2 ^ m ≤ 1024)) (sym ten) ((0, o), omega arith)
    where
      zeros : (a : Axis) → along a origin ≡ 0
      zeros X = refl
      zeros Y = refl
      zeros Z = refl
  below_box (suc n) l p c e a =
      let (u, s, f) = tree.parent l p c (omega arith) in
      go u (f a) (below_box n (suc l) u (split-cell cells (suc l) u s) (omega arith) a)
    where
      go : (u : Place) → (along a p ≡ along a u) ⊎ (along a p ≡ along a u + 2 ^ l) → Multiple (suc l) (along a u) × (along a u + 2 ^ suc l ≤ 1024) →
          Multiple l (along a p) × (along a p + 2 ^ l ≤ 1024)
      go u (inl h) (m, b) = (subst (Multiple l) (sym h) (lower_multiple l (along a u) m), let g = pow-succ' 2 l in omega arith)
      go u (inr h) (m, b) = (subst (Multiple l) (sym h) (upper_multiple l (along a u) m), let g = pow-succ' 2 l in omega arith)

  cell-place : (l : ℕ) (p : Place) → T (is_cell cells l p) → (a : Axis) → Multiple l (along a p) × (along a p + 2 ^ l ≤ 1024)
  cell-place l p c = let h = tree.shallow l p c in below_box (10 - l) l p c (omega arith)

  -- a cell stands at multiples of its size, within the box
  pub cell_aligned : (l : ℕ) (p : Place) → T (is_cell cells l p) → Aligned l p
  cell_aligned l p c a = (cell-place l p c a).0

  pub cell_in_box : (l : ℕ) (p : Place) → T (is_cell cells l p) → InBox l p
  cell_in_box l p c a = (cell-place l p c a).1

  -- and so do its corners
  pub corner-place : (l : ℕ) (p q : Place) → T (is_cell cells l p) → CornerOf l p q → (a : Axis) → Multiple l (along a q) × (along a q ≤ 1024)
  corner-place l p q c f a = go (f a) (cell-place l p c a)
    where
      go : (along a q ≡ along a p) ⊎ (along a q ≡ along a p + 2 ^ l) → Multiple l (along a p) × (along a p + 2 ^ l ≤ 1024) →
          Multiple l (along a q) × (along a q ≤ 1024)
      go (inl h) (m, b) = (subst (Multiple l) (sym h) m, omega arith)
      go (inr h) (m, b) = (subst (Multiple l) (sym h) (next_multiple l (along a p) m), omega arith)

  -- ---- edges

  pub edge_aligned : (a : Axis) (p : Place) (l : ℕ) → T (is_edge cells a p l) → Aligned l p
  edge_aligned a p l t b = let (q, c, g, f) = edge→ cells a p l t in (corner-place l q p c f b).0

  -- an edge is within the box
  pub edge_in_box : (a : Axis) (p : Place) (l : ℕ) → T (is_edge cells a p l) → along a p + 2 ^ l ≤ 1024
  edge_in_box a p l t = let (q, c, g, f) = edge→ cells a p l t in omega (arith, cell_in_box l q c a)

  pub edge-level : (a : Axis) (p : Place) (l : ℕ) → T (is_edge cells a p l) → l ≤ 10
  edge-level a p l t = let (q, c, g, f) = edge→ cells a p l t in tree.shallow l q c
