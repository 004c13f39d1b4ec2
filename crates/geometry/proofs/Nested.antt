-- Cells inside one another, axis by axis: a cell smaller than a split one and inside it is inside one of its halves on each axis.
use Prim.Native.Nat.{ℕ, suc, ◌+◌, ◌-◌, ◌*◌, ◌^◌, ◌≤◌, ◌<◌}
use native.Mathlib.Omega.{arith}
use lib.Pow.{pow_pos, pow-lt}
use mathlib.Core.Path.{◌≡◌, refl, sym, ◌∙◌, subst}
use mathlib.Core.Logic.{◌⊎◌, inl, inr}
use mathlib.Core.Bool.{Bool, true, false, ◌&&◌}
use mathlib.Core.List.{List}
use lib.Dec.{T, leb, leb→le, le→leb}
use Rattle.base.specs.Lists.{all, bit}
use Rattle.base.specs.Grid.{Place, Axis, X, Y, Z, axes, next, along}
use Rattle.rules.specs.Survey.{Cell, cell, size}
use Rattle.base.proofs.Tests.{and→, →and, not_both, below, bit-true, bit_le}
use Rattle.base.proofs.Lists.{In, all→in}
use Rattle.base.proofs.Places.{each-axis}
use Rattle.base.proofs.Octants.{Holds}
use Rattle.octree.specs.Lawful.{is_cell, is_split, Octree}
use Rattle.octree.proofs.Cells.{→cell, split-cell}
use Rattle.octree.proofs.Covers.{holds_self}
use Rattle.octree.proofs.Aligned.{Multiple, upper_multiple, multiple_down, one_multiple, Aligned, one_cube, cell_aligned}
use Rattle.octree.proofs.Inside.{split_of}
use Rattle.geometry.specs.SmallFaces.{lies, inside}
use Rattle.geometry.proofs.Grid.{place}

-- ---- intervals

lies→ : (x s v t : ℕ) → T (lies x s v t) → (v ≤ x) × (x + s ≤ v + t)
lies→ x s v t h = let u = and→ (leb v x) (leb (x + s) (v + t)) h in (leb→le v x u.0, leb→le (x + s) (v + t) u.1)

→lies : (x s v t : ℕ) → v ≤ x → x + s ≤ v + t → T (lies x s v t)
→lies x s v t f g = →and (leb v x) (leb (x + s) (v + t)) (le→leb v x f) (le→leb (x + s) (v + t) g)

pub lies-yes : (x s v t : ℕ) → v ≤ x → x + s ≤ v + t → bit (lies x s v t) ≡ 1
lies-yes x s v t f g = bit-true (lies x s v t) (→lies x s v t f g)

pub bit_no : (b : Bool) → (T b → ⊥) → bit b ≡ 0
bit_no b h = let z = bit_le b false (λ t. absurd (h t)) in omega arith

lies_no : (x s v t : ℕ) → (v ≤ x → x + s ≤ v + t → ⊥) → bit (lies x s v t) ≡ 0
lies_no x s v t h = bit_no (lies x s v t) (λ w. let (f, g) = lies→ x s v t w in h f g)

-- an interval at a multiple of its length ends before the next multiple
apart : (j x w : ℕ) → Multiple j x → Multiple j w → x < w → x + 2 ^ j ≤ w
apart j x w m n h = go (below w (x + 2 ^ j))
  where
    go : (w < x + 2 ^ j) ⊎ (x + 2 ^ j ≤ w) → x + 2 ^ j ≤ w
    go (inl g) = let e = one_multiple j x w w m n (omega arith) g (omega arith) (omega (arith, pow_pos j)) in absurd (omega arith)
    go (inr g) = g

-- an interval no longer than a half lies in the whole where it lies in one of the halves
pub halves : (j k x v : ℕ) → j ≤ k → Multiple j x → Multiple (suc k) v →
    bit (lies x (2 ^ j) v (2 ^ suc k)) ≡ bit (lies x (2 ^ j) v (2 ^ k)) + bit (lies x (2 ^ j) (v + 2 ^ k) (2 ^ k))
halves j k x v h m n = go (below x (v + 2 ^ k)) (below x v) (below (v + 2 ^ suc k) (x + 2 ^ j))
  where
    middle : Multiple j (v + 2 ^ k)
    middle =
        let e : k ≡ k - j + j = omega arith in
        multiple_down (k - j) j (v + 2 ^ k) (subst (λ i. Multiple i (v + 2 ^ k)) e (upper_multiple k v n))

    go : (x < v + 2 ^ k) ⊎ (v + 2 ^ k ≤ x) → (x < v) ⊎ (v ≤ x) → (v + 2 ^ suc k < x + 2 ^ j) ⊎ (x + 2 ^ j ≤ v + 2 ^ suc k) →
        bit (lies x (2 ^ j) v (2 ^ suc k)) ≡ bit (lies x (2 ^ j) v (2 ^ k)) + bit (lies x (2 ^ j) (v + 2 ^ k) (2 ^ k))
    go (inl f) (inl g) _ =
        omega (
          arith,
          lies_no x (2 ^ j) v (2 ^ suc k) (λ p q. omega arith),
          lies_no x (2 ^ j) v (2 ^ k) (λ p q. omega arith),
          lies_no x (2 ^ j) (v + 2 ^ k) (2 ^ k) (λ p q. omega arith),
        )
    go (inl f) (inr g) _ =
        let r = apart j x (v + 2 ^ k) m middle f in
        omega (
          arith,
          lies-yes x (2 ^ j) v (2 ^ suc k) g (omega arith),
          lies-yes x (2 ^ j) v (2 ^ k) g r,
          lies_no x (2 ^ j) (v + 2 ^ k) (2 ^ k) (λ p q. omega arith),
        )
    go (inr f) _ (inl g) =
        omega (
          arith,
          lies_no x (2 ^ j) v (2 ^ suc k) (λ p q. omega arith),
          lies_no x (2 ^ j) v (2 ^ k) (λ p q. omega arith),
          lies_no x (2 ^ j) (v + 2 ^ k) (2 ^ k) (λ p q. omega arith),
        )
    go (inr f) _ (inr g) =
        omega (
          arith,
          lies-yes x (2 ^ j) v (2 ^ suc k) (omega arith) g,
          lies_no x (2 ^ j) v (2 ^ k) (λ p q. omega (arith, pow_pos j)),
          lies-yes x (2 ^ j) (v + 2 ^ k) (2 ^ k) f (omega arith),
        )

-- ---- cells

-- on an axis, the cell d lies between v and the place 2 ^ k above
abbrev pub between : Cell → Axis → ℕ → ℕ → Bool
between d a k v = lies (along a d.low) (2 ^ d.level) v (2 ^ k)

-- inside, axis by axis, from any axis on
pub inside_parts : (a : Axis) (k n u v : ℕ) (s : Bool) (d : Cell) →
    bit (inside (cell (place a n u v) k s) d) ≡ bit (between d a k n) * (bit (between d (next a) k u) * bit (between d (next (next a)) k v))
inside_parts a k n u v s d = go a
  where
    product : (x y z : Bool) → bit (x && (y && (z && true))) ≡ bit x * (bit y * bit z)
    product true true true = refl
    product true true false = refl
    product true false z = omega arith
    product false y z = omega arith

    go : (a : Axis) → bit (inside (cell (place a n u v) k s) d) ≡ bit (between d a k n) * (bit (between d (next a) k u) * bit (between d (next (next a)) k v))
    go X = product (between d X k n) (between d Y k u) (between d Z k v)
    go Y = product (between d X k v) (between d Y k n) (between d Z k u) ∙ omega arith
    go Z = product (between d X k u) (between d Y k v) (between d Z k n) ∙ omega arith

-- tests on each axis
pub axes→ : (on : Axis → Bool) → T (all on axes) → (a : Axis) → T (on a)
axes→ on t a = all→in on axes t a (each-axis a)

pub →axes : (on : Axis → Bool) → ((a : Axis) → T (on a)) → T (all on axes)
→axes on h = →and (on X) (on Y && (on Z && true)) (h X) (→and (on Y) (on Z && true) (h Y) (→and (on Z) true (h Z) tt))

pub inside→ : (e d : Cell) → T (inside e d) → (a : Axis) → (along a e.low ≤ along a d.low) × (along a d.low + size d ≤ along a e.low + size e)
inside→ e d t a =
    lies→ (along a d.low) (size d) (along a e.low) (size e)
    (axes→ (λ x. lies (along x d.low) (size d) (along x e.low) (size e)) t a)

-- a cell is inside itself
pub inside_self : (e : Cell) → T (inside e e)
inside_self e =
    →axes (λ x. lies (along x e.low) (size e) (along x e.low) (size e))
    (λ x. →lies (along x e.low) (size e) (along x e.low) (size e) (omega arith) (omega arith))

-- what is inside is no larger, and its lowest corner is inside
pub inside-level : (e d : Cell) → T (inside e d) → d.level ≤ e.level
inside-level e d t = go (below e.level d.level)
  where
    go : (e.level < d.level) ⊎ (d.level ≤ e.level) → d.level ≤ e.level
    go (inl h) = let (f, g) = inside→ e d t X in absurd (omega (arith, pow-lt h))
    go (inr h) = h

pub inside_large : (e d : Cell) → e.level < d.level → bit (inside e d) ≡ 0
inside_large e d h = bit_no (inside e d) (λ t. let g = inside-level e d t in omega arith)

pub inside-holds : (e d : Cell) → T (inside e d) → Holds (size e) e.low d.low
inside-holds e d t a = let (f, g) = inside→ e d t a in (f, omega (arith, pow_pos d.level))

module _ (cells : List Cell) (tree : Octree cells) where
  -- a cell inside another one and no smaller is at its place
  pub inside-same : (k : ℕ) (p : Place) (s : Bool) (d : Cell) → T (is_cell cells k p) → In d cells → T (inside (cell p k s) d) → k ≤ d.level →
      (k ≡ d.level) × (p ≡ d.low)
  inside-same k p s d c i t h =
      let f = inside-level (cell p k s) d t in
      let e : k ≡ d.level = omega arith in
      let al : Aligned k d.low = subst (λ m. Aligned m d.low) (sym e) (cell_aligned cells tree d.level d.low (→cell cells d i)) in
      (e, one_cube k p d.low d.low (cell_aligned cells tree k p c) al (inside-holds (cell p k s) d t) (holds_self k d.low))

  -- a split cell has no leaf of its own size inside
  pub no_leaf-inside : (k : ℕ) (p : Place) (s : Bool) (d : Cell) → T (is_split cells k p) → In d cells → d.split ≡ false → k ≤ d.level →
      bit (inside (cell p k s) d) ≡ 0
  no_leaf-inside k p s d t i whole h =
      bit_no (inside (cell p k s) d) (λ u.
      let (level, low) = inside-same k p s d (split-cell cells k p t) i u h in
      let at = subst (λ q. T (is_split cells d.level q)) low (subst (λ j. T (is_split cells j p)) level t) in
      not_both at (split_of cells tree d i ∙ whole))
