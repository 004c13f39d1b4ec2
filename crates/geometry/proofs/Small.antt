-- A sum over the face steps of a leaf is what the leaf sees on its six sides. The rules look only at the cell across a leaf's side; inside a
-- leaf nothing is split, so these are the squares with no split cell on either side.
use Prim.Native.Nat.{ℕ, zero, suc, ◌+◌, ◌^◌, ◌≤◌, ◌<◌}
use native.Mathlib.Omega.{arith}
use lib.Pow.{pow_pos}
use mathlib.Core.Path.{◌≡◌, refl, sym, ◌∙◌, ap, subst}
use mathlib.Core.Logic.{◌⊎◌, inl, inr}
use mathlib.Core.Bool.{Bool, true, false, not, ◌||◌}
use mathlib.Core.List.{List, [], ◌∷◌, ◌++◌}
use lib.Dec.{T}
use Rattle.base.specs.Lists.{any, sum, collect}
use Rattle.base.specs.Grid.{Place, Axis, X, Y, Z, next, along, move}
use Rattle.rules.specs.Survey.{Cell, cell, Survey}
use Rattle.rules.specs.Steps.{Step, Side, upper_side, lower_side, sides, side_low, Face, face, split_across, small_faces, face_steps, leaf_steps}
use Rattle.base.proofs.Tests.{false→, either, not_both, below}
use Rattle.base.proofs.Lists.{In, in_keep, keep_in}
use Rattle.base.proofs.Sums.{sum_append, sum-collect}
use Rattle.base.proofs.Octants.{Holds}
use Rattle.octree.specs.Lawful.{is_cell, is_split, CornerOf, Lawful}
use Rattle.octree.proofs.Cells.{cell→, →cell, split-cell}
use Rattle.octree.proofs.Covers.{holds_self}
use Rattle.octree.proofs.Aligned.{one_cube, cell_aligned}
use Rattle.octree.proofs.Inside.{split_of, no_cell-inside}
use Rattle.geometry.proofs.Interface.{leaves_of}
use Rattle.geometry.proofs.Grid.{At, place, half, far, move-first, move-second, four, total, total_divided, total_whole, seen}
use Rattle.geometry.proofs.Square.{turned, drawn, seen_below, seen_above}
use Rattle.geometry.proofs.Area.{Kept}
use Rattle.geometry.proofs.Sides.{over, under, parted, over_is, under_is, corner_halves}

-- ---- the small faces of one side

small-split : (cells : List Cell) (side : Side) (p : Place) (k : ℕ) → any (split_across side p (suc k)) cells ≡ true → small_faces cells side p (suc k)
    ≡ small_faces cells side p k ++ small_faces cells side (move side.right (2 ^ k) p) k ++ small_faces cells side (move side.up (2 ^ k) p) k
    ++ small_faces cells side (move side.right (2 ^ k) (move side.up (2 ^ k) p)) k
unfolding small_faces
small-split cells side p k e = rw (e, small_faces)

small-whole : (cells : List Cell) (side : Side) (p : Place) (k : ℕ) → any (split_across side p (suc k)) cells ≡ false
    → small_faces cells side p (suc k) ≡ face p (suc k) ∷ []
unfolding small_faces
small-whole cells side p k e = rw (e, small_faces)

-- a side of axis a, of which each face weighs what st says
module _ (cells : List Cell) (side : Side) (weight : Face → ℕ) (a : Axis) (st : At ℕ)
    (face-is : (k n u v : ℕ) → weight (face (place a n u v) k) ≡ st k n u v)
    (quarters : (g : Place → ℕ) (k n u v : ℕ) →
    let p = place a n u v in
    g p + g (move side.right (2 ^ k) p) + g (move side.up (2 ^ k) p) + g (move side.right (2 ^ k) (move side.up (2 ^ k) p))
    ≡ four (λ u v. g (place a n u v)) (2 ^ k) u v) where
  abbrev across : At Bool
  across k n u v = any (split_across side (place a n u v) k) cells

  abbrev in_side : ℕ → Place → ℕ
  in_side k p = sum weight (small_faces cells side p k)

  pub small_total : (k n u v : ℕ) → in_side k (place a n u v) ≡ total across st k n u v
  unfolding small_faces total
  small_total zero n u v = omega (arith, face-is 0 n u v)
  small_total (suc k) n u v = go (small_total k n) (across (suc k) n u v) refl
    where
      p : Place
      p = place a n u v

      go : ((u v : ℕ) → in_side k (place a n u v) ≡ total across st k n u v) → (b : Bool) → across (suc k) n u v ≡ b
          → in_side (suc k) (place a n u v) ≡ total across st (suc k) n u v
      go ih true e =
          let right = move side.right (2 ^ k) p in
          let up = move side.up (2 ^ k) p in
          let both = move side.right (2 ^ k) up in
          let f0 = small_faces cells side p k in
          let f1 = small_faces cells side right k in
          let f2 = small_faces cells side up k in
          let f3 = small_faces cells side both k in
          ap (sum weight) (small-split cells side p k e)
          ∙ omega (
            arith,
            sum_append weight (f0 ++ f1 ++ f2) f3,
            sum_append weight (f0 ++ f1) f2,
            sum_append weight f0 f1,
            quarters (in_side k) k n u v,
            ih u v,
            ih (u + 2 ^ k) v,
            ih u (v + 2 ^ k),
            ih (u + 2 ^ k) (v + 2 ^ k),
            total_divided across st k n u v e,
          )
      go ih false e =
          ap (sum weight) (small-whole cells side p k e) ∙ omega (arith, face-is (suc k) n u v, total_whole across st (suc k) n u v e)

pub quarters-above : (a : Axis) (g : Place → ℕ) (k n u v : ℕ) →
    let p = place a n u v in
    g p + g (move (next a) (2 ^ k) p) + g (move (next (next a)) (2 ^ k) p) + g (move (next a) (2 ^ k) (move (next (next a)) (2 ^ k) p))
    ≡ four (λ u v. g (place a n u v)) (2 ^ k) u v
quarters-above a g k n u v =
    omega (
      arith,
      ap g (move-first a (2 ^ k) n u v),
      ap g (move-second a (2 ^ k) n u v),
      ap g (ap (move (next a) (2 ^ k)) (move-second a (2 ^ k) n u v) ∙ move-first a (2 ^ k) n u (v + 2 ^ k)),
    )

pub quarters_below : (a : Axis) (g : Place → ℕ) (k n u v : ℕ) →
    let p = place a n u v in
    g p + g (move (next (next a)) (2 ^ k) p) + g (move (next a) (2 ^ k) p) + g (move (next (next a)) (2 ^ k) (move (next a) (2 ^ k) p))
    ≡ four (λ u v. g (place a n u v)) (2 ^ k) u v
quarters_below a g k n u v =
    omega (
      arith,
      ap g (move-first a (2 ^ k) n u v),
      ap g (move-second a (2 ^ k) n u v),
      ap g (ap (move (next (next a)) (2 ^ k)) (move-first a (2 ^ k) n u v) ∙ move-second a (2 ^ k) n (u + 2 ^ k) v),
    )

-- ---- inside a leaf

-- two ways to divide that agree wherever Q holds
module _ (d d' : At Bool) (Q : ℕ → ℕ → ℕ → ℕ → Type 0) (keep : Kept d Q) (same : (k n u v : ℕ) → Q k n u v → d k n u v ≡ d' k n u v) where
  total_same : (st : At ℕ) (k n u v : ℕ) → Q k n u v → total d st k n u v ≡ total d' st k n u v
  unfolding total
  total_same st zero n u v h = refl
  total_same st (suc k) n u v h = go (d (suc k) n u v) refl (λ u v h. total_same st k n u v h)
    where
      go : (b : Bool) → d (suc k) n u v ≡ b → ((u v : ℕ) → Q k n u v → total d st k n u v ≡ total d' st k n u v)
          → total d st (suc k) n u v ≡ total d' st (suc k) n u v
      go true e ih =
          let part = keep k n u v h e in
          omega (
            arith,
            total_divided d st k n u v e,
            total_divided d' st k n u v (sym (same (suc k) n u v h) ∙ e),
            ih u v (part false false),
            ih (u + 2 ^ k) v (part true false),
            ih u (v + 2 ^ k) (part false true),
            ih (u + 2 ^ k) (v + 2 ^ k) (part true true),
          )
      go false e ih = total_whole d st (suc k) n u v e ∙ sym (total_whole d' st (suc k) n u v (sym (same (suc k) n u v h) ∙ e))

-- no cell in the cube of level k at p is split
abbrev pub Bare : List Cell → ℕ → Place → Type 0
Bare cells k p = (l : ℕ) (q : Place) → l ≤ k → Holds (2 ^ k) p q → is_split cells l q ≡ false

or_false : (a b : Bool) → b ≡ false → a || b ≡ a
or_false true b e = refl
or_false false b e = e

module _ (cells : List Cell) where
  bare_whole : (k : ℕ) (p : Place) → Bare cells k p → is_split cells k p ≡ false
  bare_whole k p h = h k p (omega arith) (λ x. (omega arith, omega (arith, pow_pos k)))

  bare_child : (k : ℕ) (p q : Place) → CornerOf k p q → Bare cells (suc k) p → Bare cells k q
  bare_child k p q c h l y b i = h l y (omega arith) (λ x. wide x (c x) (i x))
    where
      wide : (x : Axis) → (along x q ≡ along x p) ⊎ (along x q ≡ along x p + 2 ^ k) → (along x q ≤ along x y) × (along x y < along x q + 2 ^ k)
          → (along x p ≤ along x y) × (along x y < along x p + 2 ^ suc k)
      wide x (inl e) (f, g) = (omega arith, omega arith)
      wide x (inr e) (f, g) = (omega arith, omega arith)

  bare_half : (a : Axis) (k n u v : ℕ) → Bare cells (suc k) (place a n u v) → (b q r : Bool) → Bare cells k (place a (half b k n) (half q k u) (half r k v))
  bare_half a k n u v h b q r = bare_child k (place a n u v) (place a (half b k n) (half q k u) (half r k v)) (corner_halves a k n u v b q r) h

  -- the upper side of a leaf: only the cell over it counts; the lower side: only the cell under it
  above-leaf : (a : Axis) (st : At ℕ) (k n u v : ℕ) → Bare cells k (place a n u v)
      → total (parted cells a) st k (n + 2 ^ k) u v ≡ total (over cells a) st k (n + 2 ^ k) u v
  unfolding parted
  above-leaf a st k n u v h =
      total_same (parted cells a) (over cells a) (λ k m u v. (n : ℕ) × (m ≡ n + 2 ^ k) × Bare cells k (place a n u v))
      (λ k m u v h e q r. (h.0 + 2 ^ k, h.1 ∙ far k h.0, bare_half a k h.0 u v h.2 true q r))
      (λ k m u v h. or_false (over cells a k m u v) (under cells a k m u v)
      (ap (λ m. under cells a k m u v) h.1 ∙ under_is cells a k h.0 u v ∙ bare_whole k (place a h.0 u v) h.2))
      st k (n + 2 ^ k) u v (n, refl, h)

  below_leaf : (a : Axis) (st : At ℕ) (k n u v : ℕ) → Bare cells k (place a n u v) → total (parted cells a) st k n u v ≡ total (under cells a) st k n u v
  unfolding parted
  below_leaf a st k n u v h =
      total_same (parted cells a) (under cells a) (λ k m u v. Bare cells k (place a m u v))
      (λ k m u v h e q r. bare_half a k m u v h false q r)
      (λ k m u v h. ap (λ b. b || under cells a k m u v) (over_is cells a k m u v ∙ bare_whole k (place a m u v) h))
      st k n u v h

-- ---- the six sides of a leaf

module _ (s : Survey) (f : Step → ℕ) where
  abbrev on_side : Side → Place → ℕ → ℕ
  on_side side p k = sum f (collect (face_steps s side) (small_faces s.cells side p k))

  upper_is : (a : Axis) (k n u v : ℕ) → Bare s.cells k (place a n u v)
      → on_side (upper_side a) (place a (n + 2 ^ k) u v) k ≡ total (parted s.cells a) (drawn s f a) k (n + 2 ^ k) u v
  upper_is a k n u v h =
      sum-collect f (face_steps s (upper_side a)) (small_faces s.cells (upper_side a) (place a (n + 2 ^ k) u v) k)
      ∙ small_total s.cells (upper_side a) (λ F. sum f (face_steps s (upper_side a) F)) a (drawn s f a) (seen_below s f a) (quarters-above a) k (n + 2 ^ k) u v
      ∙ sym (above-leaf s.cells a (drawn s f a) k n u v h)

  lower_is : (a : Axis) (k n u v : ℕ) → Bare s.cells k (place a n u v)
      → on_side (lower_side a) (place a n u v) k ≡ total (parted s.cells a) (drawn s (turned f) a) k n u v
  lower_is a k n u v h =
      sum-collect f (face_steps s (lower_side a)) (small_faces s.cells (lower_side a) (place a n u v) k)
      ∙ small_total s.cells (lower_side a) (λ F. sum f (face_steps s (lower_side a) F)) a (drawn s (turned f) a) (seen_above s f a) (quarters_below a) k n u v
      ∙ sym (below_leaf s.cells a (drawn s (turned f) a) k n u v h)

  -- what a cell sees of the steps on its six sides
  unfoldable pub shown : ℕ → Place → ℕ
  shown k p = seen (parted s.cells) (drawn s f) (drawn s (turned f)) k p

  pub leaf-shows : (c : Cell) → Bare s.cells c.level c.low → sum f (leaf_steps s c) ≡ shown c.level c.low
  unfolding leaf_steps shown seen
  leaf-shows c h =
      let k = c.level in
      let x = c.low.x in
      let y = c.low.y in
      let z = c.low.z in
      sum-collect f (λ side. collect (face_steps s side) (small_faces s.cells side (side_low side c) c.level)) sides
      ∙ omega (arith, upper_is X k x y z h, lower_is X k x y z h, upper_is Y k y z x h, lower_is Y k y z x h, upper_is Z k z x y h, lower_is Z k z x y h)

-- ---- leaves

module _ (s : Survey) (law : Lawful s) where
  -- a leaf is a cell in which nothing is split
  pub leaf-cell : (c : Cell) → In c (leaves_of s) → T (is_cell s.cells c.level c.low) × Bare s.cells c.level c.low
  leaf-cell c i = (is, bare)
    where
      listed : In c s.cells × T (not c.split)
      listed = in_keep (λ c. not c.split) s.cells c i

      is : T (is_cell s.cells c.level c.low)
      is = →cell s.cells c listed.0

      whole : is_split s.cells c.level c.low ≡ false
      whole = split_of s.cells law.octree c listed.0 ∙ false→ c.split listed.1

      bare : Bare s.cells c.level c.low
      bare l q h inside = go (either (is_split s.cells l q)) (below l c.level)
        where
          go : T (is_split s.cells l q) ⊎ (is_split s.cells l q ≡ false) → (l < c.level) ⊎ (c.level ≤ l) → is_split s.cells l q ≡ false
          go (inr e) _ = e
          go (inl t) (inl lt) =
              absurd (no_cell-inside s.cells law.octree c.level l c.low q is whole (split-cell s.cells l q t) lt inside)
          go (inl t) (inr ge) =
              let e : l ≡ c.level = omega arith in
              let t' = subst (λ n. T (is_split s.cells n q)) e t in
              let same = one_cube c.level q c.low q (cell_aligned s.cells law.octree c.level q (split-cell s.cells c.level q t'))
              (cell_aligned s.cells law.octree c.level c.low is) (holds_self c.level q) inside in
              absurd (not_both (subst (λ r. T (is_split s.cells c.level r)) same t') whole)

  -- a cell that is not split is a leaf
  pub cell-leaf : (k : ℕ) (p : Place) → T (is_cell s.cells k p) → is_split s.cells k p ≡ false → In (cell p k false) (leaves_of s)
  cell-leaf k p h e =
      let (b, i) = cell→ s.cells k p h in
      let q : b ≡ false = sym (split_of s.cells law.octree (cell p k b) i) ∙ e in
      keep_in (λ c. not c.split) s.cells (cell p k false) (subst (λ b. In (cell p k b) s.cells) q i) tt
