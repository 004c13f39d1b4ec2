-- The small faces by which the rules go down from a side into the cell across, counted by leaves: each quarter is the side of a child, and a leaf
-- inside the cell that touches the side's plane is inside one of the four children whose sides the quarters are.
use Prim.Native.Nat.{ℕ, zero, suc, ◌+◌, ◌*◌, ◌^◌, ◌≤◌, ◌<◌}
use native.Mathlib.Omega.{arith}
use lib.Pow.{pow_mono}
use mathlib.Core.Path.{◌≡◌, refl, sym, ◌∙◌, ap}
use mathlib.Core.Logic.{◌⊎◌, inl, inr}
use mathlib.Core.Bool.{Bool, true, false, not, ◌&&◌}
use mathlib.Core.List.{List}
use lib.Dec.{T, eqb, eqb→eq}
use Rattle.base.specs.Lists.{any, sum, bit}
use Rattle.base.specs.Grid.{Place, Axis, X, Y, Z, next, along}
use Rattle.rules.specs.Survey.{Cell, cell}
use Rattle.rules.specs.Steps.{upper_side, lower_side, side_by, Face, face, same_face, side_low, split_across, small_faces}
use Rattle.base.proofs.Tests.{and→, →and, true→, false→, either, not_both, eq→eqb, below, bit-true}
use Rattle.base.proofs.Lists.{In}
use Rattle.base.proofs.Sums.{sum-add, sum_times, sum_same, in_sum, times}
use Rattle.octree.specs.Lawful.{is_at, is_cell, is_split, copies, Octree}
use Rattle.octree.proofs.Cells.{at→, →at, is_at_lem, cell→, →cell, split-cell}
use Rattle.octree.proofs.Aligned.{cell_aligned}
use Rattle.octree.proofs.Inside.{split_of, no_cell-inside}
use Rattle.geometry.specs.SmallFaces.{side_of, opposite, inside}
use Rattle.geometry.proofs.Grid.{At, place, half, far, four, total, total_divided, total_whole, along-across, along-first, along-second}
use Rattle.geometry.proofs.Sides.{over, under, over_is, under_is, corner_halves}
use Rattle.geometry.proofs.Small.{small_total, quarters-above, quarters_below}
use Rattle.geometry.proofs.Nested.{bit_no, halves, between, lies-yes, inside_parts, inside_self, inside_large, inside-holds, inside-same, no_leaf-inside}

-- ---- sides, by axis

-- where, on the axis, a cell of level k at n beyond such a side has its side towards the leaf
abbrev pub near : Bool → ℕ → ℕ → ℕ
near b k n = half (not b) k n

-- the child on the near side has it at the same place
near_near : (b : Bool) (k n : ℕ) → near b (suc k) n ≡ near b k (near b k n)
near_near true k n = refl
near_near false k n = far k n

pub own_low : (a : Axis) (b : Bool) (c : Cell) →
    side_low (side_by a b) c ≡ place a (half b c.level (along a c.low)) (along (next a) c.low) (along (next (next a)) c.low)
own_low X true c = refl
own_low Y true c = refl
own_low Z true c = refl
own_low X false c = refl
own_low Y false c = refl
own_low Z false c = refl

pub near_low : (a : Axis) (b : Bool) (c : Cell) →
    side_low (opposite (side_by a b)) c ≡ place a (near b c.level (along a c.low)) (along (next a) c.low) (along (next (next a)) c.low)
near_low a true c = own_low a false c
near_low a false c = own_low a true c

-- 1 if the square is f, else 0
hit : Axis → Face → At ℕ
hit a f k n u v = bit (same_face f (face (place a n u v) k))

-- the cell beyond a square, as seen through such a side, is split
beyond : List Cell → Axis → Bool → At Bool
beyond cells a true = over cells a
beyond cells a false = under cells a

beyond-is : (cells : List Cell) (a : Axis) (b : Bool) (k n u v : ℕ) → beyond cells a b k (near b k n) u v ≡ is_split cells k (place a n u v)
unfolding beyond
beyond-is cells a true k n u v = over_is cells a k n u v
beyond-is cells a false k n u v = under_is cells a k n u v

-- how often the rules list f in a square
small_is : (cells : List Cell) (a : Axis) (b : Bool) (f : Face) (k n u v : ℕ) →
    times same_face f (small_faces cells (side_by a b) (place a n u v) k) ≡ total (beyond cells a b) (hit a f) k n u v
unfolding beyond hit
small_is cells a true f k n u v = small_total cells (upper_side a) (λ g. bit (same_face f g)) a (hit a f) (λ k n u v. refl) (quarters-above a) k n u v
small_is cells a false f k n u v = small_total cells (lower_side a) (λ g. bit (same_face f g)) a (hit a f) (λ k n u v. refl) (quarters_below a) k n u v

-- beyond a side that no split cell of its size lies across, the rules list it alone
pub small_own : (cells : List Cell) (a : Axis) (b : Bool) (f : Face) (k n u v : ℕ) → any (split_across (side_by a b) (place a n u v) k) cells ≡ false →
    times same_face f (small_faces cells (side_by a b) (place a n u v) k) ≡ bit (same_face f (face (place a n u v) k))
unfolding beyond hit
small_own cells a true f k n u v e = small_is cells a true f k n u v ∙ total_whole (beyond cells a true) (hit a f) k n u v e
small_own cells a false f k n u v e = small_is cells a false f k n u v ∙ total_whole (beyond cells a false) (hit a f) k n u v e

-- ---- the leaves that touch a plane

-- where, on the axis, the cell d has its side towards the leaf
abbrev pub near_at : Axis → Bool → Cell → ℕ
near_at a b d = near b d.level (along a d.low)

-- d is a leaf whose side towards the leaf lies in the plane at m, and is f
pub fits : Axis → Bool → Face → ℕ → Cell → Bool
fits a b f m d = not d.split && (eqb m (near_at a b d) && same_face f (side_of (opposite (side_by a b)) d))

module _ (a : Axis) (b : Bool) (f : Face) (m : ℕ) (d : Cell) where
  pub fits→ : T (fits a b f m d) → T (not d.split) × (m ≡ near_at a b d) × T (same_face f (side_of (opposite (side_by a b)) d))
  unfolding fits
  fits→ t =
      let u = and→ (not d.split) _ t in
      let v = and→ (eqb m (near_at a b d)) _ u.1 in
      (u.0, eqb→eq m (near_at a b d) v.0, v.1)

  pub →fits : T (not d.split) → m ≡ near_at a b d → T (same_face f (side_of (opposite (side_by a b)) d)) → T (fits a b f m d)
  unfolding fits
  →fits whole plane is = →and (not d.split) _ whole (→and (eqb m (near_at a b d)) _ (eq→eqb m (near_at a b d) plane) is)

-- the share of d in the faces below the cell of level k with the coordinates n u v
unfoldable pub part : Axis → Bool → Face → ℕ → ℕ → ℕ → ℕ → ℕ → Cell → ℕ
part a b f m k n u v d = bit (inside (cell (place a n u v) k false) d) * bit (fits a b f m d)

-- a cell no larger than a child that has its side towards the leaf in the plane lies in the near half on the axis
near_half : (a : Axis) (b : Bool) (k n m : ℕ) (d : Cell) → m ≡ near b (suc k) n → m ≡ near_at a b d → d.level ≤ k →
    (bit (between d a (suc k) n) ≡ 1) × (bit (between d a k (near b k n)) ≡ 1)
near_half a true k n m d g e h =
    let w = pow_mono h in (
      lies-yes (along a d.low) (2 ^ d.level) n (2 ^ suc k) (omega arith) (omega arith),
      lies-yes (along a d.low) (2 ^ d.level) n (2 ^ k) (omega arith) (omega arith),
    )
near_half a false k n m d g e h =
    let w = pow_mono h in (
      lies-yes (along a d.low) (2 ^ d.level) n (2 ^ suc k) (omega arith) (omega arith),
      lies-yes (along a d.low) (2 ^ d.level) (n + 2 ^ k) (2 ^ k) (omega arith) (omega arith),
    )

module _ (cells : List Cell) (tree : Octree cells) (a : Axis) (b : Bool) (f : Face) (m : ℕ) where
  -- a leaf is the only leaf inside it
  own_part : (k n u v : ℕ) → m ≡ near b k n → part a b f m k n u v (cell (place a n u v) k false) ≡ hit a f k m u v
  unfolding part fits hit
  own_part k n u v h =
      let p = place a n u v in
      let e = cell p k false in
      let low : side_low (opposite (side_by a b)) e ≡ place a m u v =
      near_low a b e ∙ rw (along-across a n u v, along-first a n u v, along-second a n u v) (ap (λ i. place a i u v) (sym h)) in
      let plane : eqb m (near b k (along a p)) ≡ true = true→ _ (eq→eqb m (near b k (along a p)) (h ∙ ap (near b k) (sym (along-across a n u v)))) in
      let fit : fits a b f m e ≡ same_face f (face (place a m u v) k) =
      ap (λ t. t && same_face f (side_of (opposite (side_by a b)) e)) plane ∙ ap (λ q. same_face f (face q k)) low in
      let one = bit-true (inside e e) (inside_self e) in
      ap (λ i. i * bit (fits a b f m e)) one ∙ omega (arith, ap bit fit)

  leaf-part : (k n u v : ℕ) → T (is_cell cells k (place a n u v)) → is_split cells k (place a n u v) ≡ false → m ≡ near b k n → (d : Cell) → In d cells →
      part a b f m k n u v d ≡ bit (is_at k (place a n u v) d) * hit a f k m u v
  unfolding part
  leaf-part k n u v c leaf h d i = go (either (is_at k p d))
    where
      p : Place
      p = place a n u v

      e : Cell
      e = cell p k false

      other : is_at k p d ≡ false → T (inside e d) → (d.level < k) ⊎ (k ≤ d.level) → ⊥
      other g t (inl lt) = no_cell-inside cells tree k d.level p d.low c leaf (→cell cells d i) lt (inside-holds e d t)
      other g t (inr ge) = let (level, low) = inside-same cells tree k p false d c i t ge in not_both (→at k p d level low) g

      go : T (is_at k p d) ⊎ (is_at k p d ≡ false) → part a b f m k n u v d ≡ bit (is_at k p d) * hit a f k m u v
      go (inl t) =
          let (level, low) = at→ k p d t in
          let whole : d.split ≡ false =
          sym (split_of cells tree d i) ∙ sym (ap (λ j. is_split cells j d.low) level) ∙ sym (ap (is_split cells k) low) ∙ leaf in
          let is : d ≡ cell p k false = λ j. record { low = sym low j; level = sym level j; split = whole j } in
          ap (part a b f m k n u v) is ∙ own_part k n u v h ∙ (let g = bit-true (is_at k p d) t in rw g (omega arith))
      go (inr g) =
          let z = bit_no (inside (cell p k false) d) (λ t. other g t (below d.level k)) in
          rw (z, g) (omega arith)

  leaf-sum : (k n u v : ℕ) → T (is_cell cells k (place a n u v)) → is_split cells k (place a n u v) ≡ false → m ≡ near b k n →
      sum (part a b f m k n u v) cells ≡ hit a f k m u v
  unfolding copies
  leaf-sum k n u v c leaf h =
      let p = place a n u v in
      let (s, i) = cell→ cells k p c in
      let e = cell p k s in
      let one : copies cells k p ≡ 1 =
      omega (arith, tree.once k p, in_sum (λ d. bit (is_at k p d)) cells e i, bit-true (is_at k p e) (is_at_lem e)) in
      sum_same (part a b f m k n u v) (λ d. bit (is_at k p d) * hit a f k m u v) cells (leaf-part k n u v c leaf h)
      ∙ sum_times (λ d. bit (is_at k p d)) (hit a f k m u v) cells
      ∙ ap (λ j. j * hit a f k m u v) one ∙ (let g : 1 * hit a f k m u v ≡ hit a f k m u v = omega arith in g)

  -- a leaf inside a split cell that touches the plane is inside one of the four children that do
  split-part : (k n u v : ℕ) → T (is_split cells (suc k) (place a n u v)) → m ≡ near b (suc k) n → (d : Cell) → In d cells →
      part a b f m (suc k) n u v d ≡ four (λ u v. part a b f m k (near b k n) u v d) (2 ^ k) u v
  unfolding part
  split-part k n u v s h d i = go (either (fits a b f m d))
    where
      p : Place
      p = place a n u v

      small : T (fits a b f m d) → d.level ≤ k → part a b f m (suc k) n u v d ≡ four (λ u v. part a b f m k (near b k n) u v d) (2 ^ k) u v
      small t le =
          let (both, lower) = near_half a b k n m d h (fits→ a b f m d t).1 le in
          let own = cell_aligned cells tree d.level d.low (→cell cells d i) in
          let whole = cell_aligned cells tree (suc k) p (split-cell cells (suc k) p s) in
          let first = halves d.level k (along (next a) d.low) u le (own (next a)) (rw (along-first a n u v) at (whole (next a))) in
          let second = halves d.level k (along (next (next a)) d.low) v le (own (next (next a))) (rw (along-second a n u v) at (whole (next (next a)))) in
          rw (
            inside_parts a (suc k) n u v false d,
            inside_parts a k (near b k n) u v false d,
            inside_parts a k (near b k n) (u + 2 ^ k) v false d,
            inside_parts a k (near b k n) u (v + 2 ^ k) false d,
            inside_parts a k (near b k n) (u + 2 ^ k) (v + 2 ^ k) false d,
            both,
            lower,
            first,
            second,
          ) (omega arith)

      large : T (fits a b f m d) → suc k ≤ d.level → part a b f m (suc k) n u v d ≡ four (λ u v. part a b f m k (near b k n) u v d) (2 ^ k) u v
      large t ge =
          let none = no_leaf-inside cells tree (suc k) p false d s i (false→ d.split (fits→ a b f m d t).0) ge in
          let inner : (u v : ℕ) → bit (inside (cell (place a (near b k n) u v) k false) d) ≡ 0 =
          λ u v. inside_large (cell (place a (near b k n) u v) k false) d (omega arith) in
          rw (none, inner u v, inner (u + 2 ^ k) v, inner u (v + 2 ^ k), inner (u + 2 ^ k) (v + 2 ^ k)) (omega arith)

      sized : T (fits a b f m d) → (d.level < suc k) ⊎ (suc k ≤ d.level) →
          part a b f m (suc k) n u v d ≡ four (λ u v. part a b f m k (near b k n) u v d) (2 ^ k) u v
      sized t (inl lt) = small t (omega arith)
      sized t (inr ge) = large t ge

      go : T (fits a b f m d) ⊎ (fits a b f m d ≡ false) → part a b f m (suc k) n u v d ≡ four (λ u v. part a b f m k (near b k n) u v d) (2 ^ k) u v
      go (inl t) = sized t (below d.level (suc k))
      go (inr e) = rw e (omega arith)

  whole_total : (k n u v : ℕ) → T (is_cell cells k (place a n u v)) → is_split cells k (place a n u v) ≡ false → m ≡ near b k n →
      total (beyond cells a b) (hit a f) k m u v ≡ sum (part a b f m k n u v) cells
  whole_total k n u v c e h =
      total_whole (beyond cells a b) (hit a f) k m u v (ap (λ i. beyond cells a b k i u v) h ∙ beyond-is cells a b k n u v ∙ e) ∙ sym (leaf-sum k n u v c e h)

  -- the faces below a cell are the sides of the leaves inside it that touch the plane
  near_total : (k n u v : ℕ) → T (is_cell cells k (place a n u v)) → m ≡ near b k n →
      total (beyond cells a b) (hit a f) k m u v ≡ sum (part a b f m k n u v) cells
  near_total zero n u v c h = whole_total zero n u v c (tree.unit_whole (place a n u v)) h
  near_total (suc k) n u v c h = go (either (is_split cells (suc k) (place a n u v))) (near_total k (near b k n))
    where
      go : T (is_split cells (suc k) (place a n u v)) ⊎ (is_split cells (suc k) (place a n u v) ≡ false) →
          ((u v : ℕ) → T (is_cell cells k (place a (near b k n) u v)) → m ≡ near b k (near b k n) →
          total (beyond cells a b) (hit a f) k m u v ≡ sum (part a b f m k (near b k n) u v) cells) →
          total (beyond cells a b) (hit a f) (suc k) m u v ≡ sum (part a b f m (suc k) n u v) cells
      go (inr e) ih = whole_total (suc k) n u v c e h
      go (inl s) ih =
          let split : beyond cells a b (suc k) m u v ≡ true = ap (λ i. beyond cells a b (suc k) i u v) h ∙ beyond-is cells a b (suc k) n u v ∙ true→ _ s in
          let child : (q r : Bool) → T (is_cell cells k (place a (near b k n) (half q k u) (half r k v))) =
          λ q r. tree.child k (place a n u v) (place a (near b k n) (half q k u) (half r k v)) s (corner_halves a k n u v (not b) q r) in
          let g = h ∙ near_near b k n in
          let share : ℕ → ℕ → Cell → ℕ = part a b f m k (near b k n) in
          let low : Cell → ℕ = λ d. share u v d + share (u + 2 ^ k) v d in
          let high : Cell → ℕ = λ d. share u (v + 2 ^ k) d + share (u + 2 ^ k) (v + 2 ^ k) d in
          omega (
            arith,
            total_divided (beyond cells a b) (hit a f) k m u v split,
            ih u v (child false false) g,
            ih (u + 2 ^ k) v (child true false) g,
            ih u (v + 2 ^ k) (child false true) g,
            ih (u + 2 ^ k) (v + 2 ^ k) (child true true) g,
            sum_same (part a b f m (suc k) n u v) (λ d. low d + high d) cells (split-part k n u v s h),
            sum-add low high cells,
            sum-add (share u v) (share (u + 2 ^ k) v) cells,
            sum-add (share u (v + 2 ^ k)) (share (u + 2 ^ k) (v + 2 ^ k)) cells,
          )

  pub small_near : (k n u v : ℕ) → T (is_cell cells k (place a n u v)) → m ≡ near b k n →
      times same_face f (small_faces cells (side_by a b) (place a m u v) k) ≡ sum (part a b f m k n u v) cells
  small_near k n u v c h = small_is cells a b f k m u v ∙ near_total k n u v c h
