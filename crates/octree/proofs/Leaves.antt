-- A sum over the leaves by record number is the sum over the tree, from the box down.
use Prim.Native.Nat.{ℕ, zero, suc, ◌+◌, ◌*◌, ◌^◌, ◌≤◌, ◌<◌}
use mathlib.Core.Path.{◌≡◌, refl, sym, ap, ◌∙◌, subst}
use mathlib.Core.Logic.{◌⊎◌, inl, inr}
use mathlib.Core.Bool.{Bool, true, false, not, cond}
use mathlib.Core.List.{List}
use native.Mathlib.Omega.{arith}
use lib.Pow.{pow_pos}
use lib.Dec.{T}
use Rattle.base.specs.Lists.{keep, sum, bit}
use Rattle.base.specs.Grid.{Place, origin, Axis, X, Y, Z, along, octants}
use Rattle.rules.specs.Survey.{Cell, cell}
use Rattle.base.proofs.Tests.{true→, either, below, not_both, bit-true}
use Rattle.base.proofs.Lists.{In}
use Rattle.base.proofs.Sums.{sum-zero, sum_times, sum_same, sum_swap, sum-keep, in_sum}
use Rattle.base.proofs.Places.{every_axis}
use Rattle.base.proofs.Octants.{octant→, Holds}
use Rattle.octree.specs.Lawful.{is_at, is_cell, is_split, copies, Octree}
use Rattle.octree.proofs.Cells.{at→, →at, is_at_lem, cell→, →cell, split-cell}
use Rattle.octree.proofs.Covers.{holds_self, covers, covers_no, →covers, covers_none, octants_cover}
use Rattle.octree.proofs.Aligned.{Aligned, one_cube, cell_aligned, cell_in_box}
use Rattle.octree.proofs.Inside.{split_of, no_cell-inside}

module _ (split : ℕ → Place → Bool) (f : ℕ → Place → ℕ) where
  -- the sum of f over the leaves in the cell of level l at p
  unfoldable pub tree_sum : ℕ → Place → ℕ
  tree_sum zero p = f zero p
  tree_sum (suc l) p = let parts = sum (tree_sum l) (octants (2 ^ l) p) in cond (split (suc l) p) parts (f (suc l) p)

  pub tree_leaf : (l : ℕ) (p : Place) → split l p ≡ false → tree_sum l p ≡ f l p
  unfolding tree_sum
  tree_leaf zero p e = refl
  tree_leaf (suc l) p e = ap (λ b. cond b (sum (tree_sum l) (octants (2 ^ l) p)) (f (suc l) p)) e

  pub tree_split : (l : ℕ) (p : Place) → split (suc l) p ≡ true → tree_sum (suc l) p ≡ sum (tree_sum l) (octants (2 ^ l) p)
  unfolding tree_sum
  tree_split l p e = ap (λ b. cond b (sum (tree_sum l) (octants (2 ^ l) p)) (f (suc l) p)) e

module _ (cells : List Cell) (tree : Octree cells) where
  -- cells of one level, of which one holds the other's lowest corner, are at one place
  same-cell : (l : ℕ) (p : Place) → T (is_cell cells l p) → (c : Cell) → In c cells → l ≡ c.level → Holds (2 ^ l) p c.low → p ≡ c.low
  same-cell l p h c i e hold =
      one_cube l p c.low c.low (cell_aligned cells tree l p h)
      (subst (λ m. Aligned m c.low) (sym e) (cell_aligned cells tree c.level c.low (→cell cells c i))) hold (holds_self l c.low)

  -- an unsplit cell covers no other cell
  leaf_covered : (l : ℕ) (p : Place) → T (is_cell cells l p) → is_split cells l p ≡ false → (c : Cell) → In c cells → is_at l p c ≡ false →
      covers c.level c.low l p ≡ 0
  leaf_covered l p h leaf c i e = covers_none c.level c.low l p (λ le hold. go hold (below c.level l) le)
    where
      go : Holds (2 ^ l) p c.low → (c.level < l) ⊎ (l ≤ c.level) → c.level ≤ l → ⊥
      go hold (inl lt) le = no_cell-inside cells tree l c.level p c.low h leaf (→cell cells c i) lt hold
      go hold (inr ge) le =
          let level : l ≡ c.level = omega arith in
          not_both (→at l p c level (same-cell l p h c i level hold)) e

  -- a split cell covers no leaf of its own level or above
  split_covers : (l : ℕ) (p : Place) → T (is_split cells (suc l) p) → (c : Cell) → In c cells → c.split ≡ false → l < c.level →
      covers c.level c.low (suc l) p ≡ 0
  split_covers l p s c i e h =
      covers_none c.level c.low (suc l) p (λ le hold.
      let level : suc l ≡ c.level = omega arith in
      let place = same-cell (suc l) p (split-cell cells (suc l) p s) c i level hold in
      not_both (subst (λ q. T (is_split cells c.level q)) place (subst (λ m. T (is_split cells m p)) level s)) (split_of cells tree c i ∙ e))

  module _ (f : ℕ → Place → ℕ) where
    value : Cell → ℕ
    value c = f c.level c.low

    -- the share of a record in the sum over the cell of level l at p
    share : ℕ → Place → Cell → ℕ
    share l p c = cond c.split 0 (covers c.level c.low l p * value c)

    whole_share : (l : ℕ) (p : Place) (c : Cell) → c.split ≡ false → share l p c ≡ covers c.level c.low l p * value c
    unfolding share
    whole_share l p c e = ap (λ b. cond b 0 (covers c.level c.low l p * value c)) e

    split_no_share : (l : ℕ) (p : Place) (c : Cell) → T c.split → share l p c ≡ 0
    unfolding share
    split_no_share l p c t = ap (λ b. cond b 0 (covers c.level c.low l p * value c)) (true→ c.split t)

    no_share : (l : ℕ) (p : Place) (c : Cell) → covers c.level c.low l p ≡ 0 → share l p c ≡ 0
    no_share l p c e = go (either c.split)
      where
        go : T c.split ⊎ (c.split ≡ false) → share l p c ≡ 0
        go (inl t) = split_no_share l p c t
        go (inr g) = whole_share l p c g ∙ ap (λ n. n * value c) e ∙ (let z : 0 * value c ≡ 0 = omega arith in z)

    leaf_share : (l : ℕ) (p : Place) → T (is_cell cells l p) → is_split cells l p ≡ false → (c : Cell) → In c cells → share l p c ≡ bit (is_at l p c) * f l p
    unfolding value
    leaf_share l p h leaf c i = go (either (is_at l p c))
      where
        go : T (is_at l p c) ⊎ (is_at l p c ≡ false) → share l p c ≡ bit (is_at l p c) * f l p
        go (inl t) =
            let (e, g) = at→ l p c t in
            let whole : c.split ≡ false = sym (split_of cells tree c i) ∙ sym (ap (λ m. is_split cells m c.low) e) ∙ sym (ap (is_split cells l) g) ∙ leaf in
            whole_share l p c whole
            ∙ ap (λ n. n * value c) (→covers c.level c.low l p (omega arith) (subst (Holds (2 ^ l) p) g (holds_self l p)))
            ∙ ap (λ n. 1 * n) (sym (ap (λ m. f m c.low) e) ∙ sym (ap (f l) g))
            ∙ ap (λ n. n * f l p) (sym (bit-true (is_at l p c) t))
        go (inr e) =
            no_share l p c (leaf_covered l p h leaf c i e) ∙ (let z : 0 ≡ 0 * f l p = omega arith in z) ∙ ap (λ n. n * f l p) (sym (ap bit e))

    leaf-sums : (l : ℕ) (p : Place) → T (is_cell cells l p) → is_split cells l p ≡ false → sum (share l p) cells ≡ f l p
    unfolding copies
    leaf-sums l p h leaf =
        let r = cell→ cells l p h in
        let c = cell p l r.0 in
        let a = sum_same (share l p) (λ c. bit (is_at l p c) * f l p) cells (leaf_share l p h leaf) in
        let b = sum_times (λ c. bit (is_at l p c)) (f l p) cells in
        let one : copies cells l p ≡ 1 =
        omega (arith, tree.once l p, in_sum (λ c. bit (is_at l p c)) cells c r.1, bit-true (is_at l p c) (is_at_lem c)) in
        a ∙ b ∙ ap (λ n. n * f l p) one ∙ (let e : 1 * f l p ≡ f l p = omega arith in e)

    split_share : (l : ℕ) (p : Place) → T (is_split cells (suc l) p) → (c : Cell) → In c cells →
        sum (λ r. share l r c) (octants (2 ^ l) p) ≡ share (suc l) p c
    split_share l p s c i = go (either c.split)
      where
        parts : List Place
        parts = octants (2 ^ l) p

        covered : c.split ≡ false → (l < c.level) ⊎ (c.level ≤ l) →
            sum (covers c.level c.low l) parts ≡ covers c.level c.low (suc l) p
        covered e (inl h) =
            sum_same (covers c.level c.low l) (λ r. 0) parts (λ r j. covers_no c.level c.low l r h)
            ∙ sum-zero parts ∙ sym (split_covers l p s c i e h)
        covered e (inr h) = octants_cover c.level c.low l p h

        go : T c.split ⊎ (c.split ≡ false) → sum (λ r. share l r c) parts ≡ share (suc l) p c
        go (inl t) = sum_same (λ r. share l r c) (λ r. 0) parts (λ r j. split_no_share l r c t) ∙ sum-zero parts ∙ sym (split_no_share (suc l) p c t)
        go (inr e) =
            sum_same (λ r. share l r c) (λ r. covers c.level c.low l r * value c) parts (λ r j. whole_share l r c e)
            ∙ sum_times (covers c.level c.low l) (value c) parts
            ∙ ap (λ n. n * value c) (covered e (below l c.level))
            ∙ sym (whole_share (suc l) p c e)

    tree_sum_lem : (l : ℕ) (p : Place) → T (is_cell cells l p) → tree_sum (is_split cells) f l p ≡ sum (share l p) cells
    tree_sum_lem zero p h = tree_leaf (is_split cells) f zero p (tree.unit_whole p) ∙ sym (leaf-sums zero p h (tree.unit_whole p))
    tree_sum_lem (suc l) p h = go (either (is_split cells (suc l) p)) (tree_sum_lem l)
      where
        go : T (is_split cells (suc l) p) ⊎ (is_split cells (suc l) p ≡ false) →
            ((q : Place) → T (is_cell cells l q) → tree_sum (is_split cells) f l q ≡ sum (share l q) cells) →
            tree_sum (is_split cells) f (suc l) p ≡ sum (share (suc l) p) cells
        go (inr e) ih = tree_leaf (is_split cells) f (suc l) p e ∙ sym (leaf-sums (suc l) p h e)
        go (inl s) ih =
            tree_split (is_split cells) f l p (true→ (is_split cells (suc l) p) s)
            ∙ sum_same (tree_sum (is_split cells) f l) (λ r. sum (share l r) cells) (octants (2 ^ l) p)
            (λ r i. ih r (tree.child l p r s (octant→ (2 ^ l) p r i)))
            ∙ sum_swap (share l) (octants (2 ^ l) p) cells
            ∙ sum_same (λ c. sum (λ r. share l r c) (octants (2 ^ l) p)) (share (suc l) p) cells (split_share l p s)

    -- the box covers every cell
    box_share : (c : Cell) → In c cells → cond (not c.split) (value c) 0 ≡ share 10 origin c
    unfolding share
    box_share c i = go c.split
      where
        inside : (a : Axis) → (along a origin ≤ along a c.low) × (along a c.low < along a origin + 1024)
        inside =
            let h : (a : Axis) → along a c.low < 1024 =
            λ a. omega (arith, cell_in_box cells tree c.level c.low (→cell cells c i) a, pow_pos c.level) in
            every_axis (λ a. (along a origin ≤ along a c.low) × (along a c.low < along a origin + 1024)) X
            (omega arith, omega (arith, h X)) (omega arith, omega (arith, h Y)) (omega arith, omega (arith, h Z))

        one : covers c.level c.low 10 origin ≡ 1
        one = →covers c.level c.low 10 origin (tree.shallow c.level c.low (→cell cells c i)) inside

        go : (b : Bool) → cond (not b) (value c) 0 ≡ cond b 0 (covers c.level c.low 10 origin * value c)
        go true = refl
        go false = (let e : value c ≡ 1 * value c = omega arith in e) ∙ ap (λ n. n * value c) (sym one)

    pub leaf-sum : sum (λ c. f c.level c.low) (keep (λ c. not c.split) cells) ≡ tree_sum (is_split cells) f 10 origin
    unfolding value
    leaf-sum =
        sum-keep value (λ c. not c.split) cells
        ∙ sum_same (λ c. cond (not c.split) (value c) 0) (share 10 origin) cells box_share
        ∙ sym (tree_sum_lem 10 origin tree.box_is)
