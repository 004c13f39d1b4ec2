-- A record's mark is what the tree says of its cell; and no cell lies inside a leaf.
use Prim.Native.Nat.{ℕ, zero, suc, ◌+◌, ◌-◌, ◌^◌, ◌≤◌, ◌<◌}
use mathlib.Core.Path.{◌≡◌, sym, ap, ◌∙◌, subst}
use mathlib.Core.Logic.{◌⊎◌, inl, inr}
use mathlib.Core.Bool.{true, false}
use mathlib.Core.List.{List}
use native.Mathlib.Nat.{pow-succ'}
use native.Mathlib.Omega.{arith}
use lib.Dec.{T}
use Rattle.base.specs.Lists.{bit}
use Rattle.base.specs.Grid.{Place, Axis, along}
use Rattle.rules.specs.Survey.{Cell, cell}
use Rattle.base.proofs.Tests.{tests_equal, not_both, either, bit-true}
use Rattle.base.proofs.Lists.{In}
use Rattle.base.proofs.Sums.{two_in_sum}
use Rattle.base.proofs.Octants.{Holds}
use Rattle.octree.specs.Lawful.{is_at, is_cell, is_split, copies, Octree}
use Rattle.octree.proofs.Cells.{is_at_lem, split→, →split, split-cell}
use Rattle.octree.proofs.Covers.{holds_self}
use Rattle.octree.proofs.Aligned.{one_cube, cell_aligned}

module _ (cells : List Cell) (tree : Octree cells) where
  -- no leaf is at the place of a split cell of its level
  leaf-not-split : (c : Cell) → In c cells → c.split ≡ false → T (is_split cells c.level c.low) → ⊥
  unfolding copies
  leaf-not-split c i e t =
      let d : Cell = cell c.low c.level true in
      let h = two_in_sum (λ x. bit (is_at c.level c.low x)) cells c d i (split→ cells c.level c.low t)
      (λ g. not_both {b = true} tt (ap (λ (x : Cell). x.split) (sym g) ∙ e)) in
      omega (arith, bit-true (is_at c.level c.low c) (is_at_lem c), bit-true (is_at c.level c.low d) (is_at_lem d), tree.once c.level c.low)

  -- a record's mark is what the tree says of its cell
  pub split_of : (c : Cell) → In c cells → is_split cells c.level c.low ≡ c.split
  split_of c i = tests_equal (is_split cells c.level c.low) c.split (λ t. go t (either c.split)) (→split cells c i)
    where
      go : T (is_split cells c.level c.low) → T c.split ⊎ (c.split ≡ false) → T c.split
      go t (inl s) = s
      go t (inr e) = absurd (leaf-not-split c i e t)

  -- a split cell of level m that holds what the cell of level l at p holds
  abbrev pub Above : ℕ → Place → ℕ → Type 0
  Above l p m = (u : Place) × T (is_split cells m u) × ((q : Place) → Holds (2 ^ l) p q → Holds (2 ^ m) u q)

  parent_above : (l : ℕ) (p : Place) → T (is_cell cells l p) → l < 10 → Above l p (suc l)
  parent_above l p c h = let (u, s, f) = tree.parent l p c h in (u, s, λ q k a. go u q a (f a) (k a))
    where
      go : (u q : Place) (a : Axis) → (along a p ≡ along a u) ⊎ (along a p ≡ along a u + 2 ^ l) →
          (along a p ≤ along a q) × (along a q < along a p + 2 ^ l) → (along a u ≤ along a q) × (along a q < along a u + 2 ^ suc l)
      go u q a (inl e) (lo, hi) = let g = pow-succ' 2 l in (omega arith, omega arith)
      go u q a (inr e) (lo, hi) = let g = pow-succ' 2 l in (omega arith, omega arith)

  -- the split cell n + 1 levels above a cell
  pub ancestor : (n l : ℕ) (p : Place) → T (is_cell cells l p) → l + suc n ≤ 10 → Above l p (l + suc n)
  ancestor zero l p c h = subst (Above l p) (let e : suc l ≡ l + 1 = omega arith in e) (parent_above l p c (omega arith))
  ancestor (suc n) l p c h =
      let (u, s, f) = parent_above l p c (omega arith) in
      let (v, t, g) = ancestor n (suc l) u (split-cell cells (suc l) u s) (omega arith) in
      subst (Above l p) (let e : suc l + suc n ≡ l + suc (suc n) = omega arith in e) (v, t, λ q k. g q (f q k))

  -- no cell lies inside a leaf
  pub no_cell-inside : (l m : ℕ) (p q : Place) → T (is_cell cells l p) → is_split cells l p ≡ false → T (is_cell cells m q) → m < l → Holds (2 ^ l) p q → ⊥
  no_cell-inside l m p q c leaf d lt h =
      let e : m + suc (l - suc m) ≡ l = omega arith in
      let top = tree.shallow l p c in
      let (u, s, f) = subst (Above m q) e (ancestor (l - suc m) m q d (omega arith)) in
      let same = one_cube l p u q (cell_aligned cells tree l p c) (cell_aligned cells tree l u (split-cell cells l u s)) h
      (f q (holds_self m q)) in
      not_both (subst (λ x. T (is_split cells l x)) (sym same) s) leaf
