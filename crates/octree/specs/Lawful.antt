-- What checks 3 to 6 give, as two records: the cells are an octree, and the corner table has each corner of each cell, in order.
use Rattle.std.specs.Prelude.{ℕ, suc, ◌+◌, ◌^◌, ◌≤◌, ◌<◌, ◌≡◌, ◌⊎◌, Bool, false, ◌&&◌, List, T, eqb}
use Rattle.base.specs.Lists.{any, sum, bit}
use Rattle.base.specs.Grid.{Place, origin, Axis, along, same}
use Rattle.rules.specs.Survey.{Cell, Survey}
use Rattle.rules.specs.Outputs.{rising}

-- c is the cell of this level at this place
abbrev pub is_at : ℕ → Place → Cell → Bool
is_at l p c = eqb l c.level && same p c.low

-- the tree has a cell of this level at this place; a split one; how many records are about it
unfoldable pub is_cell : List Cell → ℕ → Place → Bool
is_cell cells l p = any (is_at l p) cells

unfoldable pub is_split : List Cell → ℕ → Place → Bool
is_split cells l p = any (λ c. c.split && is_at l p c) cells

unfoldable pub copies : List Cell → ℕ → Place → ℕ
copies cells l p = sum (λ c. bit (is_at l p c)) cells

-- q is a corner of the cube of level l at p; it is also the lowest corner of a child of the cube of level suc l at p
abbrev pub CornerOf : ℕ → Place → Place → Type 0
CornerOf l p q = (a : Axis) → (along a q ≡ along a p) ⊎ (along a q ≡ along a p + 2 ^ l)

pub record Octree (cells : List Cell) : Type 0 where
  -- the box is the one cell of level 10, and the highest
  pub box_is : T (is_cell cells 10 origin)
  pub only_box : (p : Place) → T (is_cell cells 10 p) → p ≡ origin
  pub shallow : (l : ℕ) (p : Place) → T (is_cell cells l p) → l ≤ 10
  -- a cell of depth 10 is not split
  pub unit_whole : (p : Place) → is_split cells 0 p ≡ false
  -- a split cell has all its children; every cell but the box is a child of a split cell
  pub child : (l : ℕ) (p q : Place) → T (is_split cells (suc l) p) → CornerOf l p q → T (is_cell cells l q)
  pub parent : (l : ℕ) (q : Place) → T (is_cell cells l q) → l < 10 → (p : Place) × T (is_split cells (suc l) p) × CornerOf l p q
  -- no two records are about one cell
  pub once : (l : ℕ) (p : Place) → copies cells l p ≤ 1

pub record Lawful (s : Survey) : Type 0 where
  pub octree : Octree s.cells
  pub rises : T (rising s.places)
  -- every corner of every cell is listed, and nothing else
  pub listed : (l : ℕ) (p q : Place) → T (is_cell s.cells l p) → CornerOf l p q → T (any (same q) s.places)
  pub corner : (q : Place) → T (any (same q) s.places) → (l : ℕ) × (p : Place) × T (is_cell s.cells l p) × CornerOf l p q
