-- How the table of cells across is filled: the cells across the sides of a split cell's children, from what lies across its own sides.
use Rattle.std.specs.Prelude.{ℕ, ◌+◌, ◌-◌, ◌*◌, ◌/◌, ◌%◌, ◌^◌, ◌<◌, ◌≡◌, cond, List, eqb, length, get_or}
use Rattle.rules.specs.Survey.{entry}

-- bit k of a number: for a child's number, whether it is in the upper half on axis k
abbrev pub digit : ℕ → ℕ → ℕ
digit k j = j / 2 ^ k % 2

-- the number with this bit turned
unfoldable pub opposite_of : ℕ → ℕ → ℕ
opposite_of k j = cond (eqb (digit k j) 0) (j + 2 ^ k) (j - 2 ^ k)

-- a record that is split, or 0
unfoldable pub if_split : List ℕ → ℕ → ℕ
if_split tc n = cond (eqb (entry tc n) 0) 0 n

-- the first child of the split cell that a table has for side i of the cell of record n; 0 where it has none
unfoldable pub first_across : List ℕ → List ℕ → ℕ → ℕ → ℕ
first_across tc t n i = let q = get_or t (6 * n + i) 0 in cond (eqb q 0) 0 (entry tc q)

-- the child beside place j on axis k, if it is split: of the eight children from record `from` on, or of none where that is 0
unfoldable pub split_beside : List ℕ → ℕ → ℕ → ℕ → ℕ
unfolding opposite_of if_split
split_beside tc from k j = cond (eqb from 0) 0 (if_split tc (from + opposite_of k j))

-- The split cell across side i of child j: `first` is the record of child 0, `far` that of child 0 of the split cell across side i of the parent, or 0.
-- Where the side is inside the parent, the cell across is a child of the parent, else one of that cell.
unfoldable pub child_across : List ℕ → ℕ → ℕ → ℕ → ℕ → ℕ
unfolding split_beside
child_across tc first far i j = split_beside tc (cond (eqb (digit (i / 2) j) (i % 2)) first far) (i / 2) j

-- side i of the first m children is written over a table, and nothing else
pub record SideFilled (tc : List ℕ) (first far i m : ℕ) (before after : List ℕ) : Type 0 where
  pub same_length : length after ≡ length before
  pub here : (j : ℕ) → j < m → get_or after (6 * (first + j) + i) 0 ≡ child_across tc first far i j
  pub elsewhere : (k : ℕ) → ((j : ℕ) → j < m → k ≡ 6 * (first + j) + i → ⊥) → get_or after k 0 ≡ get_or before k 0
