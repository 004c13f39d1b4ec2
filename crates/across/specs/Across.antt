-- The table of cells across: for each cell record and each of its six sides, the record of the split cell of the same size across that side.
use Rattle.std.specs.Prelude.{ℕ, ◌+◌, ◌*◌, ◌/◌, ◌≤◌, ◌<◌, ◌≡◌, cond, List, ltb, length, get_or}
use Rattle.base.specs.Lists.{position}
use Rattle.base.specs.Grid.{X}
use Rattle.rules.specs.Survey.{Cell, cells_of}
use Rattle.rules.specs.Steps.{Side, upper_side, sides, side_low, split_across}
use Rattle.cells.specs.Laid.{cell_at}

-- side i of a cell, in the order of the rules
abbrev pub side_number : ℕ → Side
side_number i = get_or sides i (upper_side X)

-- the record of the split cell of the same size across a side; 0 where there is none: the box, record 0, lies across no side
unfoldable pub split_beyond : List Cell → Side → Cell → ℕ
split_beyond cells side c =
    let n = position (split_across side (side_low side c) c.level) 0 cells in
    cond (ltb n (length cells)) n 0

-- the table holds it for each side of the cells of the records below m
pub record BeyondTo (tc t : List ℕ) (m : ℕ) : Type 0 where
  pub room : 6 * (length tc / 4) ≤ length t
  pub entry : (n i : ℕ) → n < m → i < 6 → get_or t (6 * n + i) 0 ≡ split_beyond (cells_of tc) (side_number i) (cell_at tc n)

-- the table holds it for each side of each cell
abbrev pub Beyond : List ℕ → List ℕ → Type 0
Beyond tc t = BeyondTo tc t (length tc / 4)
