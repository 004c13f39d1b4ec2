-- The table of cells' corners: for each cell record and each of its eight corners, the number of the corner record there.
use Rattle.std.specs.Prelude.{ℕ, ◌+◌, ◌*◌, ◌/◌, ◌^◌, ◌<◌, ◌≡◌, List, length, get_or}
use Rattle.base.specs.Grid.{Place, origin, octants}
use Rattle.rules.specs.Survey.{record_count}
use Rattle.records.specs.Keys.{places_of, record_at}
use Rattle.cells.specs.Laid.{cell_at, octant_key, key_in, level_in}

-- The table holds what the look-up of each corner of the first m cells gives, by the table of their keys and levels: where there is no
-- corner record, the number of records.
pub record LookedUp (tk table t : List ℕ) (m : ℕ) : Type 0 where
  pub room : length t ≡ 16392
  pub number : (n i : ℕ) → n < m → i < 8 → get_or t (8 * n + i) 0 ≡ record_at tk (key_in table n + octant_key i (2 ^ level_in table n))

-- the place of corner i of the cell of record n
abbrev pub octant_of : List ℕ → ℕ → ℕ → Place
octant_of tc n i = get_or (octants (2 ^ (cell_at tc n).level) (cell_at tc n).low) i origin

-- the number k is that of the corner record at corner i of the cell of record n
pub record Octant (tc tk : List ℕ) (n i k : ℕ) : Type 0 where
  pub number : k < record_count tk
  pub place : get_or (places_of tk) k origin ≡ octant_of tc n i

-- the table holds the corners of all cells
pub record Octants (tc tk t : List ℕ) : Type 0 where
  pub room : length t ≡ 16392
  pub octant : (n i : ℕ) → n < length tc / 4 → i < 8 → Octant tc tk n i (get_or t (8 * n + i) 0)
