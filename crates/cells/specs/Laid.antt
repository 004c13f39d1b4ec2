-- The table of cells: for each record, the key of the cell's lowest corner and the cell's level.
use Rattle.std.specs.Prelude.{ℕ, ◌+◌, ◌*◌, ◌/◌, ◌%◌, ◌^◌, ◌≤◌, ◌<◌, Bool, false, ◌&&◌, eqb, ◌≡◌, List, ◌++◌, map, length, get_or, take, drop}
use Rattle.base.specs.Lists.{count}
use Rattle.base.specs.Grid.{origin, Axis, along}
use Rattle.rules.specs.Survey.{Cell, cell, cells_of}
use Rattle.records.specs.Keys.{key_of}

-- how far the key of corner i of a cube of size s is above that of its lowest corner
unfoldable pub octant_key : ℕ → ℕ → ℕ
octant_key i s = (i % 2 + 65536 * (i / 2 % 2) + 4294967296 * (i / 4)) * s

-- a list with n numbers f 0, f 1, .. written over it from position i on
unfoldable pub written_at : (ℕ → ℕ) → ℕ → ℕ → List ℕ → List ℕ
written_at f i n l = take i l ++ (map f (count 0 n) ++ drop (i + n) l)

-- the cell of record n
abbrev pub cell_at : List ℕ → ℕ → Cell
cell_at t n = get_or (cells_of t) n (cell origin 10 false)

-- a cell of depth 10 is split: check 4
abbrev pub too_deep : Cell → Bool
too_deep c = c.split && eqb c.level 0

-- the key and the level of the cell of record n, as a table has them in one number: the key plus 2 ^ 48 times the level
unfoldable pub key_in : List ℕ → ℕ → ℕ
key_in table n = get_or table n 0 % 281474976710656

unfoldable pub level_in : List ℕ → ℕ → ℕ
level_in table n = get_or table n 0 / 281474976710656 % 16

-- what the table holds of record n: its cell's key and level; the cell lies in the box
pub record Entered (t table : List ℕ) (n : ℕ) : Type 0 where
  pub key : key_in table n ≡ key_of (cell_at t n).low
  pub level : level_in table n ≡ (cell_at t n).level
  pub shallow : (cell_at t n).level ≤ 10
  pub in_box : (a : Axis) → along a (cell_at t n).low + 2 ^ (cell_at t n).level ≤ 1024

-- the table holds the cells of the records below m
pub record LaidTo (t table : List ℕ) (m : ℕ) : Type 0 where
  pub entered : (n : ℕ) → n < m → Entered t table n

-- the table holds the cells of all records
abbrev pub Laid : List ℕ → List ℕ → Type 0
Laid t table = LaidTo t table (length t / 4)
