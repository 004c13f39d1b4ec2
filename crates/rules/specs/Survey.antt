-- Document 01, "The survey": both tables, the cells by record number, the corners, wetness. The box runs from 0 to 1,024 on each axis. When a corner is wet
-- is said by request 2 of document 02: Awash.antt.
-- The document speaks of depths; here a cell of depth d has the level 10 - d, and its size is 2 ^ level.
use Rattle.std.specs.Prelude.{ℕ, pred, ◌*◌, ◌/◌, ◌^◌, Bool, false, not, cond, List, [], ◌∷◌, ◌++◌, map, eqb, length, pos, Float}
use Rattle.std.specs.Float.{fin, binary32}
use Rattle.std.specs.Float.Ieee.{of_bits}
use Rattle.base.specs.Lists.{first, count, little, bytes}
use Rattle.base.specs.Grid.{Place, origin, Axis, same, octants}
unfoldable pub use Rattle.rules.specs.Awash.{wet}
use Rattle.rules.specs.declared.Corner.{Corner}
use Rattle.rules.specs.declared.Leaf.{Leaf}

-- the entry of record k, 4 bytes
abbrev pub entry : List ℕ → ℕ → ℕ
entry t k = little (bytes t (4 * k) 4)

abbrev pub entries : List ℕ → List ℕ
entries t = map (entry t) (count 0 (length t / 4))

-- a cell: its lowest corner, its level, and whether it is split
pub record Cell : Type 0 where
  pub low : Place
  pub level : ℕ
  pub split : Bool

abbrev pub cell : Place → ℕ → Bool → Cell
cell p l s = record { low = p; level = l; split = s }

abbrev pub size : Cell → ℕ
size c = 2 ^ c.level

-- the eight corners of a cell
abbrev pub cell_corners : Cell → List Place
cell_corners c = octants (size c) c.low

-- the eight children of a cell, of which it is not yet known whether they are split
abbrev pub children : Cell → List Cell
children c = let l = pred c.level in map (λ p. cell p l false) (octants (2 ^ l) c.low)

-- The cells by record number. A record is about the cell that waits first in a queue; if it is split (not 0), its children join the queue.
-- So the first split record has the children 1 to 8, the next one 9 to 16, and so on, as check 3 asks of the entries.
unfoldable pub cells_from : List ℕ → List Cell → List Cell
cells_from [] q = []
cells_from (e ∷ es) [] = []
cells_from (e ∷ es) (c ∷ q) = cell c.low c.level (not (eqb e 0)) ∷ cells_from es (q ++ cond (eqb e 0) [] (children c))

-- record 0 is the whole box, of level 10
unfoldable pub cells_of : List ℕ → List Cell
unfolding cells_from
cells_of t = cells_from (entries t) (cell origin 10 false ∷ [])

-- The size of a corner record in bytes (12 by request 6 of document 02), how many a table has, and the bytes of record k.
abbrev pub record_size : ℕ
record_size = 12

abbrev pub record_count : List ℕ → ℕ
record_count t = length t / record_size

abbrev pub record_bytes : List ℕ → ℕ → List ℕ
record_bytes t k = bytes t (record_size * k) record_size

-- record k: x, y, z, then the sounding; the day that follows is read in Resounding.antt
unfoldable pub corner_record : List ℕ → ℕ → Corner
unfolding of_bits
corner_record t k =
    let r = record_bytes t k in
    record { x = little (bytes r 0 2); y = little (bytes r 2 2); z = little (bytes r 4 2); sounding = of_bits binary32 (little (bytes r 6 4)) }

unfoldable pub corners_of : List ℕ → List Corner
unfolding corner_record
corners_of t = map (corner_record t) (count 0 (record_count t))

abbrev pub place_of : Corner → Place
place_of c = record { x = c.x; y = c.y; z = c.z }

-- the corner at a place; where there is none, which check 6 refuses, its sounding is 0
unfoldable pub corner_at : List Corner → Place → Corner
corner_at cs p = first (λ c. same p (place_of c)) (record { x = p.x; y = p.y; z = p.z; sounding = fin false 0 (pos 0) }) cs

-- a leaf with its eight corners
unfoldable pub leaf_of : List Corner → Cell → Leaf
unfolding corner_at
leaf_of cs c = record { corners = map (corner_at cs) (cell_corners c) }

-- the corner at a place is wet
unfoldable pub wet_at : List Corner → Float → Place → Bool
unfolding wet corner_at
wet_at corners clearance p = wet clearance (corner_at corners p)

-- A survey at a clearance, as the rules of edges, steps and loops see it: the cells by record number, the corners' places in the order of
-- their table, which places are wet, and how a face with four odd edges is cut, by its axis, lowest corner and level (see `steps`).
pub record Survey : Type 0 where
  pub cells : List Cell
  pub places : List Place
  pub is_wet : Place → Bool
  pub saddle : Axis → Place → ℕ → Bool
