-- The table of cells' crossings: for each cell record thirteen numbers, the points of its twelve edges and its wet corners.
use Rattle.std.specs.Prelude.{ℕ, ◌+◌, ◌*◌, ◌/◌, ◌≤◌, ◌<◌, ◌≡◌, Bool, cond, List, [], ◌∷◌, map, length, get_or}
use Rattle.base.specs.Lists.{collect, bit}
use Rattle.base.specs.Grid.{origin, X, axes}
use Rattle.rules.specs.Survey.{Cell, cell_corners, Survey}
use Rattle.rules.specs.Edges.{CellEdge, edge, odd, point_of}
use Rattle.rules.specs.Closing.{cell_edges_on}
use Rattle.cells.specs.Laid.{cell_at}

-- edge e of a cell, of twelve: four on each axis
abbrev pub edge_at : Cell → ℕ → CellEdge
edge_at c e = get_or (collect (cell_edges_on c) axes) e (edge X origin 0)

-- the point of an edge; 65,535 where the edge is even
unfoldable pub crossing_of : Survey → CellEdge → ℕ
unfolding odd point_of
crossing_of s e = let v = point_of s e in cond (odd s.is_wet e.axis e.low e.level) v 65535

-- marks as the digits of a number in base two, the first the lowest
abbrev pub binary : List Bool → ℕ
binary [] = 0
binary (b ∷ bs) = bit b + 2 * binary bs

-- the wet corners of a cell: corner i is wet if digit i is 1
unfoldable pub wet_mask : Survey → Cell → ℕ
wet_mask s c = binary (map s.is_wet (cell_corners c))

-- the table holds both for each cell
pub record Crossings (s : Survey) (tc t : List ℕ) : Type 0 where
  pub room : 13 * (length tc / 4) ≤ length t
  pub point : (n e : ℕ) → n < length tc / 4 → e < 12 → get_or t (13 * n + e) 0 ≡ crossing_of s (edge_at (cell_at tc n) e)
  pub wet : (n : ℕ) → n < length tc / 4 → get_or t (13 * n + 12) 0 ≡ wet_mask s (cell_at tc n)
