-- How the table of crossings is filled: from what tables, and how far.
use Rattle.std.specs.Prelude.{ℕ, ◌+◌, ◌*◌, ◌/◌, ◌%◌, ◌≤◌, ◌<◌, ◌≡◌, true, List, length, get_or, Float}
use Rattle.rules.specs.Survey.{Survey}
use Rattle.rules.specs.Outputs.{accepted}
use Rattle.cells.specs.Laid.{cell_at, Laid}
use Rattle.octants.specs.Octants.{Octants}
use Rattle.edges.specs.Tables.{Wets, Numbered}
use Rattle.crossings.specs.Crossings.{edge_at, crossing_of}

-- the survey is accepted at the clearance, and these are its tables
pub record Known (tc tk : List ℕ) (clearance : Float) (wets slots octants laid : List ℕ) : Type 0 where
  pub fit : accepted tc tk clearance ≡ true
  pub marks : Wets tk clearance wets
  pub points : Numbered tc tk clearance slots
  pub cell_corners : Octants tc tk octants
  pub cell_levels : Laid tc laid
  pub laid_room : length tc / 4 ≤ length laid

-- the table holds the points of the first m edges, where edge i is edge i % 12 of cell i / 12
pub record PointsTo (s : Survey) (tc : List ℕ) (m : ℕ) (t : List ℕ) : Type 0 where
  pub room : 13 * (length tc / 4) ≤ length t
  pub point : (i : ℕ) → i < m → get_or t (13 * (i / 12) + i % 12) 0 ≡ crossing_of s (edge_at (cell_at tc (i / 12)) (i % 12))
