-- What checks 1 to 6 leave behind where they pass.
-- Assumes nothing: these are definitions.
use Rattle.std.specs.Prelude.{ℕ, ◌/◌, ◌≤◌, ◌≡◌, List, length}
use Rattle.rules.specs.Outputs.{first_of, table_checks}
use Rattle.cells.specs.Laid.{Laid}
use Rattle.octants.specs.Octants.{Octants}

-- a cell table and a corner table that checks 1 to 6 pass, the table of the cells' places and levels, and that of their corners
pub record Tables (tc tk laid octants : List ℕ) : Type 0 where
  pub passed : first_of (table_checks tc tk) ≡ 0
  pub cell : Laid tc laid
  pub cell_room : length tc / 4 ≤ length laid
  pub corner : Octants tc tk octants
