-- Keys as steps are taken from a place, and what a look-up by key asks of the corner table.
use Rattle.std.specs.Prelude.{ℕ, ◌≤◌, ◌<◌, ◌≡◌, true, List, length}
use Rattle.base.specs.Grid.{Axis, X, Y, Z}
use Rattle.rules.specs.Survey.{record_count}
use Rattle.rules.specs.Outputs.{corner_limit, rising}
use Rattle.records.specs.Keys.{key_of, places_of}
use Rattle.edges.specs.Tables.{place_at}

-- how much a step of 1 on an axis adds to the key of a place
abbrev pub key_unit : Axis → ℕ
key_unit X = 1
key_unit Y = 65536
key_unit Z = 4294967296

-- What a look-up asks of the corner table: its size, rising records, and keys that leave room for steps.
pub record Corners (tk : List ℕ) : Type 0 where
  pub few : length tk ≤ corner_limit
  pub rises : rising (places_of tk) ≡ true
  pub small : (k : ℕ) → k < record_count tk → key_of (place_at (places_of tk) k) ≤ 4398113620992
