-- What stands in the table while the amendments are worked in.
-- Assumes nothing: these are definitions.
use Rattle.std.specs.Prelude.{ℕ, ◌≤◌, ◌<◌, ◌≡◌, Bool, not, List, length, take}
use Rattle.base.specs.Lists.{any}
use Rattle.base.specs.Grid.{same}
use Rattle.rules.specs.Survey.{record_count, record_bytes}
use Rattle.rules.specs.Resounding.{records_of, place_in, in_force}
use Rattle.records.specs.Keys.{places_of}

-- a record is at no corner of a corner table
abbrev pub unlisted : List ℕ → List ℕ → Bool
unlisted tk r = not (any (same (place_in r)) (places_of tk))

-- the table holds the record in force at each corner, by the first n amendments
pub record AmendedBy (tk ta : List ℕ) (n : ℕ) (table : List ℕ) : Type 0 where
  pub room : length tk ≤ length table
  pub each : (k : ℕ) → k < record_count tk → record_bytes table k ≡ in_force (record_bytes tk k) (take n (records_of ta))
