-- A place as one number, its key: the corner table rises by z, then y, then x, and so do the keys.
use Rattle.std.specs.Prelude.{ℕ, ◌+◌, ◌*◌, ◌<◌, List, map, eqb}
use Rattle.base.specs.Lists.{position}
use Rattle.base.specs.Grid.{Place}
use Rattle.rules.specs.Survey.{corners_of, place_of}

unfoldable pub key_of : Place → ℕ
key_of p = p.x + 65536 * p.y + 4294967296 * p.z

-- two coordinates fit 16 bits, as those of a record do
pub record Short (p : Place) : Type 0 where
  pub x_fits : p.x < 65536
  pub y_fits : p.y < 65536

abbrev pub places_of : List ℕ → List Place
places_of t = map place_of (corners_of t)

-- the number of the first corner record at the place with a key; where there is none, the number of records
unfoldable pub record_at : List ℕ → ℕ → ℕ
unfolding corners_of
record_at t k = position (λ p. eqb k (key_of p)) 0 (places_of t)
