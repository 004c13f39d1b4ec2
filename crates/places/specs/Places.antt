-- Document 01, "Edges, points and places", of one edge given by its two ends; and a point in the lent slice.
use Rattle.std.specs.Prelude.{ℕ, ◌+◌, ◌*◌, cond, List, set, Float}
use Rattle.base.specs.Grid.{Axis}
use Rattle.rules.specs.Survey.{place_of, wet}
use Rattle.rules.specs.Edges.{Spot, spot, moving}
use Rattle.rules.specs.declared.Corner.{Corner}
use Rattle.places.specs.declared.Point.{Point}

abbrev pub as_spot : Point → Spot
as_spot p = record { x = p.x; y = p.y; z = p.z }

-- the place of the point on an odd edge with these ends: reckoned from the dry one
unfoldable pub spot_between : Float → Axis → ℕ → Corner → Corner → Spot
unfolding wet moving spot
spot_between clearance a length lower upper =
    spot a (cond (wet clearance upper) (moving clearance a length lower upper) (moving clearance a length upper lower)) (place_of lower)

-- a slice with a place written to elements 3n to 3n + 2
abbrev pub with_spot : List Float → ℕ → Spot → List Float
with_spot l n s = set (set (set l (3 * n) s.x) (3 * n + 1) s.y) (3 * n + 2) s.z
