-- Document 02, request 2, "Awash is dry": "Places keep their formula; t may now be 0 without rounding, and is never above 1." The formula is that of
-- Edges.antt. What is stated here of t and of places is proved as `places-by-ends` in places/proofs/OnEdge.antt.
use Rattle.std.specs.Prelude.{ℕ, ◌^◌, ◌≡◌, Bool, true, false, not, cond, List, T, Float}
use Rattle.std.specs.Float.{nan, inf, fin}
use Rattle.std.specs.Float.Ieee.{eq, le}
use Rattle.base.specs.Lists.{all}
use Rattle.rules.specs.Survey.{cells_of, corners_of, corner_at, wet}
use Rattle.rules.specs.Edges.{CellEdge, upper_end, is_edge, float, fraction, moving, Spot, spot, spot_on, OnEdge}
use Rattle.rules.specs.Outputs.{accepted, survey_of, coordinates}
use Rattle.rules.specs.Closing.{is_odd}
use Rattle.rules.specs.declared.Corner.{Corner}

-- the corner at the dry end of an odd edge, with its sounding
unfoldable pub dry_corner : List Corner → Float → CellEdge → Corner
unfolding wet corner_at
dry_corner corners clearance e =
    let lower = corner_at corners e.low in
    let upper = corner_at corners (upper_end e) in
    cond (wet clearance upper) lower upper

-- the corner at its wet end
unfoldable pub wet_corner : List Corner → Float → CellEdge → Corner
unfolding wet corner_at
wet_corner corners clearance e =
    let lower = corner_at corners e.low in
    let upper = corner_at corners (upper_end e) in
    cond (wet clearance upper) upper lower

-- the place of a corner in floats
unfoldable pub corner_spot : Corner → Spot
unfolding float
corner_spot c = record { x = float c.x; y = float c.y; z = float c.z }

-- without a minus sign; -0 has one
abbrev pub unsigned : Float → Bool
unsigned nan = true
unsigned (inf minus) = not minus
unsigned (fin minus m e) = not minus

-- What is said of an odd edge, of the corners at its dry and its wet end, and of a place on it; t is `fraction clearance dry far`.
pub record PlaceByEnds (clearance : Float) (e : CellEdge) (dry far : Corner) (place : Spot) : Type 0 where
  pub is_dry : wet clearance dry ≡ false
  pub is_wet : wet clearance far ≡ true
  -- places keep their formula
  pub formula : place ≡ spot e.axis (moving clearance e.axis (2 ^ e.level) dry far) e.low
  -- t is at least 0 and at most 1
  pub at_least : T (le (float 0) (fraction clearance dry far))
  pub at_most : T (le (fraction clearance dry far) (float 1))
  -- where the dry sounding equals the clearance, t is 0 and the place is the dry end
  pub awash : T (eq dry.sounding clearance) → T (eq (fraction clearance dry far) (float 0)) × (place ≡ corner_spot dry)
  -- the place never leaves the edge
  pub stays : OnEdge e place
  -- no coordinate is -0, though t is where the clearance is -0 and the dry sounding +0
  pub no_minus : T (all unsigned (coordinates place))

-- The sentence, of every odd edge of every accepted survey, by the edge's own two ends. Of an undivided edge it is about the place of the point that the edge
-- carries; a divided one has the point of its odd half, which lies on that half.
unfoldable pub PlacesByEnds : Type 0
unfolding cells_of is_edge accepted survey_of corners_of dry_corner wet_corner spot_on
PlacesByEnds =
    (tc tk : List ℕ) (clearance : Float) (e : CellEdge) → T (accepted tc tk clearance) → T (is_edge (cells_of tc) e.axis e.low e.level) →
    T (is_odd (survey_of tc tk clearance) e) →
    let corners = corners_of tk in
    PlaceByEnds clearance e (dry_corner corners clearance e) (wet_corner corners clearance e) (spot_on corners clearance e)
