-- Document 01, "Edges, points and places". An edge is given by its axis, its lower end and its level; its length is 2 ^ level.
use Rattle.std.specs.Prelude.{ℕ, zero, suc, ◌+◌, ◌^◌, Bool, false, not, ◌&&◌, ◌||◌, cond, List, map, ◌≡◌, eqb, ltb, T, pos, Float}
use Rattle.std.specs.Bool.{beq}
use Rattle.std.specs.Float.{binary32}
use Rattle.std.specs.Float.Ieee.{add, sub, mul, div, of_int, le}
use Rattle.base.specs.Lists.{any, keep, collect, position, count}
use Rattle.base.specs.Grid.{Place, Axis, X, Y, Z, axes, axis_number, next, along, move, same}
use Rattle.rules.specs.Survey.{Cell, size, place_of, corner_at, wet, Survey}
use Rattle.rules.specs.declared.Corner.{Corner}

pub record CellEdge : Type 0 where
  pub axis : Axis
  pub low : Place
  pub level : ℕ

abbrev pub edge : Axis → Place → ℕ → CellEdge
edge a p l = record { axis = a; low = p; level = l }

abbrev pub upper_end : CellEdge → Place
upper_end e = move e.axis (2 ^ e.level) e.low

-- edges with the same axis, lower end and length are one edge
abbrev pub same_edge : CellEdge → CellEdge → Bool
same_edge e f = same e.low f.low && (eqb (axis_number e.axis) (axis_number f.axis) && eqb e.level f.level)

-- p lies on the lower or on the upper side of c on an axis
abbrev pub on_side : Cell → Axis → Place → Bool
on_side c a p = eqb (along a p) (along a c.low) || eqb (along a p) (along a c.low + size c)

-- the cell c has this edge
abbrev pub has_edge : Axis → Place → ℕ → Cell → Bool
has_edge a p l c =
    eqb l c.level && (eqb (along a p) (along a c.low) && (on_side c (next a) p && on_side c (next (next a)) p))

-- an edge is an edge of some cell
unfoldable pub is_edge : List Cell → Axis → Place → ℕ → Bool
is_edge cells a p l = any (has_edge a p l) cells

-- divided: some cell has one of its halves as an edge
unfoldable pub divided : List Cell → Axis → Place → ℕ → Bool
unfolding is_edge
divided cells a p zero = false
divided cells a p (suc l) = is_edge cells a p l || is_edge cells a (move a (2 ^ l) p) l

-- an edge that is not divided
unfoldable pub undivided : List Cell → Axis → Place → ℕ → Bool
unfolding is_edge divided
undivided cells a p l = is_edge cells a p l && not (divided cells a p l)

-- odd: the ends differ in wetness
unfoldable pub odd : (Place → Bool) → Axis → Place → ℕ → Bool
odd is_wet a p l = not (beq (is_wet p) (is_wet (move a (2 ^ l) p)))

-- an odd undivided edge, which carries one crossing point
unfoldable pub crossed : Survey → Axis → Place → ℕ → Bool
unfolding undivided odd
crossed s a p l = undivided s.cells a p l && odd s.is_wet a p l

-- The edges that carry the points, by number: by axis, then by the lower end in the order of the corner table, which rises by z, y, x.
-- No two of them have the same axis and lower end (proved), so there is no tie.
unfoldable pub point_edges : Survey → List CellEdge
unfolding crossed
point_edges s = collect (λ a. collect (λ p. map (edge a p) (keep (crossed s a p) (count 0 11))) s.places) axes

-- the number of the point that an edge carries
unfoldable pub number_of : Survey → CellEdge → ℕ
unfolding point_edges
number_of s e = position (same_edge e) 0 (point_edges s)

-- the edge that carries the point of an odd edge: of a divided one, the edge that carries the point of its odd half
unfoldable pub carrier : Survey → Axis → Place → ℕ → CellEdge
unfolding divided odd
carrier s a p zero = edge a p zero
carrier s a p (suc l) =
    let lower = carrier s a p l in
    let upper = carrier s a (move a (2 ^ l) p) l in
    let half = cond (odd s.is_wet a p l) lower upper in
    cond (divided s.cells a p (suc l)) half (edge a p (suc l))

-- the number of the point of an odd edge
unfoldable pub point_of : Survey → CellEdge → ℕ
unfolding number_of carrier
point_of s e = number_of s (carrier s e.axis e.low e.level)

-- Places of points are reckoned in binary32, with one rounding for each operation. A whole number as a float:
unfoldable pub float : ℕ → Float
unfolding of_int
float n = of_int binary32 (pos n)

-- t = (clearance - dry sounding) / (wet sounding - dry sounding)
unfoldable pub fraction : Float → Corner → Corner → Float
unfolding sub div
fraction clearance dry far = div binary32 (sub binary32 clearance dry.sounding) (sub binary32 far.sounding dry.sounding)

-- the moving coordinate between a dry and a wet end: the dry end's plus length × t if the wet end is higher, minus length × t if lower
unfoldable pub moving : Float → Axis → ℕ → Corner → Corner → Float
unfolding fraction add sub mul float
moving clearance a length dry far =
    let way = mul binary32 (float length) (fraction clearance dry far) in
    let from = along a (place_of dry) in
    cond (ltb from (along a (place_of far))) (add binary32 (float from) way) (sub binary32 (float from) way)

-- a place in floats
pub record Spot : Type 0 where
  pub x : Float
  pub y : Float
  pub z : Float

-- a place with the coordinate v on an axis, in floats
unfoldable pub spot : Axis → Float → Place → Spot
unfolding float
spot X v p = record { x = v; y = float p.y; z = float p.z }
spot Y v p = record { x = float p.x; y = v; z = float p.z }
spot Z v p = record { x = float p.x; y = float p.y; z = v }

-- the place of the point that an odd edge carries: reckoned from its dry end
unfoldable pub spot_on : List Corner → Float → CellEdge → Spot
unfolding moving corner_at spot wet
spot_on corners clearance e =
    let lower = corner_at corners e.low in
    let upper = corner_at corners (upper_end e) in
    let length = 2 ^ e.level in
    let v = cond (wet clearance upper) (moving clearance e.axis length lower upper) (moving clearance e.axis length upper lower) in
    spot e.axis v e.low

-- the coordinate of a spot on an axis
abbrev pub coordinate : Axis → Spot → Float
coordinate X s = s.x
coordinate Y s = s.y
coordinate Z s = s.z

-- The bound of a place: the moving coordinate lies between the two end coordinates, ends included, and the others are the edge's.
unfoldable pub OnEdge : CellEdge → Spot → Type 0
unfolding float le spot
OnEdge e s =
    let v = coordinate e.axis s in
    T (le (float (along e.axis e.low)) v) × T (le v (float (along e.axis (upper_end e)))) × (s ≡ spot e.axis v e.low)
