-- Document 01, "What closing says", with demand 3 of the request as the record `Closed`. The exception that the request made is gone from it, as document 02,
-- request 3, wants; the form with the exception is the last definition here.
use Rattle.std.specs.Prelude.{ℕ, zero, suc, ◌+◌, ◌*◌, ◌<◌, ◌≤◌, ◌≡◌, Bool, not, ◌&&◌, ◌||◌, List, [], ◌∷◌, map, eqb, T, length, get_or, take, drop, Float}
use Rattle.base.specs.Lists.{any, keep, collect, distinct, sum, bit}
use Rattle.base.specs.Grid.{Axis, axes, next, along, pair}
use Rattle.rules.specs.Survey.{Cell, size, corners_of, Survey}
use Rattle.rules.specs.Edges.{CellEdge, edge, upper_end, same_edge, undivided, odd, point_edges, spot_on, OnEdge}
use Rattle.rules.specs.Steps.{Triangle}
use Rattle.rules.specs.Outputs.{survey_of, coordinates}
use Rattle.rules.specs.declared.Drawn.{Drawn}

-- the four edges of a cell on an axis
abbrev pub cell_edges_on : Cell → Axis → List CellEdge
cell_edges_on c a = map (λ p. edge a p c.level) (collect (pair (next a) (size c)) (pair (next (next a)) (size c) c.low))

-- the edges of all cells, each once: those that several cells have are one edge
unfoldable pub all_edges : List Cell → List CellEdge
all_edges cells = distinct same_edge (collect (λ c. collect (cell_edges_on c) axes) cells)

-- an edge carries point p: p is its number in the order of points
abbrev pub Carries : Survey → CellEdge → ℕ → Type 0
Carries s e p = (p < length (point_edges s)) × (get_or (point_edges s) p e ≡ e)

abbrev pub is_undivided : Survey → CellEdge → Bool
is_undivided s e = undivided s.cells e.axis e.low e.level

abbrev pub is_odd : Survey → CellEdge → Bool
is_odd s e = odd s.is_wet e.axis e.low e.level

-- a weight of steps, summed over the three runs of a triangle: from its first point to its second, from that to its third, and back
abbrev pub run : (ℕ → ℕ → ℕ) → Triangle → ℕ
run w t = w t.0 t.1 + w t.1 t.2 + w t.2 t.0

-- 1 for the step from p to q, else 0
unfoldable pub step : ℕ → ℕ → ℕ → ℕ → ℕ
step p q a b = bit (eqb p a && eqb q b)

-- how often the triangles run from p to q
abbrev pub runs : ℕ → ℕ → List Triangle → ℕ
runs p q ts = sum (run (step p q)) ts

-- a triangle meets p
abbrev pub meets : ℕ → Triangle → Bool
meets p t = eqb p t.0 || (eqb p t.1 || eqb p t.2)

-- What demand 3 says of points, and document 01 of their numbers: of a survey at a clearance, a point count and triangles.
pub record Carried (s : Survey) (count : ℕ) (triangles : List Triangle) : Type 0 where
  -- every undivided edge with one wet and one dry end carries exactly one crossing point, met by some triangle
  pub crossing : (e : CellEdge) → T (is_undivided s e) → T (is_odd s e)
      → (p : ℕ) × (p < count) × Carries s e p × ((q : ℕ) → Carries s e q → q ≡ p) × T (any (meets p) triangles)
  -- no other undivided edge carries one
  pub others : (e : CellEdge) (p : ℕ) → T (is_undivided s e) → T (not (is_odd s e)) → Carries s e p → ⊥
  -- each number below the point count is carried by one edge alone
  pub alone : (p : ℕ) → p < count → (e : CellEdge) × Carries s e p × ((f : CellEdge) → Carries s f p → f ≡ e)
  -- the point count is the number of such edges
  pub counted : count ≡ length (keep (λ e. is_undivided s e && is_odd s e) (all_edges s.cells))

-- Demand 3 without exception.
pub record Closed (s : Survey) (count : ℕ) (triangles : List Triangle) : Type 0 where
  -- for every two crossing points the triangles, counted over the whole drawing, run from the first to the second exactly as often as from the
  -- second to the first
  pub balance : (p q : ℕ) → p < count → q < count → runs p q triangles ≡ runs q p triangles
  pub carried : Carried s count triangles

-- the triangles in the first elements of a slice, three for each of n
abbrev pub triangles_in : ℕ → List ℕ → List Triangle
triangles_in zero ts = []
triangles_in (suc n) ts = (get_or ts 0 0, get_or ts 1 0, get_or ts 2 0) ∷ triangles_in n (drop 3 ts)

-- The same of what stands in the lent slices when drawing has returned r with the number 0.
pub record ClosedIn (tc tk : List ℕ) (clearance : Float) (r : Drawn) (points : List Float) (triangles : List ℕ) : Type 0 where
  pub closed : Closed (survey_of tc tk clearance) r.points (triangles_in r.triangles triangles)
  -- the slices have these elements
  pub points_fit : 3 * r.points ≤ length points
  pub triangles_fit : 3 * r.triangles ≤ length triangles
  -- elements 3p to 3p + 2 of the point slice are the place on the edge that carries p
  pub placed : (e : CellEdge) (p : ℕ) → Carries (survey_of tc tk clearance) e p
      → take 3 (drop (3 * p) points) ≡ coordinates (spot_on (corners_of tk) clearance e)
  -- and that place never leaves the edge
  pub on_edge : (e : CellEdge) (p : ℕ) → Carries (survey_of tc tk clearance) e p → OnEdge e (spot_on (corners_of tk) clearance e)

-- ---- the exception that demand 3 had before request 3

-- an edge lies in the outer face at v, which is 0 or 1,024, of an axis: both its ends do
abbrev pub lies_in : CellEdge → Axis → ℕ → Bool
lies_in e a v = eqb v (along a e.low) && eqb v (along a (upper_end e))

-- both edges lie in one outer face of the box
abbrev pub in_one_face : CellEdge → CellEdge → Bool
in_one_face e f = any (λ a. (lies_in e a 0 && lies_in f a 0) || (lies_in e a 1024 && lies_in f a 1024)) axes

-- Demand 3 with its exception: a law of whatever is accepted, an open pool too, which is not drawn. No contract has it.
pub record ClosedInside (s : Survey) (count : ℕ) (triangles : List Triangle) : Type 0 where
  -- the same balance, for every two crossing points whose edges don't both lie in one outer face of the box
  pub balance : (e f : CellEdge) (p q : ℕ) → Carries s e p → Carries s f q → T (not (in_one_face e f)) → runs p q triangles ≡ runs q p triangles
  pub carried : Carried s count triangles
