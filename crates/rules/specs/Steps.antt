-- Document 01, "Steps and loops": small faces, the steps in them, twins, the loops of a leaf, and the triangles of a loop.
use Rattle.std.specs.Prelude.{ℕ, zero, suc, ◌+◌, ◌/◌, ◌%◌, ◌^◌, Bool, true, false, not, ◌&&◌, ◌||◌, cond, List, [], ◌∷◌, ◌++◌, map, eqb, leb, length, get_or}
use Rattle.std.proofs.Math.Option.{Option, none, some}
use Rattle.base.specs.Lists.{any, all, keep, collect, first, count}
use Rattle.base.specs.Grid.{Place, Axis, X, Y, Z, origin, next, along, move, back, same}
use Rattle.rules.specs.Survey.{Cell, size, Survey}
use Rattle.rules.specs.Edges.{CellEdge, edge, is_edge, odd, point_edges, number_of, carrier, point_of}

-- ---- small faces

-- A side of a cell: the upper or the lower one on the axis `across`. Seen from outside, `right` and `up` are as on paper:
-- a turn from `right` to `up` is counter-clockwise.
pub record Side : Type 0 where
  pub across : Axis
  pub upper : Bool
  pub right : Axis
  pub up : Axis

abbrev pub upper_side : Axis → Side
upper_side a = record { across = a; upper = true; right = next a; up = next (next a) }

abbrev pub lower_side : Axis → Side
lower_side a = record { across = a; upper = false; right = next (next a); up = next a }

-- the upper or the lower side on an axis
abbrev pub side_by : Axis → Bool → Side
side_by a true = upper_side a
side_by a false = lower_side a

abbrev pub sides : List Side
sides = upper_side X ∷ lower_side X ∷ upper_side Y ∷ lower_side Y ∷ upper_side Z ∷ lower_side Z ∷ []

-- a face: its lowest corner and its level
pub record Face : Type 0 where
  pub low : Place
  pub level : ℕ

abbrev pub face : Place → ℕ → Face
face p l = record { low = p; level = l }

-- faces with the same lowest corner and level are one face
abbrev pub same_face : Face → Face → Bool
same_face f g = eqb f.level g.level && same f.low g.low

-- the lowest corner of a cell's side
abbrev pub side_low : Side → Cell → Place
side_low s c = cond s.upper (move s.across (size c) c.low) c.low

-- c is a split cell whose side towards the leaf is the face at p of this level: it lies across the leaf's side s
abbrev pub split_across : Side → Place → ℕ → Cell → Bool
split_across s p l c =
    c.split && (eqb l c.level && same p (cond s.upper c.low (move s.across (2 ^ l) c.low)))

-- The small faces in a face: where the cell of the same size across is split, those in its four quarters, down to the sides of leaves;
-- else the face itself. Outside the box there is no cell, so there it is the face itself.
unfoldable pub small_faces : List Cell → Side → Place → ℕ → List Face
small_faces cells s p zero = face p zero ∷ []
small_faces cells s p (suc l) =
    let quarters =
    small_faces cells s p l ++ small_faces cells s (move s.right (2 ^ l) p) l ++
    small_faces cells s (move s.up (2 ^ l) p) l ++ small_faces cells s (move s.right (2 ^ l) (move s.up (2 ^ l) p)) l in
    cond (any (split_across s p (suc l)) cells) quarters (face p (suc l) ∷ [])

-- ---- the steps in a face

-- Corners 0 to 3 go counter-clockwise, seen from outside; edge i joins corner i and corner i + 1.
abbrev pub face_corner : Side → Face → ℕ → Place
face_corner s f zero = f.low
face_corner s f (suc zero) = move s.right (2 ^ f.level) f.low
face_corner s f (suc (suc zero)) = move s.right (2 ^ f.level) (move s.up (2 ^ f.level) f.low)
face_corner s f (suc (suc (suc i))) = move s.up (2 ^ f.level) f.low

abbrev pub face_edge : Side → Face → ℕ → CellEdge
face_edge s f zero = edge s.right f.low f.level
face_edge s f (suc zero) = edge s.up (move s.right (2 ^ f.level) f.low) f.level
face_edge s f (suc (suc zero)) = edge s.right (move s.up (2 ^ f.level) f.low) f.level
face_edge s f (suc (suc (suc i))) = edge s.up f.low f.level

-- a step from a number to a number: of two edges of a face, or of two points
abbrev pub Step : Type 0
Step = ℕ × ℕ

-- The step that enters by edge i: a, b, c, d are the wet marks from corner i on, a dry and b wet. Seen from outside, wet corners lie to its
-- right: it leaves by the next edge that joins a wet corner to a dry one. So with four odd edges each wet corner is cut off by its own step.
-- Where the rule for such a face, `wet_cut`, says otherwise, each dry corner is: the step leaves by the edge before edge i.
abbrev pub step_in : Bool → ℕ → Bool → Bool → Bool → Bool → List Step
step_in wet_cut i a b c d = cond (not a && b) ((i, (i + cond c (cond d 3 2) (cond (d && not wet_cut) 3 1)) % 4) ∷ []) []

-- the steps, each from an edge to an edge, of a face with the wet marks a, b, c, d at corners 0 to 3
abbrev pub steps : Bool → Bool → Bool → Bool → Bool → List Step
steps wet_cut a b c d = step_in wet_cut 0 a b c d ++ step_in wet_cut 1 b c d a ++ step_in wet_cut 2 c d a b ++ step_in wet_cut 3 d a b c

-- document 01's rule for a face with four odd edges: each wet corner is cut off, whatever the face
unfoldable pub saddle_cut : Axis → Place → ℕ → Bool
saddle_cut a p l = true

-- the steps in a small face, from point to point
unfoldable pub face_steps : Survey → Side → Face → List Step
unfolding point_of
face_steps s side f =
    let w : ℕ → Bool = λ i. s.is_wet (face_corner side f i) in
    map (λ t. (point_of s (face_edge side f t.0), point_of s (face_edge side f t.1)))
    (steps (s.saddle side.across f.low f.level) (w 0) (w 1) (w 2) (w 3))

-- the face steps of a leaf: those in the small faces on its six sides
unfoldable pub leaf_steps : Survey → Cell → List Step
unfolding small_faces face_steps
leaf_steps s c = collect (λ side. collect (face_steps s side) (small_faces s.cells side (side_low side c) c.level)) sides

-- ---- twins

-- the edge is the upper half of the edge above it
abbrev pub is_upper : Axis → Place → ℕ → Bool
is_upper a p l = eqb (along a p / 2 ^ l % 2) 1

-- the lower end of the edge above
abbrev pub above : Axis → Place → ℕ → Place
above a p l = cond (is_upper a p l) (back a (2 ^ l) p) p

-- the lower end of the other half of the edge above
abbrev pub other : Axis → Place → ℕ → Place
other a p l = cond (is_upper a p l) (back a (2 ^ l) p) (move a (2 ^ l) p)

-- The edge that carries the twin of the point of an odd edge: climb to the first even edge above, then go down its other half by odd edges.
-- The climb goes through edges only: where none is above, there is no twin. k bounds the climb.
unfoldable pub twin : Survey → ℕ → Axis → Place → ℕ → Option CellEdge
unfolding carrier odd is_edge
twin s zero a p l = none
twin s (suc k) a p l =
    let higher = twin s k a (above a p l) (suc l) in
    let found = some (carrier s a (other a p l) l) in
    let climbed = cond (odd s.is_wet a (above a p l) (suc l)) higher found in
    cond (is_edge s.cells a (above a p l) (suc l)) climbed none

-- the edge that carries point v
unfoldable pub edge_of : Survey → ℕ → CellEdge
unfolding point_edges
edge_of s v = get_or (point_edges s) v (edge X origin 0)

-- the number of the point of an edge, or v where there is none
unfoldable pub number_else : Survey → ℕ → Option CellEdge → ℕ
unfolding number_of
number_else s v none = v
number_else s v (some e) = number_of s e

-- the number of the twin of point v; v itself where it has none, which happens at no open end (proved)
unfoldable pub twin_of : Survey → ℕ → ℕ
unfolding twin edge_of number_else
twin_of s v = let e = edge_of s v in number_else s v (twin s 10 e.axis e.low e.level)

-- ---- loops, over point numbers

-- the points, of n, that a step of the list meets, rising
abbrev pub met : List Step → ℕ → List ℕ
met ss n = keep (λ v. any (λ t. eqb v t.0 || eqb v t.1) ss) (count 0 n)

-- the point after v: the end of the face step that leaves v, or v's twin where none does
abbrev pub onward : List Step → (ℕ → ℕ) → ℕ → ℕ
onward ss twin v = (first (λ t. eqb v t.0) (v, twin v) ss).1

-- from u on until v comes, at most k points
abbrev pub until : ℕ → (ℕ → ℕ) → ℕ → ℕ → List ℕ
until zero f v u = []
until (suc k) f v u = let r = u ∷ until k f v (f u) in cond (eqb u v) [] r

-- the loop through v, from v on, of at most n + 1 points
abbrev pub loop : ℕ → (ℕ → ℕ) → ℕ → List ℕ
loop n f v = v ∷ until n f v (f v)

-- no point of the loop is lower than its first
abbrev pub lowest_first : List ℕ → Bool
lowest_first [] = true
lowest_first (v ∷ vs) = all (leb v) vs

-- the loops through points that rise, each from its lowest point on, by that number
abbrev pub loops : ℕ → (ℕ → ℕ) → List ℕ → List (List ℕ)
loops n f vs = keep lowest_first (map (loop n f) vs)

-- the loops of a leaf
unfoldable pub leaf_loops : Survey → Cell → List (List ℕ)
unfolding leaf_steps twin_of point_edges
leaf_loops s c =
    let ss = leaf_steps s c in
    let n = length (point_edges s) in
    loops n (onward ss (twin_of s)) (met ss n)

-- ---- triangles

abbrev pub Triangle : Type 0
Triangle = ℕ × ℕ × ℕ

-- (v, a, b) for each two neighbours a, b of a list
abbrev pub fan_from : ℕ → ℕ → List ℕ → List Triangle
fan_from v a [] = []
fan_from v a (b ∷ r) = (v, a, b) ∷ fan_from v b r

-- the triangles of a loop v0 to v(n - 1): (v0, v(k), v(k + 1)), k from 1 to n - 2
abbrev pub fan : List ℕ → List Triangle
fan [] = []
fan (v ∷ []) = []
fan (v ∷ a ∷ r) = fan_from v a r

-- all triangles, where a rule cuts each loop into triangles: leaves by record number, a leaf's loops in their order
unfoldable pub triangles_by : (List ℕ → List Triangle) → Survey → List Triangle
unfolding leaf_loops
triangles_by cutting s = collect (λ c. collect cutting (leaf_loops s c)) (keep (λ c. not c.split) s.cells)

-- document 01's rule cuts each loop into a fan
unfoldable pub all_triangles : Survey → List Triangle
unfolding triangles_by
all_triangles s = triangles_by fan s
