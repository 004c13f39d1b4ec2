-- Edges: an edge is an edge of some cell, said of a cell's level and place; edges are equal by their axis, lower end and level; the edges
-- of all cells.
use Prim.Native.Nat.{ℕ, ◌+◌, ◌^◌, ◌≤◌}
use mathlib.Core.Path.{◌≡◌, sym, ap, subst}
use mathlib.Core.Logic.{◌⊎◌, inl, inr}
use mathlib.Core.Bool.{not, ◌&&◌}
use mathlib.Core.List.{List}
use lib.Dec.{T, eqb, eqb→eq, eqb_refl}
use Rattle.base.specs.Lists.{any, collect}
use Rattle.base.specs.Grid.{Place, Axis, axes, axis_number, next, along, move, same}
use Rattle.rules.specs.Survey.{Cell, cell, size, Survey}
use Rattle.rules.specs.Edges.{CellEdge, edge, same_edge, on_side, has_edge, is_edge, divided, undivided, odd, crossed}
use Rattle.rules.specs.Closing.{cell_edges_on, all_edges}
use Rattle.base.proofs.Tests.{and→, →and, or→, or_left, or_right, eq→eqb}
use Rattle.base.proofs.Lists.{In, any→in, in→any, map_in, collect_in, distinct_in}
use Rattle.base.proofs.Sums.{times, distinct-once}
use Rattle.base.proofs.Places.{every_axis, each-axis, put_one, same→, same_refl, axis_equal, square, →square}
use Rattle.octree.specs.Lawful.{is_cell, CornerOf, Lawful}
use Rattle.octree.proofs.Cells.{cell→, →cell}

-- ---- equal edges

pub same_edge→ : (e f : CellEdge) → T (same_edge e f) → e ≡ f
same_edge→ e f t =
    let u = and→ (same e.low f.low) (eqb (axis_number e.axis) (axis_number f.axis) && eqb e.level f.level) t in
    let v = and→ (eqb (axis_number e.axis) (axis_number f.axis)) (eqb e.level f.level) u.1 in
    let p = same→ e.low f.low u.0 in
    let a = axis_equal e.axis f.axis v.0 in
    let l = eqb→eq e.level f.level v.1 in
    λ i. record { axis = a i; low = p i; level = l i }

pub same-edge : (e : CellEdge) → T (same_edge e e)
same-edge e =
    →and (same e.low e.low) (eqb (axis_number e.axis) (axis_number e.axis) && eqb e.level e.level) (same_refl e.low)
    (→and (eqb (axis_number e.axis) (axis_number e.axis)) (eqb e.level e.level) (eqb_refl (axis_number e.axis)) (eqb_refl e.level))

-- ---- an edge of a cell

-- p is on the lower or the upper side of the cube of level l at q
abbrev pub Sided : Axis → ℕ → Place → Place → Type 0
Sided a l q p = (along a p ≡ along a q) ⊎ (along a p ≡ along a q + 2 ^ l)

side→ : (c : Cell) (a : Axis) (p : Place) → T (on_side c a p) → Sided a c.level c.low p
side→ c a p t = go (or→ (eqb (along a p) (along a c.low)) (eqb (along a p) (along a c.low + size c)) t)
  where
    go : T (eqb (along a p) (along a c.low)) ⊎ T (eqb (along a p) (along a c.low + size c)) → Sided a c.level c.low p
    go (inl s) = inl (eqb→eq (along a p) (along a c.low) s)
    go (inr s) = inr (eqb→eq (along a p) (along a c.low + size c) s)

→side : (c : Cell) (a : Axis) (p : Place) → Sided a c.level c.low p → T (on_side c a p)
→side c a p (inl h) =
    or_left (eqb (along a p) (along a c.low)) (eqb (along a p) (along a c.low + size c)) (eq→eqb (along a p) (along a c.low) h)
→side c a p (inr h) =
    or_right (eqb (along a p) (along a c.low)) (eqb (along a p) (along a c.low + size c)) (eq→eqb (along a p) (along a c.low + size c) h)

-- the cell of level l at q has the edge from p on the axis a
abbrev pub HasEdge : Axis → Place → ℕ → Place → Type 0
HasEdge a p l q = (along a p ≡ along a q) × Sided (next a) l q p × Sided (next (next a)) l q p

has_edge→ : (a : Axis) (p : Place) (l : ℕ) (c : Cell) → T (has_edge a p l c) → (l ≡ c.level) × HasEdge a p c.level c.low
has_edge→ a p l c t =
    let u = and→ (eqb l c.level) (eqb (along a p) (along a c.low) && (on_side c (next a) p && on_side c (next (next a)) p)) t in
    let v = and→ (eqb (along a p) (along a c.low)) (on_side c (next a) p && on_side c (next (next a)) p) u.1 in
    let w = and→ (on_side c (next a) p) (on_side c (next (next a)) p) v.1 in
    (eqb→eq l c.level u.0, (eqb→eq (along a p) (along a c.low) v.0, side→ c (next a) p w.0, side→ c (next (next a)) p w.1))

→has_edge : (a : Axis) (p : Place) (c : Cell) → HasEdge a p c.level c.low → T (has_edge a p c.level c)
→has_edge a p c (h, f, g) =
    →and (eqb c.level c.level) (eqb (along a p) (along a c.low) && (on_side c (next a) p && on_side c (next (next a)) p)) (eqb_refl c.level)
    (→and (eqb (along a p) (along a c.low)) (on_side c (next a) p && on_side c (next (next a)) p) (eq→eqb (along a p) (along a c.low) h)
    (→and (on_side c (next a) p) (on_side c (next (next a)) p) (→side c (next a) p f) (→side c (next (next a)) p g)))

-- some cell has the edge: its place, of which p is a corner on the lower side of the axis
abbrev pub EdgeOf : List Cell → Axis → Place → ℕ → Type 0
EdgeOf cells a p l = (q : Place) × T (is_cell cells l q) × (along a p ≡ along a q) × CornerOf l q p

pub edge→ : (cells : List Cell) (a : Axis) (p : Place) (l : ℕ) → T (is_edge cells a p l) → EdgeOf cells a p l
unfolding is_edge
edge→ cells a p l t =
    let r = any→in (has_edge a p l) cells t in
    let c = r.0 in
    let h = has_edge→ a p l c r.2 in
    let g = h.1 in
    subst (EdgeOf cells a p) (sym h.0)
    (c.low, →cell cells c r.1, g.0, every_axis (λ b. Sided b c.level c.low p) a (inl g.0) g.1 g.2)

pub →edge : (cells : List Cell) (a : Axis) (p : Place) (l : ℕ) → EdgeOf cells a p l → T (is_edge cells a p l)
unfolding is_edge
→edge cells a p l (q, h, e, f) =
    let r = cell→ cells l q h in
    let c = cell q l r.0 in
    in→any (has_edge a p l) cells c r.1 (→has_edge a p c (e, f (next a), f (next (next a))))

-- both ends of an edge are corners of its cell, and so are listed

pub upper-corner : (a : Axis) (p : Place) (l : ℕ) (q : Place) → along a p ≡ along a q → CornerOf l q p → CornerOf l q (move a (2 ^ l) p)
upper-corner a p l q e f = put_one (λ b n. (n ≡ along b q) ⊎ (n ≡ along b q + 2 ^ l)) a (along a p + 2 ^ l) p (inr (ap (λ n. n + 2 ^ l) e)) f

module _ (s : Survey) (law : Lawful s) where
  pub lower_end : (a : Axis) (p : Place) (l : ℕ) → T (is_edge s.cells a p l) → T (any (same p) s.places)
  lower_end a p l t = let (q, h, e, f) = edge→ s.cells a p l t in law.listed l q p h f

  pub upper_end_lem : (a : Axis) (p : Place) (l : ℕ) → T (is_edge s.cells a p l) → T (any (same (move a (2 ^ l) p)) s.places)
  upper_end_lem a p l t = let (q, h, e, f) = edge→ s.cells a p l t in law.listed l q (move a (2 ^ l) p) h (upper-corner a p l q e f)

-- ---- crossed edges

pub undivided→ : (cells : List Cell) (a : Axis) (p : Place) (l : ℕ) → T (undivided cells a p l) → T (is_edge cells a p l) × T (not (divided cells a p l))
unfolding undivided
undivided→ cells a p l t = and→ (is_edge cells a p l) (not (divided cells a p l)) t

pub crossed→ : (s : Survey) (a : Axis) (p : Place) (l : ℕ) → T (crossed s a p l) → T (undivided s.cells a p l) × T (odd s.is_wet a p l)
unfolding crossed
crossed→ s a p l t = and→ (undivided s.cells a p l) (odd s.is_wet a p l) t

pub →crossed : (s : Survey) (a : Axis) (p : Place) (l : ℕ) → T (undivided s.cells a p l) → T (odd s.is_wet a p l) → T (crossed s a p l)
unfolding crossed
→crossed s a p l t u = →and (undivided s.cells a p l) (odd s.is_wet a p l) t u

-- ---- the edges of all cells

pub all_edges_in : (cells : List Cell) (e : CellEdge) → T (is_edge cells e.axis e.low e.level) → In e (all_edges cells)
unfolding all_edges
all_edges_in cells e t =
    let (q, h, g, f) = edge→ cells e.axis e.low e.level t in
    let r = cell→ cells e.level q h in
    let c = cell q e.level r.0 in
    let a = e.axis in
    distinct_in same_edge same_edge→ (collect (λ c. collect (cell_edges_on c) axes) cells) e
    (collect_in (λ c. collect (cell_edges_on c) axes) cells e c r.1
    (collect_in (cell_edges_on c) axes e a (each-axis a)
    (map_in (λ p. edge a p c.level) (square a (size c) q) e.low (→square a (size c) q e.low g (f (next a)) (f (next (next a)))))))

pub all_edges_once : (cells : List Cell) (e : CellEdge) → times same_edge e (all_edges cells) ≤ 1
unfolding all_edges
all_edges_once cells e = distinct-once same_edge same-edge same_edge→ e (collect (λ c. collect (cell_edges_on c) axes) cells)
