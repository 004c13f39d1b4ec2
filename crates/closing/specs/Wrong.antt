-- Drawings that look fine and are not, document 01's last section: each differs from the rules in one place. proofs/Wrong.antt shows of each that it is
-- not closed.
-- Assumes nothing.
use Rattle.std.specs.Prelude.{ℕ, ◌+◌, ◌-◌, Bool, true, not, ◌&&◌, cond, List, [], ◌∷◌, map, eqb, leb, length}
use Rattle.base.specs.Lists.{all, keep, first, collect}
use Rattle.base.specs.Grid.{axis_number, along, put, same}
use Rattle.rules.specs.Survey.{Cell, Survey}
use Rattle.rules.specs.Edges.{CellEdge, point_edges, number_of}
use Rattle.rules.specs.Steps.{
  Side,
  sides,
  Face,
  face,
  side_low,
  Step,
  small_faces,
  face_steps,
  leaf_steps,
  edge_of,
  twin_of,
  met,
  onward,
  loops,
  Triangle,
  fan,
}

-- The places where a drawing may differ: the leaves that are drawn, the face steps of a leaf, twins, the triangles of a loop.
pub record Way : Type 0 where
  pub drawn : Cell → Bool
  pub steps_of : Survey → Cell → List Step
  pub twin_at : Survey → ℕ → ℕ
  pub cutting : List ℕ → List Triangle

unfoldable pub drawn_by : Way → Survey → List Triangle
unfolding point_edges
drawn_by w s =
    let n = length (point_edges s) in
    let loops_of : Cell → List (List ℕ) = λ c. let ss = w.steps_of s c in loops n (onward ss (w.twin_at s)) (met ss n) in
    collect (λ c. collect w.cutting (loops_of c)) (keep (λ c. w.drawn c && not c.split) s.cells)

-- the way of the rules
unfoldable pub as_ruled : Way
unfolding leaf_steps twin_of
as_ruled = record { drawn = λ c. true; steps_of = leaf_steps; twin_at = twin_of; cutting = fan }

-- a coarse leaf uses its own side though finer cells touch it
unfoldable pub own_side : Way
unfolding face_steps twin_of
own_side = record {
  drawn = λ c. true;
  steps_of = λ s c. collect (λ side. face_steps s side (face (side_low side c) c.level)) sides;
  twin_at = twin_of;
  cutting = fan;
}

-- steps copied from finer cells keep their direction
unfoldable pub copied : Survey → Cell → Side → Face → List Step
unfolding face_steps
copied s c side f = let own = face_steps s side f in let kept = map {B = Step} (λ t. (t.1, t.0)) own in cond (eqb f.level c.level) own kept

unfoldable pub direction_kept : Way
unfolding copied small_faces twin_of
direction_kept = record {
  drawn = λ c. true;
  steps_of = λ s c. collect (λ side. collect (copied s c side) (small_faces s.cells side (side_low side c) c.level)) sides;
  twin_at = twin_of;
  cutting = fan;
}

-- open ends are paired with the nearest point on the line: of the others on it, one whose edge begins least far off
unfoldable pub nearest : Survey → ℕ → ℕ
unfolding edge_of number_of point_edges
nearest s v =
    let e = edge_of s v in
    let begins : CellEdge → ℕ = λ f. along e.axis f.low in
    let far : CellEdge → ℕ = λ f. (begins e - begins f) + (begins f - begins e) in
    let on_line : CellEdge → Bool = λ f. eqb (axis_number f.axis) (axis_number e.axis) && same (put e.axis 0 f.low) (put e.axis 0 e.low) in
    let others = keep (λ f. not (eqb (begins f) (begins e)) && on_line f) (point_edges s) in
    number_of s (first (λ f. all (λ g. leb (far f) (far g)) others) e others)

unfoldable pub nearest_point : Way
unfolding nearest leaf_steps
nearest_point = record { drawn = λ c. true; steps_of = leaf_steps; twin_at = nearest; cutting = fan }

-- a leaf is left out
unfoldable pub leaf_left_out : Way
unfolding leaf_steps twin_of
leaf_left_out = record { drawn = λ c. not (same c.low (record { x = 0; y = 512; z = 0 })); steps_of = leaf_steps; twin_at = twin_of; cutting = fan }

unfoldable pub wrong : List Way
unfolding own_side direction_kept nearest_point leaf_left_out
wrong = own_side ∷ direction_kept ∷ nearest_point ∷ leaf_left_out ∷ []
