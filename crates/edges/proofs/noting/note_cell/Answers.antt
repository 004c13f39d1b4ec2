use Prim.Native.Nat.{ℕ, ◌+◌, ◌-◌, ◌*◌, ◌/◌, ◌≤◌, ◌<◌}
use mathlib.Core.Path.{◌≡◌, sym, ap, ◌∙◌}
use mathlib.Core.Bool.{false}
use mathlib.Core.List.{◌++◌}
use native.Mathlib.Omega.{arith}
use lib.ListN.{get_or, drop}
use Rattle.base.specs.Grid.{origin}
use Rattle.rules.specs.Survey.{record_count, cell, cells_of}
use Rattle.octree.proofs.Accepted.{checked}
use Rattle.cells.specs.Laid.{cell_at}
use Rattle.checks.proofs.PassedTables.{few-cells, few-corners, places_rise}
use Rattle.octants.specs.Octants.{Octant}
use Rattle.edges.specs.Tables.{cell_edges, edges_of}
use Rattle.edges.specs.Noting.{with_edge}
use Rattle.edges.proofs.Notes.{note_next, levels_same, edges_from}
use Rattle.edges.proofs.Surveyed.{record-inside, cell-shallow}
use Rattle.edges.proofs.noting.note_cell.Goals as goal
use Rattle.edges.proofs.noting.note_cell.Goals.{After-from-start, In-loop-e}

-- the edge at hand
abbrev edge_at : In-loop-e → ℕ
edge_at c = c.loop-e.e - 1

module _ (c : In-loop-e) where
  edge_few : edge_at c < 12
  edge_few = omega arith

  record-few : c.args.n < 2049
  record-few = omega (
    arith,
    few-cells c.args.cells.now c.args.corners.now
        (checked c.args.cells.now c.args.corners.now c.requires.corners_value),
    c.requires.n_in_bounds.0,
  )

  corners-few : record_count c.args.corners.now ≤ 4872
  corners-few = few-corners c.args.cells.now c.args.corners.now (checked c.args.cells.now c.args.corners.now c.requires.corners_value)

  shallow : (cell_at c.args.cells.now c.args.n).level ≤ 10
  shallow = cell-shallow c.args.cells.now c.args.corners.now c.requires.corners_value c.args.n c.requires.n_in_bounds.0

  level-few : c.args.level ≤ 10
  level-few = omega (arith, shallow, c.requires.n_in_bounds.1)

  -- the corner record at a corner of the cell
  octant : (i : ℕ) → i < 8 → Octant c.args.cells.now c.args.corners.now c.args.n i
      (get_or c.args.octants.now (8 * c.args.n + i) 0)
  octant i h = c.requires.octants.octant c.args.n i c.requires.n_in_bounds.0 h

pub loop-e-init : goal.loop-e-init
loop-e-init c = c.requires.levels

pub overflow_mul-n : goal.overflow_mul-n
overflow_mul-n c = omega (arith, record-few c)

pub start_of-requires : goal.start_of-requires
start_of-requires c = edge_few c

pub overflow_add-n : goal.overflow_add-n
overflow_add-n c = omega (arith, record-few (goal.at.overflow_add-n c).In-loop-e, c.start_of.ensures.1)

pub offset_bounds-octants-n : goal.offset_bounds-octants-n
offset_bounds-octants-n c = omega (arith, record-few (goal.at.offset_bounds-octants-n c).In-loop-e, c.start_of.ensures.1)

pub bounds-octants-n : goal.bounds-octants-n
bounds-octants-n c =
    omega (arith, record-few (goal.at.bounds-octants-n c).In-loop-e, c.start_of.ensures.1, c.requires.octants.room)

pub overflow_mul-end : goal.overflow_mul-end
overflow_mul-end c = omega (arith, record-few (goal.at.overflow_mul-end c).In-loop-e)

pub end_of-requires : goal.end_of-requires
end_of-requires c = edge_few (goal.at.end_of-requires c).In-loop-e

pub overflow_add-end : goal.overflow_add-end
overflow_add-end c = omega (arith, record-few (goal.at.overflow_add-end c).In-loop-e, c.end_of.ensures.1)

pub offset_bounds-octants-n-in-loop-e : goal.offset_bounds-octants-n-in-loop-e
offset_bounds-octants-n-in-loop-e c = omega (arith, record-few (goal.at.offset_bounds-octants-n-in-loop-e c).In-loop-e, c.end_of.ensures.1)

pub bounds-octants-n-in-loop-e : goal.bounds-octants-n-in-loop-e
bounds-octants-n-in-loop-e c =
    omega (arith, record-few (goal.at.bounds-octants-n-in-loop-e c).In-loop-e, c.end_of.ensures.1, c.requires.octants.room)

-- the slot of the edge at hand
slot-few : (f : After-from-start) → 4872 * (edge_at (goal.at.After-from-start f).In-loop-e / 4) + f.from-start.result < 14616
slot-few f =
    omega (
      arith,
      edge_few (goal.at.After-from-start f).In-loop-e,
      f.from-start.ensures,
      (octant (goal.at.After-from-start f).In-loop-e _ f.start_of.ensures.1).number,
      corners-few (goal.at.After-from-start f).In-loop-e,
    )

pub overflow_add-e : goal.overflow_add-e
overflow_add-e c = omega (arith, slot-few (goal.at.overflow_add-e c).After-from-start)

pub note_edge-requires : goal.note_edge-requires
note_edge-requires c =
    (c.loop-e.invariant.size, slot-few (goal.at.note_edge-requires c).After-from-start, level-few (goal.at.note_edge-requires c).In-loop-e)

pub loop-e-preserved : goal.loop-e-preserved
loop-e-preserved c =
    let tc = c.args.cells.now in
    let tk = c.args.corners.now in
    let corner : ℕ → ℕ = λ i. get_or c.args.octants.now (8 * c.args.n + i) 0 in
    let slot = 4872 * (edge_at (goal.at.loop-e-preserved c).In-loop-e / 4) + c.from-start.result in
    let law = checked tc tk c.requires.corners_value in
    let q : c.loop-e.e ≡ edge_at (goal.at.loop-e-preserved c).In-loop-e + 1 = omega arith in
    let before = levels_same tk _ _ _ (ap (λ i. drop i (cell_edges (cell_at tc c.args.n)) ++ edges_of (drop (c.args.n + 1) (cells_of tc))) q)
    c.loop-e.invariant in
    note_next tc tk c.args.octants.now c.requires.octants c.args.n c.requires.n_in_bounds.0 (edge_at (goal.at.loop-e-preserved c).In-loop-e) (edge_few (goal.at.loop-e-preserved c).In-loop-e)
    c.type_inv.corners (places_rise tc tk law) (few-corners tc tk law) (shallow (goal.at.loop-e-preserved c).In-loop-e)
    (edges_of (drop (c.args.n + 1) (cells_of tc))) c.loop-e.slots before c.args.level slot c.requires.n_in_bounds.1
    (ap (λ i. 4872 * (edge_at (goal.at.loop-e-preserved c).In-loop-e / 4) + i) (c.from-start.ensures ∙ ap corner c.start_of.ensures.0)) _
    (c.note_edge.ensures ∙ ap (λ i. with_edge c.loop-e.slots slot c.args.level (corner i)) c.end_of.ensures.0)

pub shape_of-slots : goal.shape_of-slots
shape_of-slots c = c.loop-e.invariant.size ∙ sym c.requires.levels.size

pub returns : goal.returns
returns c =
    let tc = c.args.cells.now in
    let z : c.loop-e.e ≡ 0 = omega arith in
    let e = edges_from (cells_of tc) (cell origin 10 false) c.args.n (record-inside tc c.args.corners.now c.requires.corners_value c.args.n
    c.requires.n_in_bounds.0) in
    levels_same c.args.corners.now _ _ _
    (ap (λ i. drop i (cell_edges (cell_at tc c.args.n)) ++ edges_of (drop (c.args.n + 1) (cells_of tc))) z ∙ sym e) c.loop-e.invariant
