-- `drawing::draw_numbered` meets its contract: where a slice is too short nothing is written.
use Prim.Native.Nat.{ℕ, ◌*◌, ◌≤◌}
use mathlib.Core.Path.{◌≡◌, refl, sym, ◌∙◌}
use mathlib.Core.List.{List}
use native.Mathlib.Omega.{arith}
use lib.Dec.{leb}
use lib.ListN.{length}
use Rattle.rules.specs.Steps.{all_triangles}
use Rattle.rules.specs.Outputs.{survey_of}
use Rattle.leaves.proofs.Leaves.{points-few}
use Rattle.triangles.specs.Settled.{Settled}
use Rattle.triangles.proofs.Settling.{left_alone, written_over}
use Rattle.drawing.proofs.Passed.{few-cells, entries_follow, none_deep}
use Rattle.drawing.proofs.Outcome.{short, fits, drawn}
use Rattle.drawing.proofs.Settling.{known, not_written, is-written}
use Rattle.amendments.proofs.Refusals.{some_number}
use borrow.Author.Rules.{rules}
use Rattle.drawing.proofs.draw_numbered.Goals as goal
use Rattle.drawing.proofs.draw_numbered.Goals.{Start, After-shortage}

pub fill-requires-2-clause-cells_value : goal.fill-requires-2-clause-cells_value
fill-requires-2-clause-cells_value c = let s = c.args.edges.now.survey in entries_follow s.cells.now s.corners.now s.clearance s.accepted

pub fill-requires-2-clause-shallow : goal.fill-requires-2-clause-shallow
fill-requires-2-clause-shallow c = let s = c.args.edges.now.survey in none_deep s.cells.now s.corners.now s.clearance s.accepted

pub fill-requires-2-clause-cells_len_bound : goal.fill-requires-2-clause-cells_len_bound
fill-requires-2-clause-cells_len_bound c =
    let s = c.args.edges.now.survey in
    let few = few-cells s.cells.now s.corners.now s.clearance s.accepted in
    (few, search (rules, few))

pub fill-requires-3-clause-cells_in_bounds : goal.fill-requires-3-clause-cells_in_bounds
fill-requires-3-clause-cells_in_bounds c =
    let s = c.args.edges.now.survey in
    let few = few-cells s.cells.now s.corners.now s.clearance s.accepted in
    search (rules, few)

-- the points are few
few : (f : Start) → f.args.n ≤ 14616
few f = let s = f.args.edges.now.survey in omega (arith, f.requires.count, points-few s.cells.now s.corners.now s.clearance s.accepted)

pub overflow_mul-write : goal.overflow_mul-write
overflow_mul-write c = omega (arith, few (goal.at.overflow_mul-write c).Start)

pub draw-m-requires : goal.draw-m-requires
draw-m-requires c =
    let s = c.args.edges.now.survey in
    known s.cells.now s.corners.now s.clearance s.accepted c.fill-2.ensures c.fill-3.ensures c.fill.ensures c.requires.count

pub shortage-requires : goal.shortage-requires
shortage-requires c = omega (arith, few (goal.at.shortage-requires c).Start)

-- what is known when the triangles are drawn and it is known whether both slices have room
module _ (c : After-shortage) where
  -- the triangle slice afterwards
  abbrev after : List ℕ
  after = c.draw-m.new.out

  abbrev settled : let s = c.args.edges.now.survey in Settled (all_triangles (survey_of s.cells.now s.corners.now s.clearance))
      (leb (3 * c.args.n) (length c.args.points.now)) c.args.triangles.now after c.draw-m.result
  settled =
      let s = c.args.edges.now.survey in
      c.draw-m.ensures (known s.cells.now s.corners.now s.clearance s.accepted c.fill-2.ensures c.fill-3.ensures c.fill.ensures c.requires.count)

pub counted-requires : goal.counted-requires
counted-requires c = omega (arith, few (goal.at.counted-requires c).Start)

pub returns-in-Err : goal.returns-in-Err
returns-in-Err c =
    let a = c.args in
    let s = a.edges.now.survey in
    let tc = s.cells.now in
    let tk = s.corners.now in
    let v = s.clearance in
    let f = (goal.at.returns-in-Err c).After-shortage in
    let is = c.from.ensures ∙ c.in-Err.ensures in
    let some = λ (z : c.from.result ≡ 0). some_number c.in-Err.refusal (sym c.from.ensures ∙ z) in
    let still = left_alone (settled f) (not_written (length a.points.now) (length a.triangles.now) (3 * a.n) (3 * c.draw-m.result) c.from.result is some) in
    rw (c.counted.ensures, still) (short tc tk v a.points.now a.triangles.now c.requires.drawable a.n c.draw-m.result c.from.result
    c.requires.count (settled f).counted is some)

pub write_points-requires : goal.write_points-requires
write_points-requires c =
    let a = c.args in
    let s = a.edges.now.survey in
    let room = fits s.cells.now s.corners.now s.clearance a.points.now a.triangles.now c.requires.drawable a.n c.draw-m.result 0
    c.requires.count (settled (goal.at.write_points-requires c).After-shortage).counted c.in_default.ensures refl in
    record { carriers = c.requires.carriers; n_value = (c.requires.count, room.0) }

pub counted-requires-2 : goal.counted-requires-2
counted-requires-2 c = omega (arith, few (goal.at.counted-requires-2 c).Start)

pub returns : goal.returns
returns c =
    let a = c.args in
    let s = a.edges.now.survey in
    let tc = s.cells.now in
    let tk = s.corners.now in
    let v = s.clearance in
    let f = (goal.at.returns c).After-shortage in
    rw c.counted-2.ensures
    (drawn tc tk v a.points.now a.triangles.now c.requires.drawable a.n c.draw-m.result 0 c.requires.count (settled f).counted c.in_default.ensures refl
    c.write_points.new.points (after f) c.write_points.ensures
    (written_over tc tk v (settled f)
    (is-written (length a.points.now) (length a.triangles.now) (3 * a.n) (3 * c.draw-m.result) 0 c.in_default.ensures refl)))
