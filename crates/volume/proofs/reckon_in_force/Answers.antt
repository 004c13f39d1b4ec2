-- `volume::reckon_in_force` meets its contract: refused before the slices are looked at, refused for them, or drawn and summed over.
use mathlib.Core.Path.{sym, ◌∙◌, subst}
use Rattle.base.proofs.Tests.{→false}
use Rattle.water.specs.Corners.{reference_place}
use Rattle.water.proofs.Signed.{kept}
use Rattle.volume.proofs.Outcome.{can_draw, inside}
use Rattle.volume.proofs.Reckoned.{Promised, can_sum, drawn_promised, short_promised, refused_promised}
use Rattle.volume.proofs.reckon_in_force.Goals as goal

pub returns-in_err-refusal : goal.returns-in_err-refusal
returns-in_err-refusal c =
    let a = c.args in
    refused_promised a.passed.cells.now a.passed.corners.now a.asked.clearance a.points.now a.triangles.now (reference_place a.asked.reference) _ _
    c.from_residual.ensures.1 c.in_err-refusal.ensures.value

pub draw_drawable-drawn-requires-clause-drawable : goal.draw_drawable-drawn-requires-clause-drawable
draw_drawable-drawn-requires-clause-drawable c =
    let a = c.args in
    can_draw a.passed.cells.now a.passed.corners.now a.asked.clearance (reference_place a.asked.reference) a.points.now a.triangles.now
    c.in_ok-refusal.ensures.value

pub returns-then-drawn-ne0 : goal.returns-then-drawn-ne0
returns-then-drawn-ne0 c =
    let a = c.args in
    subst (Promised a.passed.cells.now a.passed.corners.now a.asked.clearance a.points.now a.triangles.now (reference_place a.asked.reference) _ _)
    (sym c.with_volume.ensures)
    (short_promised a.passed.cells.now a.passed.corners.now a.asked.clearance a.points.now a.triangles.now (reference_place a.asked.reference)
    c.in_ok-refusal.ensures.value c.draw_drawable-drawn.result _ _ c.draw_drawable-drawn.ensures c.if-drawn-ne0.true)

pub sum-sixfold-requires : goal.sum-sixfold-requires
sum-sixfold-requires c =
    let a = c.args in
    record {
      summable = can_sum a.passed.cells.now a.passed.corners.now a.asked.clearance a.points.now a.triangles.now c.draw_drawable-drawn.result _ _
          c.draw_drawable-drawn.ensures c.if-drawn-ne0.false;
      reference_in_box = →false (inside a.passed.cells.now a.passed.corners.now a.asked.clearance (reference_place a.asked.reference) a.points.now
          a.triangles.now c.in_ok-refusal.ensures.value);
    }

pub returns : goal.returns
returns c =
    let a = c.args in
    let sum = c.sum-sixfold in
    subst (Promised a.passed.cells.now a.passed.corners.now a.asked.clearance a.points.now a.triangles.now (reference_place a.asked.reference) _ _)
    (sym c.with_volume-2.ensures)
    (drawn_promised a.passed.cells.now a.passed.corners.now a.asked.clearance a.points.now a.triangles.now c.draw_drawable-drawn.result _ _
    c.draw_drawable-drawn.ensures c.if-drawn-ne0.false (reference_place a.asked.reference) _ (kept sum.result sum.type_inv ∙ sum.ensures)
    c.in_ok-refusal.ensures.value)
