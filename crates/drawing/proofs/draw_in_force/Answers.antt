-- `drawing::draw_in_force` meets its contract: refused by 7, 8 or 12, or a drawable survey.
use mathlib.Core.Path.{refl}
use Rattle.rules.specs.Refusals.{refusal_number}
use Rattle.amendments.proofs.Refusals.{some_number}
use Rattle.drawing.proofs.Outcome.{passes, refused, refused_with}
use Rattle.drawing.proofs.draw_in_force.Goals as goal

pub returns-in_err-refusal : goal.returns-in_err-refusal
returns-in_err-refusal c =
    let a = c.args in
    let p = a.passed in
    let e = c.in_err-refusal.field-0.0 in
    refused_with _ _ e c.from_residual.ensures.1
    (refused p.cells.now p.corners.now a.clearance a.points.now a.triangles.now (refusal_number e) c.in_err-refusal.ensures.value (some_number e))

pub draw_drawable-requires-clause-drawable : goal.draw_drawable-requires-clause-drawable
draw_drawable-requires-clause-drawable c =
    let a = c.args in
    let p = a.passed in
    passes p.cells.now p.corners.now a.clearance a.points.now a.triangles.now 0 c.in_ok-refusal.ensures.value refl
