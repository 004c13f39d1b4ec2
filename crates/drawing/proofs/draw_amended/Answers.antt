-- `drawing::draw_amended` meets its contract: 14 and 15, then the drawing with the corner table as amended.
use mathlib.Core.Path.{sym}
use Rattle.rules.specs.Refusals.{refusal_number}
use Rattle.amendments.proofs.Refusals.{some_number}
use Rattle.drawing.proofs.Amended.{refused-next, in_force}
use Rattle.drawing.proofs.Outcome.{refused_with}
use Rattle.drawing.proofs.draw_amended.Goals as goal

pub returns-in_err-amended : goal.returns-in_err-amended
returns-in_err-amended c =
    let a = c.args in
    let p = a.passed in
    let e = c.in_err-amended.field-0.0 in
    refused_with _ _ e c.from_residual.ensures.1
    (refused-next p.cells.now p.corners.now a.amendments.now a.clearance a.points.now a.triangles.now (refusal_number e) c.in_err-amended.ensures.value (some_number e))

pub returns : goal.returns
returns c =
    let a = c.args in
    let p = a.passed in
    let same = c.in_ok-amended.ensures.survey in
    in_force p.cells.now p.corners.now a.amendments.now a.clearance a.points.now a.triangles.now _ _ _
    (sym c.in_ok-amended.ensures.value) _ same.1 (rw same.0 at c.draw_in_force.ensures)
