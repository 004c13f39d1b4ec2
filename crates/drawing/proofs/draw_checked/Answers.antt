-- `drawing::draw_checked` meets its contract: checks 1 to 6 with tables of its own, and the rest with amendments or without.
use mathlib.Core.Path.{sym, ◌∙◌}
use lib.Dec.{eqb→eq}
use lib.ListN.{length}
use Rattle.base.proofs.Tests.{→true}
use Rattle.rules.specs.Refusals.{refusal_number}
use Rattle.amendments.proofs.Calls.{empty-is}
use Rattle.amendments.proofs.Refusals.{some_number}
use Rattle.drawing.proofs.Amended.{refused-first, without}
use Rattle.drawing.proofs.Outcome.{refused_with}
use Rattle.drawing.proofs.draw_checked.Goals as goal

pub returns-in_err-passed : goal.returns-in_err-passed
returns-in_err-passed c =
    let a = c.args in
    let e = c.in_err-passed.field-0.0 in
    refused_with _ _ e c.from_residual.ensures.1
    (refused-first a.cells.now a.corners.now a.amendments.now a.clearance a.points.now a.triangles.now (refusal_number e) c.in_err-passed.ensures.value (some_number e))

pub returns-then-is_empty : goal.returns-then-is_empty
returns-then-is_empty c =
    let a = c.args in
    let none = empty-is a.amendments.now (eqb→eq (length a.amendments.now) 0 (→true (sym c.is_empty.ensures ∙ c.if-is_empty.true))) in
    let same = c.in_ok-passed.ensures.survey in
    without a.cells.now a.corners.now a.amendments.now a.clearance a.points.now a.triangles.now _ _ _ none
    (sym c.in_ok-passed.ensures.value) (rw (same.0, same.1) at c.draw_in_force.ensures)

pub returns : goal.returns
returns c = let same = c.in_ok-passed.ensures.survey in rw (same.0, same.1) at c.draw_amended.ensures
