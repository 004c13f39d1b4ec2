-- `volume::refusal` meets its contract: the reference is looked at where drawing's own checks find nothing to refuse.
use mathlib.Core.Path.{sym, ◌∙◌}
use Rattle.rules.specs.Refusals.{refusal_number}
use Rattle.amendments.proofs.Refusals.{some_number, number_on}
use Rattle.water.specs.Corners.{reference_place}
use Rattle.volume.proofs.Outcome.{refused-earlier, refused-beyond, refused-not}
use Rattle.volume.proofs.refusal.Goals as goal

pub returns-in_err-refusal-clause-value : goal.returns-in_err-refusal-clause-value
returns-in_err-refusal-clause-value c =
    let a = c.args in
    let e = c.in_err-refusal.field-0.0 in
    number_on _ _ c.from_residual.ensures.1
    ∙ refused-earlier a.passed.cells.now a.passed.corners.now a.asked.clearance (reference_place a.asked.reference) (refusal_number e)
    c.in_err-refusal.ensures.value (some_number e)

pub returns-then-beyond-clause-value : goal.returns-then-beyond-clause-value
returns-then-beyond-clause-value c =
    let a = c.args in
    refused-beyond a.passed.cells.now a.passed.corners.now a.asked.clearance (reference_place a.asked.reference) c.in_ok-refusal.ensures.value
    (sym c.beyond.ensures ∙ c.if-beyond.true)

pub returns-clause-value : goal.returns-clause-value
returns-clause-value c =
    let a = c.args in
    refused-not a.passed.cells.now a.passed.corners.now a.asked.clearance (reference_place a.asked.reference) c.in_ok-refusal.ensures.value
    (sym c.beyond.ensures ∙ c.if-beyond.false)
