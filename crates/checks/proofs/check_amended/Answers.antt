-- `checks::check_amended` meets its contract: 14 and 15, then 7 of the corner table as amended.
use mathlib.Core.Path.{sym, ◌∙◌}
use Rattle.rules.specs.Refusals.{refusal_number}
use Rattle.rules.specs.Outputs.{survey_refusal}
use Rattle.rules.specs.Resounding.{check_amended}
use Rattle.amendments.proofs.Refusals.{some_number, number_on}
use Rattle.amendments.proofs.Calls.{refused-by_amendments, called}
use Rattle.checks.proofs.check_amended.Goals as goal

pub returns-in_err-survey : goal.returns-in_err-survey
unfolding check_amended
returns-in_err-survey c =
    let s = c.args.survey in
    let e = c.in_err-survey.field-0.0 in
    number_on _ _ c.from_residual.ensures.1
    ∙ sym (refused-by_amendments s.cells.now s.corners.now c.args.amendments.now (λ n. n) (survey_refusal s.cells.now)
    (refusal_number e) c.in_err-survey.ensures.value (some_number e))

pub returns : goal.returns
unfolding check_amended
returns c =
    let s = c.args.survey in
    let (cells, corners) = c.in_ok-survey.ensures.survey in
    c.soundings.ensures
    ∙ (λ i. survey_refusal (cells i) (corners i))
    ∙ sym (called s.cells.now s.corners.now c.args.amendments.now (λ n. n) (survey_refusal s.cells.now) (sym c.in_ok-survey.ensures.value))
