-- `checks::check` meets its contract: checks 1 to 6 with tables of its own, and the rest with amendments or without.
use mathlib.Core.Path.{sym, ap, ◌∙◌}
use lib.Dec.{eqb→eq}
use lib.ListN.{length}
use Rattle.base.proofs.Tests.{→true}
use Rattle.rules.specs.Refusals.{refusal_number}
use Rattle.rules.specs.Outputs.{survey_refusal}
use Rattle.rules.specs.Resounding.{check_amended}
use Rattle.amendments.proofs.Refusals.{some_number, number_on}
use Rattle.amendments.proofs.Calls.{empty-is, refused-by-tables, none-amended}
use Rattle.checks.proofs.check.Goals as goal

pub returns-in_err-survey : goal.returns-in_err-survey
unfolding check_amended
returns-in_err-survey c =
    let a = c.args in
    let e = c.in_err-survey.field-0.0 in
    number_on _ _ c.from_residual.ensures.1
    ∙ sym (refused-by-tables a.cells.now a.corners.now a.amendments.now (λ n. n) (survey_refusal a.cells.now)
    (refusal_number e) c.in_err-survey.ensures.value (some_number e))

pub returns-then-is_empty : goal.returns-then-is_empty
unfolding check_amended
returns-then-is_empty c =
    let a = c.args in
    let none = empty-is a.amendments.now (eqb→eq (length a.amendments.now) 0 (→true (sym c.is_empty.ensures ∙ c.if-is_empty.true))) in
    c.soundings.ensures
    ∙ sym (ap (check_amended a.cells.now a.corners.now) none
    ∙ none-amended a.cells.now a.corners.now (λ n. n) (survey_refusal a.cells.now) (sym c.in_ok-survey.ensures.value))
