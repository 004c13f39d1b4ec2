-- `checks::refusal` meets its contract: the clearance is looked at where no sounding is refused.
use mathlib.Core.Path.{◌∙◌, refl, sym, ap}
use mathlib.Core.Bool.{not}
use Rattle.rules.specs.Refusals.{refusal_number}
use Rattle.amendments.proofs.Refusals.{some_number, number_on}
use Rattle.checks.proofs.Order.{survey-refused, clearance-refused, nothing-refused}
use Rattle.checks.proofs.refusal.Goals as goal

pub returns-in_err-soundings : goal.returns-in_err-soundings
returns-in_err-soundings c =
    let a = c.args in
    let e = c.in_err-soundings.field-0.0 in
    number_on _ _ c.from_residual.ensures.1
    ∙ survey-refused a.cells.now a.corners.now a.clearance (refusal_number e) c.in_err-soundings.ensures (some_number e)

pub returns-then-not-in_range : goal.returns-then-not-in_range
returns-then-not-in_range c =
    let a = c.args in
    clearance-refused a.cells.now a.corners.now a.clearance 0 c.in_ok-soundings.ensures refl
    (ap not (sym c.in_range.ensures ∙ c.if-not-in_range.true))

pub returns : goal.returns
returns c =
    let a = c.args in
    nothing-refused a.cells.now a.corners.now a.clearance 0 c.in_ok-soundings.ensures refl
    (ap not (sym c.in_range.ensures ∙ c.if-not-in_range.false))
