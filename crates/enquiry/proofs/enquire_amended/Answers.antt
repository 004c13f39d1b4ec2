-- `enquiry::enquire_amended` meets its contract: 14 and 15, then the enquiry with the corner table as amended.
use mathlib.Core.Path.{◌∙◌}
use Rattle.rules.specs.Refusals.{refusal_number}
use Rattle.amendments.proofs.Refusals.{some_number}
use Rattle.enquiry.specs.Enquiry.{lower_end}
use Rattle.enquiry.proofs.Enquiring.{answered_on}
use Rattle.enquiry.proofs.Amended.{refused-next, in_force}
use Rattle.enquiry.proofs.enquire_amended.Goals as goal

pub returns-in_err-amended : goal.returns-in_err-amended
returns-in_err-amended c =
    let a = c.args in
    let e = c.in_err-amended.field-0.0 in
    answered_on _ _ c.from_residual.ensures.1
    ∙ refused-next a.passed.cells.now a.passed.corners.now a.amendments.now a.clearance a.edge.axis (lower_end a.edge) a.edge.length
    (refusal_number e) c.in_err-amended.ensures.value (some_number e)

pub returns : goal.returns
returns c =
    let a = c.args in
    c.enquire_in_force.ensures
    ∙ in_force a.passed.cells.now a.passed.corners.now a.amendments.now a.clearance a.edge.axis (lower_end a.edge) a.edge.length
    c.in_ok-amended.ensures.value _ _ c.in_ok-amended.ensures.survey
