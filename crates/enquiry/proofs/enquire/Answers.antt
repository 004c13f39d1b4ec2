-- `enquiry::enquire` meets its contract: checks 1 to 6 with tables of its own, and the rest with amendments or without; and its place stays on the edge.
use mathlib.Core.Path.{◌∙◌, sym}
use lib.Dec.{eqb→eq}
use lib.ListN.{length}
use Rattle.base.proofs.Tests.{→true}
use Rattle.rules.specs.Refusals.{refusal_number}
use Rattle.rules.specs.Resounding.{enquiry_amended}
use Rattle.amendments.proofs.Refusals.{some_number}
use Rattle.amendments.proofs.Calls.{empty-is}
use Rattle.enquiry.specs.Enquiry.{lower_end}
use Rattle.enquiry.proofs.Enquiring.{answered_on}
use Rattle.enquiry.proofs.Amended.{refused-first, without, both}
use Rattle.enquiry.proofs.enquire.Goals as goal

pub returns-in_err-passed : goal.returns-in_err-passed
returns-in_err-passed c =
    let a = c.args in
    let e = c.in_err-passed.field-0.0 in
    both a.cells.now a.corners.now a.amendments.now a.clearance a.edge.axis (lower_end a.edge) a.edge.length _
    (answered_on _ _ c.from_residual.ensures.1
    ∙ refused-first a.cells.now a.corners.now a.amendments.now a.clearance a.edge.axis (lower_end a.edge) a.edge.length
    (refusal_number e) c.in_err-passed.ensures.value (some_number e))

pub returns-then-is_empty : goal.returns-then-is_empty
returns-then-is_empty c =
    let a = c.args in
    let none = empty-is a.amendments.now (eqb→eq (length a.amendments.now) 0 (→true (sym c.is_empty.ensures ∙ c.if-is_empty.true))) in
    both a.cells.now a.corners.now a.amendments.now a.clearance a.edge.axis (lower_end a.edge) a.edge.length _
    (c.enquire_in_force.ensures
    ∙ without a.cells.now a.corners.now a.amendments.now a.clearance a.edge.axis (lower_end a.edge) a.edge.length
    none c.in_ok-passed.ensures.value _ _ c.in_ok-passed.ensures.survey)

pub returns : goal.returns
returns c =
    let a = c.args in
    let same = c.in_ok-passed.ensures.survey in
    both a.cells.now a.corners.now a.amendments.now a.clearance a.edge.axis (lower_end a.edge) a.edge.length _
    (c.enquire_amended.ensures ∙ (λ i. enquiry_amended (same.0 i) (same.1 i) a.amendments.now a.clearance a.edge.axis (lower_end a.edge) a.edge.length))
