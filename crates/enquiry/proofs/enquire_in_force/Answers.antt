-- `enquiry::enquire_in_force` meets its contract: the refusals in their order; no edge starts outside the box; then the answer from the tables.
use Prim.Native.Nat.{◌+◌, ◌*◌}
use mathlib.Core.Path.{ap, ◌∙◌}
use native.Mathlib.Omega.{arith}
use Rattle.base.specs.Grid.{axis_of}
use Rattle.rules.specs.Refusals.{refusal_number}
use Rattle.amendments.proofs.Refusals.{some_number}
use Rattle.enquiry.specs.Enquiry.{lower_end, edge_answer}
use Rattle.enquiry.proofs.Enquiring.{key-is, answered_on, enquiry-refused, is-accepted, nowhere-refused, enquiry-answer}
use Rattle.enquiry.proofs.enquire_in_force.Goals as goal

pub returns-in_err-refusal : goal.returns-in_err-refusal
returns-in_err-refusal c =
    let a = c.args in
    let e = c.in_err-refusal.field-0.0 in
    answered_on _ _ c.from_residual.ensures.1
    ∙ enquiry-refused a.passed.cells.now a.passed.corners.now a.clearance a.edge.axis (lower_end a.edge) a.edge.length
    (refusal_number e) c.in_err-refusal.ensures (some_number e)

pub returns-then-edge-gt2 : goal.returns-then-edge-gt2
returns-then-edge-gt2 c =
    let a = c.args in
    nowhere-refused a.passed.cells.now a.passed.corners.now a.clearance a.edge.axis (lower_end a.edge) a.edge.length
    c.in_ok-refusal.ensures c.then-edge-gt2.either

pub invariant_of-survey-clause-accepted : goal.invariant_of-survey-clause-accepted
invariant_of-survey-clause-accepted c =
    let a = c.args in
    is-accepted a.passed.cells.now a.passed.corners.now a.clearance a.edge.axis (lower_end a.edge) a.edge.length c.in_ok-refusal.ensures

pub returns : goal.returns
returns c =
    let e = c.args.edge in
    let p = lower_end e in
    let tc = c.args.passed.cells.now in
    let tk = c.args.passed.corners.now in
    let key = (λ i. c.from.ensures i + 65536 * c.from-2.ensures i + 4294967296 * c.from-3.ensures i) ∙ key-is e.x e.y e.z in
    c.enquire_accepted.ensures p (record { x_fits = omega arith; y_fits = omega arith }) key
    ∙ ap (edge_answer tc tk c.args.clearance (axis_of e.axis) p) c.level_of.ensures
    ∙ enquiry-answer tc tk c.args.clearance e.axis p e.length c.in_ok-refusal.ensures (omega arith)
