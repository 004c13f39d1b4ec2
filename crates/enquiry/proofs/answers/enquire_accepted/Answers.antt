-- `enquiry::answers::enquire_accepted` meets its contract: each table is filled as the next step asks.
use mathlib.Core.Path.{refl}
use native.Mathlib.Omega.{arith}
use Rattle.edges.proofs.Notes.{none_noted}
use Rattle.edges.proofs.Readings.{no_refusal}
use Rattle.enquiry.proofs.Enquiring.{known}
use Rattle.enquiry.proofs.answers.enquire_accepted.Goals as goal

pub fill_levels-requires-clause-corners_value : goal.fill_levels-requires-clause-corners_value
fill_levels-requires-clause-corners_value c =
    let s = c.args.survey in
    no_refusal s.cells.now s.corners.now s.clearance s.accepted

pub fill_levels-requires-clause-levels : goal.fill_levels-requires-clause-levels
fill_levels-requires-clause-levels c = none_noted c.args.survey.corners.now 43848 refl (omega (arith, (known c.args.survey).few))

pub fill_wets-requires-clause-corners_value : goal.fill_wets-requires-clause-corners_value
fill_wets-requires-clause-corners_value c = (known c.args.survey).rises

pub fill_wets-requires-clause-wets_len : goal.fill_wets-requires-clause-wets_len
fill_wets-requires-clause-wets_len c = (refl, (known c.args.survey).few)
