-- `ways::find_amended` meets its contract: 14 and 15, then the way with the corner table as amended.
use mathlib.Core.Path.{sym, ap}
use Rattle.rules.specs.Refusals.{refusal_number}
use Rattle.amendments.proofs.Refusals.{some_number, refused_with}
use Rattle.ways.specs.Shows.{passage_from}
use Rattle.ways.proofs.Call.{Call, call_of}
use Rattle.ways.proofs.Amended.{by_amendments, in_force}
use Rattle.ways.proofs.find_amended.Goals as goal
use Rattle.ways.proofs.find_amended.Goals.{Start}

abbrev call : Start → Call
call s = call_of s.args.passed.cells.now s.args.passed.corners.now s.args.asked s.args.way.now s.args.work.now

pub returns-in_err-survey : goal.returns-in_err-survey
returns-in_err-survey c =
    let e = c.in_err-survey.field-0.0 in
    by_amendments (call (goal.at.returns-in_err-survey c).Start) c.args.amendments.now (refusal_number e) c.in_err-survey.ensures.value (some_number e) _
    (ap passage_from (refused_with _ _ c.from_residual.ensures.1))

pub returns : goal.returns
returns c =
    let (cells, corners) = c.in_ok-survey.ensures.survey in
    in_force (call (goal.at.returns c).Start) c.args.amendments.now (sym c.in_ok-survey.ensures.value) cells corners c.find_in_force.ensures
