-- `ways::find_in_force` meets its contract: refused by 7 or 8, by 18 or 19, or what is shown in an accepted survey.
use mathlib.Core.Path.{sym, ap}
use lib.ListN.{length}
use Rattle.rules.specs.Refusals.{refusal_number}
use Rattle.amendments.proofs.Refusals.{some_number, refused_with}
use Rattle.ways.specs.Shows.{passage_from}
use Rattle.ways.proofs.Call.{Call, call_of, count}
use Rattle.ways.proofs.Checks.{neither}
use Rattle.ways.proofs.Amended.{refused-first, accepted-is, refused_slices, way-found}
use Rattle.ways.proofs.find_in_force.Goals as goal
use Rattle.ways.proofs.find_in_force.Goals.{Start}

abbrev call : Start → Call
call s = call_of s.args.passed.cells.now s.args.passed.corners.now s.args.asked s.args.way.now s.args.work.now

pub returns-in_err-refusal : goal.returns-in_err-refusal
returns-in_err-refusal c =
    let e = c.in_err-refusal.field-0.0 in
    refused-first (call (goal.at.returns-in_err-refusal c).Start) (refusal_number e) c.in_err-refusal.ensures (some_number e) _
    (ap passage_from (refused_with _ _ c.from_residual.ensures.1))

pub returns-in_err-question_refusal : goal.returns-in_err-question_refusal
returns-in_err-question_refusal c =
    let e = c.in_err-question_refusal.field-0.0 in
    refused_slices (call (goal.at.returns-in_err-question_refusal c).Start) (sym c.in_ok-refusal.ensures) (refusal_number e)
    c.in_err-question_refusal.ensures (some_number e) _ (ap passage_from (refused_with _ _ c.from_residual-in_err-question_refusal.ensures.1))

pub find_accepted-requires : goal.find_accepted-requires
find_accepted-requires c =
    let a = c.args in
    let (is_start, is_end, way-fits, work-fits) =
    neither (count (call (goal.at.find_accepted-requires c).Start)) a.asked.start a.asked.end (length a.way.now) (length a.work.now)
    (sym c.in_ok-question_refusal.ensures) in
    record {
      accepted = accepted-is (call (goal.at.find_accepted-requires c).Start) (sym c.in_ok-refusal.ensures);
      ends = (is_start, is_end);
      room = (way-fits, work-fits);
    }

pub returns : goal.returns
returns c = way-found (call (goal.at.returns c).Start) (sym c.in_ok-refusal.ensures) c.find_accepted.ensures
