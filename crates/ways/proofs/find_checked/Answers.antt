-- `ways::find_checked` meets its contract: checks 1 to 6 with tables of its own, and the rest with amendments or without.
use mathlib.Core.Path.{sym, ap, ◌∙◌}
use lib.Dec.{eqb→eq}
use lib.ListN.{length}
use Rattle.base.proofs.Tests.{→true}
use Rattle.rules.specs.Refusals.{refusal_number}
use Rattle.amendments.proofs.Calls.{empty-is}
use Rattle.amendments.proofs.Refusals.{some_number, refused_with}
use Rattle.ways.specs.Shows.{passage_from}
use Rattle.ways.proofs.Call.{Call, call_of}
use Rattle.ways.proofs.Amended.{by-tables, without, as_lent}
use Rattle.ways.proofs.find_checked.Goals as goal
use Rattle.ways.proofs.find_checked.Goals.{Start}

abbrev call : Start → Call
call s = call_of s.args.cells.now s.args.corners.now s.args.asked s.args.way.now s.args.work.now

pub returns-in_err-survey : goal.returns-in_err-survey
returns-in_err-survey c =
    let e = c.in_err-survey.field-0.0 in
    by-tables (call (goal.at.returns-in_err-survey c).Start) c.args.amendments.now (refusal_number e) c.in_err-survey.ensures.value (some_number e) _
    (ap passage_from (refused_with _ _ c.from_residual.ensures.1))

pub returns-then-is_empty : goal.returns-then-is_empty
returns-then-is_empty c =
    let amendments = c.args.amendments.now in
    let none = empty-is amendments (eqb→eq (length amendments) 0 (→true (sym c.is_empty.ensures ∙ c.if-is_empty.true))) in
    let (cells, corners) = c.in_ok-survey.ensures.survey in
    without (call (goal.at.returns-then-is_empty c).Start) amendments none (sym c.in_ok-survey.ensures.value) cells corners c.find_in_force.ensures

pub returns : goal.returns
returns c =
    let (cells, corners) = c.in_ok-survey.ensures.survey in
    as_lent (call (goal.at.returns c).Start) c.args.amendments.now cells corners c.find_amended.ensures
