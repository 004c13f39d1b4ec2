-- `convoy::find` meets its contract: refused by 21 or 8, or the way for one boat at the greatest clearance.
use mathlib.Core.Path.{sym}
use Rattle.rules.specs.Refusals.{refusal_number}
use Rattle.amendments.proofs.Refusals.{some_number}
use Rattle.convoy.proofs.Calls.{Call, lawful_clearances}
use Rattle.convoy.proofs.Laws.{refuses, finds}
use Rattle.convoy.proofs.find.Goals as goal
use Rattle.convoy.proofs.find.Goals.{Start}

abbrev call : Start → Call
call s = record {
  cells = s.args.cells.now;
  corners = s.args.corners.now;
  amendments = s.args.amendments.now;
  clearances = s.args.clearances.now;
  question = record { start = s.args.start; end = s.args.end; way = s.args.way.now; work = s.args.work.now };
}

pub returns-in-Err : goal.returns-in-Err
returns-in-Err c =
    let e = c.in-Err.refusal in
    let both = refuses (call (goal.at.returns-in-Err c).Start) (refusal_number e) c.in-Err.ensures (some_number e) _ c.refused.ensures in
    record { exact = both.0; means = both.1.0; as_greatest = both.1.1 }

pub greatest-requires : goal.greatest-requires
greatest-requires c = (lawful_clearances _ (sym c.in_default.ensures)).0

pub returns : goal.returns
returns c =
    let both = finds (call (goal.at.returns c).Start) (sym c.in_default.ensures) c.greatest.result c.greatest.ensures c.find.ensures.exact in
    record { exact = both.0; means = both.1.0; as_greatest = both.1.1 }
