-- `ways::find` meets its contract: what is returned stands for the count of the way's corners or for the refusal, and the meaning follows from the equation.
use Prim.Native.Nat.{ℕ}
use mathlib.Core.Path.{sym, subst}
use Rattle.rules.specs.declared.Passage.{Passage}
use Rattle.ways.specs.Shows.{Shows}
use Rattle.ways.proofs.Call.{Call, answer_amended}
use Rattle.ways.proofs.Laws.{promised}
use Rattle.ways.proofs.find.Goals as goal
use Rattle.ways.proofs.find.Goals.{Start}

abbrev call : Start → Call
call s = record {
  cells = s.args.cells.now;
  corners = s.args.corners.now;
  clearance = s.args.clearance;
  question = record { start = s.args.start; end = s.args.end; way = s.args.way.now; work = s.args.work.now };
}

pub returns-in-Ok : goal.returns-in-Ok
returns-in-Ok c =
    let both = promised (call (goal.at.returns-in-Ok c).Start) c.args.amendments.now c.in-Ok.ensures in
    record { exact = both.0; means = both.1 }

pub returns-in-Err : goal.returns-in-Err
returns-in-Err c =
    let refused : ℕ → Passage = λ n. record { number = n; corners = 0 } in
    let shows = subst (λ (n : ℕ). Shows (answer_amended (call (goal.at.returns-in-Err c).Start) c.args.amendments.now) (refused n) c.find_checked.new.way
    c.find_checked.new.work) (sym c.from.ensures) c.in-Err.ensures in
    let both = promised (call (goal.at.returns-in-Err c).Start) c.args.amendments.now shows in
    record { exact = both.0; means = both.1 }
