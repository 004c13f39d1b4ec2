-- `loops::Walk::next` meets its contract: by the test whether a face step leaves the point.
use mathlib.Core.Path.{◌∙◌}
use Rattle.loops.proofs.Held.{leads-twin, leads-step, leads-onward}
use Rattle.loops.proofs.Walk.next.Goals as goal

pub returns-then-end : goal.returns-then-end
returns-then-end c =
    let trace = c.args.trace.now in
    let twins = c.args.twins.now in
    let leads = leads-twin trace twins _ _ c.from-at.ensures c.if-end.true in
    record {
      value = λ i. record { before = c.args.self.at; at = leads i };
      follows = λ ss twin w n t. leads ∙ leads-onward ss twin trace twins _ w n t;
    }

pub returns : goal.returns
returns c =
    let trace = c.args.trace.now in
    let twins = c.args.twins.now in
    let leads = leads-step trace twins _ _ c.from-at.ensures c.if-end.false in
    record {
      value = λ i. record { before = c.args.self.at; at = leads i };
      follows = λ ss twin w n t. leads ∙ leads-onward ss twin trace twins _ w n t;
    }
