-- `faces::step_from` meets its contract: the formula is the rule.
use Rattle.faces.proofs.Entering.{step_enters, no_step}
use Rattle.faces.proofs.step_from.Goals as goal

pub returns-then-marks-ne2 : goal.returns-then-marks-ne2
returns-then-marks-ne2 c = no_step c.args.pattern c.args.edge c.requires.0 c.requires.1 c.if-marks-ne2.true

pub returns : goal.returns
returns c = step_enters c.args.pattern c.args.edge c.requires.0 c.requires.1 c.if-marks-ne2.false
