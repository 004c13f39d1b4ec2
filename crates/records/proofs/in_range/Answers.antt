-- `records::in_range` meets its contract: the two literals are the bounds of the rules.
use Rattle.records.proofs.Patterns.{in_range_is, below_range_is}
use Rattle.records.proofs.in_range.Goals as goal

pub returns-then-x : goal.returns-then-x
returns-then-x c = in_range_is c.args.x c.if-x.true

pub returns-else-x : goal.returns-else-x
returns-else-x c = below_range_is c.args.x c.if-x.false
