-- `edges::keys::unit` meets its contract: each test picks its axis.
use lib.Dec.{lit≤}
use Rattle.edges.proofs.Find.{axis-z}
use Rattle.edges.proofs.keys.unit.Goals as goal

pub returns : goal.returns
returns c = (rw (axis-z c.args.axis c.if-axis-eq0.false c.if-axis-eq1.false), lit≤ tt)
