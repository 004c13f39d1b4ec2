-- `edges::keys::end_of_lower` meets its contract: by cases on the test.
use native.Mathlib.Omega.{arith}
use borrow.Author.Tests.{lt-ltb, le-ltb}
use Rattle.edges.proofs.keys.end_of_lower.Goals as goal

pub returns-then-level-low : goal.returns-then-level-low
returns-then-level-low c = rw (lt-ltb c.args.level c.args.low (omega arith))

pub returns : goal.returns
returns c = rw (le-ltb c.args.level c.args.low (omega arith))
