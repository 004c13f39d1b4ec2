-- `amendments::bad_table` meets its contract: one test after the other.
use Prim.Native.Nat.{◌%◌}
use mathlib.Core.Path.{refl}
use borrow.Author.Tests.{eq-eqb, ne_eqb}
use lib.ListN.{length}
use Rattle.rules.specs.Survey.{record_size}
use Rattle.amendments.proofs.bad_table.Goals as goal

pub returns-then-amendments-ne0 : goal.returns-then-amendments-ne0
returns-then-amendments-ne0 c = rw (ne_eqb (length c.args.amendments.now % record_size) 0 c.if-amendments-ne0.true) refl

pub returns : goal.returns
returns c = rw (eq-eqb (length c.args.amendments.now % record_size) 0 c.if-amendments-ne0.false) refl
