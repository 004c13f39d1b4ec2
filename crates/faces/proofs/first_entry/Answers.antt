-- `faces::first_entry` meets its contract: the lowest digit at which a step enters.
use native.Mathlib.Omega.{arith}
use Rattle.faces.proofs.Entering.{no_entry, lowest_enters}
use Rattle.faces.proofs.first_entry.Goals as goal

pub returns-then-entered-eq0 : goal.returns-then-entered-eq0
returns-then-entered-eq0 c = no_entry c.args.pattern c.requires c.if-entered-eq0.true

pub returns : goal.returns
returns c =
    let (e, few) = lowest_enters c.args.pattern c.requires c.if-entered-eq0.false in
    (e, omega arith)
