-- `edges::ends::odd_half` meets its contract: the edge's start if the marks differ, else its middle.
use lib.ListN.{get_or}
use borrow.Author.Tests.{eq-eqb, ne_eqb}
use Rattle.edges.proofs.ends.odd_half.Goals as goal

pub returns-then-wets-k : goal.returns-then-wets-k
returns-then-wets-k c =
    rw (ne_eqb (get_or c.args.wets.now c.args.k 0) (get_or c.args.wets.now c.args.middle 0) c.if-wets-k.true)

pub returns : goal.returns
returns c =
    rw (eq-eqb (get_or c.args.wets.now c.args.k 0) (get_or c.args.wets.now c.args.middle 0) c.if-wets-k.false)
