-- `edges::opens` meets its contract.
use mathlib.Core.Path.{refl}
use Rattle.edges.proofs.opens.Goals as goal

pub returns-then-opened : goal.returns-then-opened
returns-then-opened c = rw c.if-opened.true refl

pub returns-then-is_outer : goal.returns-then-is_outer
returns-then-is_outer c = rw (c.if-opened.false, ← c.is_outer.ensures, c.if-is_outer.true) refl

pub returns-else-is_outer : goal.returns-else-is_outer
returns-else-is_outer c = rw (c.if-opened.false, ← c.is_outer.ensures, c.if-is_outer.false) refl
