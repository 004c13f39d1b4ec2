-- `convoy::greater` meets its contract: by the test.
use mathlib.Core.Path.{sym, ap}
use mathlib.Core.Bool.{Bool, cond}
use Rattle.convoy.specs.GreatestOf.{greater_of}
use Rattle.convoy.proofs.greater.Goals as goal

pub returns-then-a-b : goal.returns-then-a-b
unfolding greater_of
returns-then-a-b c = let a = c.args in sym (ap (λ (b : Bool). cond b a.b a.a) c.if-a-b.true)

pub returns : goal.returns
unfolding greater_of
returns c = let a = c.args in sym (ap (λ (b : Bool). cond b a.b a.a) c.if-a-b.false)
