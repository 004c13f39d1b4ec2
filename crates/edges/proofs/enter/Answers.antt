-- `edges::enter` meets its contract: true counts as 1.
use Prim.Native.Nat.{◌+◌}
use mathlib.Core.Path.{refl, ap, ◌∙◌}
use Rattle.edges.proofs.Filled.{byte-bit}
use Rattle.edges.proofs.enter.Goals as goal

pub returns : goal.returns
returns c = (ap (λ m. c.args.n + m) (c.from.ensures ∙ byte-bit c.args.crossed), refl)
