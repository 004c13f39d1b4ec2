-- `across::split_beside` meets its contract.
use Prim.Native.Nat.{◌+◌}
use mathlib.Core.Path.{◌∙◌, ap}
use Rattle.across.specs.Filling.{if_split}
use Rattle.across.proofs.Choices.{beside_none, beside_some}
use Rattle.across.proofs.split_beside.Goals as goal

pub returns-then-from-eq0 : goal.returns-then-from-eq0
returns-then-from-eq0 c = beside_none c.args.cells.now c.args.from c.args.axis c.args.j c.if-from-eq0.true

pub returns : goal.returns
returns c =
    let t = c.args.cells.now in
    c.if_split.ensures
    ∙ ap (λ m. if_split t (c.args.from + m)) c.opposite.ensures.0
    ∙ beside_some t c.args.from c.args.axis c.args.j c.if-from-eq0.false
