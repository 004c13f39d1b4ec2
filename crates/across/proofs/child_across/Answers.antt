-- `across::child_across` meets its contract: the cell across is a child of the parent where the side is inside it, else one of the cell across that.
use mathlib.Core.Path.{◌∙◌}
use Rattle.across.proofs.Choices.{child_inner, child_outer}
use Rattle.across.proofs.child_across.Goals as goal

pub returns-then-j-axis : goal.returns-then-j-axis
returns-then-j-axis c =
    let a = c.args in
    c.split_beside.ensures ∙ child_inner a.cells.now a.first a.far a.i a.j c.if-j-axis.true

pub returns : goal.returns
returns c =
    let a = c.args in
    c.split_beside-2.ensures ∙ child_outer a.cells.now a.first a.far a.i a.j c.if-j-axis.false
