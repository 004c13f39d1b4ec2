-- `across::first_across` meets its contract.
use mathlib.Core.Path.{sym, ◌∙◌}
use Rattle.across.proofs.Choices.{first-none, first_some}
use Rattle.across.proofs.first_across.Goals as goal

pub returns-then-q-eq0 : goal.returns-then-q-eq0
returns-then-q-eq0 c = first-none c.args.cells.now c.args.across.now c.args.n c.args.i (sym c.from-q.ensures ∙ c.if-q-eq0.true)

pub returns : goal.returns
returns c =
    let a = c.args in
    rw c.from-q.ensures at c.cell_entry.ensures ∙ first_some a.cells.now a.across.now a.n a.i (λ e. c.if-q-eq0.false (c.from-q.ensures ∙ e))
