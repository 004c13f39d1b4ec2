-- `across::if_split` meets its contract.
use Rattle.across.proofs.Choices.{leaf-left, split_kept}
use Rattle.across.proofs.if_split.Goals as goal

pub returns-then-cell_entry-eq0 : goal.returns-then-cell_entry-eq0
returns-then-cell_entry-eq0 c = leaf-left c.args.cells.now c.args.n _ c.cell_entry.ensures c.if-cell_entry-eq0.true

pub returns : goal.returns
returns c = split_kept c.args.cells.now c.args.n _ c.cell_entry.ensures c.if-cell_entry-eq0.false
