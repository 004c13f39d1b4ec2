-- `across::fill_box` meets its contract: the six zeros, as the table of a function that is always 0.
use borrow.Author.Rules.{rules}
use Rattle.cells.specs.Laid.{written_at}
use Rattle.across.proofs.fill_box.Goals as goal

pub returns : goal.returns
unfolding written_at
returns c = search rules
