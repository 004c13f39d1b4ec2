-- `faces::row_pattern` meets its contract: four digits of the mask.
use borrow.Author.Rules.{rules}
use Rattle.faces.specs.Faces.{row_pattern}
use Rattle.faces.proofs.row_pattern.Goals as goal

pub returns : goal.returns
unfolding row_pattern
returns c = search rules
