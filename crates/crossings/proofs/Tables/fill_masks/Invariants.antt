-- `crossings::Tables::fill_masks` meets its contract: before each turn the table has all points, and the wet corners of the records below n.
use Rattle.edges.specs.Surveyed.{surveyed}
use Rattle.crossings.proofs.Filling.{MasksTo}
use Rattle.crossings.proofs.Tables.fill_masks.Given as goal

abbrev pub invariant-loop-n : goal.invariant-loop-n
invariant-loop-n l = MasksTo (surveyed l.self.edges.survey) l.self.edges.survey.cells.now l.n l.crossings
