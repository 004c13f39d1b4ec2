-- `crossings::Tables::fill_points` meets its contract: before each turn the table has the points of the edges below i.
use Rattle.edges.specs.Surveyed.{surveyed}
use Rattle.crossings.specs.Filling.{PointsTo}
use Rattle.crossings.proofs.Tables.fill_points.Given as goal

abbrev pub invariant-loop-i : goal.invariant-loop-i
invariant-loop-i l = PointsTo (surveyed l.self.edges.survey) l.self.edges.survey.cells.now l.i l.crossings
