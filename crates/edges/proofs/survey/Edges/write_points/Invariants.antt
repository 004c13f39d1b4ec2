-- `edges::Edges::write_points` meets its contract: before each turn the places of the points passed are written, and nothing behind them is touched.
use mathlib.Core.Path.{◌≡◌}
use lib.ListN.{length, take}
use Rattle.rules.specs.Survey.{corners_of}
use Rattle.rules.specs.Edges.{spot_on, point_edges}
use Rattle.rules.specs.Outputs.{survey_of, written}
use Rattle.places.proofs.Stored.{floats}
use Rattle.edges.proofs.survey.Edges.write_points.Given as goal

abbrev pub invariant-loop-v : goal.invariant-loop-v
invariant-loop-v l =
    (length l.points ≡ length l.initial.points) ×
    (l.points ≡ written (floats (spot_on (corners_of l.self.survey.corners.now) l.self.survey.clearance) (take l.v (point_edges (survey_of l.self.survey.cells.now l.self.survey.corners.now l.self.survey.clearance)))) l.initial.points)
