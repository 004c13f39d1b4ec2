-- `edges::Edges::carrier_slot` meets its contract: before each turn the edge at hand is odd and has the same carrier as the first; at the lowest
-- level it is its own.
use Prim.Native.Nat.{◌<◌}
use mathlib.Core.Path.{◌≡◌}
use Rattle.base.specs.Grid.{axis_of}
use Rattle.rules.specs.Edges.{carrier}
use Rattle.rules.specs.Outputs.{survey_of}
use Rattle.records.specs.Keys.{places_of}
use Rattle.edges.specs.Tables.{place_at, OddEdge}
use Rattle.edges.proofs.survey.Edges.carrier_slot.Given as goal

abbrev pub invariant-loop-level : goal.invariant-loop-level
invariant-loop-level l =
    (l.k < 4872) × OddEdge l.self.survey.cells.now l.self.survey.corners.now l.self.survey.clearance (axis_of l.axis) l.k l.level ×
    (carrier (survey_of l.self.survey.cells.now l.self.survey.corners.now l.self.survey.clearance) (axis_of l.axis) (place_at (places_of l.self.survey.corners.now) l.k) l.level ≡ carrier (survey_of l.self.survey.cells.now l.self.survey.corners.now l.self.survey.clearance)
    (axis_of l.axis) (place_at (places_of l.self.survey.corners.now) l.start) l.top)

abbrev pub decreases-loop-level : goal.decreases-loop-level
decreases-loop-level l = l.level
