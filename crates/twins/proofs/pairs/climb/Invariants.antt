-- `twins::pairs::climb` meets its contract: before each turn the edge at hand is odd and the twin of its point is the twin sought; one more level is
-- left than the climb can take.
use Prim.Native.Nat.{◌-◌, ◌/◌, ◌%◌}
use Rattle.base.specs.Grid.{axis_of}
use Rattle.edges.specs.Tables.{lowest_at, UpperEnd}
use Rattle.twins.proofs.Twins.{Climbed}
use Rattle.twins.proofs.pairs.climb.Given as goal

abbrev pub invariant-loop-above : goal.invariant-loop-above
invariant-loop-above l =
    Climbed l.edges.survey.cells.now l.edges.survey.corners.now l.edges.survey.clearance (axis_of (l.slot / 4872)) (l.slot % 4872)
    (lowest_at l.edges.slots.now l.slot) l.k l.level ×
    UpperEnd l.edges.survey.corners.now (axis_of (l.slot / 4872)) l.k l.level l.end

abbrev pub decreases-loop-above : goal.decreases-loop-above
decreases-loop-above l = 10 - l.level
