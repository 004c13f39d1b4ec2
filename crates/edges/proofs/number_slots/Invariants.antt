-- `edges::number_slots` meets its contract: before each turn the slots passed are numbered and the points found are entered.
use Rattle.edges.proofs.Numbering.{NumberedBelow}
use Prim.Native.Nat.{◌-◌}
use Rattle.edges.proofs.number_slots.Given as goal

abbrev pub invariant-loop-slot : goal.invariant-loop-slot
invariant-loop-slot l = NumberedBelow l.survey.cells.now l.survey.corners.now l.survey.clearance l.slots l.carriers l.n l.slot

abbrev pub decreases-loop-slot : goal.decreases-loop-slot
decreases-loop-slot l = 14616 - l.slot
