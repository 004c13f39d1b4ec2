-- `enquiry::answers::count_crossed` meets its contract: before each turn n is the count of crossed slots of the axes passed.
use Prim.Native.Nat.{◌*◌}
use mathlib.Core.Path.{◌≡◌}
use lib.ListN.{length}
use Rattle.edges.specs.Tables.{slots_below}
use Rattle.edges.specs.Surveyed.{surveyed}
use Rattle.enquiry.proofs.answers.count_crossed.Given as goal

abbrev pub invariant-loop-axis : goal.invariant-loop-axis
invariant-loop-axis l = l.n ≡ length (slots_below (surveyed l.edges.survey) (4872 * l.axis))
