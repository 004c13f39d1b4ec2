-- `enquiry::answers::count_on_axis` meets its contract: before each turn `crossed` is the count of crossed slots of the records passed.
use Prim.Native.Nat.{◌+◌, ◌*◌}
use mathlib.Core.Path.{◌≡◌}
use lib.ListN.{length}
use Rattle.edges.specs.Tables.{slots_below}
use Rattle.edges.specs.Surveyed.{surveyed}
use Rattle.enquiry.proofs.answers.count_on_axis.Given as goal

abbrev pub invariant-loop-k : goal.invariant-loop-k
invariant-loop-k l =
    let s = surveyed l.edges.survey in
    length (slots_below s (4872 * l.axis)) + l.crossed ≡ length (slots_below s (4872 * l.axis + l.k))
