-- `amendments::amend` meets its contract: before each turn the table holds the records in force by the first n amendments, and all of these are at corners.
use mathlib.Core.Path.{◌≡◌}
use lib.ListN.{drop}
use Rattle.base.specs.Lists.{any}
use Rattle.rules.specs.Resounding.{records_of}
use Rattle.amendments.specs.Amending.{unlisted, AmendedBy}
use Rattle.amendments.proofs.amend.Given as goal

abbrev pub invariant-loop-n : goal.invariant-loop-n
invariant-loop-n l =
    AmendedBy l.corners l.amendments l.n l.table
    × (any (unlisted l.corners) (drop l.n (records_of l.amendments)) ≡ any (unlisted l.corners) (records_of l.amendments))
