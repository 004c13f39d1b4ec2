-- `records::corners_rise`: before each turn what is left of the records, with the one looked at last, rises just if all do.
use Rattle.std.proofs.Common.{◌-◌, ◌≡◌, drop}
use Rattle.rules.specs.Outputs.{rising}
use Rattle.records.specs.Keys.{places_of}
use Rattle.records.proofs.corners_rise.Given as goal

abbrev pub invariant-loop-i : goal.invariant-loop-i
invariant-loop-i l = rising (drop (l.i - 1) (places_of l.corners)) ≡ rising (places_of l.corners)
