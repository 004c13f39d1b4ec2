-- `crossings::wet_mask` meets its contract: before each turn the number is that of the marks from corner i on.
use mathlib.Core.Path.{◌≡◌}
use mathlib.Core.List.{map}
use lib.ListN.{drop}
use Rattle.rules.specs.Survey.{wet}
use Rattle.crossings.specs.Crossings.{binary}
use Rattle.crossings.proofs.wet_mask.Given as goal

abbrev pub invariant-loop-i : goal.invariant-loop-i
invariant-loop-i l = l.mask ≡ binary (map (wet l.clearance) (drop l.i l.leaf.corners))
