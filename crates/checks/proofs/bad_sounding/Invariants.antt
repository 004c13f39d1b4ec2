-- `checks::bad_sounding` meets its contract: before each turn a sounding that is left is out of range just if one is at all.
use mathlib.Core.Path.{◌≡◌}
use lib.ListN.{drop}
use Rattle.base.specs.Lists.{any}
use Rattle.rules.specs.Survey.{corners_of}
use Rattle.checks.proofs.Tables.{beyond}
use Rattle.checks.proofs.bad_sounding.Given as goal

abbrev pub invariant-loop-n : goal.invariant-loop-n
invariant-loop-n l = any beyond (drop l.n (corners_of l.corners)) ≡ any beyond (corners_of l.corners)
