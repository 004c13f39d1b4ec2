-- `twins::fill` meets its contract: the twins of the points passed are right.
use Prim.Native.Nat.{ℕ, ◌<◌}
use mathlib.Core.Path.{◌≡◌}
use lib.ListN.{get_or}
use Rattle.rules.specs.Steps.{twin_of}
use Rattle.edges.specs.Surveyed.{surveyed}
use Rattle.twins.proofs.fill.Given as goal

abbrev pub invariant-loop-v : goal.invariant-loop-v
invariant-loop-v l = (j : ℕ) → j < l.v → get_or l.twins j 0 ≡ twin_of (surveyed l.edges.survey) j
