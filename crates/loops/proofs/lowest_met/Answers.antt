use mathlib.Core.Path.{◌≡◌, sym, ap, ◌∙◌, subst}
use mathlib.Core.List.{List}
use native.Mathlib.Omega.{arith}
use Prim.Native.Nat.{ℕ}
use Rattle.trace.specs.Trace.{met_count}
use Rattle.loops.specs.Sweep.{lowest_of, Lowest}
use Rattle.loops.proofs.Lowest.{lowest}
use Rattle.loops.proofs.lowest_met.Goals as goal

-- when all are looked at, the number is the lowest
all : (t : List ℕ) (i r : ℕ) → i ≡ met_count t → r ≡ lowest_of t i → Lowest t (met_count t) r
all t i r e is = subst (Lowest t (met_count t)) (sym (is ∙ ap (lowest_of t) e)) (lowest t (met_count t))

pub returns-then-lowest-clause-lowest : goal.returns-then-lowest-clause-lowest
returns-then-lowest-clause-lowest c =
    all c.args.trace.now c.loop-i.i 65535 (omega (arith, c.from-i-end.ensures)) (sym c.if-lowest.true ∙ c.loop-i.invariant)

pub returns-else-lowest-clause-lowest : goal.returns-else-lowest-clause-lowest
returns-else-lowest-clause-lowest c = all c.args.trace.now c.loop-i.i c.loop-i.lowest (omega (arith, c.from-i-end.ensures)) c.loop-i.invariant
