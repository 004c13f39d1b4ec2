use Prim.Native.Nat.{◌+◌}
use mathlib.Core.Path.{ap, ◌∙◌}
use native.Mathlib.Omega.{arith}
use lib.Ieee.{nan}
use Rattle.convoy.specs.GreatestOf.{greater_of}
use Rattle.convoy.proofs.Passes.{behind_first, first-passed, one-passed, all-passed}
use Rattle.convoy.proofs.greatest.Goals as goal

pub loop-clearance-init : goal.loop-clearance-init
loop-clearance-init c = first-passed c.args.clearances.now nan c.requires

pub loop-clearance-preserved : goal.loop-clearance-preserved
loop-clearance-preserved c =
    one-passed c.args.clearances.now c.loop-clearance.best (c.loop-clearance.clearance-index + 1) nan c.loop-clearance.invariant (omega arith)
    c.greater-best.result
    (c.greater-best.ensures ∙ ap (greater_of c.loop-clearance.best) (behind_first c.args.clearances.now c.loop-clearance.clearance-index nan))

pub returns : goal.returns
returns c = all-passed c.args.clearances.now c.loop-clearance.best (c.loop-clearance.clearance-index + 1) nan c.loop-clearance.invariant (omega arith)
