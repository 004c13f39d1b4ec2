use mathlib.Core.Path.{sym, ◌∙◌}
use native.Mathlib.Omega.{arith}
use lib.Ieee.{nan}
use borrow.Author.Rules.{rules}
use Rattle.rules.specs.Convoy.{clearance_checks}
use Rattle.convoy.proofs.Passes.{none_looked, one_outside, one_inside, all-inside}
use Rattle.convoy.proofs.refusal.Goals as goal

pub returns-then-is_empty : goal.returns-then-is_empty
unfolding clearance_checks
returns-then-is_empty c = search rules

pub loop-clearance-init : goal.loop-clearance-init
loop-clearance-init c = none_looked c.args.clearances.now (search rules) c.if-clearances-gt-MOST.false

pub returns-then-not-in_range : goal.returns-then-not-in_range
returns-then-not-in_range c =
    one_outside c.args.clearances.now c.loop-clearance.clearance-index nan c.loop-clearance.invariant (omega arith)
    (sym c.in_range.ensures ∙ c.if-not-in_range.true)

pub loop-clearance-preserved : goal.loop-clearance-preserved
loop-clearance-preserved c =
    one_inside c.args.clearances.now c.loop-clearance.clearance-index nan c.loop-clearance.invariant (omega arith)
    (sym c.in_range.ensures ∙ c.if-not-in_range.false)

pub returns : goal.returns
returns c = all-inside c.args.clearances.now c.loop-clearance.clearance-index nan c.loop-clearance.invariant (omega arith)
