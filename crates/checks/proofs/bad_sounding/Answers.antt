use mathlib.Core.Path.{ap}
use mathlib.Core.Bool.{not}
use mathlib.Core.Path.{◌∙◌, sym}
use native.Mathlib.Omega.{arith}
use Rattle.checks.proofs.Tables.{beyond, beyond-here, not-beyond-here, none-beyond}
use Rattle.checks.proofs.bad_sounding.Goals as goal

pub returns-then-not-in_range : goal.returns-then-not-in_range
returns-then-not-in_range c =
    let t = c.args.corners.now in
    let out = ap beyond (sym c.corner_at-c.ensures) ∙ ap not (sym c.in_range.ensures ∙ c.if-not-in_range.true) in
    sym (beyond-here t c.loop-n.n (omega arith) out) ∙ c.loop-n.invariant

pub loop-n-preserved : goal.loop-n-preserved
loop-n-preserved c =
    let t = c.args.corners.now in
    let in-here = ap beyond (sym c.corner_at-c.ensures) ∙ ap not (sym c.in_range.ensures ∙ c.if-not-in_range.false) in
    not-beyond-here t c.loop-n.n (omega arith) in-here ∙ c.loop-n.invariant

pub returns : goal.returns
returns c =
    let t = c.args.corners.now in
    sym (none-beyond t c.loop-n.n (omega arith)) ∙ c.loop-n.invariant
