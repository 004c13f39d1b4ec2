use mathlib.Core.Path.{◌∙◌, sym, refl}
use native.Mathlib.Omega.{arith}
use Rattle.checks.proofs.Marking.{unmarked_here, marked-here, marked_end}
use Rattle.checks.proofs.all_marked.Goals as goal

pub loop-k-init : goal.loop-k-init
loop-k-init c = refl

pub returns-then-marks-k-ne1 : goal.returns-then-marks-k-ne1
returns-then-marks-k-ne1 c =
    let a = c.args in
    sym (unmarked_here a.marks.now a.count c.loop-k.k (omega arith) c.if-marks-k-ne1.true) ∙ c.loop-k.invariant

pub loop-k-preserved : goal.loop-k-preserved
loop-k-preserved c =
    let a = c.args in
    marked-here a.marks.now a.count c.loop-k.k (omega arith) c.if-marks-k-ne1.false ∙ c.loop-k.invariant

pub returns : goal.returns
returns c =
    let a = c.args in
    sym (marked_end a.marks.now a.count c.loop-k.k (omega arith)) ∙ c.loop-k.invariant
