use Prim.Native.Nat.{◌+◌}
use mathlib.Core.Path.{sym, ap, ◌∙◌}
use mathlib.Core.Bool.{false≢true}
use native.Mathlib.Omega.{arith}
use lib.ListN.{set, drop, drop_of_length-le}
use lib.Dec.{ltb}
use Rattle.base.specs.Lists.{all}
use Rattle.checks.specs.Marks.{marked}
use Rattle.checks.proofs.Marking.{marked-none, number_missing, number-there, number-marked}
use Rattle.checks.proofs.mark_all.Goals as goal

pub returns-then-count-at : goal.returns-then-count-at
returns-then-count-at c =
    let a = c.args in
    let i = c.loop-octant.octant-index in
    record {
      value = sym (number_missing a.octants.now i a.count (omega arith) (omega (arith, c.from-at.ensures))) ∙ c.loop-octant.invariant.0;
      marks_after = λ q. absurd (false≢true q);
    }

pub loop-octant-preserved : goal.loop-octant-preserved
loop-octant-preserved c =
    let t = c.args.octants.now in
    let n = c.args.count in
    let i = c.loop-octant.octant-index in
    let marks = c.loop-octant.marks in (
      number-there t i n (omega arith) (omega (arith, c.from-at.ensures)) ∙ c.loop-octant.invariant.0,
      ap (λ k. marked (drop (i + 1) t) (set marks k 1)) c.from-at.ensures ∙ number-marked t i n (omega arith) marks ∙ c.loop-octant.invariant.1,
    )

pub returns : goal.returns
returns c =
    let a = c.args in
    let t = a.octants.now in
    let v = c.loop-octant.invariant in
    let end = drop_of_length-le t {i = c.loop-octant.octant-index} (omega arith) in
    record {
      value = sym (ap (all (λ k. ltb k a.count)) end) ∙ v.0;
      marks_after = λ q. sym (ap (λ ks. marked ks c.loop-octant.marks) end ∙ marked-none c.loop-octant.marks) ∙ v.1;
    }
