use Prim.Native.Nat.{◌/◌}
use mathlib.Core.Path.{◌≡◌, sym, ap, ◌∙◌, subst}
use mathlib.Core.Bool.{Bool, cond}
use native.Mathlib.Omega.{arith}
use lib.ListN.{length}
use Rattle.base.proofs.Tests.{→true}
use Rattle.base.proofs.Below.{any_hit, any_miss}
use Rattle.rules.specs.Survey.{entry, cells_of}
use Rattle.octree.proofs.Queue.{box}
use Rattle.octree.proofs.Records.{cell-count}
use Rattle.cells.specs.Laid.{cell_at, too_deep, LaidTo}
use Rattle.cells.proofs.Laying.{own, leaf-step, leaf-shallow, split_deep, split-shallow, split-turn, children-fit, all-entered, none_deeper}
use Rattle.cells.proofs.enter_children.Goals as goal

pub loop-n-preserved-then-e-eq0 : goal.loop-n-preserved-then-e-eq0
loop-n-preserved-then-e-eq0 c =
    let t = c.args.cells.now in
    let n = c.loop-n.n in
    let v = c.loop-n.invariant in
    let right = c.requires.right in
    let zero : entry t n ≡ 0 = sym c.cell_entry-e.ensures ∙ c.if-e-eq0.true in
    record {
      laid_to = subst (LaidTo t c.loop-n.laid) (sym (leaf-step t right n (omega arith) zero)) v.laid_to;
      deep = any_miss too_deep (cells_of t) n box (omega (arith, cell-count t (→true right))) (leaf-shallow t right n (omega arith) zero) ∙ v.deep;
    }

pub returns-then-level-eq0-clause-value : goal.returns-then-level-eq0-clause-value
returns-then-level-eq0-clause-value c =
    let t = c.args.cells.now in
    let n = c.loop-n.n in
    let v = c.loop-n.invariant in
    let right = c.requires.right in
    let split : entry t n ≡ 0 → ⊥ = λ z. c.if-e-eq0.false (c.cell_entry-e.ensures ∙ z) in
    let flat : (cell_at t n).level ≡ 0 = sym (c.level_in-level.ensures ∙ (own t right n (omega arith) c.loop-n.laid v.laid_to).level) ∙ c.if-level-eq0.true in
    ap (λ (b : Bool). cond b 4 0)
    (sym (any_hit too_deep (cells_of t) n box (omega (arith, cell-count t (→true right))) (split_deep t right n (omega arith) split flat)) ∙ v.deep)

pub put_children-requires : goal.put_children-requires
put_children-requires c =
    let t = c.args.cells.now in
    let n = c.loop-n.n in
    let right = c.requires.right in
    let split : entry t n ≡ 0 → ⊥ = λ z. c.if-e-eq0.false (c.cell_entry-e.ensures ∙ z) in
    let o = own t right n (omega arith) c.loop-n.laid c.loop-n.invariant.laid_to in
    let fit = children-fit t right n (omega arith) split in
    record {
      at_in_bounds = omega (arith, c.cell_entry-e.ensures, c.requires);
      key_bound = (c.key_in-key.ensures.1, omega (arith, c.level_in-level.ensures, o.level, o.shallow));
    }

pub loop-n-preserved : goal.loop-n-preserved
loop-n-preserved c =
    let t = c.args.cells.now in
    let n = c.loop-n.n in
    let v = c.loop-n.invariant in
    let right = c.requires.right in
    let split : entry t n ≡ 0 → ⊥ = λ z. c.if-e-eq0.false (c.cell_entry-e.ensures ∙ z) in
    let o = own t right n (omega arith) c.loop-n.laid v.laid_to in
    record {
      laid_to =
          split-turn t right n (omega arith) split c.loop-n.laid _ c.cell_entry-e.result c.key_in-key.result c.level_in-level.result v.laid_to
          c.cell_entry-e.ensures c.key_in-key.ensures.0 c.level_in-level.ensures c.if-level-eq0.false (omega (arith, c.requires)) c.put_children.ensures;
      deep =
          any_miss too_deep (cells_of t) n box (omega (arith, cell-count t (→true right)))
          (split-shallow t right n (omega arith) split (λ z. c.if-level-eq0.false (c.level_in-level.ensures ∙ o.level ∙ z))) ∙ v.deep;
    }

pub returns-clause-value : goal.returns-clause-value
returns-clause-value c =
    ap (λ (b : Bool). cond b 4 0) (sym (none_deeper c.args.cells.now c.requires.right c.loop-n.n (omega arith)) ∙ c.loop-n.invariant.deep)

pub returns-clause-laid : goal.returns-clause-laid
returns-clause-laid c =
    let end : c.loop-n.n ≡ length c.args.cells.now / 4 = omega arith in
    all-entered c.args.cells.now c.requires.right c.loop-n.laid c.loop-n.n end c.loop-n.invariant.laid_to
