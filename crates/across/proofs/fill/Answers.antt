use Prim.Native.Nat.{◌+◌, ◌*◌, ◌/◌}
use mathlib.Core.Path.{◌≡◌, sym, ap, ◌∙◌, subst}
use native.Mathlib.Omega.{arith}
use lib.ListN.{length}
use Rattle.base.proofs.Tests.{→true, →false}
use Rattle.rules.specs.Survey.{entry, entries}
use Rattle.octree.proofs.Records.{splits, record-count}
use Rattle.cells.proofs.Laying.{some-record, leaf-step, split_step, children-from}
use Rattle.across.specs.Across.{BeyondTo}
use Rattle.across.proofs.Filling.{box_filled}
use Rattle.across.proofs.fill.Goals as goal
use Rattle.across.proofs.fill.Goals.{then-first-ne0, else-first-ne0}

pub fill_box-requires : goal.fill_box-requires
fill_box-requires c = omega (arith, some-record c.args.cells.now c.requires.cells_value)

pub loop-n-init : goal.loop-n-init
loop-n-init c =
    box_filled c.args.cells.now (→true c.requires.cells_value) (→false c.requires.shallow) c.args.across.now _ c.requires.cells_len_bound.1 c.fill_box.ensures

pub fill_children-requires-clause-beyond_to : goal.fill_children-requires-clause-beyond_to
fill_children-requires-clause-beyond_to c =
    let t = c.args.cells.now in
    let read = c.cell_entry-first.ensures in
    let split : entry t c.loop-n.n ≡ 0 → ⊥ = λ z. c.if-first-ne0.true (read ∙ z) in
    let known = read ∙ children-from t c.requires.cells_value c.loop-n.n (omega arith) split in
    subst (BeyondTo t c.loop-n.across) (sym known) c.loop-n.invariant

pub loop-n-preserved : goal.loop-n-preserved
loop-n-preserved c =
    let t = c.args.cells.now in
    let n = c.loop-n.n in
    let read = c.cell_entry-first.ensures in
    elim c.if-first-ne0.branch [
      | then-first-ne0 w ↦
          let split : entry t n ≡ 0 → ⊥ = λ z. w.if-first-ne0.true (read ∙ z) in
          let known = read ∙ children-from t c.requires.cells_value n (omega arith) split in
          let more : c.cell_entry-first.result + 8 ≡ 1 + 8 * splits (n + 1) (entries t) =
          omega (arith, known, split_step t c.requires.cells_value n (omega arith) split) in
          rw w.across-is (subst (BeyondTo t _) more w.fill_children.ensures.filled)
      | else-first-ne0 w ↦
          let leaf : entry t n ≡ 0 = sym read ∙ w.if-first-ne0.false in
          rw w.across-is (subst (BeyondTo t c.loop-n.across) (sym (leaf-step t c.requires.cells_value n (omega arith) leaf)) c.loop-n.invariant)
    ]

pub returns : goal.returns
returns c =
    let t = c.args.cells.now in
    let end : c.loop-n.n ≡ length t / 4 = omega arith in
    subst (BeyondTo t c.loop-n.across) (ap (λ m. 1 + 8 * splits m (entries t)) end ∙ sym (record-count t (→true c.requires.cells_value))) c.loop-n.invariant
