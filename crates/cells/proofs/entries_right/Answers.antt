use Prim.Native.Nat.{ℕ, ◌+◌, ◌*◌}
use mathlib.Core.Path.{◌≡◌, ap, ◌∙◌, sym}
use native.Mathlib.Omega.{arith}
use lib.Dec.{eqb}
use Rattle.cells.proofs.Entries.{leaf_passes, wrong-entry, early_entry, split_passes, entries-counted}
use Rattle.cells.proofs.entries_right.Goals as goal
use Rattle.cells.proofs.entries_right.Goals.{then-e-k-via-then-e-k, then-e-k-via-else-e-k+then-e-n}

pub loop-n-preserved-then-e-eq0 : goal.loop-n-preserved-then-e-eq0
loop-n-preserved-then-e-eq0 c =
    record {
      splits = omega arith;
      rest = leaf_passes c.args.cells.now c.loop-n.n c.loop-n.k _ c.cell_entry-e.ensures (omega arith) c.if-e-eq0.true ∙ c.loop-n.invariant.rest;
    }

pub returns-then-e-k : goal.returns-then-e-k
returns-then-e-k c =
    let t = c.args.cells.now in
    let n = c.loop-n.n in
    let k = c.loop-n.k in
    elim c.then-e-k.branch [
      | then-e-k-via-then-e-k w ↦
          sym (wrong-entry t n k _ c.cell_entry-e.ensures (omega arith) c.if-e-eq0.false w.if-e-k.true) ∙ c.loop-n.invariant.rest
      | then-e-k-via-else-e-k+then-e-n w ↦
          sym (early_entry t n k _ c.cell_entry-e.ensures (omega arith) c.if-e-eq0.false w.if-e-k.false w.if-e-n.true) ∙ c.loop-n.invariant.rest
    ]

pub loop-n-preserved : goal.loop-n-preserved
loop-n-preserved c =
    record {
      splits = omega arith;
      rest =
          split_passes c.args.cells.now c.loop-n.n c.loop-n.k _ c.cell_entry-e.ensures (omega arith) c.if-e-eq0.false c.if-e-k.false c.if-e-n.false
          ∙ c.loop-n.invariant.rest;
    }

pub returns : goal.returns
returns c =
    let end : c.args.count ≡ c.loop-n.n = omega arith in
    ap (λ (m : ℕ). eqb m (1 + 8 * c.loop-n.k)) end ∙ sym (entries-counted c.args.cells.now c.loop-n.n c.loop-n.k (omega arith)) ∙ c.loop-n.invariant.rest
