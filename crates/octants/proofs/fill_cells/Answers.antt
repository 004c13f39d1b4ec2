use Prim.Native.Nat.{◌+◌, ◌*◌, ◌^◌}
use mathlib.Core.Path.{◌∙◌}
use native.Mathlib.Omega.{arith}
use Rattle.records.specs.Keys.{record_at}
use Rattle.cells.specs.Laid.{octant_key, written_at}
use Rattle.octants.proofs.Laws.{cell-more}
use Rattle.octants.proofs.fill_cells.Goals as goal

pub loop-n-preserved : goal.loop-n-preserved
loop-n-preserved c =
    let tk = c.args.corners.now in
    let n = c.loop-n.n in
    cell-more tk c.args.laid.now c.loop-n.octants _ n c.loop-n.invariant (omega arith)
    (c.fill_cell.ensures ∙
    (λ j. written_at (λ i. record_at tk (c.key_in-key.ensures.0 j + octant_key i (2 ^ c.level_in-level.ensures j))) (8 * n) 8 c.loop-n.octants))
