use Prim.Native.Nat.{ℕ, ◌+◌, ◌*◌}
use mathlib.Core.Path.{ap, ◌∙◌}
use native.Mathlib.Omega.{arith}
use Rattle.records.specs.Keys.{record_at}
use Rattle.records.proofs.Search.{record_at_le}
use Rattle.cells.specs.Laid.{octant_key}
use Rattle.cells.proofs.Octants.{octant-key-le, size_fits}
use Rattle.cells.proofs.Written.{written_none, written-turn}
use Rattle.octants.proofs.fill_cell.Goals as goal

pub loop-i-init : goal.loop-i-init
loop-i-init c = written_none (λ j. record_at c.args.corners.now (c.args.key + octant_key j c.size_of-size.result)) _ _

pub octant_key-requires : goal.octant_key-requires
octant_key-requires c = (c.loop-i-test.true, omega (arith, size_fits c.args.level (omega arith)))

pub overflow_add-key : goal.overflow_add-key
overflow_add-key c =
    let fits = size_fits c.args.level (omega arith) in
    omega (arith, octant-key-le c.loop-i.i c.size_of-size.result c.loop-i-test.true (omega (arith, fits)))

pub overflow_cast-octants : goal.overflow_cast-octants
overflow_cast-octants c =
    let le = record_at_le c.args.corners.now (c.args.key + c.octant_key.result) in
    record { fits = omega (arith, c.find.ensures, le) }

pub loop-i-preserved : goal.loop-i-preserved
loop-i-preserved c =
    let t = c.args.corners.now in
    let found = c.find.ensures ∙ ap (λ (d : ℕ). record_at t (c.args.key + d)) c.octant_key.ensures in
    written-turn (λ j. record_at t (c.args.key + octant_key j c.size_of-size.result)) (8 * c.args.n) c.loop-i.i c.find.result c.loop-i.octants c.args.octants.now
    c.loop-i.invariant found (omega arith)
