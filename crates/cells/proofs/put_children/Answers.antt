use Prim.Native.Nat.{ℕ, ◌+◌, ◌*◌, ◌^◌, ◌≤◌, ◌<◌}
use mathlib.Core.Path.{◌≡◌, ap, ◌∙◌}
use native.Mathlib.Omega.{arith}
use Rattle.cells.specs.Laid.{octant_key}
use Rattle.cells.proofs.Octants.{octant-key-le, size_fits}
use Rattle.cells.proofs.Written.{written_none, written-turn}
use Rattle.cells.proofs.put_children.Goals as goal

pub loop-i-init : goal.loop-i-init
loop-i-init c =
    let a = c.args in
    written_none (λ j. a.key + octant_key j c.size_of-size.result + 281474976710656 * a.level) a.at a.laid.now

pub octant_key-requires : goal.octant_key-requires
octant_key-requires c = (c.loop-i-test.true, omega (arith, size_fits c.args.level (omega arith)))

-- how far the key of a child is above the cell's
near : (i size level far : ℕ) → i < 8 → level ≤ 10 → size ≡ 2 ^ level → far ≡ octant_key i size → far ≤ 4398113620992
near i size level far h g e f = omega (arith, octant-key-le i size h (omega (arith, e, size_fits level g)), f)

pub overflow_add-laid : goal.overflow_add-laid
overflow_add-laid c =
    omega (arith, near c.loop-i.i c.size_of-size.result c.args.level c.octant_key.result c.loop-i-test.true (omega arith) c.size_of-size.ensures c.octant_key.ensures)

pub overflow_add-laid-in-loop-i : goal.overflow_add-laid-in-loop-i
overflow_add-laid-in-loop-i c =
    omega (arith, near c.loop-i.i c.size_of-size.result c.args.level c.octant_key.result c.loop-i-test.true (omega arith) c.size_of-size.ensures c.octant_key.ensures)

pub loop-i-preserved : goal.loop-i-preserved
loop-i-preserved c =
    let a = c.args in
    let written : c.octant_key.result ≡ octant_key c.loop-i.i c.size_of-size.result = c.octant_key.ensures in
    written-turn (λ j. a.key + octant_key j c.size_of-size.result + 281474976710656 * a.level) a.at c.loop-i.i _ c.loop-i.laid a.laid.now c.loop-i.invariant
    (ap (λ (k : ℕ). a.key + k + 281474976710656 * c.from.result) written
    ∙ ap (λ (m : ℕ). a.key + octant_key c.loop-i.i c.size_of-size.result + 281474976710656 * m) c.from.ensures)
    (omega arith)
