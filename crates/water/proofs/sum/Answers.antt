-- `water::sum` meets its contract: one turn adds one triangle's determinant.
use Rattle.std.proofs.Common.{◌≡◌, ◌+◌, ◌*◌, ◌^◌, ◌≤◌, ◌+ℤ◌, nat_abs, ap, ◌∙◌, arith, w64, SFits, to_z, of_z}
use Rattle.std.proofs.Math.Facts.{to_z-of_z}
use Rattle.rules.specs.Closing.{triangles_in}
use Rattle.rules.specs.Water.{sixfold}
use Rattle.water.specs.Corners.{reference_place}
use Rattle.water.proofs.Sums.{turn}
use Rattle.water.proofs.sum.Goals as goal
use Rattle.water.proofs.sum.Goals.{After-triangle-total}

pub triangle-total-requires : goal.triangle-total-requires
triangle-total-requires c = record { held = c.requires.summable.drawn c.loop-k.k c.loop-k-test.true; reference_in_box = c.requires.reference_in_box }

-- the turn that ends with this sum
turned : (c : After-triangle-total) → let next = to_z w64 c.loop-k.total-bits +ℤ to_z w64 (of_z w64 c.triangle-total.result) in
    let more = sixfold (reference_place c.args.reference) c.args.points.now (triangles_in (c.loop-k.k + 1) c.args.triangles.now) in
    SFits w64 next × (next ≡ more) × (nat_abs more ≤ (c.loop-k.k + 1) * (6 * 2 ^ 42))
turned c =
    turn (reference_place c.args.reference) c.args.points.now c.args.triangles.now c.requires.reference_in_box c.args.m c.loop-k.k (to_z w64 c.loop-k.total-bits)
    c.triangle-total.result c.requires.summable c.loop-k-test.true c.loop-k.invariant.total c.loop-k.invariant.small c.triangle-total.ensures

pub overflow_add-total : goal.overflow_add-total
overflow_add-total c = (turned c).0

pub loop-k-preserved : goal.loop-k-preserved
loop-k-preserved c = record {
  total = to_z-of_z {w = w64} (turned c).0 ∙ (turned c).1;
  small = (turned c).2;
}

pub returns : goal.returns
returns c =
    let all : c.loop-k.k ≡ c.args.m = omega arith in
    c.loop-k.invariant.total ∙ ap (λ k. sixfold (reference_place c.args.reference) c.args.points.now (triangles_in k c.args.triangles.now)) all
