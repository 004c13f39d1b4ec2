-- `water::corner` meets its contract.
use Rattle.std.proofs.Common.{◌≡◌, ℕ, ◌+◌, ◌*◌, List, get_or, pos, ◌-ℤ◌, sym, ap, ◌∙◌, subst, arith, w64, to_z, of_z}
use lib.Ieee.{Float, nan}
use Rattle.base.specs.Grid.{X, Y, Z}
use Rattle.rules.specs.Water.{sixteenths, offset, InBox}
use Rattle.water.specs.Corners.{reference_place, Placed}
use Rattle.water.proofs.Signed.{kept}
use Rattle.water.proofs.Down.{in_box}
use Rattle.water.proofs.corner.Goals as goal

-- x is at 3p
at_x : (p : ℕ) → 3 * p + 0 ≡ 3 * p
at_x p = omega arith

x-there : (points : List Float) (p : ℕ) → Placed points p → InBox (get_or points (3 * p) nan)
x-there points p placed = subst (λ (i : ℕ). InBox (get_or points i nan)) (at_x p) (placed.1 X)

pub axis_offset-requires : goal.axis_offset-requires
axis_offset-requires c =
    record {
      in_box = x-there c.args.points.now c.args.p c.requires.placed;
      reference_bound = in_box (reference_place c.args.reference) c.requires.reference_in_box X;
    }

pub axis_offset-requires-2 : goal.axis_offset-requires-2
axis_offset-requires-2 c =
    record {
      in_box = c.requires.placed.1 Y;
      reference_bound = in_box (reference_place c.args.reference) c.requires.reference_in_box Y;
    }

pub axis_offset-requires-3 : goal.axis_offset-requires-3
axis_offset-requires-3 c =
    record {
      in_box = c.requires.placed.1 Z;
      reference_bound = in_box (reference_place c.args.reference) c.requires.reference_in_box Z;
    }

pub returns : goal.returns
unfolding offset
returns c =
    let points = c.args.points.now in
    let p = c.args.p in
    let r = reference_place c.args.reference in
    let ex : to_z w64 (of_z w64 c.axis_offset.result) ≡ offset r points p X =
    kept c.axis_offset.result c.axis_offset.type_inv ∙ c.axis_offset.ensures
    ∙ ap (λ (i : ℕ). pos (sixteenths (get_or points i nan)) -ℤ pos (16 * r.x)) (sym (at_x p)) in
    let ey : to_z w64 (of_z w64 c.axis_offset-2.result) ≡ offset r points p Y =
    kept c.axis_offset-2.result c.axis_offset-2.type_inv ∙ c.axis_offset-2.ensures in
    let ez : to_z w64 (of_z w64 c.axis_offset-3.result) ≡ offset r points p Z =
    kept c.axis_offset-3.result c.axis_offset-3.type_inv ∙ c.axis_offset-3.ensures in
    (λ i. record { x = ex i; y = ey i; z = ez i })
