-- `water::axis_offset` meets its contract: nothing is lost on the way to the sixteenths, nor in the difference.
use Rattle.std.proofs.Common.{◌≡◌, ℕ, ◌*◌, ◌≤◌, T, pos, ◌-ℤ◌, ap, ◌∙◌, arith, rules}
use lib.Ieee.{binary32, fits, to_unsigned}
use Rattle.rules.specs.Edges.{float}
use Rattle.rules.specs.Water.{sixteenths}
use Rattle.rounding.proofs.Sixteenths.{above, under, as_written}
use Rattle.water.proofs.Down.{taken-down, difference_fits, difference_back}
use Rattle.water.proofs.axis_offset.Goals as goal
use Rattle.water.proofs.axis_offset.Goals.{After-truncating_f32_to_u64-down, Start}

held : (c : Start) → T (fits binary32 c.args.coordinate)
held c = search rules

pub truncating_f32_to_u64-down-requires : goal.truncating_f32_to_u64-down-requires
unfolding float
truncating_f32_to_u64-down-requires c =
    rw (as_written c.args.coordinate) record {
      lower_bound = above c.args.coordinate (held c) c.requires.in_box;
      upper_bound = under c.args.coordinate (held c) c.requires.in_box;
    }

down : (c : After-truncating_f32_to_u64-down) → c.truncating_f32_to_u64-down.result ≡ sixteenths c.args.coordinate
down c =
    c.truncating_f32_to_u64-down.ensures ∙ ap (to_unsigned 64) (as_written c.args.coordinate) ∙ (taken-down c.args.coordinate (held (goal.at.After-truncating_f32_to_u64-down c).Start) c.requires.in_box).whole

down-most : (c : After-truncating_f32_to_u64-down) → c.truncating_f32_to_u64-down.result ≤ 16384
down-most c = omega (arith, down c, (taken-down c.args.coordinate (held (goal.at.After-truncating_f32_to_u64-down c).Start) c.requires.in_box).most)

pub overflow_cast-result : goal.overflow_cast-result
overflow_cast-result c = record { sfits = omega (arith, down-most c) }

pub overflow_sub-result : goal.overflow_sub-result
overflow_sub-result c = difference_fits c.truncating_f32_to_u64-down.result (16 * c.args.reference) (down-most c) (omega (arith, c.requires.reference_bound))

pub returns : goal.returns
returns c =
    difference_back c.truncating_f32_to_u64-down.result (16 * c.args.reference) (down-most c) (omega (arith, c.requires.reference_bound))
    ∙ ap (λ (n : ℕ). pos n -ℤ pos (16 * c.args.reference)) (down c)
