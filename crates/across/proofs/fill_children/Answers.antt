use native.Mathlib.Omega.{arith}
use Rattle.base.proofs.Tests.{→true, →false}
use Rattle.across.proofs.Filling.{own_inside, both_fit, sides-more, children_filled}
use Rattle.across.proofs.fill_children.Goals as goal

pub first_across-far-requires-clause-i_in_bounds : goal.first_across-far-requires-clause-i_in_bounds
first_across-far-requires-clause-i_in_bounds c =
    own_inside c.args.cells.now (→true c.requires.cells_value) (→false c.requires.shallow) c.args.n c.requires.cells_len_bound.1 (λ z. omega (arith, c.requires.first_value))
    c.loop-i.across c.args.first c.loop-i.i c.requires.first_value.0 (omega arith) c.loop-i.invariant

pub fill_side-requires-clause-cells_len_bound : goal.fill_side-requires-clause-cells_len_bound
fill_side-requires-clause-cells_len_bound c =
    let fit = both_fit c.args.cells.now (→true c.requires.cells_value) (→false c.requires.shallow) c.args.n c.requires.cells_len_bound.1 (λ z. omega (arith, c.requires.first_value))
    c.loop-i.across c.args.first c.loop-i.i c.requires.first_value.0 (omega arith) c.loop-i.invariant in
    (c.requires.cells_len_bound.0, fit.0, omega (arith, c.first_across-far.ensures))

pub loop-i-preserved : goal.loop-i-preserved
loop-i-preserved c =
    sides-more c.args.cells.now (→true c.requires.cells_value) (→false c.requires.shallow) c.args.n c.requires.cells_len_bound.1 (λ z. omega (arith, c.requires.first_value))
    c.loop-i.across c.args.first c.loop-i.i c.requires.first_value.0 (omega arith) c.loop-i.invariant _ _ c.first_across-far.ensures c.fill_side.ensures

pub returns-clause-filled : goal.returns-clause-filled
returns-clause-filled c =
    children_filled c.args.cells.now (→true c.requires.cells_value) (→false c.requires.shallow) c.args.first c.loop-i.i c.loop-i.across
    (omega arith) c.loop-i.invariant
