use mathlib.Core.Path.{◌∙◌}
use native.Mathlib.Omega.{arith}
use Rattle.crossings.proofs.Filling.{no_points, points-more, all-points}
use Rattle.crossings.proofs.Tables.fill_points.Goals as goal

pub loop-i-init : goal.loop-i-init
loop-i-init c = no_points _ _ _ c.requires

pub bounds-crossings-i : goal.bounds-crossings-i
bounds-crossings-i c = omega (arith, c.loop-i.invariant.room)

pub loop-i-preserved : goal.loop-i-preserved
loop-i-preserved c =
    points-more _ c.args.self.now.edges.survey.cells.now c.loop-i.i c.loop-i.crossings _ (omega arith) c.loop-i.invariant
    (c.unwrap_or.ensures ∙ c.crossing.ensures)

pub returns : goal.returns
returns c = all-points _ _ _ c.loop-i.i (omega arith) c.loop-i.invariant
