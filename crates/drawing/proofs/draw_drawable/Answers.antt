-- `drawing::draw_drawable` meets its contract: each table is filled as the next step asks.
use Rattle.drawing.proofs.Passed.{drawable-accepted, levels_fresh, unrefused}
use Rattle.drawing.proofs.draw_drawable.Goals as goal

pub invariant_of-survey-clause-accepted : goal.invariant_of-survey-clause-accepted
invariant_of-survey-clause-accepted c =
    let p = c.args.passed in
    drawable-accepted p.cells.now p.corners.now c.args.clearance c.requires.drawable

pub fill_levels-requires-clause-corners_value : goal.fill_levels-requires-clause-corners_value
fill_levels-requires-clause-corners_value c =
    let p = c.args.passed in
    unrefused p.cells.now p.corners.now c.args.clearance (drawable-accepted p.cells.now p.corners.now c.args.clearance c.requires.drawable)

pub fill_levels-requires-clause-levels : goal.fill_levels-requires-clause-levels
fill_levels-requires-clause-levels c =
    let p = c.args.passed in
    levels_fresh p.cells.now p.corners.now c.args.clearance (drawable-accepted p.cells.now p.corners.now c.args.clearance c.requires.drawable)
