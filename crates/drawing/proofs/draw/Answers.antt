-- `drawing::draw` meets its contract: what is drawn is closed.
use Rattle.drawing.proofs.Amended.{amended-closed}
use Rattle.drawing.proofs.draw.Goals as goal

pub returns-in-Ok-clause-closes : goal.returns-in-Ok-clause-closes
returns-in-Ok-clause-closes c =
    let a = c.args in
    amended-closed a.cells.now a.corners.now a.amendments.now a.clearance a.points.now a.triangles.now _ _ _ c.in-Ok.ensures
