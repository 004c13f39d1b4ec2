-- `calendar::draw` meets its contract: what the calendar reads decides which way it goes, and the other promises follow from the equation.
use Rattle.calendar.proofs.Outcome.{refuses, draws, all_promises}
use Rattle.calendar.proofs.draw.Goals as goal

pub returns-in-Err : goal.returns-in-Err
returns-in-Err c =
    let a = c.args in
    let both = all_promises a.cells.now a.corners.now a.amendments.now a.calendar.now a.minute a.points.now a.triangles.now _ _ _
    (refuses a.cells.now a.corners.now a.amendments.now a.calendar.now a.minute a.points.now a.triangles.now
    c.in-Err.refusal c.refused.result c.in-Err.ensures c.refused.ensures) in
    record { exact = both.0; by_hand = both.1.0; closes = both.1.1 }

pub returns-in-Ok : goal.returns-in-Ok
returns-in-Ok c =
    let a = c.args in
    let both = all_promises a.cells.now a.corners.now a.amendments.now a.calendar.now a.minute a.points.now a.triangles.now _ _ _
    (draws a.cells.now a.corners.now a.amendments.now a.calendar.now a.minute a.points.now a.triangles.now _ _ _
    c.in-Ok.clearance c.in-Ok.ensures c.draw.ensures.exact) in
    record { exact = both.0; by_hand = both.1.0; closes = both.1.1 }
