-- `volume::reckon_amended` meets its contract: 14 and 15, then the volume with the corner table as amended.
use Rattle.water.specs.Corners.{reference_place}
use Rattle.volume.proofs.Amended.{refused-next, in_force}
use Rattle.volume.proofs.reckon_amended.Goals as goal

pub returns-in_err-amended : goal.returns-in_err-amended
returns-in_err-amended c =
    let a = c.args in
    refused-next a.passed.cells.now a.passed.corners.now a.amendments.now a.asked.clearance a.points.now a.triangles.now
    (reference_place a.asked.reference) _ _ c.from_residual.ensures.1 c.in_err-amended.ensures.value

pub returns : goal.returns
returns c =
    let a = c.args in
    let same = c.in_ok-amended.ensures.survey in
    in_force a.passed.cells.now a.passed.corners.now a.amendments.now a.asked.clearance a.points.now a.triangles.now
    (reference_place a.asked.reference) _ _ _ c.in_ok-amended.ensures.value (rw (same.0, same.1) at c.reckon_in_force.ensures)
