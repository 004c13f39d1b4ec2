-- `volume::reckon_checked` meets its contract: checks 1 to 6 with tables of its own, and the rest with amendments or without.
use mathlib.Core.Path.{sym, ◌∙◌}
use lib.Dec.{eqb→eq}
use lib.ListN.{length}
use Rattle.base.proofs.Tests.{→true}
use Rattle.amendments.proofs.Calls.{empty-is}
use Rattle.water.specs.Corners.{reference_place}
use Rattle.volume.proofs.Amended.{refused-first, without}
use Rattle.volume.proofs.reckon_checked.Goals as goal

pub returns-in_err-passed : goal.returns-in_err-passed
returns-in_err-passed c =
    let a = c.args in
    refused-first a.cells.now a.corners.now a.amendments.now a.asked.clearance a.points.now a.triangles.now (reference_place a.asked.reference) _ _
    c.from_residual.ensures.1 c.in_err-passed.ensures.value

pub returns-then-is_empty : goal.returns-then-is_empty
returns-then-is_empty c =
    let a = c.args in
    let none = empty-is a.amendments.now (eqb→eq (length a.amendments.now) 0 (→true (sym c.is_empty.ensures ∙ c.if-is_empty.true))) in
    let same = c.in_ok-passed.ensures.survey in
    without a.cells.now a.corners.now a.amendments.now a.asked.clearance a.points.now a.triangles.now (reference_place a.asked.reference) _ _ _
    none c.in_ok-passed.ensures.value (rw (same.0, same.1) at c.reckon_in_force.ensures)
