-- `checks::check_before` meets its contract: by what a check of the survey by itself gives.
use mathlib.Core.Path.{refl, ◌∙◌}
use mathlib.Core.Bool.{true}
use Rattle.rules.specs.Refusals.{refusal_number}
use Rattle.rules.specs.Resounding.{check_order}
use Rattle.octree.proofs.Accepted.{refused-before, refused_last}
use Rattle.amendments.proofs.Refusals.{some_number}
use Rattle.amendments.proofs.Laws.{survey_numbered, check-is}
use Rattle.checks.proofs.check_before.Goals as goal

-- nothing refuses the survey: the other number is the first
pub returns-in-Ok : goal.returns-in-Ok
returns-in-Ok c =
    let a = c.args in
    refused_last (check_order a.cells.now a.corners.now a.amendments.now) (survey_numbered a.cells.now a.corners.now a.amendments.now)
    a.number true 0 (c.in-Ok.ensures ∙ check-is a.cells.now a.corners.now a.amendments.now) refl refl

-- a refusal of the survey comes before it
pub returns-in-Err : goal.returns-in-Err
returns-in-Err c =
    let a = c.args in
    let e = c.in-Err.first in
    c.from.ensures ∙ refused-before (check_order a.cells.now a.corners.now a.amendments.now) (survey_numbered a.cells.now a.corners.now a.amendments.now)
    a.number true (refusal_number e) (c.in-Err.ensures ∙ check-is a.cells.now a.corners.now a.amendments.now) (some_number e)
