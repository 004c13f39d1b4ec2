use Prim.Native.Nat.{◌+◌, ◌*◌, ◌/◌, ◌%◌, ◌≤◌}
use mathlib.Core.Path.{◌≡◌, sym, ap, ◌∙◌}
use native.Mathlib.Omega.{arith}
use lib.ListN.{length}
use Rattle.rules.specs.Survey.{record_count}
use Rattle.edges.specs.Tables.{slots_below}
use Rattle.edges.specs.Surveyed.{surveyed}
use Rattle.edges.proofs.Numbering.{none_below, below_le}
use Rattle.enquiry.proofs.Enquiring.{known}
use Rattle.enquiry.proofs.Counting.{counted, axis_counted}
use Rattle.enquiry.proofs.answers.count_crossed.Goals as goal
use Rattle.enquiry.proofs.answers.count_crossed.Goals.{Start, After-count_on_axis-n, After-count_on_axis}

few : (c : Start) → record_count c.args.edges.now.survey.corners.now ≤ 4872
few c =
    let s = c.args.edges.now.survey in
    omega (arith, (known s).few)

-- with the axis at hand
passed : (c : After-count_on_axis-n) → c.loop-axis.n + c.count_on_axis-n.result
    ≡ length (slots_below (surveyed c.args.edges.now.survey) (4872 * (c.loop-axis.axis + 1)))
passed c =
    let s = c.args.edges.now.survey in
    (λ i. c.loop-axis.invariant i + c.count_on_axis-n.ensures i)
    ∙ axis_counted s.cells.now s.corners.now s.clearance (few (goal.at.After-count_on_axis-n c).Start) c.loop-axis.axis

-- with its own axis
whole : (c : After-count_on_axis) → c.loop-axis.n + c.count_on_axis.result ≡ length (slots_below (surveyed c.args.edges.now.survey) c.args.slot)
whole c =
    let s = surveyed c.args.edges.now.survey in
    let at : c.loop-axis.axis ≡ c.args.slot / 4872 = omega arith in
    let slot : 4872 * (c.args.slot / 4872) + c.args.slot % 4872 ≡ c.args.slot = omega arith in
    (λ i. (c.loop-axis.invariant ∙ ap (λ j. length (slots_below s (4872 * j))) at) i + c.count_on_axis.ensures i)
    ∙ counted s (4872 * (c.args.slot / 4872)) (c.args.slot % 4872)
    ∙ ap (λ j. length (slots_below s j)) slot

pub loop-axis-init : goal.loop-axis-init
loop-axis-init c = sym (none_below (surveyed c.args.edges.now.survey))

pub count_on_axis-n-requires-clause-axis_bound : goal.count_on_axis-n-requires-clause-axis_bound
count_on_axis-n-requires-clause-axis_bound c = (omega arith, few (goal.at.count_on_axis-n-requires-clause-axis_bound c).Start)

pub overflow_add-n : goal.overflow_add-n
overflow_add-n c = omega (arith, passed c, below_le (surveyed c.args.edges.now.survey) (4872 * (c.loop-axis.axis + 1)))

pub loop-axis-preserved : goal.loop-axis-preserved
loop-axis-preserved c = passed c

pub overflow_add-result : goal.overflow_add-result
overflow_add-result c = omega (arith, whole c, below_le (surveyed c.args.edges.now.survey) c.args.slot)

pub returns : goal.returns
returns c = whole c
