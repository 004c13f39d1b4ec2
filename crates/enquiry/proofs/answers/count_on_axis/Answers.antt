-- `enquiry::answers::count_on_axis` meets its contract: one slot more at each turn.
use Prim.Native.Nat.{◌+◌, ◌*◌}
use mathlib.Core.Path.{◌≡◌, ap, ◌∙◌}
use native.Mathlib.Omega.{arith}
use lib.ListN.{length}
use Rattle.base.specs.Lists.{bit}
use Rattle.edges.specs.Tables.{slots_below}
use Rattle.edges.specs.Surveyed.{surveyed}
use Rattle.edges.proofs.Numbering.{count_next, below_le}
use Rattle.enquiry.proofs.Counting.{counted}
use Rattle.enquiry.proofs.answers.count_on_axis.Goals as goal
use Rattle.enquiry.proofs.answers.count_on_axis.Goals.{After-from-crossed}

-- with the slot at hand
passed : (c : After-from-crossed) → let s = surveyed c.args.edges.now.survey in
    length (slots_below s (4872 * c.args.axis)) + (c.loop-k.crossed + c.from-crossed.result) ≡ length (slots_below s (4872 * c.args.axis + (c.loop-k.k + 1)))
passed c =
    let s = surveyed c.args.edges.now.survey in
    let slot = 4872 * c.args.axis + c.loop-k.k in
    let next : slot + 1 ≡ 4872 * c.args.axis + (c.loop-k.k + 1) = omega arith in
    let one = count_next s slot _ c.from-crossed.result c.loop-k.invariant (c.from-crossed.ensures ∙ ap bit c.is_crossed.ensures) in
    let moved = ap (λ j. length (slots_below s j)) next in
    omega (arith, one, moved)

pub overflow_add-crossed : goal.overflow_add-crossed
overflow_add-crossed c = omega (arith, passed c, below_le (surveyed c.args.edges.now.survey) (4872 * c.args.axis + (c.loop-k.k + 1)))

pub loop-k-preserved : goal.loop-k-preserved
loop-k-preserved c = passed c

pub returns : goal.returns
returns c =
    let s = surveyed c.args.edges.now.survey in
    let all : c.loop-k.k ≡ c.args.count = omega arith in
    let whole = ap (λ j. length (slots_below s (4872 * c.args.axis + j))) all in
    omega (arith, c.loop-k.invariant, whole, counted s (4872 * c.args.axis) c.args.count)
