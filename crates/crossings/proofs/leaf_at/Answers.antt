-- `crossings::leaf_at` meets its contract: eight corners, in the order of octants.
use mathlib.Core.Path.{◌∙◌}
use borrow.Author.Rules.{of_calls}
use Rattle.crossings.proofs.Leaves.{octant-corner, leaf-is}
use Rattle.crossings.proofs.leaf_at.Goals as goal

pub returns : goal.returns
returns c =
    let tc = c.args.survey.now.cells.now in
    let tk = c.args.survey.now.corners.now in
    let d = octant-corner tc tk c.args.n 0 in
    -- of each call: what it captured, the corner, where that stands, and what the call says
    let (q0, y0, e0, r0, u0) = c.from_fn.ensures.items.each in
    let (q1, y1, e1, r1, u1) = u0 in
    let (q2, y2, e2, r2, u2) = u1 in
    let (q3, y3, e3, r3, u3) = u2 in
    let (q4, y4, e4, r4, u4) = u3 in
    let (q5, y5, e5, r5, u5) = u4 in
    let (q6, y6, e6, r6, u6) = u5 in
    let (q7, y7, e7, r7, u7) = u6 in
    leaf-is tc tk c.args.n c.from_fn.result d c.from_fn.ensures.items.long
    (e0.1 d ∙ search of_calls) (e1.1 d ∙ search of_calls) (e2.1 d ∙ search of_calls) (e3.1 d ∙ search of_calls)
    (e4.1 d ∙ search of_calls) (e5.1 d ∙ search of_calls) (e6.1 d ∙ search of_calls) (e7.1 d ∙ search of_calls)
