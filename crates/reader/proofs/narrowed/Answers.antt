-- `reader::narrowed` meets its contract: the looks at three records, taken together.
use Rattle.records.proofs.Search.{round_below, round-from}
use Rattle.reader.proofs.narrowed.Goals as goal

pub returns-clause-smaller : goal.returns-clause-smaller
returns-clause-smaller c =
    let f = c.is_below.ensures in
    let g = c.is_below-2.ensures in
    let h = c.is_below-3.ensures in
    let a = c.args in
    round_below a.corners.now c.type_inv.corners c.requires.ordered.1 a.count a.key a.low a.size _ _ _ c.requires.ordered.0
    (f.upper_bound, (f.smaller, f.no_smaller)) (g.upper_bound, (g.smaller, g.no_smaller)) (h.upper_bound, (h.smaller, h.no_smaller))

pub returns-clause-no_smaller : goal.returns-clause-no_smaller
returns-clause-no_smaller c =
    let f = c.is_below.ensures in
    let g = c.is_below-2.ensures in
    let h = c.is_below-3.ensures in
    let a = c.args in
    round-from a.corners.now c.type_inv.corners c.requires.ordered.1 a.count a.key a.low a.size _ _ _ c.requires.ordered.0
    (f.upper_bound, (f.smaller, f.no_smaller)) (g.upper_bound, (g.smaller, g.no_smaller)) (h.upper_bound, (h.smaller, h.no_smaller))
