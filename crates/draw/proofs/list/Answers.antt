-- What is drawn is listed, and has room.
use Rattle.std.proofs.Common.{rules}
use Rattle.rules.specs.Resounding.{amended}
use Rattle.draw.proofs.Listing.{room_for, listed}
use Rattle.draw.proofs.list.Goals as goal

pub put_listing-requires : goal.put_listing-requires
put_listing-requires c =
    let a = c.args in
    let drawn = c.draw-d in
    room_for a.cells.now (amended a.corners.now a.amendments.now) a.clearance drawn.result _ _ a.line.now drawn.ensures.closes (search (rules, drawn.auto))
    (search (rules, drawn.auto)) c.requires

pub returns : goal.returns
returns c =
    let a = c.args in
    let put = c.put_listing in
    listed a.cells.now a.corners.now a.amendments.now a.clearance c.draw-d.result _ _ _ _ _ _ c.draw-d.ensures.exact put.ensures (search (rules, put.auto, c.requires))
