-- `text::Writer::listing` meets its contract: the parts, one after another.
-- Assumes nothing.
use native.Mathlib.Omega.{arith}
use Rattle.text.proofs.Stores.{writes_then}
use Rattle.text.proofs.Lines.{same_writes, listing-drawn, listing-refused}
use Rattle.text.proofs.Writer.listing.Goals as goal

pub refusal-requires : goal.refusal-requires
refusal-requires c = omega (arith, c.requires.room.first)

pub returns-then-d-ne0 : goal.returns-then-d-ne0
returns-then-d-ne0 c = same_writes (listing-refused _ _ _ c.if-d-ne0.true) (omega arith) c.refusal.ensures

pub counts-requires : goal.counts-requires
counts-requires c = omega (arith, c.requires.room.first)

pub points-requires : goal.points-requires
points-requires c = (c.requires.room.points_there c.if-d-ne0.false, omega (arith, c.requires.room.whole c.if-d-ne0.false))

pub triangles-requires : goal.triangles-requires
triangles-requires c = (c.requires.room.triangles_there c.if-d-ne0.false, omega (arith, c.requires.room.whole c.if-d-ne0.false))

pub returns : goal.returns
returns c =
    same_writes (listing-drawn _ _ _ c.if-d-ne0.false) (omega arith)
    (writes_then (writes_then c.counts.ensures c.points.ensures (omega arith)) c.triangles.ensures (omega arith))
