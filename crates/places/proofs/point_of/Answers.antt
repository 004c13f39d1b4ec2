-- `places::point_of` meets its contract: the test picks the dry end.
-- Assumes nothing.
use mathlib.Core.Path.{sym, ◌∙◌}
use Rattle.base.specs.Grid.{axis_of}
use Rattle.places.proofs.Reckoned.{upper-wet, upper_dry}
use Rattle.places.proofs.point_of.Goals as goal

pub returns-then-is_wet : goal.returns-then-is_wet
returns-then-is_wet c =
    let k = c.args in
    c.spread.ensures
    ∙ upper-wet k.clearance (axis_of k.axis) k.length k.lower k.upper c.place.result
    c.place.ensures (sym c.is_wet.ensures ∙ c.if-is_wet.true)

pub returns : goal.returns
returns c =
    let k = c.args in
    c.spread-2.ensures
    ∙ upper_dry k.clearance (axis_of k.axis) k.length k.lower k.upper c.place-2.result
    c.place-2.ensures (sym c.is_wet.ensures ∙ c.if-is_wet.false)
