-- `places::place` meets its contract: the test says which way the coordinate moves.
-- Assumes nothing.
use Rattle.base.specs.Grid.{axis_of}
use Rattle.places.proofs.Reckoned.{moving-up, moving-down}
use Rattle.places.proofs.place.Goals as goal

pub returns-then-from-coordinate : goal.returns-then-from-coordinate
returns-then-from-coordinate c =
    let k = c.args in
    rw (c.from.ensures, c.from-then-from-coordinate.ensures)
    (moving-up k.clearance (axis_of k.axis) k.length k.dry k.far c.coordinate-from.result c.coordinate.result
    c.coordinate-from.ensures c.coordinate.ensures c.if-from-coordinate.true)

pub returns-else-from-coordinate : goal.returns-else-from-coordinate
returns-else-from-coordinate c =
    let k = c.args in
    rw (c.from.ensures, c.from-else-from-coordinate.ensures)
    (moving-down k.clearance (axis_of k.axis) k.length k.dry k.far c.coordinate-from.result c.coordinate.result
    c.coordinate-from.ensures c.coordinate.ensures c.if-from-coordinate.false)
