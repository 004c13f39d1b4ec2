-- `edges::ends::edge_point` meets its contract: the two records are the corners at the ends of the edge.
use mathlib.Core.Path.{◌∙◌}
use native.Mathlib.Omega.{arith}
use Rattle.base.specs.Grid.{axis_of}
use Rattle.places.specs.Places.{spot_between}
use Rattle.cells.proofs.Octants.{size_fits}
use Rattle.edges.proofs.Places.{spot_read}
use Rattle.edges.proofs.ends.edge_point.Goals as goal

pub overflow_cast-size_of : goal.overflow_cast-size_of
overflow_cast-size_of c = omega (arith, size_fits c.args.level c.requires.k_bound.1, c.size_of.ensures)

pub returns : goal.returns
returns c =
    c.point_of.ensures ∙
    (λ i. spot_between c.args.clearance (axis_of c.args.axis) (c.size_of.ensures i) (c.corner_at-lower.ensures i)
    (c.corner_at-upper.ensures i)) ∙
    spot_read c.args.corners.now c.type_inv.corners c.requires.corners.rises c.args.clearance (axis_of c.args.axis) c.args.k
    c.args.end c.args.level c.requires.k_bound.0 c.requires.k_bound.2
