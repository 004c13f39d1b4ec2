-- `edges::Edges::point_of` meets its contract: a point's number is how many crossed slots come before the one that carries it.
use mathlib.Core.Path.{◌∙◌}
use Rattle.base.specs.Grid.{axis_of}
use Rattle.edges.proofs.Descent.{slot-point_of}
use Rattle.edges.proofs.survey.Edges.point_of.Goals as goal

pub carrier_slot-slot-requires : goal.carrier_slot-slot-requires
carrier_slot-slot-requires c =
    record {
      wets = c.requires.wets;
      axis_bound = c.requires.axis_bound;
    }

pub number-requires : goal.number-requires
number-requires c = (c.requires.numbered.levelled.size, c.carrier_slot-slot.ensures.inside)

pub returns : goal.returns
returns c =
    c.number.ensures ∙ c.requires.numbered.number c.carrier_slot-slot.result c.carrier_slot-slot.ensures.inside
    c.carrier_slot-slot.ensures.crossed ∙
    slot-point_of c.args.self.now.survey.cells.now c.args.self.now.survey.corners.now c.args.self.now.survey.clearance c.args.self.now.survey.accepted (axis_of c.args.axis) _ c.args.top _
    c.carrier_slot-slot.ensures
