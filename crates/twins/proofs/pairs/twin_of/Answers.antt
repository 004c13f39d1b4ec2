-- `twins::pairs::twin_of` meets its contract: the slot of a point is that of the odd edge that carries it.
use Prim.Native.Nat.{◌<◌}
use mathlib.Core.Path.{◌∙◌}
use lib.ListN.{get_or}
use Rattle.edges.proofs.PointSlots.{slot-inside, slot-crossed}
use Rattle.twins.proofs.TwinSlots.{twin-is}
use Rattle.twins.proofs.pairs.twin_of.Goals as goal
use Rattle.twins.proofs.pairs.twin_of.Goals.{Start}

inside : (s : Start) → get_or s.args.carriers.now s.args.v 0 < 14616
inside s =
    slot-inside s.args.edges.now.survey.cells.now s.args.edges.now.survey.corners.now s.args.edges.now.survey.clearance
    s.args.edges.now.survey.accepted s.args.carriers.now s.requires.carriers s.args.v s.requires.v_in_bounds.0

pub climb-requires : goal.climb-requires
climb-requires c =
    record {
      wets = c.requires.wets;
      numbered = c.requires.numbered;
      slot_bound = rw c.from.ensures (
        inside (goal.at.climb-requires c).Start,
        slot-crossed c.args.edges.now.survey.cells.now c.args.edges.now.survey.corners.now c.args.edges.now.survey.clearance
            c.args.edges.now.survey.accepted c.args.carriers.now c.requires.carriers c.args.v c.requires.v_in_bounds.0,
      );
    }

pub returns : goal.returns
returns c =
    (rw c.from.ensures at c.climb.ensures) ∙
    twin-is c.args.edges.now.survey.cells.now c.args.edges.now.survey.corners.now c.args.edges.now.survey.clearance
    c.args.edges.now.survey.accepted c.args.edges.now.slots.now c.requires.numbered.levelled c.args.carriers.now c.requires.carriers c.args.v
    c.requires.v_in_bounds.0
