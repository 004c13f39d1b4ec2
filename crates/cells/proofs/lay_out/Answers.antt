-- `cells::lay_out` meets its contract: the box is entered first, then the children of each split record.
use native.Mathlib.Omega.{arith}
use lib.ListN.{length-set}
use Rattle.cells.proofs.Laying.{some-record, box_turn}
use Rattle.cells.proofs.lay_out.Goals as goal

pub bounds-laid-0 : goal.bounds-laid-0
bounds-laid-0 c = omega (arith, some-record c.args.cells.now c.requires.cells_value, c.requires)

pub enter_children-requires : goal.enter_children-requires
enter_children-requires c =
    let t = c.args.cells.now in
    let table = c.args.laid.now in
    record {
      right = c.requires.cells_value;
      room = omega (arith, length-set table 0 2814749767106560, c.requires.count_value, c.requires.count_in_bounds);
      laid_to = box_turn t c.requires.cells_value table (omega (arith, c.requires.count_value, c.requires.count_in_bounds));
    }
