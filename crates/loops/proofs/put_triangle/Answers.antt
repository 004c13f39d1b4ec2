-- `loops::put_triangle` meets its contract: three stores in a row.
use Rattle.loops.proofs.Slices.{three_sets}
use Rattle.loops.proofs.put_triangle.Goals as goal

pub returns : goal.returns
returns c =
    let args = c.args in
    three_sets args.out.now _ _ _ _ args.a args.b args.c c.put.ensures c.put-2.ensures c.put-3.ensures
