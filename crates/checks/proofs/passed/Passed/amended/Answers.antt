-- `checks::Passed::amended` meets its contract: where 14 and 15 don't refuse, the front of the table is the corner table as amended, and the tables serve it too.
use Rattle.amendments.proofs.Calls.{amended-fits}
use Rattle.checks.proofs.Amended.{tables_kept}
use Rattle.checks.proofs.passed.Passed.amended.Goals as goal

pub slice_bounds-with_corners-end : goal.slice_bounds-with_corners-end
slice_bounds-with_corners-end c =
    let s = c.args.self in
    (amended-fits s.cells.now s.corners.now c.args.amendments.now _ s.tables.passed c.in_ok-refusal.ensures.table_after).1

pub with_corners-requires : goal.with_corners-requires
with_corners-requires c =
    let s = c.args.self in
    tables_kept s.cells.now s.corners.now c.args.amendments.now s.laid.now s.octants.now _ c.in_ok-refusal.ensures.table_after s.tables
