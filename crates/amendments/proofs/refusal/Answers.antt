-- `amendments::refusal` meets its contract: 14, then 15, then the table as amended.
use mathlib.Core.Path.{sym, ◌∙◌}
use native.Mathlib.Omega.{arith}
use Rattle.base.proofs.Tests.{true→}
use Rattle.rules.specs.Survey.{record_size, cells_of}
use Rattle.rules.specs.Outputs.{corner_limit, rising}
use Rattle.records.specs.Keys.{places_of}
use Rattle.octree.proofs.Accepted.{table_fits, tables_checked}
use Rattle.amendments.proofs.Stray.{stray_is}
use Rattle.amendments.proofs.Calls.{tables-first}
use Rattle.amendments.proofs.refusal.Goals as goal

pub returns-then-bad_table : goal.returns-then-bad_table
returns-then-bad_table c =
    let bad = sym c.bad_table.ensures ∙ c.if-bad_table.true in
    record {
      value = sym (tables-first c.args.cells.now c.args.corners.now c.args.amendments.now c.requires.corners_value ∙ rw bad);
      table_after = tt;
    }

pub amend-requires : goal.amend-requires
amend-requires c =
    let tk = c.args.corners.now in
    let checked = tables_checked c.args.cells.now tk c.requires.corners_value in
    let fits = table_fits record_size corner_limit tk checked.corner-table in
    record {
      corners_value = true→ (rising (places_of tk)) checked.rises;
      record_size_len = (fits.0, omega (arith, fits.1, c.requires.corner_limit_in_bounds));
    }

pub returns : goal.returns
returns c =
    let tc = c.args.cells.now in
    let tk = c.args.corners.now in
    let ta = c.args.amendments.now in
    let whole = sym c.bad_table.ensures ∙ c.if-bad_table.false in
    let stray = stray_is (cells_of tc) tk ta (tables_checked tc tk c.requires.corners_value).corners-right in
    record {
      value = c.amend.ensures.value ∙ sym (tables-first tc tk ta c.requires.corners_value ∙ rw (whole, stray));
      table_after = c.amend.ensures.table_after;
    }
