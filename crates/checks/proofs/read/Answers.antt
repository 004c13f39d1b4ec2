-- `checks::read` meets its contract: each return has the checks before it passed, and its own that applies.
use native.Mathlib.Omega.{arith}
use mathlib.Core.Path.{◌≡◌, ◌∙◌, sym, ap, refl}
use mathlib.Core.Bool.{Bool, not, cond}
use Rattle.amendments.proofs.Refusals.{test_met, test_unmet, number_on, owes_nothing}
use Rattle.rules.specs.Outputs.{corner_limit}
use Rattle.rules.specs.Survey.{record_size}
use Rattle.octree.proofs.Accepted.{table_fits, tables_checked}
use Rattle.checks.proofs.PassedTables.{octants_of}
use Rattle.checks.proofs.Order.{refused-one, refused-two, refused_three, refused_four, refused_five, refused_six, none-refused}
use borrow.Author.Rules.{rules}
use Rattle.checks.proofs.read.Goals as goal

pub returns-then-bad_table : goal.returns-then-bad_table
returns-then-bad_table c =
    let a = c.args in
    let e = refused-one a.cells.now a.corners.now
    (sym c.bad_table.ensures ∙ c.if-bad_table.true) in
    record { value = e; tables = tt }

pub returns-then-bad_table-2 : goal.returns-then-bad_table-2
returns-then-bad_table-2 c =
    let a = c.args in
    let e = refused-two a.cells.now a.corners.now
    (sym c.bad_table.ensures ∙ c.if-bad_table.false)
    (sym c.bad_table-2.ensures ∙ c.if-bad_table-2.true) in
    record { value = e; tables = tt }

pub entries_right-requires : goal.entries_right-requires
entries_right-requires c =
    record {
      count_value = refl;
      cells_len_bound = (table_fits 4 8196 c.args.cells.now (sym c.bad_table.ensures ∙ c.if-bad_table.false)).1;
    }

pub returns-then-not-entries_right : goal.returns-then-not-entries_right
returns-then-not-entries_right c =
    let a = c.args in
    let e = refused_three a.cells.now a.corners.now
    (sym c.bad_table.ensures ∙ c.if-bad_table.false)
    (sym c.bad_table-2.ensures ∙ c.if-bad_table-2.false)
    (ap not (sym c.entries_right.ensures ∙ c.if-not-entries_right.true)) in
    record { value = e; tables = tt }

pub lay_out-requires : goal.lay_out-requires
lay_out-requires c =
    let a = c.args in
    let most = (table_fits 4 8196 a.cells.now (sym c.bad_table.ensures ∙ c.if-bad_table.false)).1 in
    record {
      count_value = refl;
      cells_value = sym c.entries_right.ensures ∙ c.if-not-entries_right.false;
      count_in_bounds = omega arith;
    }

pub returns-in_err-lay_out : goal.returns-in_err-lay_out
returns-in_err-lay_out c =
    let a = c.args in
    let deep = test_met c.in_err-lay_out.field-0.0 4 _ c.in_err-lay_out.ensures.value in
    let e = refused_four a.cells.now a.corners.now
    (sym c.bad_table.ensures ∙ c.if-bad_table.false)
    (sym c.bad_table-2.ensures ∙ c.if-bad_table-2.false)
    (ap not (sym c.entries_right.ensures ∙ c.if-not-entries_right.false))
    deep in
    record {
      value = number_on _ _ c.from_residual.ensures.1 ∙ c.in_err-lay_out.ensures.value ∙ ap (λ (b : Bool). cond b 4 0) deep ∙ e;
      tables = owes_nothing _ _ _ c.from_residual.ensures.1;
    }

pub returns-then-not-corners_rise : goal.returns-then-not-corners_rise
returns-then-not-corners_rise c =
    let a = c.args in
    let e = refused_five a.cells.now a.corners.now
    (sym c.bad_table.ensures ∙ c.if-bad_table.false)
    (sym c.bad_table-2.ensures ∙ c.if-bad_table-2.false)
    (ap not (sym c.entries_right.ensures ∙ c.if-not-entries_right.false))
    (test_unmet 4 _ (λ (z : 4 ≡ 0). absurd (omega arith)) c.in_ok-lay_out.ensures.value)
    (ap not (sym c.corners_rise.ensures ∙ c.if-not-corners_rise.true)) in
    record { value = e; tables = tt }

pub fill-requires : goal.fill-requires
fill-requires c =
    let a = c.args in
    let most = (table_fits 4 8196 a.cells.now (sym c.bad_table.ensures ∙ c.if-bad_table.false)).1 in
    let few = (table_fits record_size corner_limit a.corners.now (sym c.bad_table-2.ensures ∙ c.if-bad_table-2.false)).1 in
    let laid = c.in_ok-lay_out.ensures.laid in
    let rises = sym c.corners_rise.ensures ∙ c.if-not-corners_rise.false in
    record {
      corners_value = rises;
      corners_len_bound = (few, c.requires.1);
      cells_bound = (omega arith, omega arith);
      by_index = λ n h. let e = laid.entered n h in omega (arith, e.level, e.shallow);
    }

pub corners_right-requires : goal.corners_right-requires
corners_right-requires c =
    let a = c.args in
    let most = (table_fits 4 8196 a.cells.now (sym c.bad_table.ensures ∙ c.if-bad_table.false)).1 in
    let few = (table_fits record_size corner_limit a.corners.now (sym c.bad_table-2.ensures ∙ c.if-bad_table-2.false)).1 in
    let right = sym c.entries_right.ensures ∙ c.if-not-entries_right.false in
    let rises = sym c.corners_rise.ensures ∙ c.if-not-corners_rise.false in
    record {
      cells_value = right;
      laid = c.in_ok-lay_out.ensures.laid;
      cells_len_bound = (most, few);
      corners_value = rises;
      looked_up = c.fill.ensures;
    }

pub returns-then-not-corners_right : goal.returns-then-not-corners_right
returns-then-not-corners_right c =
    let a = c.args in
    let e = refused_six a.cells.now a.corners.now
    (sym c.bad_table.ensures ∙ c.if-bad_table.false)
    (sym c.bad_table-2.ensures ∙ c.if-bad_table-2.false)
    (ap not (sym c.entries_right.ensures ∙ c.if-not-entries_right.false))
    (test_unmet 4 _ (λ (z : 4 ≡ 0). absurd (omega arith)) c.in_ok-lay_out.ensures.value)
    (ap not (sym c.corners_rise.ensures ∙ c.if-not-corners_rise.false))
    (ap not (sym c.corners_right.ensures ∙ c.if-not-corners_right.true)) in
    record { value = e; tables = tt }

pub returns : goal.returns
returns c =
    let a = c.args in
    let most = (table_fits 4 8196 a.cells.now (sym c.bad_table.ensures ∙ c.if-bad_table.false)).1 in
    let passed = none-refused a.cells.now a.corners.now
    (sym c.bad_table.ensures ∙ c.if-bad_table.false)
    (sym c.bad_table-2.ensures ∙ c.if-bad_table-2.false)
    (ap not (sym c.entries_right.ensures ∙ c.if-not-entries_right.false))
    (test_unmet 4 _ (λ (z : 4 ≡ 0). absurd (omega arith)) c.in_ok-lay_out.ensures.value)
    (ap not (sym c.corners_rise.ensures ∙ c.if-not-corners_rise.false))
    (ap not (sym c.corners_right.ensures ∙ c.if-not-corners_right.false)) in
    let laid = c.in_ok-lay_out.ensures.laid in
    let filled = c.fill.ensures in
    record {
      value = passed;
      tables = record {
        passed = sym passed;
        cell = laid;
        cell_room = search (rules, most);
        corner = octants_of a.cells.now a.corners.now (tables_checked a.cells.now a.corners.now (sym passed)) _ _
            c.type_inv.corners laid filled;
      };
    }
