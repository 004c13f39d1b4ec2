-- `checks::bad_table` meets its contract: one test after the other.
use mathlib.Core.Path.{sym, ◌∙◌}
use lib.Dec.{eqb→eq}
use lib.ListN.{length}
use borrow.Author.Tests.{eqb-false}
use Rattle.base.proofs.Tests.{→true}
use Rattle.checks.proofs.Tables.{empty-table, part-table, whole-table}
use Rattle.checks.proofs.bad_table.Goals as goal

pub returns-then-is_empty : goal.returns-then-is_empty
returns-then-is_empty c =
    let a = c.args in
    empty-table a.n a.limit a.t.now (eqb→eq (length a.t.now) 0 (→true (sym c.is_empty.ensures ∙ c.if-is_empty.true)))

pub returns-then-t-n-ne0 : goal.returns-then-t-n-ne0
returns-then-t-n-ne0 c =
    let a = c.args in
    part-table a.n a.limit a.t.now (eqb-false (length a.t.now) 0 (sym c.is_empty.ensures ∙ c.if-is_empty.false)) c.if-t-n-ne0.true

pub returns : goal.returns
returns c =
    let a = c.args in
    whole-table a.n a.limit a.t.now (eqb-false (length a.t.now) 0 (sym c.is_empty.ensures ∙ c.if-is_empty.false)) c.if-t-n-ne0.false
