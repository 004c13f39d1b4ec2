-- `checks::corners_right` meets its contract: a corner that is missing decides, and else the marks.
use native.Mathlib.Omega.{arith}
use mathlib.Core.Path.{◌∙◌, sym, ap, refl}
use lib.ListN.{replicate}
use lib.Dec.{ltb}
use Rattle.base.specs.Lists.{all}
use Rattle.rules.specs.Survey.{record_count}
use Rattle.checks.specs.Marks.{marked}
use Rattle.checks.proofs.Marking.{table_is}
use Rattle.checks.proofs.Corners.{one_missing, none_missing_made}
use Rattle.checks.proofs.corners_right.Goals as goal

pub returns-then-not-mark_all : goal.returns-then-not-mark_all
returns-then-not-mark_all c =
    let tk = c.args.corners.now in
    let n = record_count tk in
    let table = table_is tk c.args.laid.now c.args.octants.now _ c.requires.looked_up (omega arith) in
    one_missing c.args.cells.now tk c.args.laid.now c.requires.cells_value c.requires.laid c.type_inv.corners n refl
    (sym (c.mark_all.ensures.value ∙ ap (all (λ k. ltb k n)) table) ∙ c.if-not-mark_all.true)

pub returns : goal.returns
returns c =
    let tk = c.args.corners.now in
    let n = record_count tk in
    let table = table_is tk c.args.laid.now c.args.octants.now _ c.requires.looked_up (omega arith) in
    let there = c.if-not-mark_all.false in
    c.all_marked.ensures ∙
    none_missing_made c.args.cells.now tk c.args.laid.now c.requires.cells_value c.requires.laid c.type_inv.corners n refl
    c.requires.corners_value 4872 _ (omega arith) (sym (c.mark_all.ensures.value ∙ ap (all (λ k. ltb k n)) table) ∙ there)
    (c.mark_all.ensures.marks_after there ∙ ap (λ ks. marked ks (replicate 4872 0)) table)
