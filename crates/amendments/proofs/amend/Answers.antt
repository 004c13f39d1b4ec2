use Prim.Native.Nat.{◌<◌}
use mathlib.Core.Path.{◌≡◌, refl, sym, ap, ◌∙◌}
use mathlib.Core.Bool.{cond}
use mathlib.Core.List.{[]}
use native.Mathlib.Omega.{arith}
use lib.ListN.{length, get_or, drop_of_length-le}
use Rattle.base.specs.Lists.{any}
use Rattle.base.proofs.Below.{get_table, length-table, any_hit, any_miss}
use Rattle.rules.specs.Survey.{record_count, record_bytes}
use Rattle.rules.specs.Resounding.{records_of}
use Rattle.amendments.specs.Amending.{unlisted}
use Rattle.amendments.proofs.Refusals.{test_met, test_unmet, number_on, owes_nothing}
use Rattle.amendments.proofs.Working.{copied, finished}
use Rattle.amendments.proofs.amend.Goals as goal
use Rattle.amendments.proofs.amend.Goals.{After-resound}

inside : (r : After-resound) → r.loop-n.n < length (records_of r.args.amendments.now)
inside r =
    let ta = r.args.amendments.now in
    omega (arith, length-table (record_bytes ta) (record_count ta))

nth : (r : After-resound)
    → let a = r.args in
    unlisted a.corners.now (get_or (records_of a.amendments.now) r.loop-n.n []) ≡ unlisted a.corners.now (record_bytes a.amendments.now r.loop-n.n)
nth r =
    let a = r.args in
    let n = r.loop-n.n in
    ap (unlisted a.corners.now) (get_table (record_bytes a.amendments.now) [] (record_count a.amendments.now) n (omega arith))

pub copy-requires : goal.copy-requires
copy-requires c = (omega arith, omega arith)

pub loop-n-init : goal.loop-n-init
loop-n-init c =
    (copied c.args.corners.now c.args.amendments.now c.args.table.now _ c.requires.record_size_len.1 c.copy.ensures, refl)

pub resound-requires : goal.resound-requires
resound-requires c =
    let l = c.loop-n in
    record {
      corners_value = c.requires.corners_value;
      n_bound = omega arith;
      amended_by = l.invariant.0;
    }

pub returns-in_err-resound : goal.returns-in_err-resound
returns-in_err-resound c =
    let a = c.args in
    let l = c.loop-n in
    let stray = test_met c.in_err-resound.field-0.0 15 _ c.in_err-resound.ensures.value in
    let hit = any_hit (unlisted a.corners.now) (records_of a.amendments.now) l.n [] (inside (goal.at.returns-in_err-resound c).After-resound)
    (nth (goal.at.returns-in_err-resound c).After-resound ∙ stray) in
    record {
      value = number_on _ _ c.from_residual.ensures.1 ∙ c.in_err-resound.ensures.value ∙ ap (λ b. cond b 15 0) (stray ∙ sym hit ∙ l.invariant.1);
      table_after = owes_nothing _ _ _ c.from_residual.ensures.1;
    }

pub loop-n-preserved : goal.loop-n-preserved
loop-n-preserved c =
    let a = c.args in
    let l = c.loop-n in
    let listed = test_unmet 15 _ (λ e. absurd (omega arith)) c.in_ok-resound.ensures.value in (
      c.in_ok-resound.ensures.one_more,
      any_miss (unlisted a.corners.now) (records_of a.amendments.now) l.n [] (inside (goal.at.loop-n-preserved c).After-resound)
          (nth (goal.at.loop-n-preserved c).After-resound ∙ listed) ∙ l.invariant.1,
    )

pub returns : goal.returns
returns c =
    let tk = c.args.corners.now in
    let ta = c.args.amendments.now in
    let l = c.loop-n in
    let none_left = drop_of_length-le (records_of ta) {i = l.n} (omega (arith, length-table (record_bytes ta) (record_count ta))) in
    record {
      value = sym (ap (λ b. cond b 15 0) (sym l.invariant.1 ∙ ap (any (unlisted tk)) none_left));
      table_after = finished tk ta l.table l.n (omega arith) c.requires.record_size_len.0 l.invariant.0;
    }
