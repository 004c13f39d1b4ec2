-- `drawing::refusal` meets its contract: whether the pool is open at the box is looked at where the survey is accepted.
use mathlib.Core.Path.{refl, ◌∙◌, sym}
use Rattle.amendments.proofs.Refusals.{some_number, number_on, owes_nothing}
use Rattle.rules.specs.Refusals.{refusal_number}
use Rattle.drawing.proofs.Passed.{refused-earlier, refused_open, refused-not, accepts, corners_rise, few-corners}
use borrow.Author.Rules.{rules}
use Rattle.drawing.proofs.refusal.Goals as goal

pub returns-in_err-refusal : goal.returns-in_err-refusal
returns-in_err-refusal c =
    let a = c.args in
    let e = c.in_err-refusal.field-0.0 in
    record {
      value = number_on _ _ c.from_residual.ensures.1
          ∙ refused-earlier a.cells.now a.corners.now a.clearance (refusal_number e) c.in_err-refusal.ensures (some_number e);
      wets = owes_nothing _ _ _ c.from_residual.ensures.1;
    }

pub fill_wets-requires : goal.fill_wets-requires
fill_wets-requires c =
    let a = c.args in
    let ok = accepts a.cells.now a.corners.now a.clearance 0 c.in_ok-refusal.ensures refl in
    record {
      corners_value = corners_rise a.cells.now a.corners.now a.clearance ok;
      wets_len = (search rules, few-corners a.cells.now a.corners.now a.clearance ok);
    }

pub returns-then-fill_wets : goal.returns-then-fill_wets
returns-then-fill_wets c =
    let a = c.args in
    record {
      value = refused_open a.cells.now a.corners.now a.clearance 0 c.in_ok-refusal.ensures refl (sym c.fill_wets.ensures.value ∙ c.if-fill_wets.true);
      wets = tt;
    }

pub returns : goal.returns
returns c =
    let a = c.args in
    record {
      value = refused-not a.cells.now a.corners.now a.clearance 0 c.in_ok-refusal.ensures refl (sym c.fill_wets.ensures.value ∙ c.if-fill_wets.false);
      wets = c.fill_wets.ensures.wets;
    }
