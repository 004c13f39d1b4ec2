use Rattle.edges.proofs.Filled.{filled_more, wets_done, byte-bit}
use Rattle.edges.proofs.Open.{opening, OpenSoFar, none_passed, one-passed, all-passed}
use Rattle.rules.specs.Survey.{corner_record, place_of, wet}
use Rattle.rules.specs.OpenAtBox.{is_outer}
use Rattle.base.specs.Lists.{bit}
use lib.ListN.{length-set}
use Prim.Native.Nat.{ℕ, ◌+◌}
use mathlib.Core.Path.{◌≡◌, sym, ap, ◌∙◌, subst}
use mathlib.Core.Bool.{◌&&◌, ◌||◌}
use native.Mathlib.Omega.{arith}
use borrow.Author.Rules.{rules}
use Rattle.edges.proofs.fill_wets.Goals as goal

pub loop-k-init : goal.loop-k-init
loop-k-init c =
    let a = c.args in
    (search rules, λ j h. absurd (omega arith), none_passed a.corners.now a.clearance)

pub loop-k-preserved : goal.loop-k-preserved
loop-k-preserved c =
    let a = c.args in
    let k = c.loop-k.k in
    let f : ℕ → ℕ = λ j. bit (wet a.clearance (corner_record a.corners.now j)) in
    let corner : c.corner_at-corner.result ≡ corner_record a.corners.now k = c.corner_at-corner.ensures in
    let marked : c.is_wet-wet.result ≡ wet a.clearance (corner_record a.corners.now k) = c.is_wet-wet.ensures ∙ ap (wet a.clearance) corner in
    let opened : c.opens-opened.result ≡ c.loop-k.opened || opening a.clearance (corner_record a.corners.now k) =
    c.opens-opened.ensures ∙ (λ i. c.loop-k.opened || (is_outer (place_of (corner i)) && marked i)) in (
      simp length-set c.loop-k.invariant.0,
      filled_more f c.loop-k.wets k c.from.result (omega arith) c.loop-k.invariant.1 (c.from.ensures ∙ byte-bit c.is_wet-wet.result ∙ ap bit marked),
      subst (OpenSoFar a.corners.now a.clearance (k + 1)) (sym opened)
          (one-passed a.corners.now a.clearance k c.loop-k.opened (omega arith) c.loop-k.invariant.2),
    )

pub returns : goal.returns
returns c =
    record {
      value = all-passed c.args.corners.now c.args.clearance c.loop-k.k c.loop-k.opened (omega arith) c.loop-k.invariant.2;
      wets = wets_done c.args.corners.now c.type_inv.corners c.requires.corners_value c.args.clearance c.loop-k.wets c.loop-k.invariant.0
          (λ k h. c.loop-k.invariant.1 k (omega arith));
    }
