use Prim.Native.Nat.{◌+◌}
use mathlib.Core.Path.{◌≡◌, refl, sym, ap, ◌∙◌}
use native.Mathlib.Numerals.{add-one}
use native.Mathlib.Omega.{arith}
use lib.ListN.{get_or, set, drop, length-set, length-drop}
use lib.Seq.{get_or-drop, paste, paste-zero, paste-suc}
use Rattle.amendments.proofs.copy.Goals as goal

pub loop-i-init : goal.loop-i-init
loop-i-init c = let a = c.args in (refl, paste-zero a.to.now a.at (drop a.start a.from.now))

pub loop-i-preserved : goal.loop-i-preserved
loop-i-preserved c =
    let l = c.loop-i in
    let a = c.args in
    let s = drop a.start a.from.now in (
      length-set l.to (a.at + l.i) _ ∙ l.invariant.0,
      rw add-one
          (ap (λ t. set t (a.at + l.i) (get_or a.from.now (a.start + l.i) 0)) l.invariant.1
          ∙ ap (set (paste a.to.now a.at s l.i) (a.at + l.i)) (sym (get_or-drop a.start a.from.now l.i 0))
          ∙ paste-suc a.to.now a.at s l.i 0 (omega arith) (omega (arith, length-drop a.start a.from.now))),
    )

pub returns : goal.returns
returns c =
    let l = c.loop-i in
    let a = c.args in
    let all : l.i ≡ a.n = omega arith in
    l.invariant.1 ∙ ap (paste a.to.now a.at (drop a.start a.from.now)) all
