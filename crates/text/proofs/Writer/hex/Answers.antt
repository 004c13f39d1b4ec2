use native.Mathlib.Omega.{arith}
use Prim.Native.Nat.{◌+◌}
use mathlib.Core.Path.{◌≡◌, ap, ◌∙◌}
use mathlib.Core.List.{[], ◌∷◌, ◌++◌}
use lib.ListN.{take}
use Rattle.text.proofs.Digits.{hex_by, places, hex-places, hex_by-more, hex_by-length, hex-length}
use Rattle.text.proofs.Stores.{writes_nothing, writes_then, writes-renamed}
use Rattle.text.proofs.Writer.hex.Goals as goal

pub loop-shift-init : goal.loop-shift-init
loop-shift-init c = writes_nothing _

pub loop-shift-preserved : goal.loop-shift-preserved
loop-shift-preserved c =
    let l = c.loop-shift in
    writes-renamed (l.shift-index + 1)
    (ap (λ d. hex_by c.args.v (take l.shift-index places) ++ d ∷ []) c.digit_of.ensures ∙ hex_by-more c.args.v places l.shift-index (omega arith))
    (hex_by-length c.args.v places (l.shift-index + 1))
    (writes_then l.invariant c.byte.ensures (omega arith))

pub returns : goal.returns
returns c =
    let l = c.loop-shift in
    let all : l.shift-index ≡ 8 = omega arith in
    writes-renamed 8 (hex-places c.args.v) (omega (arith, hex-length c.args.v)) (rw all at l.invariant)
