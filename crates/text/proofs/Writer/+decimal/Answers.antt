use mathlib.Core.Path.{ap, ◌∙◌}
use mathlib.Core.List.{[], ◌∷◌, ◌++◌}
use native.Mathlib.Omega.{arith}
use Rattle.text.specs.Text.{decimal}
use Rattle.text.proofs.Digits.{decimal-one, decimal-more, digits_length, tenth_length}
use Rattle.text.proofs.Stores.{writes_then, writes-renamed}
use Prim.Native.Nat.{ℕ, ◌/◌}
use Rattle.text.proofs.Writer.+decimal.Goals as goal

pub returns-then-v-lt10 : goal.returns-then-v-lt10
returns-then-v-lt10 t c =
    let v = c.args.v in
    writes-renamed 10 (ap (λ (d : ℕ). d ∷ []) c.digit_of.ensures ∙ decimal-one v c.if-v-lt10.true) (digits_length 10 v)
    c.byte.ensures

pub byte-requires-2 : goal.byte-requires-2
byte-requires-2 t c = omega (arith, tenth_length c.args.v c.if-v-lt10.false c.ranges.v.fits)

pub returns : goal.returns
returns t c =
    let v = c.args.v in
    writes-renamed 10
    (ap (λ (d : ℕ). decimal (v / 10) ++ d ∷ []) c.digit_of-2.ensures ∙ decimal-more v c.if-v-lt10.false c.ranges.v.fits)
    (digits_length 10 v) (writes_then c.decimal.ensures c.byte-2.ensures (omega arith))
