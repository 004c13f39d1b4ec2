-- `faces::quarter` meets its contract: the digits have the order of small faces.
use mathlib.Core.Path.{refl, sym, ◌∙◌, subst}
use Prim.Native.Nat.{◌<◌}
use lib.ListN.{get_or}
use Rattle.base.proofs.Lists.{in_get}
use Rattle.digits.specs.Digits.{digit_of}
use Rattle.faces.specs.Faces.{quarters}
use Rattle.base.proofs.Alike.{alike}
use Rattle.faces.proofs.Small.{quarter_few}
use Rattle.faces.proofs.quarter.Goals as goal

pub returns : goal.returns
returns c =
    let i = c.args.i in
    let e = c.digit.ensures ∙ alike 0 4 (digit_of _) (λ i. get_or quarters i 0) refl i c.requires in
    (e, subst (λ j. j < 4) (sym e) (quarter_few (get_or quarters i 0) (in_get quarters i 0 c.requires)))
