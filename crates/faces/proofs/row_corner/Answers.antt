-- `faces::row_corner` meets its contract: every digit of the three numbers follows the rule.
use mathlib.Core.Path.{refl, ◌∙◌}
use native.Mathlib.Omega.{arith}
use Rattle.faces.specs.Patterns.{row_digit}
use Rattle.faces.specs.Faces.{corner_on, row_corner, unit}
use Rattle.faces.proofs.Table.{alike_rows}
use Rattle.faces.proofs.Rows.{numbers-few}
use Rattle.faces.proofs.row_corner.Goals as goal

pub returns : goal.returns
unfolding row_digit corner_on
returns c =
    let a = c.args in
    let e = c.row_digit.ensures ∙ alike_rows (λ r j. row_digit r j _ _ _) row_corner refl a.row a.j c.requires.0 c.requires.1 in
    (e, omega (arith, e, (numbers-few a.row unit a.j c.requires.1).0))
