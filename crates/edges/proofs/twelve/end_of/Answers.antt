-- `edges::twelve::end_of` meets its contract: the digits are the entries of the table.
use mathlib.Core.Path.{refl, ◌∙◌}
use native.Mathlib.Omega.{arith}
use lib.ListN.{get_or}
use Rattle.digits.specs.Digits.{digit_of}
use Rattle.base.proofs.Alike.{alike}
use Rattle.edges.specs.Tables.{ends}
use Rattle.edges.proofs.CellEdges.{end_below}
use Rattle.edges.proofs.twelve.end_of.Goals as goal

pub returns : goal.returns
returns c =
    let e = c.digit.ensures ∙ alike 0 12 (digit_of _) (λ i. get_or ends i 0) refl c.args.e c.requires in
    (e, omega (arith, e, end_below c.args.e c.requires))
