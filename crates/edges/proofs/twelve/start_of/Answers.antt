-- `edges::twelve::start_of` meets its contract: the digits are the entries of the table.
use mathlib.Core.Path.{refl, ◌∙◌}
use native.Mathlib.Omega.{arith}
use lib.ListN.{get_or}
use Rattle.digits.specs.Digits.{digit_of}
use Rattle.base.proofs.Alike.{alike}
use Rattle.edges.specs.Tables.{starts}
use Rattle.edges.proofs.CellEdges.{start_below}
use Rattle.edges.proofs.twelve.start_of.Goals as goal

pub returns : goal.returns
returns c =
    let e = c.digit.ensures ∙ alike 0 12 (digit_of _) (λ i. get_or starts i 0) refl c.args.e c.requires in
    (e, omega (arith, e, start_below c.args.e c.requires))
