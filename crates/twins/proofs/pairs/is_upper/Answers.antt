-- `twins::pairs::is_upper` meets its contract: the coordinate as the record has it.
use Rattle.twins.proofs.Climbing.{upper_read}
use Rattle.rules.specs.declared.Corner.{Corner}
use Rattle.rules.specs.Survey.{place_of}
use Rattle.base.specs.Grid.{axis_of, along}
use mathlib.Core.Path.{ap, ◌∙◌}
use Rattle.twins.proofs.pairs.is_upper.Goals as goal

pub returns : goal.returns
returns c =
    upper_read c.args.corners.now c.args.k c.args.level _ _ (axis_of c.args.axis) c.requires.0
    (c.from-v.ensures ∙ c.coordinate.ensures ∙ ap (λ (r : Corner). along (axis_of c.args.axis) (place_of r)) c.corner_at.ensures)
    c.size_of-size.ensures
