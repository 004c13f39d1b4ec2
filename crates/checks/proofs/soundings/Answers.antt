-- `checks::soundings` meets its contract: the soundings are looked at where checks 1 to 6 pass.
use mathlib.Core.Path.{◌∙◌, sym}
use Rattle.checks.proofs.Order.{refused_seven, all_in_range}
use Rattle.checks.proofs.soundings.Goals as goal

pub returns-then-bad_sounding : goal.returns-then-bad_sounding
returns-then-bad_sounding c =
    refused_seven c.args.cells.now c.args.corners.now c.requires (sym c.bad_sounding.ensures ∙ c.if-bad_sounding.true)

pub returns : goal.returns
returns c =
    all_in_range c.args.cells.now c.args.corners.now c.requires (sym c.bad_sounding.ensures ∙ c.if-bad_sounding.false)
