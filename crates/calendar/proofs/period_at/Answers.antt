-- `calendar::period_at` meets its contract: each field is what its callee reads, and a record's parts are parts of the table.
use mathlib.Core.Path.{◌∙◌, ap}
use lib.Ieee.{binary32, of_bits}
use Rattle.calendar.proofs.Periods.{period_is}
use Rattle.calendar.proofs.period_at.Goals as goal

pub returns : goal.returns
returns c =
    let a = c.args in
    period_is a.calendar.now a.k c.read32-from.ensures c.read32-until.ensures
    (c.float_of-clearance.ensures ∙ ap (of_bits binary32) c.read32.ensures)
