-- `records::day_at` meets its contract: the last two bytes of a record are two of the table.
use Rattle.std.proofs.Common.{◌*◌, ◌∙◌, sym, ap, lit≤}
use Rattle.base.specs.Lists.{little}
use Rattle.rules.specs.Survey.{record_size}
use Rattle.rules.specs.Resounding.{day_in}
use Rattle.records.proofs.Bytes.{part}
use Rattle.records.proofs.day_at.Goals as goal

pub returns : goal.returns
unfolding day_in
returns c =
    let a = c.args in
    c.read16.ensures ∙ ap little (sym (part a.corners.now (record_size * a.n) record_size 10 2 (lit≤ tt)))
