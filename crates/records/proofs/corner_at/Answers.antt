-- `records::corner_at` meets its contract: each field is what its callee reads, and a record's parts are parts of the table.
use Rattle.std.proofs.Common.{◌∙◌, ap}
use Rattle.std.specs.Float.{binary32}
use Rattle.std.specs.Float.Ieee.{of_bits}
use Rattle.records.proofs.Bytes.{corner-is}
use Rattle.records.proofs.corner_at.Goals as goal

pub returns : goal.returns
returns c =
    corner-is c.args.corners.now c.args.n c.read16-x.ensures c.read16-y.ensures
    c.read16-z.ensures (c.float_of-sounding.ensures ∙ ap (of_bits binary32) c.read32.ensures)
