-- The clearance of a file with four bytes, and of another.
use Rattle.std.proofs.Common.{ap, ◌∙◌}
use Rattle.std.specs.Float.{binary32}
use Rattle.std.specs.Float.Ieee.{of_bits}
use Rattle.draw.proofs.Listing.{clearance_four, clearance-none}
use Rattle.draw.proofs.clearance_of.Goals as goal

pub returns-then-bytes-ne4 : goal.returns-then-bytes-ne4
returns-then-bytes-ne4 c = clearance-none c.args.bytes.now c.if-bytes-ne4.true _ c.float_of.ensures

pub returns : goal.returns
returns c = clearance_four c.args.bytes.now c.if-bytes-ne4.false _ (c.float_of-2.ensures ∙ ap (of_bits binary32) c.read32.ensures)
