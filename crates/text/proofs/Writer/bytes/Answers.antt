-- `text::Writer::bytes` meets its contract: one copy.
-- Assumes nothing.
use Rattle.text.proofs.Stores.{copied}
use Rattle.text.proofs.Writer.bytes.Goals as goal

pub returns : goal.returns
returns c = copied c.args.text.now c.args.self.now _ c.copy_from_slice.ensures.after c.requires
