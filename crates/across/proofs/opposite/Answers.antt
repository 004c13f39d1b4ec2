-- `across::opposite` meets its contract: an exclusive or turns the bit.
use Rattle.across.proofs.Turned.{xor_turns}
use Rattle.across.proofs.opposite.Goals as goal

pub returns : goal.returns
returns c = xor_turns c.args.axis c.args.j c.requires.0 c.requires.1
