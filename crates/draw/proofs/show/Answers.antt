-- What is written is the front of the line, which is what is printed.
use Rattle.text.proofs.Stores.{front_is}
use Rattle.draw.proofs.show.Goals as goal

pub returns : goal.returns
returns g c = rw (front_is c.list-end.ensures) at c.write_all.ensures.bytes
