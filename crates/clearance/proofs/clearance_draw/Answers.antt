-- `clearance::clearance_draw` meets its contract: it is what `drawing::draw` promises.
use Rattle.clearance.proofs.clearance_draw.Goals as goal

pub returns : goal.returns
returns c = record { exact = c.draw.ensures.exact; closes = c.draw.ensures.closes }
