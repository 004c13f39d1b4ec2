-- `clearance::clearance_way` meets its contract: it is what `ways::find` promises.
use Rattle.clearance.proofs.clearance_way.Goals as goal

pub returns : goal.returns
returns c = record { exact = c.find.ensures.exact; means = c.find.ensures.means }
