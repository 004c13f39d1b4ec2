-- `clearance::clearance_convoy` meets its contract: it is what `convoy::find` promises.
use Rattle.clearance.proofs.clearance_convoy.Goals as goal

pub returns : goal.returns
returns c =
    record {
      exact = c.find.ensures.exact;
      means = c.find.ensures.means;
      as_greatest = c.find.ensures.as_greatest;
    }
