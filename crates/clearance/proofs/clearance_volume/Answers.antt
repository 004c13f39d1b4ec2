-- `clearance::clearance_volume` meets its contract: it is what `volume::reckon` promises.
use Rattle.clearance.proofs.clearance_volume.Goals as goal

pub returns : goal.returns
returns c =
    record {
      exact = c.reckon.ensures.exact;
      closes = c.reckon.ensures.closes;
      anywhere = c.reckon.ensures.anywhere;
    }
