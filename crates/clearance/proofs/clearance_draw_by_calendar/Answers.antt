-- `clearance::clearance_draw_by_calendar` meets its contract: it is what `calendar::draw` promises.
use Rattle.clearance.proofs.clearance_draw_by_calendar.Goals as goal

pub returns : goal.returns
returns c =
    record {
      exact = c.draw.ensures.exact;
      by_hand = c.draw.ensures.by_hand;
      closes = c.draw.ensures.closes;
    }
