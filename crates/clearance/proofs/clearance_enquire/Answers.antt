-- `clearance::clearance_enquire` meets its contract: what `enquiry::enquire` and `reply_of` promise, one after the other; and the reply tells it.
use mathlib.Core.Path.{◌∙◌, ap, sym, subst}
use Rattle.rules.specs.Outputs.{survey_of, asked, StaysOn}
use Rattle.rules.specs.Resounding.{amended}
use Rattle.enquiry.specs.Enquiry.{lower_end}
use Rattle.clearance.specs.Reply.{reply_of, told}
use Rattle.clearance.proofs.Replies.{told-amended}
use Rattle.clearance.proofs.clearance_enquire.Goals as goal

pub returns : goal.returns
returns c =
    let a = c.args in
    let tc = a.cells.now in
    let t = amended a.corners.now a.amendments.now in
    let p = lower_end a.edge in
    let exact = c.reply_of.ensures ∙ ap reply_of c.enquire.ensures.exact in
    let tells = ap told exact ∙ told-amended tc a.corners.now a.amendments.now a.clearance a.edge.axis p a.edge.length in
    record {
      exact = exact;
      tells = tells;
      on_edge = subst (StaysOn (survey_of tc t a.clearance) (asked a.edge.axis p a.edge.length)) (c.enquire.ensures.exact ∙ sym tells) c.enquire.ensures.on_edge;
    }
