-- `records::corners_rise` meets its contract: before each turn what is left of the records, with the one looked at last, rises just if all do.
use Rattle.std.proofs.Common.{◌≡◌, ◌+◌, ◌-◌, ◌∙◌, sym, ap, drop, arith}
use Rattle.rules.specs.Outputs.{rising}
use Rattle.records.specs.Keys.{places_of}
use Rattle.records.proofs.Search.{rise_breaks, rise_goes_on, rise_ends}
use Rattle.records.proofs.corners_rise.Goals as goal

pub returns-then-key_at : goal.returns-then-key_at
returns-then-key_at c =
    sym (rise_breaks c.args.corners.now c.type_inv.corners (c.loop-i.i - 1) c.loop-i.i (omega arith) (omega arith) (omega arith)) ∙ c.loop-i.invariant

pub loop-i-preserved : goal.loop-i-preserved
loop-i-preserved c =
    let i = c.loop-i.i in
    let last : i + 1 - 1 ≡ i = omega arith in
    ap (λ j. rising (drop j (places_of c.args.corners.now))) last
    ∙ rise_goes_on c.args.corners.now c.type_inv.corners (i - 1) i (omega arith) (omega arith) (omega arith) ∙ c.loop-i.invariant

pub returns : goal.returns
returns c = sym (rise_ends c.args.corners.now c.type_inv.corners (c.loop-i.i - 1) (omega arith)) ∙ c.loop-i.invariant
