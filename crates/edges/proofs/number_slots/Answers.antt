use Rattle.edges.proofs.Numbering.{number-none, number-next, pass_over, numbers-done, carriers_done, count-done}
use Rattle.edges.proofs.Readings.{edges_law, few-places, record_outside}
use Rattle.edges.proofs.Entries.{with_number}
use Prim.Native.Nat.{◌+◌, ◌-◌, ◌*◌, ◌/◌}
use mathlib.Core.Path.{◌≡◌, refl, sym, ◌∙◌}
use native.Mathlib.Omega.{arith}
use Rattle.edges.proofs.number_slots.Goals as goal

pub loop-slot-init : goal.loop-slot-init
loop-slot-init c = number-none _ _ _ _ _ c.requires.levelled c.requires.carriers_len

-- the slots of an axis for which there are no corner records are not crossed
pub loop-slot-preserved-then-slot-count : goal.loop-slot-preserved-then-slot-count
loop-slot-preserved-then-slot-count c =
    let a = c.args in
    let slot = c.loop-slot.slot in
    let left = slot / 4872 * 4872 + 4872 - slot in
    let end : slot + left ≡ slot / 4872 * 4872 + 4872 = omega arith in
    rw end at (pass_over a.survey.now.cells.now a.survey.now.corners.now a.survey.now.clearance _ _ _ left slot (omega arith)
    (λ j h k. record_outside a.survey.now.cells.now a.survey.now.corners.now a.survey.now.clearance j (omega arith)) c.loop-slot.invariant)

pub is_crossed-crossed-requires : goal.is_crossed-crossed-requires
is_crossed-crossed-requires c =
    record {
      wets = c.requires.wets;
      slot_bound = omega arith;
    }

pub bounds-slots-slot : goal.bounds-slots-slot
bounds-slots-slot c = omega (arith, c.loop-slot.invariant.levelled.size)

pub loop-slot-preserved : goal.loop-slot-preserved
unfolding with_number
loop-slot-preserved c =
    number-next c.args.survey.now.cells.now c.args.survey.now.corners.now c.args.survey.now.clearance _ _ _ _ c.loop-slot.invariant (omega arith) c.is_crossed-crossed.result
    c.is_crossed-crossed.ensures _ c.enter-n.ensures.0 _ _ refl c.enter-n.ensures.1

pub shape_of-slots : goal.shape_of-slots
shape_of-slots c = c.loop-slot.invariant.levelled.size ∙ sym c.requires.levelled.size

pub returns : goal.returns
returns c =
    let tc = c.args.survey.now.cells.now in
    let tk = c.args.survey.now.corners.now in
    let v = c.args.survey.now.clearance in
    let e : c.loop-slot.slot ≡ 14616 = omega arith in
    let laws = edges_law tc tk v c.args.survey.now.accepted in
    let few = few-places tc tk v c.args.survey.now.accepted in
    record {
      value = count-done tc tk v laws few _ _ _ _ c.loop-slot.invariant e;
      numbered = numbers-done tc tk v laws few _ _ _ _ c.loop-slot.invariant e;
      carriers = carriers_done tc tk v laws few _ _ _ _ c.loop-slot.invariant e;
    }
