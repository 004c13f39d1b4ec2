-- `edges::Edges::is_crossed` meets its contract: no record, no edge, or an edge whose parity decides.
use Prim.Native.Nat.{◌/◌, ◌%◌, ◌<◌}
use mathlib.Core.Path.{sym, ◌∙◌, subst}
use native.Mathlib.Omega.{arith}
use Rattle.base.specs.Grid.{axis_of}
use Rattle.edges.specs.Tables.{lowest_at, UpperEnd}
use Rattle.edges.proofs.Readings.{corners, record_outside, empty, crossed-odd, odd_read, far_read}
use Rattle.edges.proofs.survey.Edges.is_crossed.Goals as goal
use Rattle.edges.proofs.survey.Edges.is_crossed.Goals.{After-from-end}

-- the upper end of the edge at the slot
module _ (c : After-from-end) where
  far_end : UpperEnd c.args.self.now.survey.corners.now (axis_of (c.args.slot / 4872)) (c.args.slot % 4872) (lowest_at c.args.self.now.slots.now c.args.slot)
      c.from-end.result
  far_end =
      let i = c.requires.slot_bound in
      subst (UpperEnd c.args.self.now.survey.corners.now (axis_of (c.args.slot / 4872)) (c.args.slot % 4872) (lowest_at c.args.self.now.slots.now c.args.slot))
      (sym (c.from-end.ensures ∙ c.far.ensures))
      (far_read c.args.self.now.survey.cells.now c.args.self.now.survey.corners.now c.args.self.now.slots.now c.args.self.now.levelled (c.args.slot / 4872) (c.args.slot % 4872)
      c.args.slot (omega arith) (omega arith) (omega arith) (omega arith))

  inside-marks : c.from-end.result < 4872
  inside-marks = omega (arith, far_end.inside, (corners c.args.self.now.survey.cells.now c.args.self.now.survey.corners.now c.args.self.now.survey.clearance c.args.self.now.survey.accepted).few)

pub returns-then-k-self : goal.returns-then-k-self
returns-then-k-self c =
    sym (record_outside c.args.self.now.survey.cells.now c.args.self.now.survey.corners.now c.args.self.now.survey.clearance c.args.slot c.if-k-self.true)

pub returns-then-lowest-gt10 : goal.returns-then-lowest-gt10
returns-then-lowest-gt10 c =
    sym (empty c.args.self.now.survey.cells.now c.args.self.now.survey.corners.now c.args.self.now.survey.clearance c.args.self.now.survey.accepted c.args.self.now.slots.now c.args.self.now.levelled c.args.slot
    c.requires.slot_bound (omega arith) (omega arith))

pub bounds-wets-end : goal.bounds-wets-end
bounds-wets-end c = omega (arith, inside-marks (goal.at.bounds-wets-end c).After-from-end, c.requires.wets.size)

pub returns : goal.returns
returns c =
    let tk = c.args.self.now.survey.corners.now in
    odd_read tk c.args.self.now.survey.clearance c.args.wets.now c.requires.wets (axis_of (c.args.slot / 4872)) (c.args.slot % 4872) _
    (lowest_at c.args.self.now.slots.now c.args.slot) (omega arith) (far_end (goal.at.returns c).After-from-end) ∙
    sym (crossed-odd c.args.self.now.survey.cells.now tk c.args.self.now.survey.clearance c.args.self.now.survey.accepted c.args.self.now.slots.now c.args.self.now.levelled c.args.slot
    c.requires.slot_bound (omega arith) (omega arith))
