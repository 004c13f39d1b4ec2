use Prim.Native.Nat.{ℕ, suc, ◌+◌, ◌/◌, ◌%◌, ◌≤◌, ◌<◌}
use mathlib.Core.Path.{◌≡◌, refl, sym, ap, ◌∙◌, subst}
use mathlib.Core.Bool.{Bool, true, false, not}
use mathlib.Core.List.{List}
use native.Mathlib.Omega.{arith}
use lib.Dec.{eqb}
use lib.Ieee.{Float}
use lib.ListN.{get_or}
use borrow.Author.Tests.{eq-eqb, ne_eqb}
use Rattle.base.specs.Grid.{Axis, axis_of}
use Rattle.rules.specs.Survey.{corners_of, wet_at}
use Rattle.rules.specs.Edges.{odd}
use Rattle.rules.specs.Outputs.{accepted}
use Rattle.records.specs.Keys.{places_of}
use Rattle.edges.specs.Tables.{place_at, lowest_at, far_at, UpperEnd}
use Rattle.edges.proofs.PointSlots.{slot-odd-edge, slot-far_end}
use Rattle.edges.proofs.Readings.{corners, odd_read}
use Rattle.twins.specs.Risen.{Risen}
use Rattle.twins.proofs.Twins.{Climbed, climb_ends, above-level, climb_on, other_edge, climb_turns}
use Rattle.twins.proofs.pairs.climb.Goals as goal
use Rattle.twins.proofs.pairs.climb.Goals.{In-Some, Start}

module _ (s : Start) where
  abbrev tc : List ℕ
  tc = s.args.edges.now.survey.cells.now

  abbrev tk : List ℕ
  tk = s.args.edges.now.survey.corners.now

  abbrev x : Float
  x = s.args.edges.now.survey.clearance

  abbrev ok : accepted tc tk x ≡ true
  ok = s.args.edges.now.survey.accepted

  abbrev a : Axis
  a = axis_of (s.args.slot / 4872)

  -- the record and the level from which the climb starts
  abbrev first : ℕ
  first = s.args.slot % 4872

  abbrev low : ℕ
  low = lowest_at s.args.edges.now.slots.now s.args.slot

pub loop-above-init : goal.loop-above-init
loop-above-init c =
    let s = (goal.at.loop-above-init c).Start in
    let i = c.args.slot in
    let slots = c.args.edges.now.slots.now in
    let levels = c.requires.numbered.levelled in
    let (h, t) = c.requires.slot_bound in
    let is = sym c.lowest-level.ensures in (
      subst (λ (l : ℕ). Climbed (tc s) (tk s) (x s) (a s) (first s) (low s) (first s) l) is
          (record { odd-edge = slot-odd-edge (tc s) (tk s) (x s) (ok s) slots levels i h t; left = 10; enough = omega arith; same-twin = refl }),
      subst (UpperEnd (tk s) (a s) (first s) c.lowest-level.result) (sym (c.from-end.ensures ∙ c.far.ensures))
          (subst (λ (l : ℕ). UpperEnd (tk s) (a s) (first s) l (far_at slots i)) is (slot-far_end (tc s) (tk s) (x s) (ok s) slots levels i h t)),
    )

pub returns-in_default : goal.returns-in_default
returns-in_default c =
    let s = (goal.at.returns-in_default c).Start in
    climb_ends (tc s) (tk s) (x s) (ok s) (a s) (first s) (low s) _ _ c.args.v c.loop-above.invariant.0 c.in_default.ensures

-- some cell has the edge above
module _ (c : In-Some) where
  abbrev st : Start
  st = (goal.at.In-Some c).Start

  risen : Risen (tc st) (tk st) (a st) c.loop-above.k c.loop-above.level c.in-Some.above.start c.in-Some.above.end c.in-Some.above.other
  risen = c.in-Some.ensures

  ends-inside : (c.in-Some.above.start < 4872) × (c.in-Some.above.end < 4872)
  ends-inside =
      let few = (corners (tc st) (tk st) (x st) (ok st)).few in
      (omega (arith, risen.inside), omega (arith, risen.upper.inside))

  level-above : suc c.loop-above.level ≤ 10
  level-above =
      above-level (tc st) (tk st) (x st) (ok st) (a st) (first st) (low st) _ _ c.args.v c.loop-above.invariant.0 _ _ _ risen

  -- whether the marks at its ends differ says whether it is odd
  parity : (b : Bool) → not (eqb (get_or c.args.wets.now c.in-Some.above.start 0) (get_or c.args.wets.now c.in-Some.above.end 0)) ≡ b →
      odd (wet_at (corners_of (tk st)) (x st)) (a st) (place_at (places_of (tk st)) c.in-Some.above.start) (suc c.loop-above.level) ≡ b
  parity b d = sym (odd_read (tk st) (x st) c.args.wets.now c.requires.wets (a st) _ _ _ risen.inside risen.upper) ∙ d

  even : get_or c.args.wets.now c.in-Some.above.start 0 ≡ get_or c.args.wets.now c.in-Some.above.end 0 →
      odd (wet_at (corners_of (tk st)) (x st)) (a st) (place_at (places_of (tk st)) c.in-Some.above.start) (suc c.loop-above.level) ≡ false
  even e = parity false (ap not (eq-eqb _ _ e))

pub bounds-wets-k : goal.bounds-wets-k
bounds-wets-k c = omega (arith, (ends-inside (goal.at.bounds-wets-k c).In-Some).0, c.requires.wets.size)

pub bounds-wets-end : goal.bounds-wets-end
bounds-wets-end c = omega (arith, (ends-inside (goal.at.bounds-wets-end c).In-Some).1, c.requires.wets.size)

pub point_of-requires-clause-axis_bound : goal.point_of-requires-clause-axis_bound
point_of-requires-clause-axis_bound c =
    let u = (goal.at.point_of-requires-clause-axis_bound c).In-Some in
    let s = st u in (
      omega (arith, c.requires.slot_bound.0),
      other_edge (tc s) (tk s) (x s) (ok s) (a s) (first s) (low s) _ _ c.args.v c.loop-above.invariant.0 _ _ _ (risen u) (even u (omega arith)),
    )

pub returns-then-wets-k : goal.returns-then-wets-k
returns-then-wets-k c =
    let u = (goal.at.returns-then-wets-k c).In-Some in
    let s = st u in
    c.point_of.ensures ∙
    climb_turns (tc s) (tk s) (x s) (ok s) (a s) (first s) (low s) _ _ c.args.v c.loop-above.invariant.0 _ _ _ (risen u) (even u (omega arith))

pub overflow_add-level : goal.overflow_add-level
overflow_add-level c = omega (arith, level-above (goal.at.overflow_add-level c).In-Some)

pub loop-above-smaller : goal.loop-above-smaller
loop-above-smaller c = omega (arith, level-above (goal.at.loop-above-smaller c).In-Some)

pub loop-above-preserved : goal.loop-above-preserved
loop-above-preserved c =
    let u = (goal.at.loop-above-preserved c).In-Some in
    let s = st u in
    let q : suc c.loop-above.level ≡ c.loop-above.level + 1 = omega arith in
    let o = parity u true (ap not (ne_eqb _ _ c.if-wets-k.false)) in (
      subst (λ (j : ℕ). Climbed (tc s) (tk s) (x s) (a s) (first s) (low s) c.in-Some.above.start j) q
          (climb_on (tc s) (tk s) (x s) (ok s) (a s) (first s) (low s) _ _ c.args.v c.loop-above.invariant.0 _ _ _ (risen u) o),
      subst (λ (j : ℕ). UpperEnd (tk s) (a s) c.in-Some.above.start j c.in-Some.above.end) q (risen u).upper,
    )
