-- `enquiry::answers::edge_answer` meets its contract: by cases: no cell has the edge, it is even, it is odd.
use Prim.Native.Nat.{◌<◌}
use mathlib.Core.Path.{◌≡◌, sym, ap, ◌∙◌, subst}
use mathlib.Core.Bool.{Bool, true, false, not}
use native.Mathlib.Omega.{arith}
use lib.Dec.{T, eqb}
use lib.ListN.{get_or}
use borrow.Author.Tests.{eq-eqb, ne_eqb}
use Rattle.base.specs.Grid.{Place, axis_of}
use Rattle.base.proofs.Tests.{→true}
use Rattle.rules.specs.Survey.{record_count, cells_of, corners_of, wet_at}
use Rattle.rules.specs.Edges.{is_edge, odd, spot_on}
use Rattle.places.specs.Places.{as_spot}
use Rattle.records.specs.Keys.{key_of, places_of, Short}
use Rattle.edges.specs.Tables.{place_at, OddEdge, CarrierSlot}
use Rattle.edges.specs.Surveyed.{surveyed}
use Rattle.edges.specs.declared.survey.Survey.{Survey}
use Rattle.edges.proofs.Descent.{slot-numbers}
use Rattle.edges.proofs.Numbering.{below_le}
use Rattle.edges.proofs.Readings.{no_refusal, odd_read}
use Rattle.enquiry.proofs.Enquiring.{placed, placed_short, placed-key, known, answer-none, answer-even, answer-crossing, wet_read}
use Rattle.enquiry.proofs.answers.edge_answer.Goals as goal
use Rattle.enquiry.proofs.answers.edge_answer.Goals.{After-upper_end-end, Else-start-corners, Else-lower-upper}

-- the edge is there
module _ (c : Else-start-corners) where
  abbrev s : Survey
  s = c.args.edges.now.survey

  inside : c.edge_record-start.result < record_count s.corners.now
  inside = omega arith

  here : (p : Place) → Short p → c.args.key ≡ key_of p →
      T (is_edge (cells_of s.cells.now) (axis_of c.args.axis) p c.args.level) × (place_at (places_of s.corners.now) c.edge_record-start.result ≡ p)
  here p w e = (c.edge_record-start.ensures p w e).found inside

  has_edge : T (is_edge (cells_of s.cells.now) (axis_of c.args.axis) (place_at (places_of s.corners.now) c.edge_record-start.result) c.args.level)
  has_edge =
      let key = c.args.key in
      let h = here (placed key) (placed_short key) (placed-key key) in
      subst (λ q. T (is_edge (cells_of s.cells.now) (axis_of c.args.axis) q c.args.level)) (sym h.1) h.0

-- its parity, by the marks at its ends
parity : (c : After-upper_end-end) (b : Bool) →
    not (eqb (get_or c.args.wets.now c.edge_record-start.result 0) (get_or c.args.wets.now c.upper_end-end.result 0)) ≡ b →
    odd (wet_at (corners_of c.args.edges.now.survey.corners.now) c.args.edges.now.survey.clearance) (axis_of c.args.axis)
    (place_at (places_of c.args.edges.now.survey.corners.now) c.edge_record-start.result) c.args.level ≡ b
parity c b d =
    let s = c.args.edges.now.survey in
    sym (odd_read s.corners.now s.clearance c.args.wets.now c.requires.wets (axis_of c.args.axis) _ _ c.args.level
    (inside (goal.at.After-upper_end-end c).Else-start-corners) c.upper_end-end.ensures) ∙ d

-- the edge is odd
module _ (c : Else-lower-upper) where
  abbrev lent : Survey
  lent = c.args.edges.now.survey

  is_odd : odd (wet_at (corners_of lent.corners.now) lent.clearance) (axis_of c.args.axis)
      (place_at (places_of lent.corners.now) c.edge_record-start.result) c.args.level ≡ true
  is_odd = parity (goal.at.Else-lower-upper c).After-upper_end-end true (ap not (ne_eqb _ _ c.if-lower-upper.false))

  odd-edge : OddEdge lent.cells.now lent.corners.now lent.clearance (axis_of c.args.axis) c.edge_record-start.result c.args.level
  odd-edge =
      let at = (goal.at.Else-lower-upper c).Else-start-corners in
      record { inside = inside at; is_edge_lem = has_edge at; is_odd = →true is_odd }

pub returns-then-start-corners : goal.returns-then-start-corners
returns-then-start-corners c =
    let s = c.args.edges.now.survey in
    λ p w e. answer-none s.cells.now s.corners.now s.clearance (axis_of c.args.axis) p c.args.level ((c.edge_record-start.ensures p w e).none (omega arith))

pub upper_end-end-requires-clause-corners_value : goal.upper_end-end-requires-clause-corners_value
upper_end-end-requires-clause-corners_value c =
    let s = c.args.edges.now.survey in
    no_refusal s.cells.now s.corners.now s.clearance s.accepted

pub upper_end-end-requires-clause-axis_bound : goal.upper_end-end-requires-clause-axis_bound
upper_end-end-requires-clause-axis_bound c =
    let at = (goal.at.upper_end-end-requires-clause-axis_bound c).Else-start-corners in
    (c.requires.axis_bound, inside at, has_edge at)

pub bounds-wets-start : goal.bounds-wets-start
bounds-wets-start c = omega (arith, c.requires.wets.size, (known c.args.edges.now.survey).few)

pub bounds-wets-end : goal.bounds-wets-end
bounds-wets-end c = omega (arith, c.upper_end-end.ensures.inside, c.requires.wets.size, (known c.args.edges.now.survey).few)

pub returns-then-lower-upper : goal.returns-then-lower-upper
returns-then-lower-upper c =
    let s = c.args.edges.now.survey in
    let a = axis_of c.args.axis in
    let known = goal.at.returns-then-lower-upper c in
    let even = parity known.After-upper_end-end false (ap not (eq-eqb _ _ c.if-lower-upper.true)) in
    λ p w e.
    let at = here known.Else-start-corners p w e in
    answer-even s.cells.now s.corners.now s.clearance a p c.args.level at.0
    (ap (λ q. odd (wet_at (corners_of s.corners.now) s.clearance) a q c.args.level) (sym at.1) ∙ even)

pub carrier_slot-slot-requires-clause-axis_bound : goal.carrier_slot-slot-requires-clause-axis_bound
carrier_slot-slot-requires-clause-axis_bound c = (c.requires.axis_bound, odd-edge c)

pub overflow_cast-n : goal.overflow_cast-n
overflow_cast-n c =
    let slot = c.carrier_slot-slot in
    omega (arith, c.count_crossed-n.ensures, below_le (surveyed c.args.edges.now.survey) slot.result, slot.ensures.inside)

pub returns : goal.returns
returns c =
    let slot = c.carrier_slot-slot in
    let s = c.args.edges.now.survey in
    let tc = s.cells.now in
    let tk = s.corners.now in
    let x = s.clearance in
    let a = axis_of c.args.axis in
    let l = c.args.level in
    let known = goal.at.returns c in
    λ p w e.
    let at = here known.Else-start-corners p w e in
    let carried = subst (λ q. CarrierSlot (surveyed s) a q l slot.result) at.1 slot.ensures in
    answer-crossing tc tk x a p l at.0 (ap (λ q. odd (wet_at (corners_of tk) x) a q l) (sym at.1) ∙ is_odd known.Else-lower-upper)
    c.count_crossed-n.result (c.count_crossed-n.ensures ∙ slot-numbers tc tk x s.accepted a p l slot.result carried)
    (as_spot c.slot_point-place.result) (c.slot_point-place.ensures ∙ ap (spot_on (corners_of tk) x) carried.carries)
    c.wet_end.result (c.wet_end.ensures ∙ wet_read tk x c.args.wets.now c.requires.wets a p l _ _ c.upper_end-end.ensures at.1)
