use Prim.Native.Nat.{◌≤◌, ◌<◌}
use mathlib.Core.Path.{refl, sym, ap, ◌∙◌}
use mathlib.Core.List.{List}
use native.Mathlib.Omega.{arith}
use lib.ListN.{length, get_or}
use lib.Seq.{take_all}
use Rattle.base.specs.Grid.{X, origin}
use Rattle.rules.specs.Survey.{corners_of}
use Rattle.rules.specs.Edges.{CellEdge, edge, Spot, spot_on, point_edges}
use Rattle.rules.specs.Outputs.{survey_of, written}
use Rattle.places.specs.Places.{as_spot, with_spot}
use Rattle.places.proofs.Stored.{floats, stored_length, written-turn, written-points}
use Rattle.edges.specs.Tables.{slots_below, slot_edge}
use Rattle.edges.proofs.PointSlots.{slot-inside, slot-crossed, point-edge-is, points-few, points_slots}
use Rattle.edges.proofs.survey.Edges.write_points.Goals as goal
use Rattle.edges.proofs.survey.Edges.write_points.Goals.{In-loop-v, Start}

few : (s : Start) → s.args.n ≤ 14616
few s = omega (
  arith,
  points-few s.args.self.now.survey.cells.now s.args.self.now.survey.corners.now s.args.self.now.survey.clearance s.args.self.now.survey.accepted,
  s.requires.n_value.0,
)

-- the slot of the point at hand
module _ (c : In-loop-v) where
  point-inside : c.loop-v.v < length (slots_below (survey_of c.args.self.now.survey.cells.now c.args.self.now.survey.corners.now
      c.args.self.now.survey.clearance) 14616)
  point-inside = omega (
    arith,
    points_slots c.args.self.now.survey.cells.now c.args.self.now.survey.corners.now c.args.self.now.survey.clearance c.args.self.now.survey.accepted,
    c.requires.n_value.0,
  )

  slot-few : get_or c.args.carriers.now c.loop-v.v 0 < 14616
  slot-few =
      slot-inside c.args.self.now.survey.cells.now c.args.self.now.survey.corners.now c.args.self.now.survey.clearance c.args.self.now.survey.accepted c.args.carriers.now
      c.requires.carriers c.loop-v.v point-inside

pub loop-v-init : goal.loop-v-init
loop-v-init c = (refl, refl)

pub bounds-carriers-v : goal.bounds-carriers-v
bounds-carriers-v c = omega (arith, c.requires.carriers.size, few (goal.at.bounds-carriers-v c).Start)

pub slot_point-requires : goal.slot_point-requires
slot_point-requires c = rw c.from.ensures (
  slot-few (goal.at.slot_point-requires c).In-loop-v,
  slot-crossed c.args.self.now.survey.cells.now c.args.self.now.survey.corners.now c.args.self.now.survey.clearance c.args.self.now.survey.accepted c.args.carriers.now c.requires.carriers
      c.loop-v.v (point-inside (goal.at.slot_point-requires c).In-loop-v),
)

pub put_point-requires : goal.put_point-requires
put_point-requires c = omega (arith, c.requires.n_value.1)

pub loop-v-preserved : goal.loop-v-preserved
loop-v-preserved c =
    let tc = c.args.self.now.survey.cells.now in
    let tk = c.args.self.now.survey.corners.now in
    let x = c.args.self.now.survey.clearance in
    let last = c.requires.n_value in
    let f : CellEdge → Spot = spot_on (corners_of tk) x in
    let es : List CellEdge = point_edges (survey_of tc tk x) in
    let d : CellEdge = edge X origin 0 in
    let p = c.slot_point in
    let e = c.put_point.ensures in (
      ap length e ∙ stored_length c.loop-v.points c.loop-v.v (as_spot p.result) ∙ c.loop-v.invariant.0,
      e ∙ ap (with_spot c.loop-v.points c.loop-v.v) (p.ensures ∙ ap (λ i. f (slot_edge (survey_of tc tk x) i)) c.from.ensures ∙ ap f
          (sym (point-edge-is tc tk x c.args.self.now.survey.accepted c.args.carriers.now c.requires.carriers c.loop-v.v
          (point-inside (goal.at.loop-v-preserved c).In-loop-v) d))) ∙
          written-turn f es c.loop-v.v d c.args.points.now c.loop-v.points (omega (arith, last.0)) (omega (arith, last.0, last.1))
          c.loop-v.invariant.1,
    )

pub returns : goal.returns
returns c =
    let tc = c.args.self.now.survey.cells.now in
    let tk = c.args.self.now.survey.corners.now in
    let x = c.args.self.now.survey.clearance in
    let es : List CellEdge = point_edges (survey_of tc tk x) in
    written-points tc tk x c.args.points.now c.loop-v.points
    (c.loop-v.invariant.1 ∙ ap (λ (fs : List CellEdge). written (floats (spot_on (corners_of tk) x) fs) c.args.points.now)
    (take_all c.loop-v.v es (omega (arith, c.requires.n_value.0))))
