-- The twin of a point by its slot, as the end of a climb from there.
use Prim.Native.Nat.{ℕ, ◌/◌, ◌%◌, ◌<◌}
use mathlib.Core.Path.{◌≡◌, refl, sym, ap, ◌∙◌}
use mathlib.Core.Bool.{true}
use mathlib.Core.List.{List}
use native.Mathlib.Omega.{arith}
use lib.Ieee.{Float}
use lib.ListN.{length, get_or}
use Rattle.base.specs.Grid.{axis_of}
use Rattle.rules.specs.Survey.{Survey}
use Rattle.rules.specs.Edges.{CellEdge, edge}
use Rattle.rules.specs.Steps.{twin, edge_of, number_else, twin_of}
use Rattle.rules.specs.Outputs.{accepted, survey_of}
use Rattle.records.specs.Keys.{places_of}
use Rattle.edges.specs.Tables.{place_at, lowest_level, slots_below, slot_edge, lowest_at, Levelled, Carriers}
use Rattle.edges.proofs.Points.{point-edge}
use Rattle.edges.proofs.PointSlots.{slot-edge, slot-inside, slot-crossed, slot-odd-edge}
use Rattle.edges.proofs.Readings.{edges_law, few-places, lowest_read}

twin_def : (s : Survey) (v : ℕ) → twin_of s v ≡ number_else s v (twin s 10 (edge_of s v).axis (edge_of s v).low (edge_of s v).level)
unfolding twin_of
twin_def s v = refl

-- the slot of point v
module _ (tc tk : List ℕ) (clearance : Float) (ok : accepted tc tk clearance ≡ true) (slots : List ℕ) (known : Levelled tc tk slots) (carriers : List ℕ)
    (at : Carriers (survey_of tc tk clearance) carriers) (v : ℕ) (h : v < length (slots_below (survey_of tc tk clearance) 14616)) where
  -- the level and the place as the tables have them
  level-here : lowest_level (survey_of tc tk clearance) (axis_of (get_or carriers v 0 / 4872)) (place_at (survey_of tc tk clearance).places
      (get_or carriers v 0 % 4872)) ≡ lowest_at slots (get_or carriers v 0)
  unfolding survey_of
  level-here =
      let i = get_or carriers v 0 in
      let g = slot-inside tc tk clearance ok carriers at v h in
      sym (lowest_read tc tk clearance ok slots known (i / 4872) (i % 4872) i (omega arith) (omega arith)
      (slot-odd-edge tc tk clearance ok slots known i g (slot-crossed tc tk clearance ok carriers at v h)).inside)

  place_here : place_at (survey_of tc tk clearance).places (get_or carriers v 0 % 4872) ≡ place_at (places_of tk) (get_or carriers v 0 % 4872)
  unfolding survey_of
  place_here = refl

  pub twin-is : number_else (survey_of tc tk clearance) v
      (twin (survey_of tc tk clearance) 10 (axis_of (get_or carriers v 0 / 4872)) (place_at (places_of tk) (get_or carriers v 0 % 4872))
      (lowest_at slots (get_or carriers v 0))) ≡
      twin_of (survey_of tc tk clearance) v
  twin-is =
      let s : Survey = survey_of tc tk clearance in
      let i = get_or carriers v 0 in
      let e : edge_of s v ≡ edge (axis_of (i / 4872)) (place_at s.places (i % 4872)) (lowest_level s (axis_of (i / 4872)) (place_at s.places (i % 4872))) =
      point-edge s (edges_law tc tk clearance ok) (few-places tc tk clearance ok) v h ∙ ap (slot_edge s) (sym (at.entry v h)) ∙ slot-edge s i in
      sym (twin_def s v ∙ ap (λ (x : CellEdge). number_else s v (twin s 10 x.axis x.low x.level)) e ∙
      (λ j. number_else s v (twin s 10 (axis_of (i / 4872)) (place_here j) (level-here j))))
