-- A point by its slot: the odd edge that carries it.
use Prim.Native.Nat.{ℕ, ◌/◌, ◌%◌, ◌≤◌, ◌<◌}
use mathlib.Core.Path.{◌≡◌, refl, sym, ap, ◌∙◌, subst}
use mathlib.Core.Logic.{◌⊎◌, inl, inr}
use mathlib.Core.Bool.{true}
use mathlib.Core.List.{List}
use native.Mathlib.Omega.{arith}
use lib.Dec.{T}
use lib.Ieee.{Float}
use lib.ListN.{length, get_or}
use Rattle.base.specs.Grid.{origin, X, axis_of}
use Rattle.base.proofs.Tests.{below}
use Rattle.base.proofs.Lists.{get_any}
use Rattle.rules.specs.Survey.{record_count, Survey}
use Rattle.rules.specs.Edges.{CellEdge, edge, point_edges}
use Rattle.rules.specs.Outputs.{accepted, survey_of}
use Rattle.edges.specs.Tables.{place_at, lowest_level, crossed_slot, slots_below, slot_edge, lowest_at, far_at, Levelled, Carriers, OddEdge, UpperEnd}
use Rattle.edges.proofs.Points.{edge_of_lem, point-edge, point-count, below_in}
use Rattle.edges.proofs.Readings.{edges_law, few-places, crossed-inside, empty, low-edge, crossed-odd, far_read}
use Rattle.edges.proofs.Numbering.{below_le}

pub slot-edge : (s : Survey) (i : ℕ) →
    slot_edge s i ≡ edge (axis_of (i / 4872)) (place_at s.places (i % 4872)) (lowest_level s (axis_of (i / 4872)) (place_at s.places (i % 4872)))
unfolding slot_edge
slot-edge s i = refl

module _ (tc tk : List ℕ) (clearance : Float) (ok : accepted tc tk clearance ≡ true) where
  pub points_slots : length (point_edges (survey_of tc tk clearance)) ≡ length (slots_below (survey_of tc tk clearance) 14616)
  points_slots = sym (point-count (survey_of tc tk clearance) (edges_law tc tk clearance ok) (few-places tc tk clearance ok))

  pub points-few : length (point_edges (survey_of tc tk clearance)) ≤ 14616
  points-few = omega (arith, points_slots, below_le (survey_of tc tk clearance) 14616)

  -- the slot of point v
  module _ (carriers : List ℕ) (at : Carriers (survey_of tc tk clearance) carriers) (v : ℕ) (h : v < length (slots_below (survey_of tc tk clearance) 14616)) where
    pub slot-inside : get_or carriers v 0 < 14616
    slot-inside = omega (arith, at.entry v h, (below_in (survey_of tc tk clearance) 14616 v h).0)

    pub slot-crossed : T (crossed_slot (survey_of tc tk clearance) (get_or carriers v 0))
    slot-crossed = subst (λ i. T (crossed_slot (survey_of tc tk clearance) i)) (sym (at.entry v h)) (below_in (survey_of tc tk clearance) 14616 v h).1

    pub point-edge-is : (d : CellEdge) → get_or (point_edges (survey_of tc tk clearance)) v d ≡ slot_edge (survey_of tc tk clearance) (get_or carriers v 0)
    point-edge-is d =
        let s : Survey = survey_of tc tk clearance in
        let n = points_slots in
        get_any (point_edges s) v d (edge X origin 0) (omega arith) ∙ sym (edge_of_lem s v) ∙
        point-edge s (edges_law tc tk clearance ok) (few-places tc tk clearance ok) v h ∙ ap (slot_edge s) (sym (at.entry v h))

  -- a crossed slot is that of an odd edge
  module _ (slots : List ℕ) (known : Levelled tc tk slots) (i : ℕ) (h : i < 14616) (t : T (crossed_slot (survey_of tc tk clearance) i)) where
    inside : i % 4872 < record_count tk
    inside = crossed-inside tc tk clearance i t

    level-low : lowest_at slots i ≤ 10
    level-low = go (below 10 (lowest_at slots i))
      where
        go : (10 < lowest_at slots i) ⊎ (lowest_at slots i ≤ 10) → lowest_at slots i ≤ 10
        go (inl g) = absurd (subst T (empty tc tk clearance ok slots known i h inside g) t)
        go (inr g) = g

    pub slot-odd-edge : OddEdge tc tk clearance (axis_of (i / 4872)) (i % 4872) (lowest_at slots i)
    slot-odd-edge = record {
      inside = inside;
      is_edge_lem = low-edge tc tk clearance ok slots known i h inside level-low;
      is_odd = subst T (crossed-odd tc tk clearance ok slots known i h inside level-low) t;
    }

    pub slot-far_end : UpperEnd tk (axis_of (i / 4872)) (i % 4872) (lowest_at slots i) (far_at slots i)
    slot-far_end = far_read tc tk slots known (i / 4872) (i % 4872) i (omega arith) (omega arith) inside level-low
