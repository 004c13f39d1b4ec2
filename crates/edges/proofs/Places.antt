-- Places of points by corner records.
use Prim.Native.Nat.{ℕ, ◌/◌, ◌%◌, ◌^◌, ◌<◌}
use mathlib.Core.Path.{◌≡◌, sym, ap, ◌∙◌}
use mathlib.Core.Bool.{true}
use mathlib.Core.List.{List}
use native.Mathlib.Omega.{arith}
use lib.Dec.{T}
use lib.Ieee.{Float}
use Rattle.base.specs.Grid.{Axis, axis_of}
use Rattle.rules.specs.Survey.{record_count, corner_record, corners_of, place_of, corner_at}
use Rattle.rules.specs.Edges.{edge, spot_on}
use Rattle.rules.specs.Outputs.{rising, accepted, survey_of}
use Rattle.places.specs.Places.{spot_between}
use Rattle.places.proofs.Reckoned.{spot_on_lem}
use Rattle.records.specs.Keys.{key_of, places_of, record_at}
use Rattle.records.proofs.Keys.{Bytes, record_short, get_place}
use Rattle.records.proofs.Found.{corner-found}
use Rattle.edges.specs.Tables.{place_at, slot_edge, crossed_slot, lowest_at, Levelled, UpperEnd}
use Rattle.edges.proofs.Find.{found_self}
use Rattle.edges.proofs.Readings.{lowest_read}
use Rattle.edges.proofs.PointSlots.{slot-edge, slot-odd-edge}

-- the corner at a record's place is the record
pub record-corner : (t : List ℕ) → Bytes t → rising (places_of t) ≡ true → (k : ℕ) → k < record_count t → corner_record t k ≡ corner_at (corners_of t)
    (place_at (places_of t) k)
record-corner t b up k h =
    let p = place_of (corner_record t k) in
    let e : record_at t (key_of p) ≡ k = found_self t b up k h in
    sym (ap (corner_at (corners_of t)) (get_place t k h) ∙ corner-found t b p (record_short t b k h) (omega arith) ∙ ap (corner_record t) e)

-- the place between two records that are the ends of an edge
pub spot_read : (t : List ℕ) → Bytes t → rising (places_of t) ≡ true → (clearance : Float) (a : Axis) (k m l : ℕ) → k < record_count t → UpperEnd t a k l m →
    spot_between clearance a (2 ^ l) (corner_record t k) (corner_record t m) ≡ spot_on (corners_of t) clearance (edge a (place_at (places_of t) k) l)
spot_read t b up clearance a k m l h u =
    (λ i. spot_between clearance a (2 ^ l) (record-corner t b up k h i) ((record-corner t b up m u.inside ∙ ap (corner_at (corners_of t)) u.place) i)) ∙
    spot_on_lem (corners_of t) clearance (edge a (place_at (places_of t) k) l)

-- the edge of a slot, as the tables have it
pub slot-edge_read : (tc tk : List ℕ) (clearance : Float) (ok : accepted tc tk clearance ≡ true) (slots : List ℕ) → Levelled tc tk slots → (i : ℕ) → i < 14616 →
    T (crossed_slot (survey_of tc tk clearance) i) →
    edge (axis_of (i / 4872)) (place_at (places_of tk) (i % 4872)) (lowest_at slots i) ≡ slot_edge (survey_of tc tk clearance) i
unfolding survey_of
slot-edge_read tc tk clearance ok slots known i h t =
    ap (edge (axis_of (i / 4872)) (place_at (places_of tk) (i % 4872)))
    (lowest_read tc tk clearance ok slots known (i / 4872) (i % 4872) i (omega arith) (omega arith) (slot-odd-edge tc tk clearance ok slots known i h
    t).inside) ∙
    sym (slot-edge (survey_of tc tk clearance) i)
