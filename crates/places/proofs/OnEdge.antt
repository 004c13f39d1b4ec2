-- In an accepted survey every edge has two listed corners as its ends, within the box. So what request 2 of document 02 says of places holds of every odd edge,
-- and the place of every point lies on the edge that carries it.
-- Assumes nothing.
use Prim.Native.Nat.{ℕ}
use mathlib.Core.Path.{sym, subst}
use mathlib.Core.List.{List}
use native.Mathlib.Omega.{arith}
use lib.Dec.{T}
use lib.Ieee.{Float, binary32, fits}
use lib.Ieee.Bits.{of_bits-fits}
use Rattle.base.specs.Lists.{any, count, little, bytes}
use Rattle.base.specs.Grid.{Place, same}
use Rattle.base.proofs.Lists.{In, in_map}
use Rattle.rules.specs.Survey.{record_count, record_bytes, corner_record, corners_of, corner_at, Survey}
use Rattle.rules.specs.Edges.{CellEdge, upper_end, is_edge, spot_on, OnEdge}
use Rattle.rules.specs.Outputs.{in_range, survey_of, accepted}
use Rattle.rules.specs.Closing.{Carries, is_odd}
use Rattle.rules.specs.AwashPlaces.{dry_corner, wet_corner, PlaceByEnds, PlacesByEnds}
use Rattle.rules.specs.declared.Corner.{Corner}
use Rattle.octree.specs.Lawful.{Lawful}
use Rattle.octree.proofs.Accepted.{soundings_checked, accepted→, lawful}
use Rattle.octree.proofs.Corners.{at_listed}
use Rattle.octree.proofs.Edges.{lower_end, upper_end_lem, undivided→, crossed→}
use Rattle.octree.proofs.Aligned.{edge_in_box}
use Rattle.octree.proofs.Points.{carried-crossed}
use Rattle.places.proofs.Bound.{Sounding}
use Rattle.places.proofs.Spots.{placed}

-- both ends of an edge are listed
pub ends-listed : (s : Survey) → Lawful s → (e : CellEdge) → T (is_edge s.cells e.axis e.low e.level)
    → T (any (same e.low) s.places) × T (any (same (upper_end e)) s.places)
ends-listed s law e t = (lower_end s law e.axis e.low e.level t, upper_end_lem s law e.axis e.low e.level t)

record-fits : (t : List ℕ) (k : ℕ) → T (fits binary32 (corner_record t k).sounding)
unfolding corner_record
record-fits t k = of_bits-fits binary32 (little (bytes (record_bytes t k) 6 4))

sounding_in : (t : List ℕ) → ((c : Corner) → In c (corners_of t) → T (in_range c.sounding)) → (c : Corner) → In c (corners_of t) → Sounding c.sounding
unfolding corners_of
sounding_in t h c i =
    let (k, j, e) = in_map (corner_record t) (count 0 (record_count t)) c i in
    record { in_range_lem = h c i; holds = subst (λ x. T (fits binary32 x.sounding)) (sym e) (record-fits t k) }

module _ (tc tk : List ℕ) (clearance : Float) (ok : T (accepted tc tk clearance)) where
  -- the corner at a listed place has a sounding in range
  sounded : (q : Place) → T (any (same q) (survey_of tc tk clearance).places) → Sounding (corner_at (corners_of tk) q).sounding
  unfolding survey_of
  sounded q t =
      at_listed (λ c. Sounding c.sounding) (corners_of tk) q (sounding_in tk (soundings_checked tc tk (accepted→ tc tk clearance ok).0)) t

  odd-placed : (e : CellEdge) → T (is_edge (survey_of tc tk clearance).cells e.axis e.low e.level) → T (is_odd (survey_of tc tk clearance) e)
      → PlaceByEnds clearance e (dry_corner (corners_of tk) clearance e) (wet_corner (corners_of tk) clearance e) (spot_on (corners_of tk) clearance e)
  unfolding survey_of
  odd-placed e t o =
      let s = survey_of tc tk clearance in
      let law : Lawful s = lawful tc tk clearance ok in
      let (lower, upper) = ends-listed s law e t in
      let inBox = edge_in_box s.cells law.octree e.axis e.low e.level t in
      placed (corners_of tk) clearance e (omega arith) (accepted→ tc tk clearance ok).1 (sounded e.low lower) (sounded (upper_end e) upper) o

  -- the place of the point that an edge carries never leaves the edge
  pub on_edge : (e : CellEdge) (p : ℕ) → Carries (survey_of tc tk clearance) e p → OnEdge e (spot_on (corners_of tk) clearance e)
  on_edge e p carries =
      let s = survey_of tc tk clearance in
      let (u, odd) = crossed→ s e.axis e.low e.level (carried-crossed s e p carries) in
      (odd-placed e (undivided→ s.cells e.axis e.low e.level u).0 odd).stays

-- request 2 of document 02, of places
pub places-by-ends : PlacesByEnds
unfolding PlacesByEnds survey_of
places-by-ends tc tk clearance e ok = odd-placed tc tk clearance ok e
