-- The place that the enquiry answers never leaves the edge asked about, nor the undivided edge that carries the point.
-- Assumes nothing.
use Prim.Native.Nat.{ℕ}
use mathlib.Core.Path.{◌≡◌, refl, sym, subst}
use mathlib.Core.Bool.{Bool, true, false, cond}
use mathlib.Core.List.{List, [], ◌∷◌, ◌++◌}
use native.Mathlib.Omega.{arith}
use lib.Dec.{T, eqb, eqb→eq}
use lib.Ieee.{Float}
use Rattle.base.specs.Grid.{Place, Axis, axis_of}
use Rattle.base.proofs.Tests.{→true, true→}
use Rattle.rules.specs.Survey.{cells_of, corners_of, wet_at, Survey}
use Rattle.rules.specs.Edges.{CellEdge, edge, is_edge, odd, number_of, carrier, spot_on, OnEdge}
use Rattle.rules.specs.WhichEnd.{wet_end}
use Rattle.rules.specs.declared.End.{End}
use Rattle.rules.specs.Outputs.{first_of, checks, accepted, survey_of, level_of, asked, refused, even, crossing, enquiry, StaysOn}
use Rattle.octree.specs.Lawful.{Lawful}
use Rattle.octree.proofs.Accepted.{lawful}
use Rattle.octree.proofs.Aligned.{edge_in_box}
use Rattle.octree.proofs.Halves.{carrier-crossed}
use Rattle.octree.proofs.Points.{crossed-carries}
use Rattle.geometry.proofs.Trees.{carrier_below}
use Rattle.places.proofs.Bound.{on_whole}
use Rattle.places.proofs.OnEdge.{on_edge}
use Rattle.enquiry.proofs.Enquiring.{last, enquiry-is, enquiry-passed}

module _ (tc tk : List ℕ) (clearance : Float) where
  -- of an odd edge in an accepted survey
  odd-stays : T (accepted tc tk clearance) → (a : Axis) (p : Place) (l : ℕ) → T (is_edge (cells_of tc) a p l) → T (odd (wet_at (corners_of tk) clearance) a p l) →
      let e = carrier (survey_of tc tk clearance) a p l in
      OnEdge (edge a p l) (spot_on (corners_of tk) clearance e) × OnEdge e (spot_on (corners_of tk) clearance e)
  unfolding survey_of
  odd-stays ok a p l t o =
      let s = survey_of tc tk clearance in
      let law : Lawful s = lawful tc tk clearance ok in
      let e = carrier s a p l in
      let on = on_edge tc tk clearance ok e (number_of s e) (crossed-carries s law e (carrier-crossed s law.octree a p l t o)) in
      let below = carrier_below s law a l p (true→ (is_edge (cells_of tc) a p l) t) (true→ (odd (wet_at (corners_of tk) clearance) a p l) o) in
      let turned : e ≡ edge a e.low e.level = λ i. record { axis = below.axis i; low = e.low; level = e.level } in (
        on_whole a p l e.low e.level (record { from = below.from; to = below.to; first = below.first; second = below.second })
            (omega (arith, edge_in_box (cells_of tc) law.octree a p l t)) (spot_on (corners_of tk) clearance e)
            (subst (λ f. OnEdge f (spot_on (corners_of tk) clearance e)) turned on),
        on,
      )

  module _ (axis : ℕ) (p : Place) (size : ℕ) where
    abbrev s : Survey
    s = survey_of tc tk clearance

    abbrev e : CellEdge
    e = carrier s (axis_of axis) p (level_of size)

    abbrev is_odd : Bool
    is_odd = odd (wet_at (corners_of tk) clearance) (axis_of axis) p (level_of size)

    abbrev number : ℕ
    number = first_of (checks tc tk clearance ++ (11, last tc tk clearance axis p size) ∷ [])

    abbrev end : End
    end = wet_end (wet_at (corners_of tk) clearance) (asked axis p size)

    pub enquiry-stays : StaysOn (survey_of tc tk clearance) (asked axis p size) (enquiry tc tk clearance axis p size)
    enquiry-stays = subst (StaysOn s (asked axis p size)) (sym (enquiry-is tc tk clearance axis p size)) (go (eqb number 0) refl is_odd refl)
      where
        go : (b : Bool) → eqb number 0 ≡ b → (o : Bool) → is_odd ≡ o →
            StaysOn s (asked axis p size) (cond b (cond o (crossing (number_of s e) (spot_on (corners_of tk) clearance e) end) even) (refused number))
        go false h o k = record { on_asked = tt; on_carrier = tt }
        go true h false k = record { on_asked = tt; on_carrier = tt }
        go true h true k =
            let (ok, t) = enquiry-passed tc tk clearance axis p size (eqb→eq number 0 (→true h)) in
            let (whole, part) = odd-stays ok (axis_of axis) p (level_of size) t (→true k) in
            record { on_asked = whole; on_carrier = part }
