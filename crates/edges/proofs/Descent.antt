-- The point of an odd edge by corner records: down to the odd half while the edge is above the lowest level, and then its slot's number.
use Prim.Native.Nat.{ℕ, suc, ◌+◌, ◌*◌, ◌^◌, ◌≤◌, ◌<◌}
use mathlib.Core.Path.{◌≡◌, refl, sym, ap, ◌∙◌, subst}
use mathlib.Core.Bool.{Bool, true, false, not, ◌&&◌, cond}
use mathlib.Core.List.{List}
use native.Mathlib.Omega.{arith}
use lib.Dec.{T, eqb}
use lib.Ieee.{Float}
use lib.ListN.{length, get_or}
use borrow.Author.Tests.{lt-ltb}
use Rattle.base.specs.Grid.{Place, Axis, move, axis_of}
use Rattle.base.proofs.Tests.{→true, true→}
use Rattle.rules.specs.Survey.{cells_of, corners_of, wet_at, Survey}
use Rattle.rules.specs.Edges.{CellEdge, edge, is_edge, odd, carrier, number_of, point_of}
use Rattle.rules.specs.Outputs.{accepted, survey_of}
use Rattle.records.specs.Keys.{places_of}
use Rattle.records.proofs.Keys.{length-places}
use Rattle.octree.proofs.Halves.{one-odd_half}
use Rattle.edges.specs.Tables.{place_at, lowest_level, crossed_at, crossed_slot, slots_below, slot_edge, lowest_at, Levelled, Wets}
use Rattle.edges.specs.Tables.{OddEdge, UpperEnd, CarrierSlot}
use Rattle.edges.proofs.Levels.{edge→levels, carrier-here, carrier_below, halves_below}
use Rattle.edges.proofs.Points.{slot_is, edge-is, slot-number}
use Rattle.edges.proofs.Readings.{edges_law, few-places, lowest_read, odd_read}

crossed-here : (s : Survey) (a : Axis) (p : Place) (l : ℕ) → l ≡ lowest_level s a p → l ≤ 10 → T (odd s.is_wet a p l) → crossed_at s a p ≡ true
unfolding crossed_at
crossed-here s a p l e h t =
    rw (lt-ltb (lowest_level s a p) 11 (omega arith)) (ap (odd s.is_wet a p) (sym e) ∙ true→ (odd s.is_wet a p l) t)

pub point-is : (s : Survey) (e : CellEdge) → point_of s e ≡ number_of s (carrier s e.axis e.low e.level)
unfolding point_of
point-is s e = refl

module _ (tc tk : List ℕ) (clearance : Float) (ok : accepted tc tk clearance ≡ true) (slots : List ℕ) (known : Levelled tc tk slots) (n : ℕ) (g : n < 3) where
  abbrev s : Survey
  s = survey_of tc tk clearance

  abbrev a : Axis
  a = axis_of n

  abbrev at : ℕ → Place
  at k = place_at (places_of tk) k

  odd-level : (k l : ℕ) → OddEdge tc tk clearance (axis_of n) k l → l ≤ 10
  unfolding survey_of
  odd-level k l o = (edges_law tc tk clearance ok).shallow a (at k) l o.is_edge_lem

  -- an edge above the lowest level at its record: both halves are edges
  module _ (k m l : ℕ) (q : m ≡ suc l) (o : OddEdge tc tk clearance (axis_of n) k m) (d : lowest_at slots (4872 * n + k) < m) where
    whole : T (is_edge (cells_of tc) a (at k) (suc l))
    whole = subst (λ (j : ℕ). T (is_edge (cells_of tc) a (at k) j)) q o.is_edge_lem

    above-lowest : lowest_level (survey_of tc tk clearance) (axis_of n) (place_at (places_of tk) k) ≤ l
    above-lowest = omega (arith, lowest_read tc tk clearance ok slots known n k (4872 * n + k) refl g o.inside)

    both : T (is_edge (cells_of tc) a (at k) l) × T (is_edge (cells_of tc) a (move a (2 ^ l) (at k)) l)
    unfolding survey_of
    both = halves_below s (edges_law tc tk clearance ok) a (at k) l whole above-lowest

    pub lower_half : T (is_edge (cells_of tc) (axis_of n) (place_at (places_of tk) k) l)
    lower_half = both.0

    split_at : carrier (survey_of tc tk clearance) a (at k) m ≡
        cond (odd (wet_at (corners_of tk) clearance) a (at k) l) (carrier (survey_of tc tk clearance) a (at k) l)
        (carrier (survey_of tc tk clearance) a (move a (2 ^ l) (at k)) l)
    unfolding survey_of
    split_at = ap (carrier s a (at k)) q ∙ carrier_below s (edges_law tc tk clearance ok) a (at k) l whole above-lowest

    upper-odd : odd (wet_at (corners_of tk) clearance) a (move a (2 ^ l) (at k)) l ≡ not (odd (wet_at (corners_of tk) clearance) a (at k) l)
    upper-odd =
        one-odd_half (wet_at (corners_of tk) clearance) a (at k) l (subst (λ (j : ℕ). T (odd (wet_at (corners_of tk) clearance) a (at k) j)) q o.is_odd)

    -- one step down, by the marks at the edge's start and at its middle
    pub down : (wets : List ℕ) → Wets tk clearance wets → (w r : ℕ) → UpperEnd tk (axis_of n) k l w →
        r ≡ cond (not (eqb (get_or wets k 0) (get_or wets w 0))) k w →
        OddEdge tc tk clearance (axis_of n) r l ×
        (carrier (survey_of tc tk clearance) (axis_of n) (place_at (places_of tk) r) l ≡ carrier (survey_of tc tk clearance) (axis_of n) (place_at (places_of tk) k) m)
    down wets t w r u e =
        go (odd (wet_at (corners_of tk) clearance) a (at k) l) refl (e ∙ ap (λ b. cond b k w) (odd_read tk clearance wets t a k w l o.inside u))
        split_at upper-odd
      where
        go : (t : Bool) → odd (wet_at (corners_of tk) clearance) a (at k) l ≡ t → r ≡ cond t k w →
            carrier (survey_of tc tk clearance) a (at k) m ≡ cond t (carrier (survey_of tc tk clearance) a (at k) l)
            (carrier (survey_of tc tk clearance) a (move a (2 ^ l) (at k)) l) →
            odd (wet_at (corners_of tk) clearance) a (move a (2 ^ l) (at k)) l ≡ not t →
            OddEdge tc tk clearance (axis_of n) r l × (carrier (survey_of tc tk clearance) a (at r) l ≡ carrier (survey_of tc tk clearance) a (at k) m)
        go true t e c v =
            subst (λ (j : ℕ). OddEdge tc tk clearance (axis_of n) j l × (carrier (survey_of tc tk clearance) a (at j) l ≡ carrier (survey_of tc tk clearance) a
            (at k) m)) (sym e)
            (record { inside = o.inside; is_edge_lem = both.0; is_odd = →true t }, sym c)
        go false t e c v =
            let p : at r ≡ move a (2 ^ l) (at k) = ap at e ∙ u.place in (
              record {
                inside = omega (arith, u.inside, e);
                is_edge_lem = subst (λ (x : Place). T (is_edge (cells_of tc) a x l)) (sym p) both.1;
                is_odd = →true (ap (λ (x : Place). odd (wet_at (corners_of tk) clearance) a x l) p ∙ v);
              },
              ap (λ (x : Place). carrier (survey_of tc tk clearance) a x l) p ∙ sym c,
            )

  -- at the lowest level the slot has the number
  module _ (k l : ℕ) (o : OddEdge tc tk clearance (axis_of n) k l) (h : l ≤ lowest_at slots (4872 * n + k)) where
    at_lowest : l ≡ lowest_level (survey_of tc tk clearance) (axis_of n) (place_at (places_of tk) k)
    unfolding survey_of
    at_lowest =
        let r = lowest_read tc tk clearance ok slots known n k (4872 * n + k) refl g o.inside in
        let e = (edge→levels s (edges_law tc tk clearance ok) a (at k) l o.is_edge_lem).0 in
        omega arith

    crossed-slot : crossed_slot (survey_of tc tk clearance) (4872 * n + k) ≡ true
    unfolding survey_of
    crossed-slot =
        let few = few-places tc tk clearance ok in
        let i = o.inside in
        slot_is s n k (4872 * n + k) refl (omega (arith, length-places tk)) ∙
        (λ j. lt-ltb k (length (places_of tk)) (omega (arith, length-places tk)) j && crossed-here s a (at k) l at_lowest (odd-level k l o) o.is_odd j)

    edge_here : slot_edge (survey_of tc tk clearance) (4872 * n + k) ≡ carrier (survey_of tc tk clearance) (axis_of n) (place_at (places_of tk) k) l
    unfolding survey_of
    edge_here =
        let few = few-places tc tk clearance ok in
        let i = o.inside in
        edge-is s n k (4872 * n + k) refl (omega (arith, length-places tk)) ∙ ap (edge a (at k)) (sym at_lowest) ∙
        sym (carrier-here s (edges_law tc tk clearance ok) a (at k) l o.is_edge_lem (omega (arith, at_lowest)))

  -- the slot at the end of the way down
  pub slot-found : (k l k₀ l₀ : ℕ) → OddEdge tc tk clearance (axis_of n) k l → l ≤ lowest_at slots (4872 * n + k) →
      carrier (survey_of tc tk clearance) (axis_of n) (place_at (places_of tk) k) l ≡ carrier (survey_of tc tk clearance) (axis_of n) (place_at (places_of tk) k₀) l₀ →
      CarrierSlot (survey_of tc tk clearance) (axis_of n) (place_at (places_of tk) k₀) l₀ (4872 * n + k)
  unfolding survey_of
  slot-found k l k₀ l₀ o h e =
      let few = few-places tc tk clearance ok in
      let i = o.inside in
      record { inside = omega (arith, length-places tk); crossed = →true (crossed-slot k l o h); carries = edge_here k l o h ∙ e }

-- the number of the point that the slot carries
module _ (tc tk : List ℕ) (clearance : Float) (ok : accepted tc tk clearance ≡ true) (a : Axis) (p : Place) (l i : ℕ)
    (c : CarrierSlot (survey_of tc tk clearance) a p l i) where
  pub slot-numbers : length (slots_below (survey_of tc tk clearance) i) ≡ number_of (survey_of tc tk clearance) (carrier (survey_of tc tk clearance) a p l)
  slot-numbers =
      sym (slot-number (survey_of tc tk clearance) (edges_law tc tk clearance ok) (few-places tc tk clearance ok) i c.inside
      (true→ (crossed_slot (survey_of tc tk clearance) i) c.crossed)) ∙ ap (number_of (survey_of tc tk clearance)) c.carries

  pub slot-point_of : length (slots_below (survey_of tc tk clearance) i) ≡ point_of (survey_of tc tk clearance) (edge a p l)
  slot-point_of = slot-numbers ∙ sym (point-is (survey_of tc tk clearance) (edge a p l))
