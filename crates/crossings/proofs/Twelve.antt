-- The points of a cell's twelve edges, by the corner records at their ends.
use Prim.Native.Nat.{ℕ, ◌/◌, ◌<◌}
use mathlib.Core.Path.{◌≡◌, sym, ap, ◌∙◌, subst}
use mathlib.Core.Bool.{true, false, not, cond}
use mathlib.Core.List.{List}
use lib.Dec.{T, eqb}
use lib.ListN.{length, get_or}
use lib.Ieee.{Float}
use borrow.Author.Tests.{eq-eqb, ne_eqb}
use Rattle.base.specs.Grid.{Place, origin, X, axis_of, move}
use Rattle.base.proofs.Tests.{→true}
use Rattle.base.proofs.Lists.{in_get, collect_in}
use Rattle.rules.specs.Survey.{cell, size, cells_of, corners_of, wet_at}
use Rattle.rules.specs.Edges.{CellEdge, edge, is_edge, odd, point_of}
use Rattle.rules.specs.Outputs.{accepted, survey_of}
use Rattle.records.specs.Keys.{places_of}
use Rattle.cells.specs.Laid.{cell_at}
use Rattle.octants.specs.Octants.{Octant}
use Rattle.edges.specs.Tables.{cell_edges, starts, ends, edges_of, place_at, UpperEnd, Wets, OddEdge}
use Rattle.edges.proofs.CellEdges.{starting, ending}
use Rattle.edges.proofs.Starts.{listed→edge}
use Rattle.edges.proofs.Readings.{no_refusal, odd_read}
use Rattle.edges.proofs.Surveyed.{record-inside}
use Rattle.crossings.specs.Crossings.{edge_at, crossing_of}

-- ---- an edge of a survey

pub is_edge_lem : (tc tk : List ℕ) (clearance : Float) → accepted tc tk clearance ≡ true → (n : ℕ) → n < length tc / 4 → (e : ℕ) → e < 12
    → let d = edge_at (cell_at tc n) e in T (is_edge (cells_of tc) d.axis d.low d.level)
unfolding edges_of
is_edge_lem tc tk clearance ok n h e g =
    let c = cell_at tc n in
    let inside = record-inside tc tk (no_refusal tc tk clearance ok) n h in
    listed→edge (cells_of tc) (edge_at c e)
    (collect_in cell_edges (cells_of tc) (edge_at c e) c (in_get (cells_of tc) n (cell origin 10 false) inside) (in_get (cell_edges c) e (edge X origin 0) g))

-- edge e of the cell of record n is between these two corner records
pub record Between (tc tk : List ℕ) (n e start end : ℕ) : Type 0 where
  pub inside : n < length tc / 4
  pub few : e < 12
  pub low : Octant tc tk n (get_or starts e 0) start
  pub high : Octant tc tk n (get_or ends e 0) end

module _ {tc tk : List ℕ} {n e start end : ℕ} (b : Between tc tk n e start end) where
  low-is : edge (axis_of (e / 4)) (place_at (places_of tk) start) (cell_at tc n).level ≡ edge_at (cell_at tc n) e
  low-is = ap (λ (p : Place). edge (axis_of (e / 4)) p (cell_at tc n).level) b.low.place ∙ sym (starting e b.few (cell_at tc n))

  upper_end_lem : UpperEnd tk (axis_of (e / 4)) start (cell_at tc n).level end
  upper_end_lem = record {
    inside = b.high.number;
    place = b.high.place ∙ ending e b.few (cell_at tc n) ∙ ap (move (axis_of (e / 4)) (size (cell_at tc n))) (sym b.low.place);
  }

  module _ {clearance : Float} {wets : List ℕ} (w : Wets tk clearance wets) where
    marks-odd : not (eqb (get_or wets start 0) (get_or wets end 0)) ≡
        odd (wet_at (corners_of tk) clearance) (axis_of (e / 4)) (place_at (places_of tk) start) (cell_at tc n).level
    marks-odd = odd_read tk clearance wets w (axis_of (e / 4)) start end (cell_at tc n).level b.low.number upper_end_lem

    -- the crossing by the two marks
    by-marks : cond (not (eqb (get_or wets start 0) (get_or wets end 0)))
        (point_of (survey_of tc tk clearance) (edge (axis_of (e / 4)) (place_at (places_of tk) start) (cell_at tc n).level)) 65535
        ≡ crossing_of (survey_of tc tk clearance) (edge_at (cell_at tc n) e)
    unfolding crossing_of survey_of
    by-marks =
        let s = survey_of tc tk clearance in
        ap (λ b. cond b (point_of s (edge (axis_of (e / 4)) (place_at (places_of tk) start) (cell_at tc n).level)) 65535) marks-odd ∙ ap (crossing_of s) low-is

    pub even-crossing : get_or wets start 0 ≡ get_or wets end 0 → 65535 ≡ crossing_of (survey_of tc tk clearance) (edge_at (cell_at tc n) e)
    even-crossing q = rw (eq-eqb (get_or wets start 0) (get_or wets end 0) q) at by-marks

    module _ (differ : get_or wets start 0 ≡ get_or wets end 0 → ⊥) {l : ℕ} (q : l ≡ (cell_at tc n).level) where
      pub odd-crossing : {v : ℕ} → v ≡ point_of (survey_of tc tk clearance) (edge (axis_of (e / 4)) (place_at (places_of tk) start) l)
          → v ≡ crossing_of (survey_of tc tk clearance) (edge_at (cell_at tc n) e)
      odd-crossing r =
          r ∙ ap (λ m. point_of (survey_of tc tk clearance) (edge (axis_of (e / 4)) (place_at (places_of tk) start) m)) q
          ∙ (rw (ne_eqb (get_or wets start 0) (get_or wets end 0) differ) at by-marks)

      pub odd-edge : accepted tc tk clearance ≡ true → OddEdge tc tk clearance (axis_of (e / 4)) start l
      odd-edge ok = rw q (record {
        inside = b.low.number;
        is_edge_lem = subst (λ (d : CellEdge). T (is_edge (cells_of tc) d.axis d.low d.level)) (sym low-is)
            (is_edge_lem tc tk clearance ok n b.inside e b.few);
        is_odd = →true (sym marks-odd ∙ ap not (ne_eqb (get_or wets start 0) (get_or wets end 0) differ));
      })
