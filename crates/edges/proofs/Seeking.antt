-- A search for an edge, of a survey that is accepted at a clearance: by its place, and by the levels at a corner record.
use Prim.Native.Nat.{ℕ, ◌+◌, ◌*◌, ◌≤◌, ◌<◌}
use mathlib.Core.Path.{◌≡◌, refl, sym, ap, ◌∙◌, subst}
use mathlib.Core.Logic.{◌⊎◌, inl, inr}
use mathlib.Core.Bool.{true, false}
use mathlib.Core.List.{List}
use native.Mathlib.Omega.{arith}
use lib.Dec.{T}
use lib.Ieee.{Float}
use Rattle.base.specs.Lists.{any}
use Rattle.base.specs.Grid.{Place, Axis, axis_of, same}
use Rattle.base.proofs.Tests.{either}
use Rattle.rules.specs.Survey.{record_count, cells_of, Survey}
use Rattle.rules.specs.Edges.{is_edge}
use Rattle.rules.specs.Outputs.{accepted, survey_of}
use Rattle.records.specs.Keys.{key_of, places_of, record_at, Short}
use Rattle.records.proofs.Keys.{Bytes}
use Rattle.records.proofs.Found.{found-listed}
use Rattle.edges.specs.Tables.{place_at, lowest_at, highest_at, Levelled, Sought}
use Rattle.edges.proofs.Find.{found}
use Rattle.edges.proofs.Levels.{edge→levels, levels→edge}
use Rattle.edges.proofs.Readings.{corners, edges_law, lowest_read, highest_read}

module _ (tc tk : List ℕ) (clearance : Float) (ok : accepted tc tk clearance ≡ true) where
  abbrev s : Survey
  s = survey_of tc tk clearance

  abbrev at : ℕ → Place
  at k = place_at (places_of tk) k

  -- ---- a search for an edge

  module _ (b : Bytes tk) (a : Axis) (p : Place) (l key k : ℕ) (e : key ≡ key_of p) (r : k ≡ record_at tk key) where
    listed-inside : T (any (same p) (places_of tk)) → k < record_count tk
    listed-inside t = omega (arith, (found tk b (corners tc tk clearance ok).rises p t).0, r, ap (record_at tk) e)

    pub nowhere : record_count tk ≤ k → is_edge (cells_of tc) a p l ≡ false
    unfolding survey_of
    nowhere h = go (either (is_edge (cells_of tc) a p l))
      where
        go : T (is_edge (cells_of tc) a p l) ⊎ (is_edge (cells_of tc) a p l ≡ false) → is_edge (cells_of tc) a p l ≡ false
        go (inl t) = absurd (omega (arith, listed-inside ((edges_law tc tk clearance ok).lower_end a p l t)))
        go (inr f) = f

    pub at_place : Short p → k < record_count tk → place_at (places_of tk) k ≡ p
    at_place fits h =
        let q : k ≡ record_at tk (key_of p) = r ∙ ap (record_at tk) e in
        ap at q ∙ (found tk b (corners tc tk clearance ok).rises p (found-listed tk b p fits (omega arith))).1

  -- at a record, an edge is there just between the two levels of the table
  module _ (slots : List ℕ) (known : Levelled tc tk slots) (n k l : ℕ) (g : n < 3) (h : k < record_count tk) where
    pub edge_levels : T (is_edge (cells_of tc) (axis_of n) (place_at (places_of tk) k) l) →
        (lowest_at slots (4872 * n + k) ≤ l) × (l ≤ highest_at slots (4872 * n + k))
    unfolding survey_of
    edge_levels t =
        let v = edge→levels s (edges_law tc tk clearance ok) (axis_of n) (at k) l t in (
          omega (arith, v.0, lowest_read tc tk clearance ok slots known n k (4872 * n + k) refl g h),
          omega (arith, v.1, highest_read tc tk clearance ok slots known n k (4872 * n + k) refl g h),
        )

    pub levels_edge : lowest_at slots (4872 * n + k) ≤ l → l ≤ highest_at slots (4872 * n + k) → T (is_edge (cells_of tc) (axis_of n) (place_at (places_of tk) k) l)
    unfolding survey_of
    levels_edge u v =
        levels→edge s (edges_law tc tk clearance ok) (axis_of n) (at k) l
        (omega (arith, lowest_read tc tk clearance ok slots known n k (4872 * n + k) refl g h))
        (omega (arith, highest_read tc tk clearance ok slots known n k (4872 * n + k) refl g h))

    levels_miss : (l < lowest_at slots (4872 * n + k)) ⊎ (highest_at slots (4872 * n + k) < l) →
        is_edge (cells_of tc) (axis_of n) (place_at (places_of tk) k) l ≡ false
    levels_miss o = go (either (is_edge (cells_of tc) (axis_of n) (place_at (places_of tk) k) l)) o
      where
        go : T (is_edge (cells_of tc) (axis_of n) (at k) l) ⊎ (is_edge (cells_of tc) (axis_of n) (at k) l ≡ false) →
            (l < lowest_at slots (4872 * n + k)) ⊎ (highest_at slots (4872 * n + k) < l) → is_edge (cells_of tc) (axis_of n) (at k) l ≡ false
        go (inl t) (inl w) = absurd (omega (arith, (edge_levels t).0))
        go (inl t) (inr w) = absurd (omega (arith, (edge_levels t).1))
        go (inr f) w = f

    pub sought_miss : (p : Place) → place_at (places_of tk) k ≡ p → (l < lowest_at slots (4872 * n + k)) ⊎ (highest_at slots (4872 * n + k) < l) →
        Sought tc tk (axis_of n) p l (record_count tk)
    sought_miss p e o = record { found = λ x. absurd (omega arith); none = λ x. ap (λ q. is_edge (cells_of tc) (axis_of n) q l) (sym e) ∙ levels_miss o }

    pub sought_hit : (p : Place) → place_at (places_of tk) k ≡ p → lowest_at slots (4872 * n + k) ≤ l → l ≤ highest_at slots (4872 * n + k) → Sought tc tk
        (axis_of n) p l k
    sought_hit p e u v = record {
      found = λ x. (subst (λ q. T (is_edge (cells_of tc) (axis_of n) q l)) e (levels_edge u v), e);
      none = λ x. absurd (omega arith);
    }
