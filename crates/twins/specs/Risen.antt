-- The edge above an edge, by corner records.
use Rattle.std.specs.Prelude.{ℕ, suc, ◌<◌, ◌≡◌, false, List, T}
use Rattle.base.specs.Grid.{Axis}
use Rattle.rules.specs.Survey.{record_count, cells_of}
use Rattle.rules.specs.Edges.{is_edge}
use Rattle.rules.specs.Steps.{above, other}
use Rattle.records.specs.Keys.{places_of}
use Rattle.edges.specs.Tables.{place_at, UpperEnd}

-- No cell has the edge above the edge of level l at corner record k.
abbrev pub NoneAbove : List ℕ → List ℕ → Axis → ℕ → ℕ → Type 0
NoneAbove tc tk a k l = is_edge (cells_of tc) a (above a (place_at (places_of tk) k) l) (suc l) ≡ false

-- Some cell has it. It starts at corner record `start` and ends at `end`, and its other half starts at `half`.
pub record Risen (tc tk : List ℕ) (a : Axis) (k l start end half : ℕ) : Type 0 where
  pub is_edge_lem : T (is_edge (cells_of tc) a (above a (place_at (places_of tk) k) l) (suc l))
  pub inside : start < record_count tk
  pub place : place_at (places_of tk) start ≡ above a (place_at (places_of tk) k) l
  pub upper : UpperEnd tk a start (suc l) end
  pub half_inside : half < record_count tk
  pub half_place : place_at (places_of tk) half ≡ other a (place_at (places_of tk) k) l
