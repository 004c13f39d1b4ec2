-- What a survey without refusal gives the code: sizes of the tables, rising keys, and small keys of the corner records.
use Prim.Native.Nat.{ℕ, ◌/◌, ◌^◌, ◌≤◌, ◌<◌}
use mathlib.Core.Path.{◌≡◌, sym, ap, ◌∙◌}
use mathlib.Core.Bool.{true, false}
use mathlib.Core.List.{List, []}
use native.Mathlib.Omega.{arith}
use lib.Dec.{T}
use lib.ListN.{length, drop}
use lib.Seq.{drop-length}
use lib.Ieee.{nan}
use Rattle.base.specs.Grid.{Place, origin, Axis, X, Y, Z, along, move, same}
use Rattle.base.proofs.Tests.{true→}
use Rattle.base.specs.Lists.{any}
use Rattle.base.proofs.Lists.{in→any, in_get}
use Rattle.base.proofs.Places.{same_refl}
use Rattle.records.proofs.Keys.{length-places}
use Rattle.rules.specs.Survey.{record_size, cell, cells_of}
use Rattle.rules.specs.Edges.{is_edge}
use Rattle.rules.specs.Outputs.{corner_limit, rising, survey_refusal, survey_of}
use Rattle.records.specs.Keys.{key_of, places_of}
use Rattle.octree.specs.Lawful.{Octree}
use Rattle.cells.specs.Laid.{cell_at}
use Rattle.octree.proofs.Cells.{→cell}
use Rattle.octree.proofs.Tree.{octree_of}
use Rattle.octree.proofs.Records.{cell-count}
use Rattle.octree.proofs.Aligned.{corner-place, edge-level}
use Rattle.octree.proofs.Edges.{upper_end_lem}
use Rattle.octree.proofs.Accepted.{table_fits, Checked, checked, checked_lawful}
use Rattle.edges.specs.Tables.{edges_of, place_at}
use Rattle.edges.specs.Searching.{Corners}
use Rattle.edges.proofs.Notes.{edges_none}

-- a place in the box has a small key
pub key-small : (p : Place) → ((a : Axis) → along a p ≤ 1024) → key_of p ≤ 4398113620992
unfolding key_of
key-small p h = let x = h X in let y = h Y in let z = h Z in omega arith

module _ (tc tk : List ℕ) (ok : survey_refusal tc tk ≡ 0) where
  passes : Checked tc tk
  passes = checked tc tk ok

  pub rises-true : rising (places_of tk) ≡ true
  rises-true = true→ (rising (places_of tk)) passes.rises

  pub corners-few : length tk ≤ corner_limit
  corners-few = (table_fits record_size corner_limit tk passes.corner-table).1

  pub cells-few : length tc ≤ 8196
  cells-few = (table_fits 4 8196 tc passes.cell-table).1

  tree : Octree (cells_of tc)
  tree = octree_of tc passes.entries_right_lem passes.units-whole

  -- no cell is left after the last record
  pub none_left : edges_of (drop (length tc / 4) (cells_of tc)) ≡ []
  none_left = ap edges_of (ap (λ n. drop n (cells_of tc)) (sym (cell-count tc passes.entries_right_lem)) ∙ drop-length (cells_of tc)) ∙ edges_none

  pub record-inside : (i : ℕ) → i < length tc / 4 → i < length (cells_of tc)
  record-inside i h = omega (arith, cell-count tc passes.entries_right_lem)

  pub cell-shallow : (i : ℕ) → i < length tc / 4 → (cell_at tc i).level ≤ 10
  cell-shallow i h =
      tree.shallow (cell_at tc i).level (cell_at tc i).low
      (→cell (cells_of tc) (cell_at tc i) (in_get (cells_of tc) i (cell origin 10 false) (record-inside i h)))

  -- the level of an edge, and its upper end
  pub edge-shallow : (a : Axis) (p : Place) (l : ℕ) → T (is_edge (cells_of tc) a p l) → l ≤ 10
  edge-shallow a p l t = edge-level (cells_of tc) tree a p l t

  pub upper-listed : (a : Axis) (p : Place) (l : ℕ) → T (is_edge (cells_of tc) a p l) → T (any (same (move a (2 ^ l) p)) (places_of tk))
  unfolding survey_of
  upper-listed a p l t = upper_end_lem (survey_of tc tk nan) (checked_lawful tc tk nan passes) a p l t

  -- what a look-up asks of the corner table
  pub corners_known : Corners tk
  unfolding survey_of
  corners_known = record {
    few = corners-few;
    rises = rises-true;
    small = λ k h.
        let p = place_at (places_of tk) k in
        let q = in→any (same p) (places_of tk) p (in_get (places_of tk) k origin (omega (arith, length-places tk))) (same_refl p) in
        let (l, c, t, o) = (checked_lawful tc tk nan passes).corner p q in
        key-small p (λ a. (corner-place (cells_of tc) tree l c p t o a).1);
  }
