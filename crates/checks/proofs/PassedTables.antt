-- What a survey that checks 1 to 6 pass gives the code above: counts that fit its tables, corner records that rise, and for every corner of every cell a
-- record at its place.
use Prim.Native.Nat.{ℕ, ◌+◌, ◌*◌, ◌/◌, ◌^◌, ◌≤◌, ◌<◌}
use mathlib.Core.Path.{◌≡◌, sym, ap, ◌∙◌}
use mathlib.Core.Logic.{◌⊎◌, inl, inr}
use mathlib.Core.Bool.{true}
use mathlib.Core.List.{List}
use native.Mathlib.Omega.{arith}
use lib.Dec.{T}
use lib.ListN.{length, get_or}
use Rattle.base.specs.Lists.{all, any}
use Rattle.base.specs.Grid.{origin, Axis, X, Y, along, same}
use Rattle.base.proofs.Tests.{and→, true→}
use Rattle.base.proofs.Lists.{In, in_get, all→in, position_of}
use Rattle.base.proofs.Places.{same→}
use Rattle.base.proofs.Octants.{octant→}
use Rattle.rules.specs.Survey.{record_size, record_count, cells_of, cell_corners}
use Rattle.rules.specs.Outputs.{corner_limit, rising, corners_right}
use Rattle.octree.proofs.Queue.{box}
use Rattle.octree.proofs.Records.{cell-count}
use Rattle.octree.proofs.Cells.{→cell}
use Rattle.octree.proofs.Tree.{octree_of}
use Rattle.octree.proofs.Aligned.{cell_in_box}
use Rattle.octree.proofs.Accepted.{table_fits, Checked}
use Rattle.records.specs.Keys.{key_of, places_of, record_at, Short}
use Rattle.records.proofs.Keys.{Bytes}
use Rattle.records.proofs.Found.{record_at_place, listed_found}
use Rattle.cells.specs.Laid.{cell_at, Laid}
use Rattle.octants.specs.Octants.{LookedUp, Octants}
use Rattle.checks.proofs.Corners.{corner, corner-key}

module _ (tc tk : List ℕ) (c : Checked tc tk) where
  pub places_rise : rising (places_of tk) ≡ true
  places_rise = true→ (rising (places_of tk)) c.rises

  -- the tables are short
  pub few-cells : length tc / 4 ≤ 2049
  few-cells = omega (arith, (table_fits 4 8196 tc c.cell-table).1)

  pub few-corners : record_count tk ≤ 4872
  few-corners = omega (arith, (table_fits record_size corner_limit tk c.corner-table).1)

  module _ (n : ℕ) (h : n < length tc / 4) where
    cell_in : In (cell_at tc n) (cells_of tc)
    cell_in = in_get (cells_of tc) n box (omega (arith, cell-count tc c.entries_right_lem))

    -- the cell lies in the box
    pub in_box : (a : Axis) → along a (cell_at tc n).low + 2 ^ (cell_at tc n).level ≤ 1024
    in_box = cell_in_box (cells_of tc) (octree_of tc c.entries_right_lem c.units-whole) (cell_at tc n).level (cell_at tc n).low (→cell (cells_of tc)
        (cell_at tc n) cell_in)

    module _ (i : ℕ) (g : i < 8) where
      -- corner i of the cell is listed
      pub corner-listed : T (any (same (corner tc n i)) (places_of tk))
      unfolding corners_right
      corner-listed =
          let listed : T (all (λ d. all (λ p. any (same p) (places_of tk)) (cell_corners d)) (cells_of tc)) =
          (and→ (all (λ d. all (λ p. any (same p) (places_of tk)) (cell_corners d)) (cells_of tc))
          (all (λ p. any (λ d. any (same p) (cell_corners d)) (cells_of tc)) (places_of tk)) c.corners-right).0 in
          all→in (λ p. any (same p) (places_of tk)) (cell_corners (cell_at tc n))
          (all→in (λ d. all (λ p. any (same p) (places_of tk)) (cell_corners d)) (cells_of tc) listed (cell_at tc n) cell_in)
          (corner tc n i) (in_get (cell_corners (cell_at tc n)) i origin g)

      pub corner_in_box : (a : Axis) → along a (corner tc n i) ≤ 1024
      corner_in_box a =
          go (octant→ (2 ^ (cell_at tc n).level) (cell_at tc n).low (corner tc n i) (in_get (cell_corners (cell_at tc n)) i origin g) a)
        where
          go : (along a (corner tc n i) ≡ along a (cell_at tc n).low) ⊎ (along a (corner tc n i) ≡ along a (cell_at tc n).low + 2 ^ (cell_at tc n).level)
              → along a (corner tc n i) ≤ 1024
          go (inl e) = omega (arith, in_box a)
          go (inr e) = omega (arith, in_box a)

      fits : Short (corner tc n i)
      fits = record { x_fits = omega (arith, corner_in_box X); y_fits = omega (arith, corner_in_box Y) }

      -- the look-up finds its record
      pub found : Bytes tk → record_at tk (key_of (corner tc n i)) < record_count tk
      found b = listed_found tk b (corner tc n i) fits corner-listed

      -- and that record is at the corner's place
      pub found-there : Bytes tk → get_or (places_of tk) (record_at tk (key_of (corner tc n i))) origin ≡ corner tc n i
      found-there b =
          let p = corner tc n i in
          let at = position_of (same p) origin (places_of tk) 0 corner-listed in
          let first : at.0 ≡ record_at tk (key_of p) = omega (arith, at.1, record_at_place tk b p fits) in
          ap (λ m. get_or (places_of tk) m origin) (sym first) ∙ sym (same→ p (get_or (places_of tk) at.0 origin) at.3)

  -- the table of what the look-ups gave holds the corners of all cells
  pub octants_of : (table t : List ℕ) → Bytes tk → Laid tc table → LookedUp tk table t (length tc / 4) → Octants tc tk t
  octants_of table t b laid o = record {
    room = o.room;
    octant = λ n i h g. record {
      number = rw (is n i h g) (found n h i g b);
      place = ap (λ k. get_or (places_of tk) k origin) (is n i h g) ∙ found-there n h i g b;
    };
  }
    where
      is : (n i : ℕ) → n < length tc / 4 → i < 8 → get_or t (8 * n + i) 0 ≡ record_at tk (key_of (corner tc n i))
      is n i h g = o.number n i h g ∙ ap (record_at tk) (corner-key tc table n (laid.entered n h) i g)
