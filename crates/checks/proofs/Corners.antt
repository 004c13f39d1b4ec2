-- Check 6: what the look-ups and the marks say is what document 01 asks of the corners.
use Prim.Native.Nat.{ℕ, ◌+◌, ◌/◌, ◌^◌, ◌≤◌, ◌<◌}
use mathlib.Core.Path.{◌≡◌, refl, sym, ap, ◌∙◌}
use mathlib.Core.Logic.{◌⊎◌, inl, inr}
use mathlib.Core.Bool.{Bool, true, false, ◌&&◌, cond}
use mathlib.Core.List.{List}
use native.Mathlib.Omega.{arith}
use lib.Dec.{T, eqb, ltb}
use lib.ListN.{length, get_or, replicate, length-replicate, get_or-replicate}
use Rattle.base.specs.Lists.{all, any, count}
use Rattle.base.specs.Grid.{Place, origin, Axis, X, Y, along, same}
use Rattle.base.proofs.Tests.{→true}
use Rattle.base.proofs.Lists.{in_get}
use Rattle.base.proofs.Octants.{octant→}
use Rattle.rules.specs.Survey.{record_count, Cell, entries, cells_of, cell_corners, place_of}
use Rattle.rules.specs.Outputs.{entries_right, rising, corners_right}
use Rattle.octree.proofs.Queue.{box}
use Rattle.octree.proofs.Records.{cell-count}
use Rattle.records.specs.Keys.{key_of, places_of, record_at, Short}
use Rattle.records.proofs.Keys.{Bytes, nowhere, length-places}
use Rattle.records.proofs.Listed.{listed-is, record_is}
use Rattle.cells.specs.Laid.{octant_key, cell_at, Entered, Laid, key_in, level_in}
use Rattle.cells.proofs.Octants.{octant-key-is}
use Rattle.checks.specs.Marks.{corner_numbers, all_numbers, marked}
use Rattle.base.proofs.Below.{all-count, any-count, all-collect, any-collect, all_map, any-map}
use Rattle.checks.proofs.Marking.{mark_at}

-- corner i of the cell of record n
abbrev pub corner : List ℕ → ℕ → ℕ → Place
corner tc n i = get_or (cell_corners (cell_at tc n)) i origin

-- a corner of a cell that the tables hold: its key, and it fits 16 bits
module _ (tc table : List ℕ) (n : ℕ) (o : Entered tc table n) (i : ℕ) (h : i < 8) where
  pub corner-key : key_in table n + octant_key i (2 ^ level_in table n) ≡ key_of (corner tc n i)
  corner-key =
      ap (λ l. key_in table n + octant_key i (2 ^ l)) o.level ∙ ap (λ k. k + octant_key i (2 ^ (cell_at tc n).level)) o.key
      ∙ sym (octant-key-is (2 ^ (cell_at tc n).level) (cell_at tc n).low origin i h)

  in_reach : (a : Axis) → along a (corner tc n i) ≤ 1024
  in_reach a =
      go (octant→ (2 ^ (cell_at tc n).level) (cell_at tc n).low (corner tc n i) (in_get (cell_corners (cell_at tc n)) i origin h) a)
    where
      go : (along a (corner tc n i) ≡ along a (cell_at tc n).low)
          ⊎ (along a (corner tc n i) ≡ along a (cell_at tc n).low + 2 ^ (cell_at tc n).level)
          → along a (corner tc n i) ≤ 1024
      go (inl e) = omega (arith, o.in_box a)
      go (inr e) = omega (arith, o.in_box a)

  pub corner_short : Short (corner tc n i)
  corner_short = record { x_fits = omega (arith, in_reach X); y_fits = omega (arith, in_reach Y) }

module _ (tc tk table : List ℕ) (three : T (entries_right 0 0 (entries tc))) (laid : Laid tc table) (b : Bytes tk) where
  -- the corner records of cell n
  abbrev numbers_at : ℕ → List ℕ
  numbers_at n = corner_numbers tk (key_in table n) (level_in table n)

  abbrev listed : Cell → Bool
  listed c = all (λ p. any (same p) (places_of tk)) (cell_corners c)

  inside : (n : ℕ) → n < length (cells_of tc) → Entered tc table n
  inside n h = laid.entered n (omega (arith, cell-count tc three))

  cell-listed : (n : ℕ) → n < length (cells_of tc) → listed (cell_at tc n) ≡ all (λ k. ltb k (record_count tk)) (numbers_at n)
  unfolding corner_numbers
  cell-listed n h =
      all-count (λ p. any (same p) (places_of tk)) origin (λ i. ltb (record_at tk (key_in table n + octant_key i (2 ^ level_in table n))) (record_count tk))
      (cell_corners (cell_at tc n)) 0
      (λ i k. listed-is tk b (corner tc n i) (corner_short tc table n (inside n h) i k)
      ∙ ap (λ z. ltb (record_at tk z) (record_count tk)) (sym (corner-key tc table n (inside n h) i k))
      ∙ ap (λ j. ltb (record_at tk (key_in table n + octant_key j (2 ^ level_in table n))) (record_count tk)) (let e : i ≡ 0 + i = omega arith in e))
      ∙ sym (all_map (λ k. ltb k (record_count tk)) (λ i. record_at tk (key_in table n + octant_key i (2 ^ level_in table n))) (count 0 8))

  -- every corner of every cell is listed where every look-up finds a record
  pub all_listed : all listed (cells_of tc) ≡ all (λ k. ltb k (record_count tk)) (all_numbers tk table (length tc / 4))
  unfolding all_numbers
  all_listed =
      all-count listed box (λ n. all (λ k. ltb k (record_count tk)) (numbers_at n)) (cells_of tc) 0
      (λ n h. cell-listed n h ∙ ap (λ m. all (λ k. ltb k (record_count tk)) (numbers_at m)) (let e : n ≡ 0 + n = omega arith in e))
      ∙ ap (λ m. all (λ n. all (λ k. ltb k (record_count tk)) (numbers_at n)) (count 0 m)) (cell-count tc three)
      ∙ sym (all-collect (λ k. ltb k (record_count tk)) numbers_at (count 0 (length tc / 4)))

  module _ (up : rising (places_of tk) ≡ true) where
    -- a record is a corner of cell n
    cell-corner : (k : ℕ) → k < record_count tk → (n : ℕ) → n < length (cells_of tc)
        → any (same (get_or (places_of tk) k (place_of nowhere))) (cell_corners (cell_at tc n)) ≡ any (eqb k) (numbers_at n)
    unfolding corner_numbers
    cell-corner k l n h =
        any-count (same (get_or (places_of tk) k (place_of nowhere))) origin
        (λ i. eqb k (record_at tk (key_in table n + octant_key i (2 ^ level_in table n)))) (cell_corners (cell_at tc n)) 0
        (λ i g. record_is tk b up k (corner tc n i) (corner_short tc table n (inside n h) i g) l
        ∙ ap (λ z. eqb k (record_at tk z)) (sym (corner-key tc table n (inside n h) i g))
        ∙ ap (λ j. eqb k (record_at tk (key_in table n + octant_key j (2 ^ level_in table n)))) (let e : i ≡ 0 + i = omega arith in e))
        ∙ sym (any-map (eqb k) (λ i. record_at tk (key_in table n + octant_key i (2 ^ level_in table n))) (count 0 8))

    some-corner : (k : ℕ) → k < record_count tk
        → any (λ c. any (same (get_or (places_of tk) k (place_of nowhere))) (cell_corners c)) (cells_of tc) ≡ any (eqb k) (all_numbers tk table (length tc / 4))
    unfolding all_numbers
    some-corner k l =
        any-count (λ c. any (same (get_or (places_of tk) k (place_of nowhere))) (cell_corners c)) box (λ n. any (eqb k) (numbers_at n)) (cells_of tc) 0
        (λ n h. cell-corner k l n h ∙ ap (λ m. any (eqb k) (numbers_at m)) (let e : n ≡ 0 + n = omega arith in e))
        ∙ ap (λ m. any (λ n. any (eqb k) (numbers_at n)) (count 0 m)) (cell-count tc three)
        ∙ sym (any-collect (eqb k) numbers_at (count 0 (length tc / 4)))

    module _ (marks : List ℕ) (room : record_count tk ≤ length marks) (blank : (k : ℕ) → k < record_count tk → get_or marks k 0 ≡ 0) where
      abbrev new_marks : List ℕ
      new_marks = marked (all_numbers tk table (length tc / 4)) marks

      mark-is : (k : ℕ) → k < record_count tk → any (eqb k) (all_numbers tk table (length tc / 4)) ≡ eqb (get_or new_marks k 0) 1
      mark-is k h =
          go (any (eqb k) (all_numbers tk table (length tc / 4)))
          ∙ ap (λ v. eqb v 1) (sym (mark_at k (all_numbers tk table (length tc / 4)) marks (omega arith) ∙
          ap (λ v. cond (any (eqb k) (all_numbers tk table (length tc / 4))) 1 v) (blank k h)))
        where
          go : (r : Bool) → r ≡ eqb (cond r 1 0) 1
          go true = refl
          go false = refl

      -- no record is anything else than a corner of a cell where every record is marked
      all-corners : all (λ p. any (λ c. any (same p) (cell_corners c)) (cells_of tc)) (places_of tk)
          ≡ all (λ k. eqb (get_or new_marks k 0) 1) (count 0 (record_count tk))
      all-corners =
          all-count (λ p. any (λ c. any (same p) (cell_corners c)) (cells_of tc)) (place_of nowhere) (λ k. eqb (get_or new_marks k 0) 1) (places_of tk) 0
          (λ k h. let l : k < record_count tk = rw (length-places tk) at h in
          some-corner k l ∙ mark-is k l ∙ ap (λ j. eqb (get_or new_marks j 0) 1) (let e : k ≡ 0 + k = omega arith in e))
          ∙ ap (λ m. all (λ k. eqb (get_or new_marks k 0) 1) (count 0 m)) (length-places tk)

      -- check 6
      pub corners_are : corners_right (cells_of tc) (places_of tk)
          ≡ all (λ k. ltb k (record_count tk)) (all_numbers tk table (length tc / 4)) && all (λ k. eqb (get_or new_marks k 0) 1) (count 0 (record_count tk))
      unfolding corners_right
      corners_are = ap (λ r. r && all (λ p. any (λ c. any (same p) (cell_corners c)) (cells_of tc)) (places_of tk)) all_listed
          ∙ ap (λ r. all (λ k. ltb k (record_count tk)) (all_numbers tk table (length tc / 4)) && r) all-corners

-- Check 6 as the code decides it: by the first missing corner, or by the marks; n is the number of corner records.
module _ (tc tk table : List ℕ) (three : entries_right 0 0 (entries tc) ≡ true) (laid : Laid tc table) (b : Bytes tk)
    (n : ℕ) (n-is : n ≡ record_count tk) where
  abbrev found : ℕ → Bool
  found m = all (λ k. ltb k m) (all_numbers tk table (length tc / 4))

  pub one_missing : found n ≡ false → false ≡ corners_right (cells_of tc) (places_of tk)
  unfolding corners_right
  one_missing e =
      sym (ap (λ r. r && all (λ p. any (λ c. any (same p) (cell_corners c)) (cells_of tc)) (places_of tk))
      (all_listed tc tk table (→true three) laid b ∙ ap found (sym n-is) ∙ e))

  none_missing : rising (places_of tk) ≡ true → (marks new : List ℕ) → n ≤ length marks → ((k : ℕ) → k < n → get_or marks k 0 ≡ 0) → found n ≡ true
      → new ≡ marked (all_numbers tk table (length tc / 4)) marks
      → all (λ k. eqb (get_or new k 0) 1) (count 0 n) ≡ corners_right (cells_of tc) (places_of tk)
  none_missing up marks new room blank e w =
      ap (λ m. all (λ k. eqb (get_or m k 0) 1) (count 0 n)) w
      ∙ ap (λ m. all (λ k. eqb (get_or (marked (all_numbers tk table (length tc / 4)) marks) k 0) 1) (count 0 m)) n-is
      ∙ sym (corners_are tc tk table (→true three) laid b up marks (omega arith) (λ k h. blank k (omega arith))
      ∙ ap (λ r. r && all (λ k. eqb (get_or (marked (all_numbers tk table (length tc / 4)) marks) k 0) 1) (count 0 (record_count tk)))
      (ap found (sym n-is) ∙ e))

  -- the same, where the marks are made blank
  pub none_missing_made : rising (places_of tk) ≡ true → (room : ℕ) (new : List ℕ) → n ≤ room → found n ≡ true
      → new ≡ marked (all_numbers tk table (length tc / 4)) (replicate room 0)
      → all (λ k. eqb (get_or new k 0) 1) (count 0 n) ≡ corners_right (cells_of tc) (places_of tk)
  none_missing_made up room new h e w =
      none_missing up (replicate room 0) new (omega (arith, length-replicate {A = ℕ} room 0)) (λ k l. get_or-replicate room k 0 0 (omega arith)) e w
