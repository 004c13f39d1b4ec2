-- Taking up a leaf: its corners by their records, and its wet corners as one number.
use Prim.Native.Nat.{ℕ, zero, suc, ◌+◌, ◌*◌, ◌/◌, ◌^◌, ◌≤◌, ◌<◌}
use mathlib.Core.Path.{◌≡◌, sym, ap, ◌∙◌, subst}
use mathlib.Core.Bool.{Bool, true}
use mathlib.Core.List.{List, [], ◌∷◌, map}
use native.Mathlib.Nat.{two-pow-succ}
use native.Mathlib.Omega.{arith}
use lib.ListN.{length, get_or, drop, length-map, length-drop, drop_of_length-le}
use lib.Ieee.{Float}
use Rattle.std.proofs.lemmas.List.{ext_get_or}
use Rattle.base.specs.Lists.{bit, count}
use Rattle.base.proofs.Tests.{bit_le}
use Rattle.base.proofs.Below.{rest, get_table, length-table}
use Rattle.rules.specs.Survey.{Cell, corners_of, corner_record, corner_at, leaf_of, wet, wet_at}
use Rattle.rules.specs.Outputs.{corner_limit, rising, accepted, survey_of}
use Rattle.rules.specs.declared.Corner.{Corner}
use Rattle.rules.specs.declared.Leaf.{Leaf}
use Rattle.records.specs.Keys.{places_of}
use Rattle.records.proofs.Keys.{Bytes}
use Rattle.cells.specs.Laid.{cell_at}
use Rattle.octants.specs.Octants.{octant_of, Octant, Octants}
use Rattle.edges.proofs.Places.{record-corner}
use Rattle.edges.proofs.Readings.{no_refusal}
use Rattle.edges.proofs.Surveyed.{rises-true, cells-few, corners-few}
use Rattle.crossings.specs.Crossings.{binary, wet_mask}

-- ---- what an accepted survey gives

module _ (tc tk : List ℕ) (clearance : Float) (ok : accepted tc tk clearance ≡ true) where
  pub corners_rise : rising (places_of tk) ≡ true
  corners_rise = rises-true tc tk (no_refusal tc tk clearance ok)

  pub cells-small : length tc ≤ 8196
  cells-small = cells-few tc tk (no_refusal tc tk clearance ok)

  pub corners-small : length tk ≤ corner_limit
  corners-small = corners-few tc tk (no_refusal tc tk clearance ok)

-- the number that the table holds is that of the record at the corner
pub octant-read : {tc tk t : List ℕ} → Octants tc tk t → {n i j k : ℕ} → n < length tc / 4 → j ≡ i → j < 8 → k ≡ get_or t (8 * n + j) 0 → Octant tc tk n i k
octant-read {tc} {tk} {t} o {n} {i} {j} {k} h e g q =
    subst (λ m. Octant tc tk n m k) e (subst (Octant tc tk n j) (sym q) (o.octant n j h g))

-- the corner of a record is the one that the rules take at its place
pub corner-is : (tk : List ℕ) → Bytes tk → rising (places_of tk) ≡ true → (tc : List ℕ) (n i k : ℕ) (c : Corner) → Octant tc tk n i k → c ≡ corner_record tk k
    → c ≡ corner_at (corners_of tk) (octant_of tc n i)
corner-is tk b up tc n i k c o q = q ∙ record-corner tk b up k o.number ∙ ap (corner_at (corners_of tk)) o.place

-- ---- the corners of a leaf

-- corner i of the cell of record n
abbrev pub octant-corner : List ℕ → List ℕ → ℕ → ℕ → Corner
octant-corner tc tk n i = corner_at (corners_of tk) (octant_of tc n i)

-- a list of eight, element by element
listed : (l : List Corner) (d : Corner) → length l ≡ 8 → l ≡ map (λ i. get_or l i d) (count 0 8)
listed l d eight =
    ext_get_or d l (map (λ i. get_or l i d) (count 0 8)) (eight ∙ sym (length-table (λ i. get_or l i d) 8))
    (λ i h. sym (get_table (λ i. get_or l i d) d 8 i (omega arith)))

-- eight corners, each the one at its octant, are those of a leaf
pub leaf-is : (tc tk : List ℕ) (n : ℕ) (l : List Corner) (d : Corner) → length l ≡ 8
    → get_or l 0 d ≡ octant-corner tc tk n 0 → get_or l 1 d ≡ octant-corner tc tk n 1 → get_or l 2 d ≡ octant-corner tc tk n 2
    → get_or l 3 d ≡ octant-corner tc tk n 3 → get_or l 4 d ≡ octant-corner tc tk n 4 → get_or l 5 d ≡ octant-corner tc tk n 5
    → get_or l 6 d ≡ octant-corner tc tk n 6 → get_or l 7 d ≡ octant-corner tc tk n 7
    → ◌≡◌ {A = Leaf} (record { corners = l }) (leaf_of (corners_of tk) (cell_at tc n))
unfolding leaf_of
leaf-is tc tk n l d eight a b c e f g h k =
    ap (λ (x : List Corner). record { corners = x }) (listed l d eight)
    ∙ (λ i. record { corners = a i ∷ b i ∷ c i ∷ e i ∷ f i ∷ g i ∷ h i ∷ k i ∷ [] })

-- ---- marks as a number

binary_less : (n : ℕ) (bs : List Bool) → length bs ≤ n → binary bs < 2 ^ n
binary_less zero [] h = omega arith
binary_less (suc n) [] h = omega (arith, binary_less n [] (omega arith), two-pow-succ n)
binary_less zero (b ∷ bs) h = absurd (omega arith)
binary_less (suc n) (b ∷ bs) h = omega (arith, binary_less n bs (omega arith), two-pow-succ n, bit_le b true (λ u. tt))

-- no corner is left after the eighth
pub none_left : (f : Corner → Bool) (l : List Corner) → length l ≡ 8 → 0 ≡ binary (map f (drop 8 l))
none_left f l eight = ap (λ (r : List Corner). binary (map f r)) (sym (drop_of_length-le l {i = 8} (omega arith)))

module _ (f : Corner → Bool) (l : List Corner) (eight : length l ≡ 8) (i : ℕ) where
  -- the marks from corner i on make a small number
  pub mask_small : binary (map f (drop i l)) < 256
  mask_small = binary_less 8 (map f (drop i l)) (omega (arith, length-map (drop i l) f, length-drop i l))

  -- and the mark of corner i is its lowest digit
  pub mask_more : (d : Corner) → i < 8 → bit (f (get_or l i d)) + 2 * binary (map f (drop (i + 1) l)) ≡ binary (map f (drop i l))
  mask_more d h = sym (ap (λ (r : List Corner). binary (map f r)) (rest l i d (omega arith)))

-- ---- the wet corners of a cell

pub eight_corners : (tk : List ℕ) (c : Cell) (l : Leaf) → l ≡ leaf_of (corners_of tk) c → length l.corners ≡ 8
unfolding leaf_of
eight_corners tk c l e = ap (λ (x : Leaf). length x.corners) e

pub mask_is : (tc tk : List ℕ) (clearance : Float) (c : Cell) (l : Leaf) → l ≡ leaf_of (corners_of tk) c
    → binary (map (wet clearance) l.corners) ≡ wet_mask (survey_of tc tk clearance) c
unfolding leaf_of wet_at survey_of wet_mask
mask_is tc tk clearance c l e = ap (λ (x : Leaf). binary (map (wet clearance) x.corners)) e
