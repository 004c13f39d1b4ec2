-- The tables in which drawing and the enquiry look edges and points up, and what each of them holds, of a survey at a clearance.
-- A slot stands for an axis and a corner record: 4,872 slots for each axis, so slot 4,872 n + k is for record k on the axis with number n.
use Rattle.std.specs.Prelude.{ℕ, ◌+◌, ◌*◌, ◌/◌, ◌%◌, ◌^◌, ◌≤◌, ◌<◌, min, max, ◌≡◌, Bool, false, ◌&&◌, cond, List, [], ◌∷◌, T, eqb, ltb, length, get_or, Float}
use Rattle.base.specs.Lists.{keep, collect, count, bit}
use Rattle.base.specs.Grid.{Place, origin, Axis, axes, axis_number, axis_of, move, same}
use Rattle.rules.specs.Survey.{record_count, Cell, cells_of, corners_of, wet_at, Survey}
use Rattle.rules.specs.Edges.{CellEdge, edge, is_edge, odd, carrier}
use Rattle.rules.specs.Steps.{twin_of}
use Rattle.rules.specs.Closing.{cell_edges_on}
use Rattle.rules.specs.Outputs.{survey_of}
use Rattle.records.specs.Keys.{places_of}

-- ---- levels

-- the twelve edges of a cell, and the edges of cells, one cell after the other
abbrev pub cell_edges : Cell → List CellEdge
cell_edges c = collect (cell_edges_on c) axes

unfoldable pub edges_of : List Cell → List CellEdge
edges_of cells = collect cell_edges cells

-- the corners of a cell, of eight, at which its twelve edges start and end
abbrev pub starts : List ℕ
starts = 0 ∷ 2 ∷ 4 ∷ 6 ∷ 0 ∷ 4 ∷ 1 ∷ 5 ∷ 0 ∷ 1 ∷ 2 ∷ 3 ∷ []

abbrev pub ends : List ℕ
ends = 1 ∷ 3 ∷ 5 ∷ 7 ∷ 2 ∷ 6 ∷ 3 ∷ 7 ∷ 4 ∷ 5 ∷ 6 ∷ 7 ∷ []

-- the edge starts at p on axis a
abbrev pub starts_at : Axis → Place → CellEdge → Bool
starts_at a p e = same p e.low && eqb (axis_number a) (axis_number e.axis)

-- the lowest and the highest level of the edges on a list that start at p on axis a; 11 and 0 where none does
unfoldable pub lowest_in : List CellEdge → Axis → Place → ℕ
lowest_in [] a p = 11
lowest_in (e ∷ es) a p = let r = lowest_in es a p in cond (starts_at a p e) (min e.level r) r

unfoldable pub highest_in : List CellEdge → Axis → Place → ℕ
highest_in [] a p = 0
highest_in (e ∷ es) a p = let r = highest_in es a p in cond (starts_at a p e) (max e.level r) r

-- the same of all edges
unfoldable pub lowest_level : Survey → Axis → Place → ℕ
unfolding edges_of lowest_in
lowest_level s a p = lowest_in (edges_of s.cells) a p

unfoldable pub highest_level : Survey → Axis → Place → ℕ
unfolding edges_of highest_in
highest_level s a p = highest_in (edges_of s.cells) a p

-- ---- slots

-- the place of corner record k
abbrev pub place_at : List Place → ℕ → Place
place_at places k = get_or places k origin

-- the edge of the lowest level that starts at p on axis a is crossed: it is there, and it is odd
unfoldable pub crossed_at : Survey → Axis → Place → Bool
unfolding lowest_level odd
crossed_at s a p = ltb (lowest_level s a p) 11 && odd s.is_wet a p (lowest_level s a p)

-- the slot is of a corner record, and the edge of the lowest level there is crossed
unfoldable pub crossed_slot : Survey → ℕ → Bool
unfolding crossed_at
crossed_slot s i = ltb (i % 4872) (length s.places) && crossed_at s (axis_of (i / 4872)) (place_at s.places (i % 4872))

-- the crossed slots below a slot, rising
unfoldable pub slots_below : Survey → ℕ → List ℕ
unfolding crossed_slot
slots_below s i = keep (crossed_slot s) (count 0 i)

-- the edge of the lowest level at a slot
unfoldable pub slot_edge : Survey → ℕ → CellEdge
unfolding lowest_level
slot_edge s i =
    let a = axis_of (i / 4872) in
    let p = place_at s.places (i % 4872) in
    edge a p (lowest_level s a p)

-- ---- the tables

-- corner record m is at the upper end of the edge of level l that starts at corner record k on axis a
pub record UpperEnd (tk : List ℕ) (a : Axis) (k l m : ℕ) : Type 0 where
  pub inside : m < record_count tk
  pub place : place_at (places_of tk) m ≡ move a (2 ^ l) (place_at (places_of tk) k)

-- What is known of slot i stands in three elements of one table, from 3 i on: the lowest level plus 16 times the highest; the corner record at the upper end
-- of the edge of the lowest level; how many crossed slots come before it, where it is crossed.
unfoldable pub lowest_at : List ℕ → ℕ → ℕ
lowest_at slots i = get_or slots (3 * i) 0 % 16

unfoldable pub highest_at : List ℕ → ℕ → ℕ
highest_at slots i = get_or slots (3 * i) 0 / 16 % 16

unfoldable pub far_at : List ℕ → ℕ → ℕ
far_at slots i = get_or slots (3 * i + 1) 0

unfoldable pub number_at : List ℕ → ℕ → ℕ
number_at slots i = get_or slots (3 * i + 2) 0

-- g gives for each slot of a corner record f of its axis and place
abbrev pub Tabled : List ℕ → (Axis → Place → ℕ) → (ℕ → ℕ) → Type 0
Tabled tk f g = (n k : ℕ) → n < 3 → k < record_count tk → g (4872 * n + k) ≡ f (axis_of n) (place_at (places_of tk) k)

-- for each slot at which edges on a list start, g gives the corner record at the upper end of the one of the lowest level
abbrev pub FarEnds : List ℕ → List CellEdge → (ℕ → ℕ) → Type 0
FarEnds tk es g = (n k : ℕ) → n < 3 → k < record_count tk → lowest_in es (axis_of n) (place_at (places_of tk) k) < 11 →
    UpperEnd tk (axis_of n) k (lowest_in es (axis_of n) (place_at (places_of tk) k)) (g (4872 * n + k))

-- what the table holds of the edges on a list: their levels at each slot, and the upper end of the one of the lowest level
pub record Levels (tk : List ℕ) (es : List CellEdge) (slots : List ℕ) : Type 0 where
  pub size : length slots ≡ 43848
  pub low : Tabled tk (lowest_in es) (lowest_at slots)
  pub high : Tabled tk (highest_in es) (highest_at slots)
  pub far : FarEnds tk es (far_at slots)

-- of the edges of all cells
abbrev pub Levelled : List ℕ → List ℕ → List ℕ → Type 0
Levelled tc tk slots = Levels tk (edges_of (cells_of tc)) slots

-- the same, and for each crossed slot how many crossed slots come before it
pub record Numbered (tc tk : List ℕ) (clearance : Float) (slots : List ℕ) : Type 0 where
  pub levelled : Levelled tc tk slots
  pub number : (i : ℕ) → i < 14616 → T (crossed_slot (survey_of tc tk clearance) i) → number_at slots i ≡ length (slots_below (survey_of tc tk clearance) i)

-- 1 for each corner record that is wet at the clearance, else 0
pub record Wets (tk : List ℕ) (clearance : Float) (table : List ℕ) : Type 0 where
  pub size : length table ≡ 4872
  pub entry : (k : ℕ) → k < record_count tk → get_or table k 0 ≡ bit (wet_at (corners_of tk) clearance (place_at (places_of tk) k))

-- for each point, its slot
pub record Carriers (s : Survey) (table : List ℕ) : Type 0 where
  pub size : length table ≡ 14616
  pub entry : (v : ℕ) → v < length (slots_below s 14616) → get_or table v 0 ≡ get_or (slots_below s 14616) v 0

-- for each point, its twin
pub record Twins (s : Survey) (table : List ℕ) : Type 0 where
  pub size : length table ≡ 14616
  pub entry : (v : ℕ) → v < length (slots_below s 14616) → get_or table v 0 ≡ twin_of s v

-- ---- edges by corner record

-- the edge of level l that starts at corner record k on axis a is there, and is odd
pub record OddEdge (tc tk : List ℕ) (clearance : Float) (a : Axis) (k l : ℕ) : Type 0 where
  pub inside : k < record_count tk
  pub is_edge_lem : T (is_edge (cells_of tc) a (place_at (places_of tk) k) l)
  pub is_odd : T (odd (wet_at (corners_of tk) clearance) a (place_at (places_of tk) k) l)

-- slot i is that of the edge that carries the point of the edge of level l from p on
pub record CarrierSlot (s : Survey) (a : Axis) (p : Place) (l i : ℕ) : Type 0 where
  pub inside : i < 14616
  pub crossed : T (crossed_slot s i)
  pub carries : slot_edge s i ≡ carrier s a p l

-- What a search for the edge of level l from p on gives: the corner record there, or the number of records where no cell has the edge.
pub record Sought (tc tk : List ℕ) (a : Axis) (p : Place) (l r : ℕ) : Type 0 where
  pub found : r < record_count tk → T (is_edge (cells_of tc) a p l) × (place_at (places_of tk) r ≡ p)
  pub none : record_count tk ≤ r → is_edge (cells_of tc) a p l ≡ false
