-- The face steps of a leaf, by the tables of cells, of cells across and of crossings: in the shape of the rules' `leaf_steps`.
-- A row is a face of a cell as a leaf sees it. Row i, of six, is the leaf's own side i; row 6 + i is the side towards the leaf of a cell across its
-- side i. Both are seen from outside the leaf, so right and up are those of side i.
use Rattle.std.specs.Prelude.{ℕ, zero, suc, ◌+◌, ◌*◌, ◌/◌, ◌%◌, ◌≤◌, ◌<◌, ◌≡◌, Bool, true, false, cond, List, [], ◌∷◌, map, T, eqb, ltb, length, get_or}
use Rattle.std.specs.Bool.{beq}
use Rattle.base.specs.Lists.{collect, count, position}
use Rattle.base.specs.Grid.{origin, move, axes, same}
use Rattle.rules.specs.Survey.{Cell, cell, size, cell_corners, entry, entries}
use Rattle.rules.specs.Edges.{same_edge}
use Rattle.rules.specs.Steps.{Side, Face, face, face_corner, face_edge, Step}
use Rattle.rules.specs.Outputs.{entries_right}
use Rattle.rules.specs.Closing.{cell_edges_on}
use Rattle.trace.specs.Trace.{meets}
use Rattle.across.specs.Across.{side_number}
use Rattle.faces.specs.Patterns.{wet_digit, step_from, pattern_of, step_to}

-- the side of a leaf that a row is on
abbrev pub row_side : ℕ → Side
row_side r = side_number (r % 6)

-- whether the row is the upper side of its cell: the cell across shows the leaf its opposite side
abbrev pub row_upper : ℕ → Bool
row_upper r = beq (row_side r).upper (ltb r 6)

-- the upper or the lower side of a cell on the axis of a side
abbrev pub face_on : Side → Bool → Cell → Face
face_on side upper c = face (cond upper (move side.across (size c) c.low) c.low) c.level

-- The numbers of its corners among the eight of the cell, and of its edges among the twelve: counted on the unit cell.
abbrev pub unit : Cell
unit = cell origin 0 false

unfoldable pub corner_on : Side → Bool → ℕ → ℕ
corner_on side upper j = position (same (face_corner side (face_on side upper unit) j)) 0 (cell_corners unit)

unfoldable pub edge_on : Side → Bool → ℕ → ℕ
edge_on side upper j = position (same_edge (face_edge side (face_on side upper unit) j)) 0 (collect (cell_edges_on unit) axes)

abbrev pub row_corner : ℕ → ℕ → ℕ
row_corner r j = corner_on (row_side r) (row_upper r) j

abbrev pub row_edge : ℕ → ℕ → ℕ
row_edge r j = edge_on (row_side r) (row_upper r) j

-- the wet pattern of a row of record m
unfoldable pub row_pattern : List ℕ → ℕ → ℕ → ℕ
unfolding corner_on
row_pattern crossings r m =
    let w : ℕ → Bool = λ j. wet_digit (get_or crossings (13 * m + 12) 0) (row_corner r j) in
    pattern_of (w 0) (w 1) (w 2) (w 3)

-- the step, if there is one, that enters a row of record m by edge j, where the row has a pattern
unfoldable pub edge_steps : List ℕ → ℕ → ℕ → ℕ → ℕ → List Step
unfolding edge_on step_from
edge_steps crossings r m pattern j =
    let point : ℕ → ℕ = λ i. get_or crossings (13 * m + row_edge r i) 0 in
    map (λ t. (point t.0, point t.1)) (step_to j (step_from pattern j))

-- the steps in a row of record m
unfoldable pub row_steps : List ℕ → ℕ → ℕ → List Step
unfolding row_pattern edge_steps
row_steps crossings r m = collect (edge_steps crossings r m (row_pattern crossings r m)) (count 0 4)

-- the corners at the quarters of a face, in the order of the rules' small faces
abbrev pub quarters : List ℕ
quarters = 0 ∷ 1 ∷ 3 ∷ 2 ∷ []

-- The steps in the small faces of a row of record m: of a split record, those in the children at the quarters; k bounds how far down.
unfoldable pub small_steps_within : ℕ → List ℕ → List ℕ → ℕ → ℕ → List Step
unfolding row_steps corner_on
small_steps_within zero tc crossings r m = []
small_steps_within (suc k) tc crossings r m =
    let small = collect (λ j. small_steps_within k tc crossings r (entry tc m + row_corner r j)) quarters in
    cond (eqb (entry tc m) 0) (row_steps crossings r m) small

-- records rise on the way down, so it ends before their number is used up
unfoldable pub small_table_steps : List ℕ → List ℕ → ℕ → ℕ → List Step
unfolding small_steps_within
small_table_steps tc crossings r m = small_steps_within (length tc / 4) tc crossings r m

-- the steps on side i of the leaf of record n
unfoldable pub side_table_steps : List ℕ → List ℕ → List ℕ → ℕ → ℕ → List Step
unfolding row_steps small_table_steps
side_table_steps tc across crossings n i =
    let m = get_or across (6 * n + i) 0 in
    let small = small_table_steps tc crossings (6 + i) m in
    cond (eqb m 0) (row_steps crossings i n) small

-- the face steps of the leaf of record n
unfoldable pub leaf_table_steps : List ℕ → List ℕ → List ℕ → ℕ → List Step
unfolding side_table_steps
leaf_table_steps tc across crossings n = collect (side_table_steps tc across crossings n) (count 0 6)

-- ---- what the tables must have so that all is read and written inside them

-- the points that steps meet have their place in a trace of this length
pub record Fits (ss : List Step) (room : ℕ) : Type 0 where
  pub small : room ≤ 43849
  pub inside : (v : ℕ) → meets ss v ≡ true → 3 * v + 2 < room

-- the cell table passes check 3, and the table of crossings has room for its records
pub record Roomy (tc crossings : List ℕ) : Type 0 where
  pub entries_right_lem : T (entries_right 0 0 (entries tc))
  pub room : 13 * (length tc / 4) ≤ length crossings

-- so has the table of cells across, for record n, and it names records
pub record Reaching (tc across : List ℕ) (n : ℕ) : Type 0 where
  pub inside : n < length tc / 4
  pub room : 6 * (length tc / 4) ≤ length across
  pub named : (i : ℕ) → i < 6 → get_or across (6 * n + i) 0 < length tc / 4
