-- The starred surveys of document 01, each by name. Where a request of document 02 changes what one gives, it has the new answer. Those that are quick to
-- compute are proved here, where the wrong rules of must-fail/ are tried; all together, as one list, they are proved in examples/proofs/Starred.antt.
-- Assumes nothing.
use Prim.Native.Nat.{ℕ}
use mathlib.Core.Bool.{true, false}
use mathlib.Core.List.{List, [], ◌∷◌, ◌++◌}
use Rattle.rules.specs.Survey.{cells_of}
use Rattle.rules.proofs.Surveys.{cell_table, place, Soundings, at, minus_zero, one, minus_one, three, not_a_number, wet_at_only}
use Rattle.rules.proofs.Surveys.{Shape, shape, leaves, leaf, split}
use Rattle.rules.proofs.Surveys.{drawing, asking, Example, example, face_alone, untouched, Right, right, Each, each}

-- the bits of some coordinates
abbrev pub f64 : ℕ
f64 = 0x4280_0000

abbrev pub f128 : ℕ
f128 = 0x4300_0000

abbrev pub f256 : ℕ
f256 = 0x4380_0000

abbrev pub f384 : ℕ
f384 = 0x43c0_0000

abbrev pub f512 : ℕ
f512 = 0x4400_0000

abbrev pub f768 : ℕ
f768 = 0x4440_0000

abbrev pub f1024 : ℕ
f1024 = 0x4480_0000

unfoldable pub centre : Soundings
centre = wet_at_only (place 512 512 512 ∷ [])

-- the six points and the eight triangles about the centre
unfoldable pub six : List ℕ
six = f256 ∷ f512 ∷ f512 ∷ f768 ∷ f512 ∷ f512 ∷ f512 ∷ f256 ∷ f512 ∷ f512 ∷ f768 ∷ f512 ∷ f512 ∷ f512 ∷ f256 ∷ f512 ∷ f512 ∷ f768 ∷ []

unfoldable pub eight : List ℕ
eight = 0 ∷ 4 ∷ 2 ∷ 1 ∷ 2 ∷ 4 ∷ 0 ∷ 3 ∷ 4 ∷ 1 ∷ 4 ∷ 3 ∷ 0 ∷ 2 ∷ 5 ∷ 1 ∷ 5 ∷ 2 ∷ 0 ∷ 5 ∷ 3 ∷ 1 ∷ 3 ∷ 5 ∷ []

-- the cells and corners of the twin survey
unfoldable pub twins : Shape
unfolding cells_of
twins = shape (1 ∷ 9 ∷ leaves 15) (0 ∷ 256 ∷ 512 ∷ 1024 ∷ [])

abbrev pub twin_soundings : Soundings
twin_soundings = wet_at_only (place 256 512 512 ∷ [])

-- ---- the surveys, in document 01's order

-- one leaf, only (0,0,0) wet: open at the box (request 3)
abbrev pub one_leaf : Example
one_leaf = example leaf (wet_at_only (place 0 0 0 ∷ [])) (drawing 10 5) (12 ∷ 0 ∷ 0 ∷ untouched 10 5)

-- one split, only the centre wet
unfoldable pub centre_wet : Example
unfolding centre six eight
centre_wet = example split centre (drawing 18 24) (0 ∷ 6 ∷ 8 ∷ six ++ eight)

-- all dry; and all wet: open at the box (request 3)
abbrev pub all_dry : Example
all_dry = example split (λ p. minus_one) (drawing 0 0) (0 ∷ 0 ∷ 0 ∷ [])

abbrev pub all_wet : Example
all_wet = example split (λ p. one) (drawing 0 0) (12 ∷ 0 ∷ 0 ∷ [])

-- a face with two opposite wet corners, on either diagonal: two steps
abbrev pub saddles : List Example
saddles = face_alone true false true false (1 ∷ 2 ∷ 3 ∷ 0 ∷ []) ∷ face_alone false true false true (0 ∷ 1 ∷ 2 ∷ 3 ∷ []) ∷ []

-- dry -1 at 0, wet 3 at 256
unfoldable pub quarter_way : Example
unfolding twins
quarter_way = example twins (at (place 256 0 0 ∷ []) three minus_one) (asking 0 (place 0 0 0) 256) (0 ∷ 0 ∷ f64 ∷ 0 ∷ 0 ∷ 2 ∷ [])

-- sounding 0 at clearance 0, and sounding -0: dry (request 2)
abbrev pub zeros : List Example
zeros =
    example leaf (at (place 0 0 0 ∷ []) 0 minus_one) (drawing 9 3) (0 ∷ 0 ∷ 0 ∷ untouched 9 3) ∷
    example leaf (at (place 0 0 0 ∷ []) minus_zero minus_one) (drawing 9 3) (0 ∷ 0 ∷ 0 ∷ untouched 9 3) ∷ []

-- nine records, only record 3 split, entry 1
unfoldable pub third_split : Example
unfolding centre
third_split =
    example (record { cells = cell_table (0 ∷ 0 ∷ 0 ∷ 1 ∷ leaves 5); corners = split.corners }) centre (drawing 18 24) (3 ∷ 0 ∷ 0 ∷ untouched 18 24)

-- soundings 1,048,576.125, then not a number
abbrev pub bad_soundings : List Example
bad_soundings =
    example leaf (λ p. 0x4980_0001) (drawing 0 0) (7 ∷ 0 ∷ 0 ∷ []) ∷
    example leaf (λ p. not_a_number) (drawing 0 0) (7 ∷ 0 ∷ 0 ∷ []) ∷ []

-- an enquiry with axis 3
unfoldable pub axis_three : Example
unfolding centre
axis_three = example leaf centre (asking 3 (place 0 0 0) 1024) (11 ∷ [])

-- ---- those that are quick

unfoldable pub quick : List Example
unfolding centre_wet quarter_way third_split axis_three
quick =
    one_leaf ∷ centre_wet ∷ all_dry ∷ all_wet ∷ saddles ++ quarter_way ∷ zeros ++ third_split ∷ bad_soundings ++ axis_three ∷ []

pub quick_right : Each Right quick
unfolding right quick
quick_right = each quick tt
