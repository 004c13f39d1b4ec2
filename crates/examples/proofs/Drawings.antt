-- Further drawings under the statement of the starred surveys: larger trees, which tell wrong rules apart that the starred ones let pass; corners just awash
-- (document 02, request 2); slices that are too short.
-- Assumes nothing.
use Prim.Native.Nat.{ℕ}
use mathlib.Core.List.{List, [], ◌∷◌, ◌++◌}
use lib.ListN.{replicate}
use Rattle.rules.specs.Survey.{cells_of}
use Rattle.rules.proofs.Surveys.{place, at, minus_zero, one, minus_one, two, three, wet_at_only, Shape, shape, leaves, split, drawing, asking}
use Rattle.rules.proofs.Surveys.{Example, example, example_at, untouched, Right, right, Each, each}
use Rattle.rules.proofs.Starred.{f64, f128, f256, f512, f1024, centre, eight}
use Rattle.rules.proofs.Further.{two_pairs}

-- splits in records 0, 1 and 10: an open point lies inside a side of a leaf, not on an edge of it
unfoldable pub inside_side : Shape
unfolding cells_of
inside_side = shape (1 ∷ 9 ∷ leaves 8 ++ 17 ∷ leaves 14) (0 ∷ 128 ∷ 256 ∷ 384 ∷ 512 ∷ 1024 ∷ [])

unfoldable pub trees : List Example
unfolding two_pairs inside_side centre
trees =
    -- wet 2 and dry -1: a place reckoned from the lower end would round otherwise
    example two_pairs (at (place 64 512 512 ∷ place 256 512 512 ∷ []) two minus_one) (drawing 24 24)
    (0 ∷ 8 ∷ 8 ∷ 0x41aa_aaab ∷ f512 ∷ f512 ∷ 0x42d5_5555 ∷ f512 ∷ f512 ∷ 0x432a_aaab ∷ f512 ∷ f512 ∷ 0x43d5_5555 ∷ f512 ∷ f512 ∷
    f256 ∷ 0x43d5_5555 ∷ f512 ∷ f64 ∷ 0x43ea_aaab ∷ f512 ∷ f256 ∷ f512 ∷ 0x43d5_5555 ∷ f64 ∷ f512 ∷ 0x43ea_aaab ∷
    0 ∷ 1 ∷ 7 ∷ 2 ∷ 3 ∷ 6 ∷ 0 ∷ 5 ∷ 1 ∷ 2 ∷ 4 ∷ 3 ∷ 3 ∷ 4 ∷ 6 ∷ 2 ∷ 6 ∷ 4 ∷ 0 ∷ 7 ∷ 5 ∷ 1 ∷ 5 ∷ 7 ∷ []) ∷
    -- cells of two sizes across a side of a leaf
    example inside_side (wet_at_only (place 512 128 256 ∷ [])) (drawing 12 12)
    (0 ∷ 4 ∷ 4 ∷ 0x43e0_0000 ∷ f128 ∷ f256 ∷ f512 ∷ f64 ∷ f256 ∷ f512 ∷ 0x4340_0000 ∷ f256 ∷ f512 ∷ f128 ∷ 0x4340_0000 ∷
    1 ∷ 3 ∷ 2 ∷ 0 ∷ 1 ∷ 2 ∷ 0 ∷ 3 ∷ 1 ∷ 0 ∷ 2 ∷ 3 ∷ []) ∷
    -- the child in place 1 is in the upper half of x: split, it has this edge
    example inside_side centre (asking 0 (place 256 0 0) 128) (0 ∷ []) ∷
    example inside_side centre (asking 1 (place 0 256 0) 128) (11 ∷ []) ∷ []

-- the bits of the least number above 0
abbrev above_zero : ℕ
above_zero = 1

-- one split, the centre wet and every other corner just awash: each of the six points lies at the dry end
abbrev centre_awash : ℕ → ℕ → ℕ → Example
centre_awash clearance wet dry =
    example_at clearance split (at (place 512 512 512 ∷ []) wet dry) (drawing 18 24)
    (0 ∷ 6 ∷ 8 ∷ 0 ∷ f512 ∷ f512 ∷ f1024 ∷ f512 ∷ f512 ∷ f512 ∷ 0 ∷ f512 ∷ f512 ∷ f1024 ∷ f512 ∷ f512 ∷ f512 ∷ 0 ∷ f512 ∷ f512 ∷ f1024 ∷ eight)

unfoldable pub awash : List Example
unfolding eight
awash =
    centre_awash 0 one 0 ∷
    centre_awash 0 one minus_zero ∷
    centre_awash minus_zero one 0 ∷
    centre_awash one two one ∷
    -- the centre by the least number above the clearance: wet, and t is 1 by rounding
    example split (at (place 512 512 512 ∷ []) above_zero minus_one) (drawing 18 24) (0 ∷ 6 ∷ 8 ∷ replicate 18 f512 ++ eight) ∷ []

-- of 9 and 10 the lower number; a pool whose outside is awash is not refused by 12, but here for its slices
unfoldable pub short : List Example
unfolding centre
short =
    example split centre (drawing 17 23) (9 ∷ 6 ∷ 8 ∷ untouched 17 23) ∷
    example_at one split (at (place 512 512 512 ∷ []) three one) (drawing 0 0) (9 ∷ 6 ∷ 8 ∷ []) ∷ []

pub trees_right : Each Right trees
unfolding right trees
trees_right = each trees tt

pub awash-right : Each Right awash
unfolding right awash
awash-right = each awash tt

pub short_right : Each Right short
unfolding right short
short_right = each short tt
