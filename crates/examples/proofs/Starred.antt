-- The starred surveys of document 01, as one list under one statement: those of rules/proofs/Starred.antt by name, and those that take longer to compute.
-- Assumes nothing.
use Prim.Native.Nat.{ℕ}
use mathlib.Core.List.{List, [], ◌∷◌, ◌++◌}
use Rattle.rules.proofs.Surveys.{place, at, minus_one, greatest, wet_at_only, split, drawing, Example, example, old_float, old_number, untouched}
use Rattle.rules.proofs.Surveys.{Right, right, Each, each}
use Rattle.rules.proofs.Starred.{f128, f256, f384, f512, centre, eight, twins, twin_soundings}
use Rattle.rules.proofs.Starred.{one_leaf, centre_wet, all_dry, all_wet, saddles, quarter_way, zeros, third_split, bad_soundings, axis_three}

-- 512 / 1,048,577 rounded, and 1,024 less that, rounded
abbrev low : ℕ
low = 0x39ff_fff0

abbrev high : ℕ
high = 0x447f_fff8

unfoldable pub starred : List Example
unfolding centre eight twins centre_wet quarter_way third_split axis_three
starred =
    one_leaf ∷
    -- one split, only the centre wet; slices that are too short by one element
    centre_wet ∷
    example split centre (drawing 17 24) (9 ∷ 6 ∷ 8 ∷ untouched 17 24) ∷
    example split centre (drawing 18 23) (10 ∷ 6 ∷ 8 ∷ untouched 18 23) ∷
    all_dry ∷
    all_wet ∷
    -- a face with two opposite wet corners; and the drawing of a leaf with such a side, inside the box (request 3)
    saddles ++
    example twins (wet_at_only (place 256 256 256 ∷ place 512 512 256 ∷ [])) (drawing 30 36)
    (0 ∷ 10 ∷ 12 ∷ f128 ∷ f256 ∷ f256 ∷ f384 ∷ f256 ∷ f256 ∷ f384 ∷ f512 ∷ f256 ∷ f256 ∷ f128 ∷ f256 ∷ f256 ∷ f384 ∷ f256 ∷ f512 ∷ f384 ∷ f256 ∷
    f256 ∷ f256 ∷ f128 ∷ f512 ∷ f512 ∷ f128 ∷ f256 ∷ f256 ∷ f384 ∷ f512 ∷ f512 ∷ f384 ∷
    5 ∷ 7 ∷ 9 ∷ 2 ∷ 9 ∷ 7 ∷ 0 ∷ 6 ∷ 3 ∷ 1 ∷ 3 ∷ 6 ∷ 0 ∷ 4 ∷ 6 ∷ 1 ∷ 6 ∷ 4 ∷ 2 ∷ 7 ∷ 5 ∷ 0 ∷ 3 ∷ 8 ∷ 1 ∷ 8 ∷ 3 ∷ 0 ∷ 8 ∷ 4 ∷ 1 ∷ 4 ∷ 8 ∷ 2 ∷ 5 ∷ 9 ∷ []) ∷
    quarter_way ∷
    zeros ++
    third_split ∷
    -- soundings 1,048,576, at the centre of one split (request 3), then those that are refused
    example split (at (place 512 512 512 ∷ []) greatest minus_one) (drawing 18 24)
    (0 ∷ 6 ∷ 8 ∷ low ∷ f512 ∷ f512 ∷ high ∷ f512 ∷ f512 ∷ f512 ∷ low ∷ f512 ∷ f512 ∷ high ∷ f512 ∷ f512 ∷ f512 ∷ low ∷ f512 ∷ f512 ∷ high ∷ eight) ∷
    bad_soundings ++
    axis_three ∷
    -- the twin survey; the elements past the last are untouched
    example twins twin_soundings (drawing 13 14)
    (0 ∷ 4 ∷ 4 ∷ f128 ∷ f512 ∷ f512 ∷ f384 ∷ f512 ∷ f512 ∷ f256 ∷ f384 ∷ f512 ∷ f256 ∷ f512 ∷ f384 ∷ old_float ∷
    0 ∷ 1 ∷ 3 ∷ 0 ∷ 2 ∷ 1 ∷ 0 ∷ 3 ∷ 2 ∷ 1 ∷ 2 ∷ 3 ∷ old_number ∷ old_number ∷ []) ∷ []

-- Each starred survey gives what document 01 says, as document 02 has changed it.
pub starred_right : Each Right starred
unfolding right starred
starred_right = each starred tt
