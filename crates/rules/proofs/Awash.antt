-- Examples of document 02, request 2: corners just awash, and places reckoned from them.
-- Assumes nothing.
use Prim.Native.Nat.{ℕ}
use mathlib.Core.List.{List, [], ◌∷◌}
use Rattle.base.specs.Grid.{X}
use Rattle.rules.proofs.Surveys.{place, at, minus_zero, one, minus_one, greatest, least, not_a_number}
use Rattle.rules.proofs.Surveys.{leaf, split, drawing, asking, reckoning, Example, example, example_at, untouched, Right, right, Each, each}
use Rattle.rules.proofs.Starred.{f1024}

-- bits of floats: the least number above 0, the greatest below it
abbrev above_zero : ℕ
above_zero = 1

abbrev below_zero : ℕ
below_zero = 0x8000_0001

unfoldable pub awash : List Example
awash =
    -- every corner awash: no points; the same at the greatest clearance
    example split (λ p. 0) (drawing 3 3) (0 ∷ 0 ∷ 0 ∷ untouched 3 3) ∷
    example_at greatest leaf (λ p. greatest) (drawing 3 3) (0 ∷ 0 ∷ 0 ∷ untouched 3 3) ∷
    -- the centre by the greatest number below the clearance: dry
    example split (at (place 512 512 512 ∷ []) below_zero minus_one) (drawing 3 3) (0 ∷ 0 ∷ 0 ∷ untouched 3 3) ∷
    -- an enquiry at the least clearance: only what lies above the least sounding is wet
    example_at least leaf (at (place 0 0 0 ∷ []) minus_one least) (asking 0 (place 0 0 0) 1024) (0 ∷ 0 ∷ f1024 ∷ 0 ∷ 0 ∷ 1 ∷ []) ∷
    -- t, the dry end and the place: awash with the wet end higher, then lower; at clearance -0, t is -0, and no coordinate is
    example leaf (at (place 1024 0 0 ∷ []) one 0) (reckoning X (place 0 0 0) 10) (1 ∷ 1 ∷ 1 ∷ 0 ∷ 0 ∷ 0 ∷ 0 ∷ 0 ∷ 0 ∷ 0 ∷ []) ∷
    example leaf (at (place 0 0 0 ∷ []) one 0) (reckoning X (place 0 0 0) 10) (1 ∷ 1 ∷ 1 ∷ 0 ∷ f1024 ∷ 0 ∷ 0 ∷ f1024 ∷ 0 ∷ 0 ∷ []) ∷
    example_at minus_zero leaf (at (place 1024 0 0 ∷ []) one 0) (reckoning X (place 0 0 0) 10) (1 ∷ 1 ∷ 1 ∷ minus_zero ∷ 0 ∷ 0 ∷ 0 ∷ 0 ∷ 0 ∷ 0 ∷ []) ∷
    -- an even edge, both ends awash: 0 / 0 is no t, and there is no place
    example leaf (λ p. 0) (reckoning X (place 0 0 0) 10) (1 ∷ 1 ∷ 0 ∷ not_a_number ∷ f1024 ∷ 0 ∷ 0 ∷ not_a_number ∷ 0 ∷ 0 ∷ []) ∷
    -- by the least number above the clearance, t is 1
    example leaf (at (place 0 0 0 ∷ []) above_zero minus_one) (reckoning X (place 0 0 0) 10) (1 ∷ 1 ∷ 1 ∷ one ∷ f1024 ∷ 0 ∷ 0 ∷ 0 ∷ 0 ∷ 0 ∷ []) ∷ []

pub awash-right : Each Right awash
unfolding right awash
awash-right = each awash tt
