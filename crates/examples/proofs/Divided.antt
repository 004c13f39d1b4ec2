-- Examples about a divided edge, along x from 0 to 512, of the cells of the twin survey: the wet end that the enquiry tells (document 02, request 1), and
-- places beside ground that is awash (request 2).
-- Assumes nothing.
use Prim.Native.Nat.{ℕ}
use mathlib.Core.List.{List, [], ◌∷◌}
use Rattle.base.specs.Grid.{X}
use Rattle.rules.proofs.Surveys.{place, Soundings, at, minus_one, three, wet_at_only, asking, reckoning, Example, example, Right, right, Each, each}
use Rattle.rules.proofs.Starred.{f64, f128, f384, twins}

-- the bits of a quarter
abbrev quarter : ℕ
quarter = 0x3e80_0000

-- on the edge along x at the origin, wet 3 at 256 and at 512, and dry -1 at 0
abbrev wet_part : Soundings
wet_part = at (place 256 0 0 ∷ place 512 0 0 ∷ []) three minus_one

unfoldable pub divided : List Example
unfolding twins
divided =
    -- the upper end wet and the lower half odd, then the upper half; the lower end wet and the upper half odd
    example twins (wet_at_only (place 256 0 0 ∷ place 512 0 0 ∷ [])) (asking 0 (place 0 0 0) 512) (0 ∷ 0 ∷ f128 ∷ 0 ∷ 0 ∷ 2 ∷ []) ∷
    example twins (wet_at_only (place 512 0 0 ∷ [])) (asking 0 (place 0 0 0) 512) (0 ∷ 0 ∷ f384 ∷ 0 ∷ 0 ∷ 2 ∷ []) ∷
    example twins (wet_at_only (place 0 0 0 ∷ place 256 0 0 ∷ [])) (asking 0 (place 0 0 0) 512) (0 ∷ 0 ∷ f384 ∷ 0 ∷ 0 ∷ 1 ∷ []) ∷
    -- dry -1 at 0, wet 3 at 256 and at 512: the short edge, and the divided one above it, whose point is the short one's, at 64
    example twins wet_part (reckoning X (place 0 0 0) 8) (1 ∷ 1 ∷ 1 ∷ quarter ∷ 0 ∷ 0 ∷ 0 ∷ f64 ∷ 0 ∷ 0 ∷ []) ∷
    example twins wet_part (reckoning X (place 0 0 0) 9) (1 ∷ 1 ∷ 1 ∷ quarter ∷ 0 ∷ 0 ∷ 0 ∷ f128 ∷ 0 ∷ 0 ∷ []) ∷
    example twins wet_part (asking 0 (place 0 0 0) 512) (0 ∷ 0 ∷ f64 ∷ 0 ∷ 0 ∷ 2 ∷ []) ∷
    -- its lower end awash: its point lies on the upper half, whose lower end is -1
    example twins (λ p. at (place 0 0 0 ∷ []) 0 (wet_at_only (place 512 0 0 ∷ []) p) p) (asking 0 (place 0 0 0) 512) (0 ∷ 0 ∷ f384 ∷ 0 ∷ 0 ∷ 2 ∷ []) ∷ []

pub divided-right : Each Right divided
unfolding right divided
divided-right = each divided tt
