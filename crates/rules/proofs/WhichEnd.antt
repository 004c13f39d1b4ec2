-- Examples of document 02, request 1: steps by the answers for four edges. Wet ends that the enquiry tells are in Starred.antt, Further.antt and
-- examples/proofs/Divided.antt.
-- Assumes nothing.
use mathlib.Core.Bool.{true, false}
use mathlib.Core.List.{List, [], ◌∷◌}
use Rattle.base.specs.Grid.{X, Y, Z}
use Rattle.rules.specs.Steps.{face}
use Rattle.rules.proofs.Surveys.{place, Soundings, wet_at_only, leaf, seeing, Example, example, Right, right, Each, each}
use Rattle.rules.proofs.Starred.{twins}

-- on one leaf, both ends of the edge along x at the origin are wet: points 0 and 1 lie on the edges along y that start there, 2 and 3 on those along z
abbrev edge_wet : Soundings
edge_wet = wet_at_only (place 0 0 0 ∷ place 1024 0 0 ∷ [])

unfoldable pub ends : List Example
unfolding twins
ends =
    -- a face with one wet corner on the leaf's upper side on x, one on its lower side; a face with two wet corners on its lower side on z
    example leaf edge_wet (seeing X true (face (place 1024 0 0) 10)) (1 ∷ 2 ∷ 1 ∷ 3 ∷ 1 ∷ 3 ∷ 1 ∷ []) ∷
    example leaf edge_wet (seeing X false (face (place 0 0 0) 10)) (1 ∷ 2 ∷ 1 ∷ 0 ∷ 2 ∷ 0 ∷ 2 ∷ []) ∷
    example leaf edge_wet (seeing Z false (face (place 0 0 0) 10)) (1 ∷ 2 ∷ 1 ∷ 1 ∷ 0 ∷ 1 ∷ 0 ∷ []) ∷
    -- a face with a divided odd edge, on the upper side of record 2 on y; its lower side on x, which is no small face, since record 1 across is split
    example twins (wet_at_only (place 512 512 512 ∷ [])) (seeing Y true (face (place 512 512 0) 9)) (1 ∷ 2 ∷ 1 ∷ 4 ∷ 1 ∷ 4 ∷ 1 ∷ []) ∷
    example twins (wet_at_only (place 512 512 512 ∷ [])) (seeing X false (face (place 512 0 0) 9)) (0 ∷ 2 ∷ 1 ∷ 2 ∷ 4 ∷ 2 ∷ 4 ∷ []) ∷ []

pub ends-right : Each Right ends
unfolding right ends twins
ends-right = each ends tt
