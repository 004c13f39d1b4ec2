-- Examples of document 02, request 3: pools that run out of the box, on each of its six faces; and what such a survey still serves.
-- Assumes nothing.
use Prim.Native.Nat.{ℕ}
use mathlib.Core.List.{List, [], ◌∷◌}
use Rattle.base.specs.Grid.{Place}
use Rattle.rules.proofs.Surveys.{place, at, one, minus_one, not_a_number, wet_at_only}
use Rattle.rules.proofs.Surveys.{leaf, split, checking, drawing, asking, Example, example, example_at, untouched, Right, right, Each, each}
use Rattle.rules.proofs.Starred.{f512}
use Rattle.rules.proofs.Further.{minus_beyond, one_wet, refused, refused_at}

-- one split, the centre wet, and one place besides
abbrev besides : Place → Example
besides p = example split (wet_at_only (place 512 512 512 ∷ p ∷ [])) (drawing 18 24) (12 ∷ 0 ∷ 0 ∷ untouched 18 24)

abbrev minus_two : ℕ
minus_two = 0xc000_0000

unfoldable pub openings : List Example
openings =
    -- the middle of each outer face; a corner of the box and the middle of one of its edges are on several
    besides (place 0 512 512) ∷
    besides (place 1024 512 512) ∷
    besides (place 512 0 512) ∷
    besides (place 512 1024 512) ∷
    besides (place 512 512 0) ∷
    besides (place 512 512 1024) ∷
    besides (place 1024 1024 1024) ∷
    besides (place 0 512 1024) ∷
    -- a survey without a point is refused too; one whose outside is awash is not (examples/proofs/Drawings.antt)
    example leaf (λ p. one) (drawing 0 0) (12 ∷ 0 ∷ 0 ∷ []) ∷
    -- wet by the clearance: the same soundings at clearance 0 are drawn (`centre_wet` in Starred.antt)
    example_at minus_two split (at (place 512 512 512 ∷ []) one minus_one) (drawing 0 0) (12 ∷ 0 ∷ 0 ∷ []) ∷
    -- 7 and 12, 8 and 12: the lower number; 12, 9 and 10: 12, with no counts
    refused 7 leaf (at (place 0 0 0 ∷ []) one not_a_number) ∷
    refused_at minus_beyond 8 leaf one_wet ∷
    example leaf one_wet (drawing 0 0) (12 ∷ 0 ∷ 0 ∷ []) ∷
    -- the check by itself and the edge enquiry are as they were
    example leaf one_wet checking (0 ∷ []) ∷
    example leaf one_wet (asking 0 (place 0 0 0) 1024) (0 ∷ 0 ∷ f512 ∷ 0 ∷ 0 ∷ 1 ∷ []) ∷
    example leaf one_wet (asking 0 (place 0 0 1024) 1024) (0 ∷ []) ∷
    example leaf one_wet (asking 0 (place 0 0 0) 512) (11 ∷ []) ∷ []

pub openings_right : Each Right openings
unfolding right openings
openings_right = each openings tt
