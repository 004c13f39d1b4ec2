-- Examples of document 02, request 4: volumes that can be said by hand, from several references, and slices that are too short. Check 13 among the others is in
-- rules/proofs/Volumes.antt.
-- Assumes nothing.
use Prim.Native.Nat.{ℕ, ◌+◌, ◌*◌}
use mathlib.Core.List.{List, [], ◌∷◌, ◌++◌}
use Rattle.base.specs.Grid.{Place, origin}
use Rattle.rules.proofs.Surveys.{place, at, minus_one, two, split, untouched, Each}
use Rattle.rules.proofs.Starred.{f512, centre, six, eight}
use Rattle.rules.proofs.Volumes.{Measure, measure, measured, Measured, each_measured}

-- One split, only the centre wet: six points at 256 from it, three squares that cross. In each of the eight octants a tetrahedron has six times the volume
-- 256 × 256 × 256.
abbrev halves : Place → Measure
halves r = measure split centre r 18 24 (0 ∷ 6 ∷ 8 ∷ 0 ∷ 8 * (256 * 256 * 256) * 4096 ∷ six ++ eight)

-- a third of 512 rounded, and 1,024 less that: in sixteenths 2,730 2/3 and 13,653 1/3
abbrev low : ℕ
low = 0x432a_aaab

abbrev high : ℕ
high = 0x4455_5555

-- Soundings 2 at the centre and -1 elsewhere: each point is taken down, so that the eight tetrahedra have sides of 8,192 - 2,730 and 13,653 - 8,192
-- sixteenths, in all combinations. To the nearest sixteenth the first would be 5,461 as well.
abbrev thirds : Place → Measure
thirds r = measure split (at (place 512 512 512 ∷ []) two minus_one) r 18 24
    (0 ∷ 6 ∷ 8 ∷ 0 ∷ (5462 + 5461) * (5462 + 5461) * (5462 + 5461) ∷
    (low ∷ f512 ∷ f512 ∷ high ∷ f512 ∷ f512 ∷ f512 ∷ low ∷ f512 ∷ f512 ∷ high ∷ f512 ∷ f512 ∷ f512 ∷ low ∷ f512 ∷ f512 ∷ high ∷ []) ++ eight)

unfoldable pub volumes : List Measure
unfolding centre six eight
volumes =
    halves origin ∷
    halves (place 1024 1024 1024) ∷
    halves (place 512 512 512) ∷
    thirds origin ∷
    thirds (place 1024 0 511) ∷
    -- slices that are too short: the counts, but no volume; with 13 not the counts either
    measure split centre origin 17 24 (9 ∷ 6 ∷ 8 ∷ 0 ∷ 0 ∷ untouched 17 24) ∷
    measure split centre origin 18 23 (10 ∷ 6 ∷ 8 ∷ 0 ∷ 0 ∷ untouched 18 23) ∷
    measure split centre (place 0 1025 0) 18 23 (13 ∷ 0 ∷ 0 ∷ 0 ∷ 0 ∷ untouched 18 23) ∷ []

pub volumes_right : Each Measured volumes
unfolding measured volumes
volumes_right = each_measured volumes tt
