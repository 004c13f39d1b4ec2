-- Examples of document 02, request 9: convoys over the corners of one leaf, and checks 21 and 8 of their clearances.
-- Assumes nothing.
use Prim.Native.Nat.{ℕ, ◌+◌}
use mathlib.Core.Bool.{cond}
use mathlib.Core.List.{List, [], ◌∷◌, ◌++◌, map}
use lib.Dec.{T}
use lib.ListN.{replicate}
use lib.Ieee.{binary32, of_bits}
use Rattle.base.specs.Lists.{all}
use Rattle.base.specs.Grid.{same}
use Rattle.rules.specs.Convoy.{convoy_amended}
use Rattle.rules.proofs.Surveys.{place, Soundings, at, minus_zero, one, minus_one, two, three, greatest, least, not_a_number, resounded, corner_table, leaf}
use Rattle.rules.proofs.Further.{infinity}
use Rattle.rules.proofs.Ways.{old, numbers_of, same_numbers, all_wet}

-- one leaf, the bits of the clearances, start, end, how long the slices are, and what comes of it
pub record Convoyed : Type 0 where
  pub soundings : Soundings
  pub amendments : List ℕ
  pub clearances : List ℕ
  pub start : ℕ
  pub end : ℕ
  pub way_length : ℕ
  pub work_length : ℕ
  -- the number, the count, the way slice, the work slice
  pub answer : List ℕ

abbrev given : Convoyed → List ℕ
given x =
    let t = corner_table leaf.corners x.soundings in
    numbers_of (convoy_amended leaf.cells t x.amendments (map (of_bits binary32) x.clearances) x.start x.end
    (replicate x.way_length old) (replicate x.work_length old))

-- with slices of given lengths; with slices that are just long enough
abbrev lent : Soundings → List ℕ → ℕ → ℕ → ℕ → ℕ → List ℕ → Convoyed
lent f cs a b m n r = record { soundings = f; amendments = []; clearances = cs; start = a; end = b; way_length = m; work_length = n; answer = r }

abbrev in_leaf : Soundings → List ℕ → ℕ → ℕ → List ℕ → Convoyed
in_leaf f cs a b r = lent f cs a b 8 8 r

-- corner 1 has the sounding 1, corner 2 has 2 and every other one 3
abbrev stepped : Soundings
stepped p = cond (same p (place 1024 0 0)) one (cond (same p (place 0 1024 0)) two three)

-- corners 1 and 2 are just awash at either zero
abbrev awash : Soundings
awash p = cond (same p (place 1024 0 0)) 0 (cond (same p (place 0 1024 0)) minus_zero one)

-- all wet, with an amendment table
abbrev with_amendments : List ℕ → List ℕ → ℕ → ℕ → List ℕ → Convoyed
with_amendments ta cs a b r = record {
  soundings = all_wet;
  amendments = ta;
  clearances = cs;
  start = a;
  end = b;
  way_length = 8;
  work_length = 8;
  answer = r;
}

-- by which corner 1 is dry
abbrev in_amended : List ℕ → ℕ → ℕ → List ℕ → Convoyed
in_amended cs a b r = with_amendments (resounded (place 1024 0 0) minus_one 1) cs a b r

-- the bits of minus infinity
abbrev minus_infinity : ℕ
minus_infinity = 0xff80_0000

-- the answers from corner 0 to corner 3: all corners wet; corner 1 dry; corners 1 and 2 dry; none wet, and only the work slice is written
abbrev straight : List ℕ
straight = 0 ∷ 3 ∷ 0 ∷ 1 ∷ 3 ∷ replicate 5 old ++ 1 ∷ 2 ∷ 2 ∷ 3 ∷ 2 ∷ 3 ∷ 3 ∷ 4 ∷ []

abbrev by_corner_two : List ℕ
by_corner_two = 0 ∷ 3 ∷ 0 ∷ 2 ∷ 3 ∷ replicate 5 old ++ 1 ∷ 0 ∷ 2 ∷ 3 ∷ 2 ∷ 3 ∷ 3 ∷ 4 ∷ []

abbrev around : List ℕ
around = 0 ∷ 5 ∷ 0 ∷ 4 ∷ 5 ∷ 7 ∷ 3 ∷ replicate 3 old ++ 1 ∷ 0 ∷ 0 ∷ 5 ∷ 2 ∷ 3 ∷ 3 ∷ 4 ∷ []

abbrev none : List ℕ
none = 20 ∷ 0 ∷ replicate 8 old ++ replicate 8 0

-- a refusal that writes nothing
abbrev untouched : ℕ → List ℕ
untouched n = n ∷ 0 ∷ replicate 16 old

-- the answer from corner 0 to corner 1, which is dry: what else is reached stands in the work slice
abbrev dry_end : List ℕ
dry_end = 20 ∷ 0 ∷ replicate 8 old ++ 1 ∷ 0 ∷ 2 ∷ 3 ∷ 2 ∷ 3 ∷ 3 ∷ 4 ∷ []

unfoldable pub convoys : List Convoyed
convoys =
    -- one boat; two that would go another way each; three, of which the last decides, or the first; all clearances below 0
    in_leaf stepped (0 ∷ []) 0 3 straight ∷
    in_leaf stepped (0 ∷ one ∷ []) 0 3 by_corner_two ∷
    in_leaf stepped (one ∷ 0 ∷ []) 0 3 by_corner_two ∷
    in_leaf stepped (0 ∷ one ∷ two ∷ []) 0 3 around ∷
    in_leaf stepped (two ∷ minus_one ∷ one ∷ []) 0 3 around ∷
    in_leaf awash (least ∷ minus_one ∷ []) 0 3 straight ∷
    -- one boat has no way: the convoy has none; an end that is dry for one boat
    in_leaf stepped (0 ∷ three ∷ one ∷ []) 0 3 none ∷
    in_leaf stepped (0 ∷ one ∷ []) 0 1 dry_end ∷
    -- +0 and -0, in either order
    in_leaf awash (0 ∷ minus_zero ∷ []) 0 3 around ∷
    in_leaf awash (minus_zero ∷ 0 ∷ []) 0 3 around ∷
    -- corner 1 dry as amended; longer slices
    in_amended (minus_one ∷ 0 ∷ []) 0 3 by_corner_two ∷
    lent stepped (one ∷ one ∷ []) 0 0 9 9 (0 ∷ 1 ∷ 0 ∷ replicate 8 old ++ 1 ∷ 0 ∷ 2 ∷ 3 ∷ 2 ∷ 3 ∷ 3 ∷ 4 ∷ old ∷ []) ∷
    -- 16 boats, of which the last decides, or the ninth; 17; 32; none
    in_leaf stepped (replicate 15 0 ++ one ∷ []) 0 3 by_corner_two ∷
    in_leaf stepped (replicate 8 0 ++ one ∷ replicate 7 0) 0 3 by_corner_two ∷
    in_leaf stepped (replicate 17 0) 0 3 (untouched 21) ∷
    in_leaf stepped (replicate 32 0) 0 3 (untouched 21) ∷
    in_leaf stepped [] 0 3 (untouched 21) ∷
    -- 21 before 8 and 18, after 14 and 7
    in_leaf stepped (replicate 17 not_a_number) 8 8 (untouched 21) ∷
    with_amendments (0 ∷ []) [] 0 3 (untouched 14) ∷
    in_leaf (at (place 0 0 0 ∷ []) not_a_number one) [] 0 3 (untouched 7) ∷
    -- any clearance out of range, wherever it stands, the greatest, the least or neither; the limits themselves are in range
    in_leaf stepped (not_a_number ∷ []) 0 3 (untouched 8) ∷
    in_leaf stepped (0 ∷ not_a_number ∷ []) 0 3 (untouched 8) ∷
    in_leaf stepped (not_a_number ∷ 0 ∷ []) 0 3 (untouched 8) ∷
    in_leaf stepped (replicate 15 0 ++ not_a_number ∷ []) 0 3 (untouched 8) ∷
    in_leaf stepped (0 ∷ infinity ∷ []) 0 3 (untouched 8) ∷
    in_leaf stepped (minus_infinity ∷ 0 ∷ []) 0 3 (untouched 8) ∷
    in_leaf stepped (0 ∷ (least + 1) ∷ one ∷ []) 0 3 (untouched 8) ∷
    in_leaf stepped (0 ∷ (greatest + 1) ∷ []) 0 3 (untouched 8) ∷
    in_leaf stepped (least ∷ greatest ∷ []) 0 3 none ∷
    -- 8 before 18, 18 before 19, 19 before 20. All these pools are open at the box, and 12 is not given.
    in_leaf stepped (0 ∷ not_a_number ∷ []) 8 0 (untouched 8) ∷
    lent stepped (0 ∷ three ∷ []) 8 0 8 7 (18 ∷ 0 ∷ replicate 15 old) ∷
    lent stepped (0 ∷ three ∷ []) 0 0 7 8 (19 ∷ 0 ∷ replicate 15 old) ∷ []

pub convoys_right : T (all (λ x. same_numbers (given x) x.answer) convoys)
unfolding convoys convoy_amended of_bits
convoys_right = tt
