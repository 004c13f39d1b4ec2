-- Examples of document 02, request 8: ways over the corners of one leaf, and of one split, where edges are divided; and the refusals of its own.
-- Assumes nothing.
use Prim.Native.Nat.{ℕ}
use mathlib.Core.Bool.{Bool, true, false, ◌&&◌}
use mathlib.Core.List.{List, [], ◌∷◌, ◌++◌}
use lib.Dec.{T, eqb}
use lib.ListN.{replicate}
use lib.Ieee.{binary32, of_bits}
use Rattle.base.specs.Lists.{all}
use Rattle.base.specs.Grid.{origin}
use Rattle.rules.specs.Ways.{Shown, passage_amended}
use Rattle.rules.proofs.Surveys.{place, Soundings, at, wet_at_only, one, minus_one, not_a_number, resounded, corner_table, Shape, leaf, split}

-- a survey, the bits of the clearance, start, end, how long the slices are, and what comes of it
pub record Passed : Type 0 where
  pub shape : Shape
  pub soundings : Soundings
  pub amendments : List ℕ
  pub clearance : ℕ
  pub start : ℕ
  pub end : ℕ
  pub way_length : ℕ
  pub work_length : ℕ
  -- the number, the count, the way slice, the work slice
  pub answer : List ℕ

-- what stands in every element of the slices before
abbrev pub old : ℕ
old = 65535

abbrev pub numbers_of : Shown → List ℕ
numbers_of s = s.result.number ∷ s.result.corners ∷ s.way ++ s.work

abbrev given : Passed → List ℕ
given x =
    let t = corner_table x.shape.corners x.soundings in
    numbers_of (passage_amended x.shape.cells t x.amendments (of_bits binary32 x.clearance) x.start x.end
    (replicate x.way_length old) (replicate x.work_length old))

abbrev pub same_numbers : List ℕ → List ℕ → Bool
same_numbers [] [] = true
same_numbers [] (y ∷ ys) = false
same_numbers (x ∷ xs) [] = false
same_numbers (x ∷ xs) (y ∷ ys) = let rest = same_numbers xs ys in eqb x y && rest

-- one leaf of eight corners, with soundings and a clearance of one's own; slices of given lengths
abbrev lent : Soundings → ℕ → ℕ → ℕ → ℕ → ℕ → List ℕ → Passed
lent f c a b m n r = record { shape = leaf; soundings = f; amendments = []; clearance = c; start = a; end = b; way_length = m; work_length = n; answer = r }

-- at clearance 0 and with slices that are just long enough
abbrev in_leaf : Soundings → ℕ → ℕ → List ℕ → Passed
in_leaf f a b r = lent f 0 a b 8 8 r

-- the same in one split, of 27 corners
abbrev in_split : Soundings → ℕ → ℕ → List ℕ → Passed
in_split f a b r = record { shape = split; soundings = f; amendments = []; clearance = 0; start = a; end = b; way_length = 27; work_length = 27; answer = r }

abbrev pub all_wet : Soundings
all_wet = λ p. one

-- a leaf with all corners wet, and amendments
abbrev in_amended : List ℕ → ℕ → ℕ → List ℕ → Passed
in_amended ta a b r = record { shape = leaf; soundings = all_wet; amendments = ta; clearance = 0; start = a; end = b; way_length = 8; work_length = 8; answer = r }

unfoldable pub ways : List Passed
ways =
    -- all wet, from corner 0 to corner 7: of the six ways of three steps the lowest; what is past way and corners stays. The pool is open at the box, and 12 is
    -- not given.
    lent all_wet 0 0 7 9 9 (0 ∷ 4 ∷ 0 ∷ 1 ∷ 3 ∷ 7 ∷ replicate 5 old ++ 1 ∷ 2 ∷ 2 ∷ 3 ∷ 2 ∷ 3 ∷ 3 ∷ 4 ∷ old ∷ []) ∷
    -- corners 0 and 2 dry: there, and back, which is not the same turned round
    in_leaf (at (origin ∷ place 0 1024 0 ∷ []) minus_one one) 1 6 (0 ∷ 4 ∷ 1 ∷ 3 ∷ 7 ∷ 6 ∷ replicate 4 old ++ 0 ∷ 1 ∷ 0 ∷ 2 ∷ 3 ∷ 2 ∷ 4 ∷ 3 ∷ []) ∷
    in_leaf (at (origin ∷ place 0 1024 0 ∷ []) minus_one one) 6 1 (0 ∷ 4 ∷ 6 ∷ 4 ∷ 5 ∷ 1 ∷ replicate 4 old ++ 0 ∷ 4 ∷ 0 ∷ 3 ∷ 2 ∷ 3 ∷ 1 ∷ 2 ∷ []) ∷
    -- corners 1 and 3 dry
    in_leaf (at (place 1024 0 0 ∷ place 1024 1024 0 ∷ []) minus_one one) 0 7
    (0 ∷ 4 ∷ 0 ∷ 2 ∷ 6 ∷ 7 ∷ replicate 4 old ++ 1 ∷ 0 ∷ 2 ∷ 0 ∷ 2 ∷ 3 ∷ 3 ∷ 4 ∷ []) ∷
    -- corner 1 sounded again and found dry
    in_amended (resounded (place 1024 0 0) minus_one 1) 0 7 (0 ∷ 4 ∷ 0 ∷ 2 ∷ 3 ∷ 7 ∷ replicate 4 old ++ 1 ∷ 0 ∷ 2 ∷ 3 ∷ 2 ∷ 3 ∷ 3 ∷ 4 ∷ []) ∷
    -- the start is the end
    in_leaf all_wet 5 5 (0 ∷ 1 ∷ 5 ∷ replicate 7 old ++ 3 ∷ 2 ∷ 4 ∷ 3 ∷ 2 ∷ 1 ∷ 3 ∷ 2 ∷ []) ∷
    -- a dry start; one that is the end too; a dry end; an end out of reach: only the work slice is written
    in_leaf (wet_at_only (place 1024 0 0 ∷ [])) 0 1 (20 ∷ 0 ∷ replicate 8 old ++ replicate 8 0) ∷
    in_leaf (wet_at_only (place 1024 0 0 ∷ [])) 0 0 (20 ∷ 0 ∷ replicate 8 old ++ replicate 8 0) ∷
    in_leaf (wet_at_only (place 1024 0 0 ∷ [])) 1 0 (20 ∷ 0 ∷ replicate 8 old ++ 0 ∷ 1 ∷ replicate 6 0) ∷
    in_leaf (wet_at_only (origin ∷ place 1024 1024 0 ∷ [])) 0 3 (20 ∷ 0 ∷ replicate 8 old ++ 1 ∷ replicate 7 0) ∷
    -- ground just awash is dry
    lent all_wet one 0 0 8 8 (20 ∷ 0 ∷ replicate 8 old ++ replicate 8 0) ∷
    -- no such corner; slices too short, even where a shorter one would do for the way; 18 before 19, 19 before 20, 8 before 18
    in_leaf all_wet 8 0 (18 ∷ 0 ∷ replicate 16 old) ∷
    lent all_wet 0 0 8 0 0 (18 ∷ 0 ∷ []) ∷
    lent all_wet 0 0 0 7 8 (19 ∷ 0 ∷ replicate 15 old) ∷
    lent all_wet 0 0 0 8 7 (19 ∷ 0 ∷ replicate 15 old) ∷
    lent (wet_at_only []) 0 0 0 8 7 (19 ∷ 0 ∷ replicate 15 old) ∷
    lent all_wet not_a_number 8 8 0 0 (8 ∷ 0 ∷ []) ∷
    -- a divided edge is no step, though both its ends are wet; its halves are
    in_split (wet_at_only (origin ∷ place 1024 0 0 ∷ [])) 0 2 (20 ∷ 0 ∷ replicate 27 old ++ 1 ∷ replicate 26 0) ∷
    in_split (wet_at_only (origin ∷ place 512 0 0 ∷ place 1024 0 0 ∷ [])) 0 2 (0 ∷ 3 ∷ 0 ∷ 1 ∷ 2 ∷ replicate 24 old ++ 1 ∷ 2 ∷ 3 ∷ replicate 24 0) ∷ []

pub ways_right : T (all (λ x. same_numbers (given x) x.answer) ways)
unfolding ways passage_amended of_bits
ways_right = tt
