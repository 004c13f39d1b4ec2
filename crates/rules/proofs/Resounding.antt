-- Examples of document 02, request 6: one leaf whose records are of day 5, its lowest corner resounded.
-- Assumes nothing.
use Prim.Native.Nat.{ℕ}
use mathlib.Core.Bool.{Bool, not, ◌&&◌}
use mathlib.Core.List.{List, [], ◌∷◌, ◌++◌}
use lib.Dec.{eqb, T}
use lib.ListN.{take, replicate}
use Rattle.base.specs.Lists.{all, collect, little, bytes}
use Rattle.base.specs.Grid.{origin}
use Rattle.rules.specs.Resounding.{day_in, amended, bad_amendments, check_amended}
use Rattle.rules.proofs.Surveys.{place, Soundings, at, one, minus_one, two, three, not_a_number, resounded, leaf}

-- amendments to a corner table, and what comes of them: what the check of the survey gives, and the day and the sounding's bits in force at the lowest corner
pub record Resounding : Type 0 where
  pub soundings : Soundings
  pub amendments : List ℕ
  pub refusal : ℕ
  pub day : ℕ
  pub bits : ℕ

abbrev resounding : List ℕ → ℕ → ℕ → ℕ → Resounding
resounding ta n d v = record { soundings = at [] one minus_one; amendments = ta; refusal = n; day = d; bits = v }

-- where the lowest corner was not a number
abbrev mended : List ℕ → ℕ → ℕ → ℕ → Resounding
mended ta n d v = record { soundings = at (origin ∷ []) not_a_number minus_one; amendments = ta; refusal = n; day = d; bits = v }

-- the lowest corner resounded, by the bits of a sounding and a day
abbrev again : ℕ → ℕ → List ℕ
again v day = resounded origin v day

-- a place that is no corner
abbrev stray : ℕ → List ℕ
stray day = resounded (place 512 0 0) one day

unfoldable pub resoundings : List Resounding
resoundings =
    resounding [] 0 5 minus_one ∷
    -- older, of the same day, newer
    resounding (again one 4) 0 5 minus_one ∷
    resounding (again one 5) 0 5 one ∷
    resounding (again one 6) 0 6 one ∷
    -- several: the highest day, and of equal days the last
    resounding (again two 7 ++ again three 6) 0 7 two ∷
    resounding (again two 6 ++ again three 6) 0 6 three ∷
    resounding (again two 6 ++ again three 7 ++ again one 6) 0 7 three ∷
    -- day numbers have 16 bits
    resounding (again two 256 ++ again three 255) 0 256 two ∷
    -- another corner does not matter here
    resounding (resounded (place 1024 0 0) three 9) 0 5 minus_one ∷
    -- not whole records; at no corner, even if too old to hold; in this order
    resounding (take 11 (again one 6)) 14 5 minus_one ∷
    mended (take 11 (again one 6)) 14 5 not_a_number ∷
    resounding (stray 6) 15 5 minus_one ∷
    resounding (stray 0) 15 5 minus_one ∷
    resounding (again one 6 ++ stray 0) 15 6 one ∷
    resounding (stray 6 ++ 0 ∷ []) 14 5 minus_one ∷
    -- 7 looks at what is in force alone
    mended [] 7 5 not_a_number ∷
    mended (again one 4) 7 5 not_a_number ∷
    mended (again one 5) 0 5 one ∷
    resounding (again not_a_number 4) 0 5 minus_one ∷
    resounding (again not_a_number 5) 7 5 not_a_number ∷
    resounding (again not_a_number 6 ++ again one 6) 0 6 one ∷
    mended (stray 0) 15 5 not_a_number ∷ []

unfoldable pub right : Resounding → Bool
unfolding day_in amended check_amended
right r =
    let tk = collect (λ p. resounded p (r.soundings p) 5) leaf.corners in
    let t = amended tk r.amendments in
    eqb (check_amended leaf.cells tk r.amendments) r.refusal && (eqb (day_in t) r.day && eqb (little (bytes t 6 4)) r.bits)

pub resoundings_right : T (all right resoundings)
unfolding right resoundings
resoundings_right = tt

-- 1,000 amendments may be lent, and no more
pub most_amendments : T (not (bad_amendments (replicate 12000 0)) && bad_amendments (replicate 12012 0))
most_amendments = tt
