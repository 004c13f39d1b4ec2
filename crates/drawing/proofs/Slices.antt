-- The lent slices after drawing.
--     room, triangles-back                         what was written is read back
--     points_short, triangles_short, none_short    which slice is too short
-- Assumes nothing.
use Prim.Native.Nat.{ℕ, ◌≤◌, ◌<◌}
use native.Mathlib.Omega.{arith}
use mathlib.Core.Path.{◌≡◌, refl, sym, ap}
use mathlib.Core.Bool.{Bool, cond}
use mathlib.Core.List.{List, [], ◌∷◌, ◌++◌}
use lib.Dec.{ltb}
use lib.ListN.{length, drop, length-append}
use borrow.Author.Tests.{lt-ltb, le-ltb}
use Rattle.base.specs.Lists.{collect}
use Rattle.rules.specs.Steps.{Triangle}
use Rattle.rules.specs.Outputs.{numbers, first_of, written}
use Rattle.rules.specs.Closing.{triangles_in}

-- a slice written over from its front has room for what was written
pub room : {A : Type 0} (new slice : List A) → length new ≤ length (written new slice)
room new slice = omega (arith, length-append new (drop (length new) slice))

-- the triangles in a slice that begins with the numbers of a list of triangles
pub triangles-back : (ts : List Triangle) (rest : List ℕ) → triangles_in (length ts) (collect numbers ts ++ rest) ≡ ts
triangles-back [] rest = refl
triangles-back (t ∷ ts) rest = ap (λ (r : List Triangle). t ∷ r) (triangles-back ts rest)

-- ---- refusals of slices

-- slices of a and b elements, of which n and m are wanted
pub points_short : (a n b m : ℕ) → a < n → 9 ≡ first_of ((9, ltb a n) ∷ (10, ltb b m) ∷ [])
points_short a n b m h = sym (ap (λ (u : Bool). cond u 9 (cond (ltb b m) 10 0)) (lt-ltb a n h))

pub triangles_short : (a n b m : ℕ) → n ≤ a → b < m → 10 ≡ first_of ((9, ltb a n) ∷ (10, ltb b m) ∷ [])
triangles_short a n b m h k = sym (λ i. cond (le-ltb a n h i) 9 (cond (lt-ltb b m k i) 10 0))

pub none_short : (a n b m : ℕ) → n ≤ a → m ≤ b → 0 ≡ first_of ((9, ltb a n) ∷ (10, ltb b m) ∷ [])
none_short a n b m h k = sym (λ i. cond (le-ltb a n h i) 9 (cond (le-ltb b m k i) 10 0))
