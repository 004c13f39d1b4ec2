-- The steps of one face by its wet marks: which edges they leave and enter, and how the face looks from its other side.
use Prim.Native.Nat.{ℕ, ◌+◌, ◌*◌, ◌-◌}
use native.Mathlib.Omega.{arith}
use mathlib.Core.Path.{◌≡◌, ◌∙◌}
use mathlib.Core.Bool.{Bool, true, false, not, ◌&&◌}
use mathlib.Core.List.{◌++◌}
use Rattle.base.specs.Lists.{sum, bit}
use Rattle.rules.specs.Steps.{Step, step_in, steps}
use Rattle.base.proofs.Sums.{sum_append}

-- from dry to wet
abbrev pub rises : Bool → Bool → Bool
rises a b = not a && b

leaves_by : (c : Bool) (i : ℕ) (w0 w1 w2 w3 : Bool) (h : ℕ → ℕ) → sum (λ t. h t.0) (step_in c i w0 w1 w2 w3) ≡ bit (rises w0 w1) * h i
leaves_by c i true w1 w2 w3 h = omega arith
leaves_by c i false true w2 w3 h = omega arith
leaves_by c i false false w2 w3 h = omega arith

-- One step leaves each edge that goes from dry to wet round the face, whichever corners are cut off. h: any numbers at the edges.
pub leaving : (c w0 w1 w2 w3 : Bool) (h : ℕ → ℕ) → sum (λ t. h t.0) (steps c w0 w1 w2 w3)
    ≡ bit (rises w0 w1) * h 0 + bit (rises w1 w2) * h 1 + bit (rises w2 w3) * h 2 + bit (rises w3 w0) * h 3
leaving c w0 w1 w2 w3 h =
    let s0 = step_in c 0 w0 w1 w2 w3 in
    let s1 = step_in c 1 w1 w2 w3 w0 in
    let s2 = step_in c 2 w2 w3 w0 w1 in
    let s3 = step_in c 3 w3 w0 w1 w2 in
    omega (
      arith,
      sum_append (λ (t : Step). h t.0) (s0 ++ s1 ++ s2) s3,
      sum_append (λ (t : Step). h t.0) (s0 ++ s1) s2,
      sum_append (λ (t : Step). h t.0) s0 s1,
      leaves_by c 0 w0 w1 w2 w3 h,
      leaves_by c 1 w1 w2 w3 w0 h,
      leaves_by c 2 w2 w3 w0 w1 h,
      leaves_by c 3 w3 w0 w1 w2 h,
    )

-- Seen from the other side the corners 1 and 3 change places, and edge i is edge 3 - i: the steps are the same ones, turned round.
pub flip : (c w0 w1 w2 w3 : Bool) (h : ℕ → ℕ → ℕ) → sum (λ t. h t.0 t.1) (steps c w0 w3 w2 w1) ≡ sum (λ t. h (3 - t.1) (3 - t.0)) (steps c w0 w1 w2 w3)
flip c true true true true h = omega arith
flip c true true true false h = omega arith
flip c true true false true h = omega arith
flip c true true false false h = omega arith
flip c true false true true h = omega arith
flip true true false true false h = omega arith
flip false true false true false h = omega arith
flip c true false false true h = omega arith
flip c true false false false h = omega arith
flip c false true true true h = omega arith
flip c false true true false h = omega arith
flip true false true false true h = omega arith
flip false false true false true h = omega arith
flip c false true false false h = omega arith
flip c false false true true h = omega arith
flip c false false true false h = omega arith
flip c false false false true h = omega arith
flip c false false false false h = omega arith

-- One step enters each edge that goes from wet to dry.
pub entering : (c w0 w1 w2 w3 : Bool) (h : ℕ → ℕ) → sum (λ t. h t.1) (steps c w0 w1 w2 w3)
    ≡ bit (rises w1 w0) * h 0 + bit (rises w2 w1) * h 1 + bit (rises w3 w2) * h 2 + bit (rises w0 w3) * h 3
entering c w0 w1 w2 w3 h = flip c w0 w3 w2 w1 (λ i j. h j) ∙ leaving c w0 w3 w2 w1 (λ i. h (3 - i)) ∙ omega arith
