-- Numbers written into a slice as far as it goes.
--     three_sets       the stores of one triangle
--     sets_append      stores that go on where others ended
--     sets-into        all stores, from the front on
--     into-all         what that is where there is room for all
-- Assumes nothing.
use mathlib.Core.Path.{◌≡◌, refl, sym, ap, ◌∙◌}
use mathlib.Core.List.{List, [], ◌∷◌, ◌++◌}
use Prim.Native.Nat.{ℕ, suc, ◌+◌, ◌*◌, ◌≤◌}
use native.Mathlib.Omega.{arith}
use lib.ListN.{length, set, drop}
use lib.Seq.{sets, take_all, take-nil}
use Rattle.base.specs.Lists.{collect}
use Rattle.rules.specs.Steps.{Triangle}
use Rattle.rules.specs.Outputs.{numbers, written}
use Rattle.loops.specs.Loops.{into}

-- the stores of one triangle, at the places that the code reckons
pub three_sets : (out one two three : List ℕ) (at a b c : ℕ) → one ≡ set out at a → two ≡ set one (at + 1) b → three ≡ set two (at + 2) c
    → three ≡ sets out at (a ∷ b ∷ c ∷ [])
three_sets out one two three at a b c p q r =
    let second : at + 1 ≡ suc at = omega arith in
    let third : at + 2 ≡ suc (suc at) = omega arith in
    r ∙ rw (q, p, second, third)

pub sets_append : (xs ys out : List ℕ) (at : ℕ) → sets (sets out at xs) (at + length xs) ys ≡ sets out at (xs ++ ys)
sets_append [] ys out at = let e : at + 0 ≡ at = omega arith in ap (λ (k : ℕ). sets out k ys) e
sets_append (x ∷ xs) ys out at =
    let e : at + suc (length xs) ≡ suc at + length xs = omega arith in
    ap (λ (k : ℕ). sets (sets (set out at x) (suc at) xs) k ys) e ∙ sets_append xs ys (set out at x) (suc at)

-- stores past the end change nothing
sets_nil : (xs : List ℕ) (at : ℕ) → sets [] at xs ≡ []
sets_nil [] at = refl
sets_nil (x ∷ xs) at = sets_nil xs (suc at)

-- stores past the first element
sets_cons : (xs out : List ℕ) (y at : ℕ) → sets (y ∷ out) (suc at) xs ≡ y ∷ sets out at xs
sets_cons [] out y at = refl
sets_cons (x ∷ xs) out y at = sets_cons xs (set out at x) y (suc at)

pub sets-into : (xs out : List ℕ) → sets out 0 xs ≡ into xs out
sets-into [] out = sym (ap (λ (l : List ℕ). l ++ out) (take-nil (length out)))
sets-into (x ∷ xs) [] = sets_nil (x ∷ xs) 0
sets-into (x ∷ xs) (y ∷ out) = sets_cons xs out x 0 ∙ ap (λ (l : List ℕ). x ∷ l) (sets-into xs out)

pub into-all : (xs out : List ℕ) → length xs ≤ length out → into xs out ≡ written xs out
into-all xs out h = ap (λ (l : List ℕ). l ++ drop (length xs) out) (take_all (length out) xs h)

-- three numbers for each triangle
pub length-numbers : (ts : List Triangle) → length (collect numbers ts) ≡ 3 * length ts
length-numbers [] = refl
length-numbers (t ∷ ts) = omega (arith, length-numbers ts)

pub numbers_append : (ss ts : List Triangle) → collect numbers (ss ++ ts) ≡ collect numbers ss ++ collect numbers ts
numbers_append [] ts = refl
numbers_append (t ∷ ss) ts = ap (λ (l : List ℕ). t.0 ∷ t.1 ∷ t.2 ∷ l) (numbers_append ss ts)
