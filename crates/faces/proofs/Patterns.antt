-- The sixteen patterns: the steps of a face edge by edge, both edges of a step are odd, and by which edges steps enter. Computed tests.
use Prim.Native.Nat.{ℕ, zero, suc, ◌+◌, ◌%◌, ◌<◌}
use mathlib.Core.Path.{◌≡◌, refl, sym, ap, ◌∙◌, subst}
use mathlib.Core.Logic.{◌⊎◌, inl, inr}
use mathlib.Core.Bool.{Bool, true, false, not, ◌&&◌, ◌||◌, beq, cond}
use mathlib.Core.List.{List, [], ◌∷◌}
use lib.Dec.{T, T_not, eqb, ltb, lt→ltb, ltb→lt}
use borrow.Author.Tests.{eq-eqb, ne_eqb}
use Rattle.base.specs.Lists.{all, collect, count}
use Rattle.base.proofs.Tests.{→true, and→, or→}
use Rattle.base.proofs.Lists.{In, all→in, count_in}
use Rattle.rules.specs.Steps.{Step, steps}
use native.Mathlib.Omega.{arith}
use Rattle.faces.specs.Patterns.{step_from, first_entry, pattern_of, step_to}
use Rattle.base.proofs.Alike.{alike}

-- the wet marks at the ends of edge i differ
abbrev pub differ : Bool → Bool → Bool → Bool → ℕ → Bool
differ a b c d zero = not (beq a b)
differ a b c d (suc zero) = not (beq b c)
differ a b c d (suc (suc zero)) = not (beq c d)
differ a b c d (suc (suc (suc i))) = not (beq d a)

-- where a step enters by edge i and leaves by edge j, both are odd
abbrev joins : Bool → Bool → Bool → Bool → ℕ → ℕ → Bool
joins a b c d i j = not (ltb j 4) || (differ a b c d i && differ a b c d j)

-- of four wet marks: the steps are those that enter by each edge, and these join odd edges
abbrev Right : Bool → Bool → Bool → Bool → Type 0
Right a b c d =
    let p = pattern_of a b c d in
    (steps true a b c d ≡ collect (λ i. step_to i (step_from p i)) (count 0 4)) × T (all (λ i. joins a b c d i (step_from p i)) (count 0 4))

right : (a b c d : Bool) → Right a b c d
unfolding step_from
right false false false false = (refl, tt)
right true false false false = (refl, tt)
right false true false false = (refl, tt)
right true true false false = (refl, tt)
right false false true false = (refl, tt)
right true false true false = (refl, tt)
right false true true false = (refl, tt)
right true true true false = (refl, tt)
right false false false true = (refl, tt)
right true false false true = (refl, tt)
right false true false true = (refl, tt)
right true true false true = (refl, tt)
right false false true true = (refl, tt)
right true false true true = (refl, tt)
right false true true true = (refl, tt)
right true true true true = (refl, tt)

pub steps-by-edge : (a b c d : Bool) → steps true a b c d ≡ collect (λ i. step_to i (step_from (pattern_of a b c d) i)) (count 0 4)
steps-by-edge a b c d = (right a b c d).0

pub step-odd : (a b c d : Bool) (i : ℕ) → let j = step_from (pattern_of a b c d) i in i < 4 → j < 4 → T (differ a b c d i) × T (differ a b c d j)
step-odd a b c d i h l =
    let j = step_from (pattern_of a b c d) i in
    go j l (all→in (λ i. joins a b c d i (step_from (pattern_of a b c d) i)) (count 0 4) (right a b c d).1 i (count_in 4 0 i (omega arith) (omega arith)))
  where
    go : (j : ℕ) → j < 4 → T (joins a b c d i j) → T (differ a b c d i) × T (differ a b c d j)
    go j l t = by (or→ (not (ltb j 4)) (differ a b c d i && differ a b c d j) t)
      where
        by : T (not (ltb j 4)) ⊎ T (differ a b c d i && differ a b c d j) → T (differ a b c d i) × T (differ a b c d j)
        by (inl u) = absurd (T_not (ltb j 4) u (lt→ltb j 4 l))
        by (inr u) = and→ (differ a b c d i) (differ a b c d j) u

-- ---- the edges by which steps enter

-- none, where there is no first one; else that one, and where opposite corners are wet the edge two further on
abbrev pub entering : ℕ → List ℕ
entering p = cond (eqb (first_entry p) 4) [] (first_entry p ∷ cond (eqb (p % 5) 0) ((first_entry p + 2) ∷ []) [])

-- the steps that enter by some edges
abbrev pub steps_by : ℕ → List ℕ → List Step
steps_by p js = collect (λ i. step_to i (step_from p i)) js

module _ (p : ℕ) (h : p < 16) where
  -- by the other edges none enters
  pub steps_entering : steps_by p (entering p) ≡ steps_by p (count 0 4)
  unfolding step_from first_entry
  steps_entering = alike [] 16 (λ p. steps_by p (entering p)) (λ p. steps_by p (count 0 4)) refl p h

  pub entering_few : (j : ℕ) → In j (entering p) → j < 4
  unfolding step_from first_entry
  entering_few j i =
      ltb→lt j 4 (all→in (λ j. ltb j 4) (entering p) (→true (alike true 16 (λ p. all (λ j. ltb j 4) (entering p)) (λ p. true) refl p h)) j i)

pub none_entering : (p : ℕ) → first_entry p ≡ 4 → [] ≡ entering p
none_entering p z = ap (λ b. cond b [] (first_entry p ∷ cond (eqb (p % 5) 0) ((first_entry p + 2) ∷ []) [])) (sym (eq-eqb (first_entry p) 4 z))

module _ (p j : ℕ) (e : j ≡ first_entry p) (few : j < 4) where
  some_entering : j ∷ cond (eqb (p % 5) 0) ((j + 2) ∷ []) [] ≡ entering p
  some_entering =
      ap (λ j. j ∷ cond (eqb (p % 5) 0) ((j + 2) ∷ []) []) e
      ∙ ap (λ b. cond b [] (first_entry p ∷ cond (eqb (p % 5) 0) ((first_entry p + 2) ∷ []) [])) (sym (ne_eqb (first_entry p) 4 (λ z. omega arith)))

  pub one_entering : (p % 5 ≡ 0 → ⊥) → j ∷ [] ≡ entering p
  one_entering o = ap (λ b. j ∷ cond b ((j + 2) ∷ []) []) (sym (ne_eqb (p % 5) 0 o)) ∙ some_entering

  pub two_entering : p % 5 ≡ 0 → j ∷ (j + 2) ∷ [] ≡ entering p
  two_entering z = ap (λ b. j ∷ cond b ((j + 2) ∷ []) []) (sym (eq-eqb (p % 5) 0 z)) ∙ some_entering

  pub first_enters : In j (entering p)
  first_enters = subst (In j) some_entering (inl refl)

  pub second_enters : p % 5 ≡ 0 → In (j + 2) (entering p)
  second_enters z = subst (In (j + 2)) (two_entering z) (inr (inl refl))
