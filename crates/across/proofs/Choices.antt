-- The choices of the filling, one by one, as the code makes them.
use Prim.Native.Nat.{ℕ, ◌+◌, ◌*◌, ◌/◌, ◌%◌}
use mathlib.Core.Path.{◌≡◌, sym, ap, ◌∙◌}
use mathlib.Core.Bool.{cond}
use mathlib.Core.List.{List}
use lib.ListN.{get_or}
use borrow.Author.Tests.{eq-eqb, ne_eqb}
use Rattle.rules.specs.Survey.{entry}
use Rattle.across.specs.Filling.{digit, opposite_of, if_split, first_across, split_beside, child_across}

module _ (t : List ℕ) where
  pub leaf-left : (n e : ℕ) → e ≡ entry t n → e ≡ 0 → 0 ≡ if_split t n
  unfolding if_split
  leaf-left n e r z = sym (ap (λ b. cond b 0 n) (eq-eqb (entry t n) 0 (sym r ∙ z)))

  pub split_kept : (n e : ℕ) → e ≡ entry t n → (e ≡ 0 → ⊥) → n ≡ if_split t n
  unfolding if_split
  split_kept n e r f = sym (ap (λ b. cond b 0 n) (ne_eqb (entry t n) 0 (λ z. f (r ∙ z))))

  pub first-none : (u : List ℕ) (n i : ℕ) → get_or u (6 * n + i) 0 ≡ 0 → 0 ≡ first_across t u n i
  unfolding first_across
  first-none u n i z = let q = get_or u (6 * n + i) 0 in sym (ap (λ b. cond b 0 (entry t q)) (eq-eqb q 0 z))

  pub first_some : (u : List ℕ) (n i : ℕ) → (get_or u (6 * n + i) 0 ≡ 0 → ⊥) → entry t (get_or u (6 * n + i) 0) ≡ first_across t u n i
  unfolding first_across
  first_some u n i f = let q = get_or u (6 * n + i) 0 in sym (ap (λ b. cond b 0 (entry t q)) (ne_eqb q 0 f))

  pub beside_none : (from k j : ℕ) → from ≡ 0 → 0 ≡ split_beside t from k j
  unfolding split_beside
  beside_none from k j z = sym (ap (λ b. cond b 0 (if_split t (from + opposite_of k j))) (eq-eqb from 0 z))

  pub beside_some : (from k j : ℕ) → (from ≡ 0 → ⊥) → if_split t (from + opposite_of k j) ≡ split_beside t from k j
  unfolding split_beside
  beside_some from k j f = sym (ap (λ b. cond b 0 (if_split t (from + opposite_of k j))) (ne_eqb from 0 f))

  module _ (first far i j : ℕ) where
    pub child_inner : digit (i / 2) j ≡ i % 2 → split_beside t first (i / 2) j ≡ child_across t first far i j
    unfolding child_across
    child_inner e = sym (ap (λ b. split_beside t (cond b first far) (i / 2) j) (eq-eqb (digit (i / 2) j) (i % 2) e))

    pub child_outer : (digit (i / 2) j ≡ i % 2 → ⊥) → split_beside t far (i / 2) j ≡ child_across t first far i j
    unfolding child_across
    child_outer f = sym (ap (λ b. split_beside t (cond b first far) (i / 2) j) (ne_eqb (digit (i / 2) j) (i % 2) f))
