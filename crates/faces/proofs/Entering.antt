-- Document 02, request 5: what the formula says where a step enters by an edge, and where none does. Apart from the formula's own file, so that a wrong formula
-- is refused there.
use Prim.Native.Nat.{ℕ, ◌+◌, ◌%◌, ◌<◌}
use mathlib.Core.Path.{◌≡◌, sym, ap, ◌∙◌}
use mathlib.Core.Bool.{not, cond}
use lib.Count.{count_trailing_zeros}
use borrow.Author.Tests.{eq-eqb, ne_eqb, ltb-true}
use Rattle.faces.specs.Patterns.{step_from, first_entry}
use Rattle.faces.proofs.Formula.{marks, wet_to_right, by-formula, entered, by-lowest, entry-few}

module _ (p i : ℕ) (h : p < 16) (l : i < 4) where
  pub step_enters : marks p i % 4 ≡ 2 → (i + wet_to_right p i) % 4 ≡ step_from p i
  step_enters e = ap (λ b. cond b ((i + wet_to_right p i) % 4) 4) (sym (eq-eqb (marks p i % 4) 2 e)) ∙ by-formula p i h l

  pub no_step : (marks p i % 4 ≡ 2 → ⊥) → 4 ≡ step_from p i
  no_step n = ap (λ b. cond b ((i + wet_to_right p i) % 4) 4) (sym (ne_eqb (marks p i % 4) 2 n)) ∙ by-formula p i h l

-- ---- the first edge by which a step enters

module _ (p : ℕ) (h : p < 16) where
  pub no_entry : entered p ≡ 0 → first_entry p ≡ 4
  no_entry z = sym (by-lowest p h) ∙ ap (λ b. cond b 4 (count_trailing_zeros 64 (entered p))) (eq-eqb (entered p) 0 z)

  pub lowest_enters : (entered p ≡ 0 → ⊥) → (count_trailing_zeros 64 (entered p) ≡ first_entry p) × (first_entry p < 4)
  lowest_enters n = (
    ap (λ b. cond b 4 (count_trailing_zeros 64 (entered p))) (sym (ne_eqb (entered p) 0 n)) ∙ by-lowest p h,
    ltb-true (first_entry p) 4 (entry-few p h ∙ ap not (ne_eqb (entered p) 0 n)),
  )
