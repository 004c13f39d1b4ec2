-- Two functions agree where their tables do, as the digits of a number and a rule: one comparison that antt computes.
use mathlib.Core.Path.{◌≡◌, sym, ap, ◌∙◌}
use mathlib.Core.List.{map}
use Prim.Native.Nat.{ℕ, ◌<◌}
use lib.ListN.{get_or}
use Rattle.base.specs.Lists.{count}
use Rattle.base.proofs.Below.{get_table}

module _ {A : Type 0} where
  abbrev pub Alike : ℕ → (ℕ → A) → (ℕ → A) → Type 0
  Alike n f g = map f (count 0 n) ≡ map g (count 0 n)

  pub alike : (d : A) (n : ℕ) (f g : ℕ → A) → Alike n f g → (j : ℕ) → j < n → f j ≡ g j
  alike d n f g e j h = sym (get_table f d n j h) ∙ ap (λ l. get_or l j d) e ∙ get_table g d n j h
