-- Checks 18 and 19, as the code tests them.
use Prim.Native.Nat.{ℕ, ◌≤◌, ◌<◌}
use mathlib.Core.Path.{◌≡◌, refl, sym, subst}
use mathlib.Core.Logic.{inl, inr}
use mathlib.Core.Bool.{Bool, true, false, not, ◌&&◌, ◌||◌}
use native.Mathlib.Omega.{arith}
use lib.Dec.{T, ltb, ltb→lt}
use borrow.Author.Tests.{ltb-false, not-false}
use Rattle.base.proofs.Tests.{and→, eq→eqb, not_both}
use Rattle.octree.proofs.Accepted.{none_applies, first_unlike}
use Rattle.rules.specs.Outputs.{first_of}
use Rattle.rules.specs.Ways.{asked_checks}

pub and-false : (b : Bool) → (b && false) ≡ false
and-false true = refl
and-false false = refl

pub or_true : (b : Bool) → (b || true) ≡ true
or_true true = refl
or_true false = refl

module _ (count start end way work : ℕ) where
  -- what is known where neither applies
  pub neither : first_of (asked_checks count start end way work) ≡ 0 → (start < count) × (end < count) × (count ≤ way) × (count ≤ work)
  neither z =
      let a = none_applies (asked_checks count start end way work) tt z (18, not (ltb start count && ltb end count)) (inl refl) in
      let b = none_applies (asked_checks count start end way work) tt z (19, ltb way count || ltb work count) (inr (inl refl)) in
      let (s, e) = and→ (ltb start count) (ltb end count) (subst T (sym (not-false (ltb start count && ltb end count) a)) tt) in
      (ltb→lt start count s, ltb→lt end count e, (fits (ltb way count) (ltb work count) b refl refl).0, (fits (ltb way count) (ltb work count) b refl refl).1)
    where
      fits : (x y : Bool) → (x || y) ≡ false → ltb way count ≡ x → ltb work count ≡ y → (count ≤ way) × (count ≤ work)
      fits true y e f g = absurd (let z : ◌≡◌ {A = ℕ} 0 1 = cc in omega arith)
      fits false true e f g = absurd (let z : ◌≡◌ {A = ℕ} 0 1 = cc in omega arith)
      fits false false e f g = (ltb-false way count f, ltb-false work count g)

  -- their numbers are not 20
  pub not_twenty : first_of (asked_checks count start end way work) ≡ 20 → ⊥
  not_twenty e = not_both (eq→eqb (first_of (asked_checks count start end way work)) 20 e) (first_unlike 20 (asked_checks count start end way work) tt tt)
