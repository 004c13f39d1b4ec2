-- Walking along a step function from a point: what is passed, and that it comes back.
--     far k x, trail m x            the point k steps on from x; the first m points from x on
--     comes_back                    the loop through a point of the leaf is a trail that comes back to it, and not before
-- Assumes nothing.
use mathlib.Core.Path.{◌≡◌, refl, sym, ap, ◌∙◌, subst}
use mathlib.Core.Logic.{◌⊎◌, inl, inr}
use mathlib.Core.Bool.{Bool, true, false, cond}
use mathlib.Core.List.{List, [], ◌∷◌}
use Prim.Native.Nat.{ℕ, zero, suc, ◌+◌, ◌≤◌, ◌<◌}
use native.Mathlib.Nat.{zero-add, suc-add, eq-zero-or-pos}
use native.Mathlib.Omega.{arith}
use native.Mathlib.Decide.{ℕ_discrete}
use lib.Dec.{eqb}
use lib.ListN.{length}
use borrow.Author.Tests.{eqb-true, eqb-false}
use Rattle.base.specs.Lists.{sum, often}
use Rattle.base.proofs.Sums.{sum_one}
use Rattle.base.proofs.Counts.{equal_eq, equal_ne, equal_le, sum-sub}
use Rattle.rules.specs.Steps.{until}
use Rattle.closing.specs.Cutting.{path}
use Rattle.closing.specs.Permutes.{Permutes}

module _ (onward : ℕ → ℕ) where
  abbrev pub far : ℕ → ℕ → ℕ
  far zero x = x
  far (suc k) x = far k (onward x)

  abbrev pub trail : ℕ → ℕ → List ℕ
  trail zero x = []
  trail (suc m) x = x ∷ trail m (onward x)

  pub far-next : (k x : ℕ) → far k (onward x) ≡ onward (far k x)
  far-next zero x = refl
  far-next (suc k) x = far-next k (onward x)

  pub far-far : (j k x : ℕ) → far j (far k x) ≡ far (k + j) x
  far-far j zero x = ap (λ (i : ℕ). far i x) (sym (zero-add j))
  far-far j (suc k) x = far-far j k (onward x) ∙ ap (λ (i : ℕ). far i x) (sym (suc-add k j))

  pub trail_has : (m x k : ℕ) → k < m → 1 ≤ often (far k x) (trail m x)
  trail_has zero x k h = absurd (omega arith)
  trail_has (suc m) x zero h = omega (arith, equal_eq x x refl)
  trail_has (suc m) x (suc k) h = omega (arith, trail_has m (onward x) k (omega arith))

  pub trail_only : (m x y : ℕ) → 1 ≤ often y (trail m x) → (k : ℕ) × (k < m) × (far k x ≡ y)
  trail_only zero x y h = absurd (omega arith)
  trail_only (suc m) x y h = go (trail_only m (onward x) y) (ℕ_discrete y x)
    where
      go : (1 ≤ often y (trail m (onward x)) → (k : ℕ) × (k < m) × (far k (onward x) ≡ y)) → Dec (y ≡ x) → (k : ℕ) × (k < suc m) × (far k x ≡ y)
      go ih (yes e) = (0, omega arith, sym e)
      go ih (no d) = let i = ih (omega (arith, equal_ne y x d)) in (suc i.0, omega arith, i.2)

  trail_length : (m x : ℕ) → length (trail m x) ≡ m
  trail_length zero x = refl
  trail_length (suc m) x = ap suc (trail_length m (onward x))

  -- the steps of a trail that ends at z
  pub trail_path : (w : ℕ → ℕ → ℕ) (m x z : ℕ) → far (suc m) x ≡ z → path w x (trail m (onward x)) z ≡ sum (λ y. w y (onward y)) (trail (suc m) x)
  trail_path w zero x z e = omega (arith, ap (w x) e)
  trail_path w (suc m) x z e = ap (λ (s : ℕ). w x (onward x) + s) (trail_path w m (onward x) z e)

  -- none of the first m points from x on is v
  abbrev pub Misses : ℕ → ℕ → ℕ → Type 0
  Misses v m x = (k : ℕ) → k < m → far k x ≡ v → ⊥

  -- l is the trail from x up to before the first v
  pub record Stops (v x : ℕ) (l : List ℕ) : Type 0 where
    pub size : ℕ
    pub is : l ≡ trail size x
    pub back : far size x ≡ v
    pub before : Misses v size x

  until-is : (v n x : ℕ) → Stops v x (until n onward v x) ⊎ Misses v n x
  until-is v zero x = inr (λ k h e. omega arith)
  until-is v (suc n) x = go (eqb x v) refl (until-is v n (onward x))
    where
      more : (m : ℕ) → (x ≡ v → ⊥) → Misses v m (onward x) → Misses v (suc m) x
      more m d h zero a e = d e
      more m d h (suc k) a e = h k (omega arith) e

      go : (t : Bool) → eqb x v ≡ t → Stops v (onward x) (until n onward v (onward x)) ⊎ Misses v n (onward x)
          → Stops v x (cond t [] (x ∷ until n onward v (onward x))) ⊎ Misses v (suc n) x
      go true e h = inl (record { size = 0; is = refl; back = eqb-true x v e; before = λ k a. omega arith })
      go false e (inl s) =
          let later = more s.size (eqb-false x v e) s.before in
          inl (record { size = suc s.size; is = ap (λ (r : List ℕ). x ∷ r) s.is; back = s.back; before = later })
      go false e (inr h) = inr (more n (eqb-false x v e) h)

module _ (n : ℕ) (onward : ℕ → ℕ) (points : List ℕ) (per : Permutes n onward points) where
  pub far_in : (k x : ℕ) → 1 ≤ often x points → 1 ≤ often (far onward k x) points
  far_in zero x h = h
  far_in (suc k) x h = far_in k (onward x) (per.stays x h)

  -- a trail that does not come back has each point once
  pub trail_once : (m x : ℕ) → 1 ≤ often x points → Misses onward x m (onward x) → (y : ℕ) → often y (trail onward (suc m) x) ≤ 1
  trail_once zero x h d y = omega (arith, equal_le y x)
  trail_once (suc m) x h d y =
      go (trail_once m (onward x) (per.stays x h) later y) (ℕ_discrete y x) (eq-zero-or-pos (often y (trail onward (suc m) (onward x))))
    where
      later : Misses onward (onward x) m (onward (onward x))
      later k a e = d k (omega arith) (per.apart (far onward k (onward x)) x (far_in (suc k) x h) h (sym (far-next onward k (onward x)) ∙ e))

      rest : ℕ
      rest = often y (trail onward (suc m) (onward x))

      go : rest ≤ 1 → Dec (y ≡ x) → (rest ≡ 0) ⊎ (0 < rest) → often y (trail onward (suc (suc m)) x) ≤ 1
      go ih c (inl z) = omega (arith, equal_le y x)
      go ih (no c) (inr i) = omega (arith, equal_ne y x c)
      go ih (yes e) (inr i) = let t = trail_only onward (suc m) (onward x) y i in absurd (d t.0 t.1 (t.2 ∙ e))

  -- a trail with each point once is no longer than the list of points
  trail_fits : (m x : ℕ) → 1 ≤ often x points → ((y : ℕ) → often y (trail onward m x) ≤ 1) → m ≤ length points
  trail_fits m x h o =
      omega (
        arith,
        trail_length onward m x,
        sum_one (trail onward m x),
        sum_one points,
        sum-sub (λ y. 1) (trail onward m x) points (λ y. go y (eq-zero-or-pos (often y (trail onward m x)))),
      )
    where
      go : (y : ℕ) → (often y (trail onward m x) ≡ 0) ⊎ (0 < often y (trail onward m x)) → often y (trail onward m x) ≤ often y points
      go y (inl z) = omega arith
      go y (inr i) = let t = trail_only onward m x y i in omega (arith, o y, subst (λ (z : ℕ). 1 ≤ often z points) t.2 (far_in t.0 x h))

  -- a walk from a point of the leaf comes back to it
  pub comes_back : (v : ℕ) → 1 ≤ often v points → Stops onward v (onward v) (until n onward v (onward v))
  comes_back v h = go (until-is onward v n (onward v))
    where
      go : Stops onward v (onward v) (until n onward v (onward v)) ⊎ Misses onward v n (onward v) → Stops onward v (onward v) (until n onward v (onward v))
      go (inl s) = s
      go (inr d) = absurd (omega (arith, per.few, trail_fits (suc n) v h (trail_once n v h d)))
