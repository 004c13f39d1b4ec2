-- The lowest point of the list that has a mark: below it nothing is left, and its loop is the next.
--     lowest            what the look through the list finds is that point, or 65,535
--     at_next           so what is made of it tells which
--     scans             the list can be looked through
--     beyond, reaches   it is not below the points that are passed, and those below it count as passed too
--     ready, passes_on  its loop can be drawn, and then it is passed
-- Assumes nothing.
use mathlib.Core.Path.{◌≡◌, refl, sym, ap, ◌∙◌, subst}
use mathlib.Core.Logic.{◌⊎◌, inl, inr}
use mathlib.Core.Bool.{Bool, true, false, cond}
use mathlib.Core.List.{List}
use Rattle.std.proofs.Common.{Option, None, Some, unwrap_or}
use Prim.Native.Nat.{ℕ, zero, suc, ◌+◌, ◌*◌, ◌-◌, ◌≤◌, ◌<◌, min}
use native.Mathlib.Nat.{zero-add, min-eq_left, min-eq_right}
use native.Mathlib.Omega.{arith}
use native.Mathlib.Decide.{ℕ_discrete}
use lib.Dec.{eqb, ltb}
use lib.ListN.{length}
use borrow.Author.Tests.{eqb-true, eqb-false, ltb-true, ltb-false}
use Rattle.rules.specs.Steps.{Step}
use Rattle.trace.specs.Trace.{mark_at, met_at, met_count, mark_of}
use Rattle.loops.specs.Loops.{Leaf}
use Rattle.loops.specs.Sweep.{lower_of, lowest_of, point_of, Lowest, Progress, Held, Left, Swept, Ready, Passes}
use Rattle.loops.proofs.Sweep.{fans-few, swept_more, swept_row, mark-rest}

-- with one point more
lowest-more : (t : List ℕ) (n r : ℕ) → Lowest t n r → Lowest t (suc n) (lower_of t (met_at t n) r)
lowest-more t n r h = go (eqb (mark_at t v) 1) refl (ltb v r) refl
  where
    v : ℕ
    v = met_at t n

    least : (x : ℕ) → x ≤ r → (mark_at t v ≡ 1 → x ≤ v) → (i : ℕ) → i < suc n → Dec (i ≡ n) → mark_at t (met_at t i) ≡ 1 → x ≤ met_at t i
    least x a b i k (yes p) m = subst (λ (j : ℕ). mark_at t (met_at t j) ≡ 1 → x ≤ met_at t j) (sym p) b m
    least x a b i k (no d) m = omega (arith, h.least i (omega arith) m)

    kept : (r ≡ 65535) ⊎ ((i : ℕ) × (i < n) × (met_at t i ≡ r) × (mark_at t r ≡ 1))
        → (r ≡ 65535) ⊎ ((i : ℕ) × (i < suc n) × (met_at t i ≡ r) × (mark_at t r ≡ 1))
    kept (inl e) = inl e
    kept (inr o) = inr (o.0, omega (arith, o.1), o.2, o.3)

    go : (a : Bool) → eqb (mark_at t v) 1 ≡ a → (b : Bool) → ltb v r ≡ b → Lowest t (suc n) (cond a (min v r) r)
    go true e true f =
        let under : v ≤ r = omega (arith, ltb-true v r f) in
        rw (min-eq_left under) (record {
          least = λ i k. least v under (λ m. omega arith) i k (ℕ_discrete i n);
          found = inr (n, omega arith, refl, eqb-true (mark_at t v) 1 e);
        })
    go true e false f =
        let above : r ≤ v = ltb-false v r f in
        rw (min-eq_right above) (record { least = λ i k. least r (omega arith) (λ m. above) i k (ℕ_discrete i n); found = kept h.found })
    go false e b f =
        record { least = λ i k. least r (omega arith) (λ m. absurd (eqb-false (mark_at t v) 1 e m)) i k (ℕ_discrete i n); found = kept h.found }

-- what the look through the list finds
pub lowest : (t : List ℕ) (n : ℕ) → Lowest t n (lowest_of t n)
lowest t zero = record { least = λ i b m. absurd (omega arith); found = inl refl }
lowest t (suc n) = lowest-more t n (lowest_of t n) (lowest t n)

-- the point that a number stands for gives the number back
point_back : (r : ℕ) → unwrap_or (point_of r) 65535 ≡ r
point_back r = go (eqb r 65535) refl
  where
    go : (b : Bool) → eqb r 65535 ≡ b → unwrap_or (cond b None (Some r)) 65535 ≡ r
    go true e = sym (eqb-true r 65535 e)
    go false e = refl

-- and is not 65,535
point_some : (r v : ℕ) → Some v ≡ point_of r → v ≡ 65535 → ⊥
point_some r v = go (eqb r 65535) refl
  where
    go : (b : Bool) → eqb r 65535 ≡ b → Some v ≡ cond b None (Some r) → v ≡ 65535 → ⊥
    go true e q z = absurd (cc)
    go false e q z = let same : v ≡ r = cc in eqb-false r 65535 e (omega (arith, same))

pub scans : (limit : ℕ) (ss : List Step) (rest : ℕ → Bool) (t : List ℕ) → Held limit ss rest t
    → (3 * met_count t < length t) × ((i : ℕ) → i < met_count t → 3 * met_at t i + 2 < length t)
scans limit ss rest t h = (omega (arith, h.room, h.few), λ i b. omega (arith, h.room, h.lists i b))

-- the lowest point with a mark, and 65,535 where none has one: the points below it are passed
abbrev pub next : List ℕ → ℕ
next t = lowest_of t (met_count t)

-- so says what the look through the list finds
pub at_next : (t : List ℕ) (r : Option ℕ) → r ≡ point_of (next t) → next t ≡ unwrap_or r 65535
at_next t r is = sym (point_back (next t)) ∙ ap (λ (q : Option ℕ). unwrap_or q 65535) (sym is)

-- the points below p are passed
module _ {twins : List ℕ} (l : Leaf twins) (limit p : ℕ) (s t : Progress) (h : (p ≤ 65535) × Swept l limit 0 p s t) where
  abbrev left : Left l limit (0 + p) t
  left = h.1.left

  abbrev found : Lowest t.trace (met_count t.trace) (next t.trace)
  found = lowest t.trace (met_count t.trace)

  -- they are below the lowest with a mark
  pub beyond : p ≤ next t.trace
  beyond = go found.found
    where
      go : (next t.trace ≡ 65535) ⊎ ((i : ℕ) × (i < met_count t.trace) × (met_at t.trace i ≡ next t.trace) × (mark_at t.trace (next t.trace) ≡ 1))
          → p ≤ next t.trace
      go (inl e) = omega (arith, e, h.0)
      go (inr o) =
          let inside : next t.trace < limit = omega (arith, o.2, left.held.lists o.0 o.1) in
          omega (arith, left.low (next t.trace) (mark-rest l limit (0 + p) (next t.trace) t left inside o.3))

  off : (x : ℕ) → x < next t.trace → (b : Bool) → left.rest x ≡ b → b ≡ false
  off x a false e = refl
  off x a true e =
      let o = left.held.listed x e in
      let inside : x < limit = omega (arith, o.2, left.held.lists o.0 o.1) in
      let mark : mark_at t.trace (met_at t.trace o.0) ≡ 1 = ap (mark_at t.trace) o.2 ∙ left.held.mark x inside ∙ ap mark_of e in
      absurd (omega (arith, a, o.2, found.least o.0 o.1 mark))

  -- so all the points below that one are passed too
  pub reaches : Swept l limit 0 (next t.trace) s t
  reaches =
      let v : ℕ = next t.trace in
      let past : p ≤ v = beyond in
      let e : p + (v - p) ≡ v = omega arith in
      subst (λ (k : ℕ). Swept l limit 0 k s t) e
      (swept_more l limit 0 p (v - p) s t t h.1 (swept_row l limit (0 + p) (v - p) t left (λ x a b. off x (omega arith) (left.rest x) refl)))

-- the points below the lowest with a mark are passed, and v is that one
module _ {twins : List ℕ} (l : Leaf twins) (limit v : ℕ) (s t : Progress) (h : Swept l limit 0 (next t.trace) s t) (z : s.count ≡ 0)
    (is : Some v ≡ point_of (next t.trace)) where
  here : next t.trace ≡ v
  here = at_next t.trace (Some v) is

  marked-there : (v < limit) × (mark_at t.trace v ≡ 1)
  marked-there = go (lowest t.trace (met_count t.trace)).found
    where
      go : (next t.trace ≡ 65535) ⊎ ((i : ℕ) × (i < met_count t.trace) × (met_at t.trace i ≡ next t.trace) × (mark_at t.trace (next t.trace) ≡ 1))
          → (v < limit) × (mark_at t.trace v ≡ 1)
      go (inl e) = absurd (point_some (next t.trace) v is (sym here ∙ e))
      go (inr o) = (omega (arith, here, o.2, h.left.held.lists o.0 o.1), subst (λ (x : ℕ). mark_at t.trace x ≡ 1) here o.3)

  left_there : Left l limit v t
  left_there = subst (λ (k : ℕ). Left l limit k t) (zero-add (next t.trace) ∙ here) h.left

  pub ready : Ready twins v t
  ready = record {
    limit = limit;
    leaf = l;
    left = left_there;
    inside = marked-there.0;
    mark = marked-there.1;
    room = omega (arith, here, h.counted, fans-few l 0 (next t.trace));
  }

  pub passes_on : (u : Progress) → Passes twins v t u → (v + 1 ≤ 65535) × Swept l limit 0 (v + 1) s u
  passes_on u p = (
    omega (arith, marked-there.0, h.left.held.small),
    swept_more l limit 0 v 1 s t u (subst (λ (k : ℕ). Swept l limit 0 k s t) here h)
        (subst (λ (k : ℕ). Swept l limit k 1 t u) (sym (zero-add v)) (p limit l left_there)),
  )
