-- Places that rise by z, then y, then x: each is before all that follow, so none stands twice.
use Prim.Native.Nat.{ℕ, ◌≤◌, ◌<◌}
use mathlib.Core.Path.{◌≡◌, sym, subst}
use mathlib.Core.Logic.{◌⊎◌, inl, inr}
use mathlib.Core.Bool.{Bool, ◌&&◌, ◌||◌}
use mathlib.Core.List.{List, [], ◌∷◌}
use native.Mathlib.Omega.{arith}
use lib.Dec.{T, eqb, eqb→eq, ltb, ltb→lt, lt→ltb}
use Rattle.base.specs.Grid.{Place, same}
use Rattle.rules.specs.Outputs.{before, rising}
use Rattle.base.proofs.Tests.{and→, →and, or→, or_left, or_right, eq→eqb}
use Rattle.base.proofs.Lists.{In}
use Rattle.base.proofs.Sums.{times, once_more}
use Rattle.base.proofs.Places.{same→, same_refl}

-- ---- orders by one number first, and then by a further test

abbrev lex : ℕ → ℕ → Bool → Bool
lex m n b = ltb m n || (eqb m n && b)

lex→ : (m n : ℕ) (b : Bool) → T (lex m n b) → (m < n) ⊎ ((m ≡ n) × T b)
lex→ m n b t = go (or→ (ltb m n) (eqb m n && b) t)
  where
    go : T (ltb m n) ⊎ T (eqb m n && b) → (m < n) ⊎ ((m ≡ n) × T b)
    go (inl u) = inl (ltb→lt m n u)
    go (inr u) = let v = and→ (eqb m n) b u in inr (eqb→eq m n v.0, v.1)

→lex : (m n : ℕ) (b : Bool) → (m < n) ⊎ ((m ≡ n) × T b) → T (lex m n b)
→lex m n b (inl h) = or_left (ltb m n) (eqb m n && b) (lt→ltb m n h)
→lex m n b (inr (e, t)) = or_right (ltb m n) (eqb m n && b) (→and (eqb m n) b (eq→eqb m n e) t)

lex_trans : (l m n : ℕ) (a b c : Bool) → (T a → T b → T c) → T (lex l m a) → T (lex m n b) → T (lex l n c)
lex_trans l m n a b c f t u = →lex l n c (go (lex→ l m a t) (lex→ m n b u))
  where
    go : (l < m) ⊎ ((l ≡ m) × T a) → (m < n) ⊎ ((m ≡ n) × T b) → (l < n) ⊎ ((l ≡ n) × T c)
    go (inl h) (inl g) = inl (omega arith)
    go (inl h) (inr g) = inl (omega (arith, g.0))
    go (inr h) (inl g) = inl (omega (arith, h.0))
    go (inr h) (inr g) = inr (omega (arith, h.0, g.0), f h.1 g.1)

lex_not : (m : ℕ) (b : Bool) → (T b → ⊥) → T (lex m m b) → ⊥
lex_not m b f t = go (lex→ m m b t)
  where
    go : (m < m) ⊎ ((m ≡ m) × T b) → ⊥
    go (inl h) = omega arith
    go (inr h) = f h.1

-- ---- places

pub before_trans : (p q r : Place) → T (before p q) → T (before q r) → T (before p r)
before_trans p q r =
    lex_trans p.z q.z r.z (lex p.y q.y (ltb p.x q.x)) (lex q.y r.y (ltb q.x r.x)) (lex p.y r.y (ltb p.x r.x))
    (lex_trans p.y q.y r.y (ltb p.x q.x) (ltb q.x r.x) (ltb p.x r.x)
    (λ t u. lt→ltb p.x r.x (omega (arith, ltb→lt p.x q.x t, ltb→lt q.x r.x u))))

pub before-not : (p : Place) → T (before p p) → ⊥
before-not p =
    lex_not p.z (lex p.y p.y (ltb p.x p.x)) (lex_not p.y (ltb p.x p.x) (λ t. omega (arith, ltb→lt p.x p.x t)))

pub rising-tail : (p : Place) (ps : List Place) → T (rising (p ∷ ps)) → T (rising ps)
unfolding rising
rising-tail p [] t = tt
rising-tail p (q ∷ ps) t = (and→ (before p q) (rising (q ∷ ps)) t).1

-- the first place is before every other
pub rising-first : (p : Place) (ps : List Place) → T (rising (p ∷ ps)) → (q : Place) → In q ps → T (before p q)
unfolding rising
rising-first p [] t q i = absurd i
rising-first p (r ∷ ps) t q (inl e) = subst (λ x. T (before p x)) (sym e) (and→ (before p r) (rising (r ∷ ps)) t).0
rising-first p (r ∷ ps) t q (inr i) =
    let u = and→ (before p r) (rising (r ∷ ps)) t in
    before_trans p r q u.0 (rising-first r ps u.1 q i)

pub rising-once : (ps : List Place) → T (rising ps) → (p : Place) → times same p ps ≤ 1
rising-once [] t p = omega arith
rising-once (q ∷ ps) t p =
    once_more same same_refl same→ p q ps (λ i. before-not q (rising-first q ps t q i)) (rising-once ps (rising-tail q ps t) p)
