-- What the trace holds of a leaf: where it leads, and what is left when a point is taken out.
--     leads-twin, leads-step      the two answers of a walk's next step
--     leads-onward                where the trace holds the step from a point, it leads where the rules do
--     held_less                   a point taken out
-- Assumes nothing.
use mathlib.Core.Path.{◌≡◌, refl, sym, ap, ◌∙◌}
use mathlib.Core.Logic.{inl, inr}
use mathlib.Core.Bool.{Bool, true, false, not, ◌&&◌, cond}
use mathlib.Core.List.{List}
use Prim.Native.Nat.{ℕ, ◌+◌, ◌*◌, ◌<◌}
use native.Mathlib.Omega.{arith}
use native.Mathlib.Decide.{ℕ_discrete}
use lib.Dec.{eqb}
use lib.ListN.{get_or, set, length-set}
use lib.Seq.{get_or-set_same, get_or-set_other}
use borrow.Author.Tests.{eq-eqb, ne_eqb}
use Rattle.rules.specs.Steps.{Step, onward}
use Rattle.trace.specs.Trace.{next_at, mark_at, met_count, mark_of, end_from}
use Rattle.trace.proofs.Laws.{Within, Leaving, left_or_not}
use Rattle.loops.specs.Sweep.{leads, clear_at, Held}

-- ---- one step of a walk

module _ (t twins : List ℕ) (at v : ℕ) (e : at ≡ v) where
  pub leads-twin : next_at t at ≡ 65535 → get_or twins at 0 ≡ leads t twins v
  leads-twin h = rw (← e, eq-eqb (next_at t at) 65535 h)

  pub leads-step : (next_at t at ≡ 65535 → ⊥) → next_at t at ≡ leads t twins v
  leads-step h = rw (← e, ne_eqb (next_at t at) 65535 h)

-- the trace holds the step from v, and the table its twin
pub leads-onward : (ss : List Step) (twin : ℕ → ℕ) (t twins : List ℕ) (v : ℕ) → Within 65535 ss → next_at t v ≡ end_from ss v → get_or twins v 0 ≡ twin v
    → leads t twins v ≡ onward ss twin v
leads-onward ss twin t twins v w n p = go (left_or_not 65535 ss v w)
  where
    go : Leaving 65535 ss v → leads t twins v ≡ onward ss twin v
    go (inl s) = rw (ne_eqb (next_at t v) 65535 (λ e. omega (arith, s.1))) (n ∙ sym (s.0 (v, twin v)))
    go (inr s) =
        let none : next_at t v ≡ 65535 = n ∙ ap (λ (t : Step). t.1) (s (v, 65535)) in
        rw (eq-eqb (next_at t v) 65535 none) (p ∙ ap (λ (t : Step). t.1) (sym (s (v, twin v))))

-- ---- a point taken out

-- the test without a point
abbrev pub less : (ℕ → Bool) → ℕ → ℕ → Bool
less rest u x = rest x && not (eqb x u)

pub less_same : (rest : ℕ → Bool) (u : ℕ) → less rest u u ≡ false
less_same rest u = rw (eq-eqb u u refl) (go (rest u))
  where
    go : (b : Bool) → b && false ≡ false
    go true = refl
    go false = refl

pub less_other : (rest : ℕ → Bool) (u x : ℕ) → (x ≡ u → ⊥) → less rest u x ≡ rest x
less_other rest u x d = rw (ne_eqb x u d) (go (rest x))
  where
    go : (b : Bool) → b && true ≡ b
    go true = refl
    go false = refl

left_of_both : (a b : Bool) → a && b ≡ true → a ≡ true
left_of_both true b e = refl
left_of_both false b e = e

pub held_less : (limit : ℕ) (ss : List Step) (rest : ℕ → Bool) (t : List ℕ) (u : ℕ) → u < limit → Held limit ss rest t
    → Held limit ss (less rest u) (clear_at t u)
held_less limit ss rest t u l h = record {
  room = length-set (set t (3 * u + 1) 65535) (3 * u + 2) 65535 ∙ length-set t (3 * u + 1) 65535 ∙ h.room;
  small = h.small;
  next = λ v i. next v i (ℕ_discrete v u);
  mark = λ v i. mark v i (ℕ_discrete v u);
  few = omega (arith, counts, h.few);
  listed = λ v e.
      let o = h.listed v (left_of_both (rest v) (not (eqb v u)) e) in
      (o.0, omega (arith, counts, o.1), same (3 * o.0 + 3) (λ q. omega arith) (λ q. omega arith) ∙ o.2);
  lists = λ i b. omega (arith, same (3 * i + 3) (λ q. omega arith) (λ q. omega arith), h.lists i (omega (arith, counts)));
}
  where
    same : (n : ℕ) → (n ≡ 3 * u + 1 → ⊥) → (n ≡ 3 * u + 2 → ⊥) → get_or (clear_at t u) n 0 ≡ get_or t n 0
    same n p q = get_or-set_other (set t (3 * u + 1) 65535) (3 * u + 2) n 65535 0 q ∙ get_or-set_other t (3 * u + 1) n 65535 0 p

    counts : met_count (clear_at t u) ≡ met_count t
    counts = same 0 (λ q. omega arith) (λ q. omega arith)

    next : (v : ℕ) → v < limit → Dec (v ≡ u) → next_at (clear_at t u) v ≡ cond (less rest u v) (end_from ss v) 65535
    next v i (yes e) =
        rw (e, less_same rest u)
        (get_or-set_other (set t (3 * u + 1) 65535) (3 * u + 2) (3 * u + 1) 65535 0 (λ q. omega arith)
        ∙ get_or-set_same t (3 * u + 1) 65535 0 (omega (arith, h.room)))
    next v i (no d) =
        same (3 * v + 1) (λ q. d (omega arith)) (λ q. omega arith) ∙ h.next v i
        ∙ ap (λ (b : Bool). cond b (end_from ss v) 65535) (sym (less_other rest u v d))

    mark : (v : ℕ) → v < limit → Dec (v ≡ u) → mark_at (clear_at t u) v ≡ mark_of (less rest u v)
    mark v i (yes e) =
        rw (e, less_same rest u)
        (get_or-set_same (set t (3 * u + 1) 65535) (3 * u + 2) 65535 0 (omega (arith, length-set t (3 * u + 1) 65535, h.room)))
    mark v i (no d) = same (3 * v + 2) (λ q. omega arith) (λ q. d (omega arith)) ∙ h.mark v i ∙ ap mark_of (sym (less_other rest u v d))
