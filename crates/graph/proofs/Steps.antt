-- `fewest_steps` is exact, and nothing else is.
use Prim.Native.Nat.{ℕ, zero, suc, ◌≤◌, ◌<◌}
use mathlib.Core.Path.{◌≡◌, refl, sym, ◌∙◌}
use mathlib.Core.Logic.{◌⊎◌, inl, inr}
use mathlib.Core.List.{List}
use native.Mathlib.Omega.{arith}
use lib.ListN.{length, get_or}
use lib.Seq.{ext_get_or}
use Rattle.base.proofs.Tests.{below}
use Rattle.rules.specs.Ways.{Graph, rounds, fewest_steps, ExactSteps, StepsExact}
use Rattle.graph.proofs.Walks.{Walk, walk-way, way-walk}
use Rattle.graph.proofs.Counting.{reached-le}
use Rattle.graph.proofs.Rounds.{After, Closed, Enough, after}

-- the same as `ExactSteps`, in walks
pub record Stepped (graph : Graph) (start : ℕ) (r : List ℕ) : Type 0 where
  pub sized : length r ≡ graph.size
  pub there : (k m : ℕ) → get_or r k 0 ≡ suc m → Walk graph m start k
  pub least : (k v : ℕ) → Walk graph v start k → (1 ≤ get_or r k 0) × (get_or r k 0 ≤ suc v)

pub stepped : (graph : Graph) (start : ℕ) → Stepped graph start (fewest_steps graph start)
unfolding fewest_steps
stepped graph start = go (after graph start graph.size)
  where
    r : List ℕ
    r = rounds graph start graph.size

    go : After graph start graph.size r → Stepped graph start r
    go a = record { sized = a.known.sized; there = a.known.there; least = λ k v w. least k v w (closed a.enough) (below graph.size v) }
      where
        closed : Enough graph start graph.size r → Closed graph start r
        closed (inl c) = c
        closed (inr h) = let f = reached-le (λ k. get_or r k 0) graph.size in absurd (omega arith)

        least : (k v : ℕ) → Walk graph v start k → Closed graph start r → (graph.size < v) ⊎ (v ≤ graph.size) → (1 ≤ get_or r k 0) × (get_or r k 0 ≤ suc v)
        least k v w c (inl h) = let t = a.known.top k in (c k v w, omega arith)
        least k v w c (inr h) = a.known.least k v w h

pub exact : (graph : Graph) (start : ℕ) (r : List ℕ) → Stepped graph start r → ExactSteps graph start r
exact graph start r s = record {
  sized = s.sized;
  there = λ k n e. walk-way graph n start k (s.there k n e);
  none_shorter = λ k w y. let (v, u, e) = way-walk graph y in let (a, b) = s.least k v u in (a, omega arith);
}

pub steps-exact : StepsExact
unfolding StepsExact
steps-exact graph start = exact graph start (fewest_steps graph start) (stepped graph start)

-- two lists that are exact are the same
module _ (graph : Graph) (start : ℕ) where
  rank_le : (r q : List ℕ) → Stepped graph start r → Stepped graph start q → (k : ℕ) → get_or r k 0 ≤ get_or q k 0
  rank_le r q s t k = go (get_or q k 0) refl (get_or r k 0) refl
    where
      go : (x : ℕ) → get_or q k 0 ≡ x → (y : ℕ) → get_or r k 0 ≡ y → get_or r k 0 ≤ get_or q k 0
      go (suc x) e y f = let a = (s.least k x (t.there k x e)).1 in omega arith
      go zero e zero f = omega arith
      go zero e (suc y) f = let a = (t.least k y (s.there k y f)).0 in absurd (omega arith)

  pub stepped_same : (r q : List ℕ) → Stepped graph start r → Stepped graph start q → r ≡ q
  stepped_same r q s t =
      ext_get_or 0 r q (s.sized ∙ sym t.sized) (λ k h. let a = rank_le r q s t k in let b = rank_le q r t s k in omega arith)
