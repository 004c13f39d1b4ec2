-- The links of a corner, followed one after the other.
use Prim.Native.Nat.{ℕ, suc, ◌+◌}
use mathlib.Core.Path.{◌≡◌, refl, ap}
use mathlib.Core.List.{List}
use native.Mathlib.Omega.{arith}
use Rattle.graph.specs.Table.{link_at, Frontier, reached, visited}

abbrev pub frontier : ℕ → List ℕ → List ℕ → Frontier
frontier tail found queue = record { tail = tail; found = found; queue = queue }

module _ (t : List ℕ) (rank k : ℕ) (s : Frontier) where
  pub none-visited : s ≡ visited t rank k 0 s
  unfolding visited
  none-visited = refl

  pub one_more : (i : ℕ) → reached rank (link_at t k i) (visited t rank k i s) ≡ visited t rank k (i + 1) s
  unfolding visited
  one_more i = let e : suc i ≡ i + 1 = omega arith in ap (λ (j : ℕ). visited t rank k j s) e
