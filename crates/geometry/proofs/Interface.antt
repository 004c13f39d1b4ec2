-- What the face steps of a survey's leaves obey, and all that the closing of its loops uses of them. How often a step is in a list and how
-- often steps leave or enter a point are counts.
use Prim.Native.Nat.{ℕ, ◌+◌, ◌≤◌, ◌<◌}
use mathlib.Core.Path.{◌≡◌}
use mathlib.Core.Logic.{◌⊎◌, ◌≢◌}
use mathlib.Core.Bool.{Bool, not, ◌||◌}
use mathlib.Core.List.{List}
use lib.Dec.{eqb, T}
use lib.ListN.{length}
use Rattle.base.specs.Lists.{any, keep, sum, bit}
use Rattle.rules.specs.Survey.{Cell, Survey}
use Rattle.rules.specs.Edges.{CellEdge, point_edges}
use Rattle.rules.specs.Steps.{Step, leaf_steps, twin_of}
use Rattle.rules.specs.Closing.{in_one_face, Carries, step}
use Rattle.base.proofs.Lists.{In}

-- the leaves, by record number
abbrev pub leaves_of : Survey → List Cell
leaves_of s = keep (λ c. not c.split) s.cells

-- how often the step from p to q is in the list; how many steps leave p, and how many enter it
unfoldable pub tally : ℕ → ℕ → List Step → ℕ
unfolding step
tally p q ss = sum (λ t. step p q t.0 t.1) ss

unfoldable pub leave : List Step → ℕ → ℕ
leave ss p = sum (λ t. bit (eqb p t.0)) ss

unfoldable pub enter : List Step → ℕ → ℕ
enter ss p = sum (λ t. bit (eqb p t.1)) ss

-- a step of the list starts or ends at p
abbrev pub meeting : List Step → ℕ → Bool
meeting ss p = any (λ t. eqb p t.0 || eqb p t.1) ss

-- No two steps leave one point or enter one, the points are below n, and the steps enter and leave each point equally often, or do so together
-- with its twin, whose twin it is.
pub record Paired (twin : ℕ → ℕ) (n : ℕ) (ss : List Step) : Type 0 where
  pub leaves : (p : ℕ) → leave ss p ≤ 1
  pub enters : (p : ℕ) → enter ss p ≤ 1
  pub within : (p : ℕ) → 1 ≤ leave ss p + enter ss p → p < n
  pub even : (p : ℕ) → (enter ss p ≡ leave ss p)
      ⊎ ((enter ss p + enter ss (twin p) ≡ leave ss p + leave ss (twin p)) × (twin (twin p) ≡ p))

-- a leaf whose steps lead from a to p and from p to b
pub record Passage (s : Survey) (p : ℕ) : Type 0 where
  pub leaf : Cell
  pub is_leaf : In leaf (leaves_of s)
  pub before : ℕ
  pub after : ℕ
  pub in_step : 1 ≤ tally before p (leaf_steps s leaf)
  pub out_step : 1 ≤ tally p after (leaf_steps s leaf)
  pub apart : before ≢ after

-- The four laws.
pub record FaceLaws (s : Survey) : Type 0 where
  -- each leaf's steps pair up
  pub paired : (c : Cell) → In c (leaves_of s) → Paired (twin_of s) (length (point_edges s)) (leaf_steps s c)
  -- over all leaves, as many steps go from p to q as back, unless the edges of both lie in one outer face
  pub faces_balance : (e f : CellEdge) (p q : ℕ) → Carries s e p → Carries s f q → T (not (in_one_face e f))
      → sum (λ c. tally p q (leaf_steps s c)) (leaves_of s) ≡ sum (λ c. tally q p (leaf_steps s c)) (leaves_of s)
  -- over all leaves, as many steps leave a point as enter it, if its edge and its twin's lie in no outer face together
  pub ends-balance : (e f : CellEdge) (p q : ℕ) → Carries s e p → Carries s f q → T (not (in_one_face e f)) → twin_of s p ≡ q → p ≢ q
      → sum (λ c. leave (leaf_steps s c) p) (leaves_of s) ≡ sum (λ c. enter (leaf_steps s c) p) (leaves_of s)
  -- each point is passed on some leaf, from one point to another
  pub met : (p : ℕ) → p < length (point_edges s) → Passage s p
