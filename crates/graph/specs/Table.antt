-- The table of links that the search reads, and what the search and the writing of a way do over it.
--
--     corner:        0                  1                  2
--     links:   [ x y z X Y Z ]    [ x y z X Y Z ]    [ x y z X Y Z ]  ..
--
-- For each corner six places: the corners at the other ends of its undivided edges, down and up the axes, if both ends are wet. A place without such an edge
-- has 4,883, which is no corner. A corner's rank is its fewest steps plus one, from where a search begins.
use Rattle.std.specs.Prelude.{ℕ, zero, suc, ◌+◌, ◌*◌, ◌<◌, ◌≤◌, ◌≡◌, true, ◌&&◌, cond, List, [], ◌∷◌, T, eqb, length, get_or, set}
use Rattle.base.specs.Lists.{any, first, count, bit}
use Rattle.rules.specs.Ways.{Graph, passable}

-- place i of corner k
abbrev pub link_at : List ℕ → ℕ → ℕ → ℕ
link_at t k i = get_or t (6 * k + i) 0

-- no place has a number above 4,883
abbrev pub Within : List ℕ → Type 0
Within t = (x : ℕ) → get_or t x 0 ≤ 4883

-- The table has just the steps between wet corners.
pub record Links (graph : Graph) (t : List ℕ) : Type 0 where
  pub few : graph.size ≤ 4872
  pub room : length t ≡ 29232
  pub within : Within t
  pub sound : (j i : ℕ) → j < graph.size → i < 6 → link_at t j i < graph.size →
      T (passable graph j) × T (passable graph (link_at t j i)) × T (graph.joined j (link_at t j i))
  pub complete : (j k : ℕ) → T (passable graph j) → T (passable graph k) → T (graph.joined j k) → (i : ℕ) × (i < 6) × (link_at t j i ≡ k)

-- the graph that a table has, of n corners: all are wet, for a dry one has no links
abbrev pub graph_in : List ℕ → ℕ → Graph
graph_in t n = record { size = n; wet = λ k. true; joined = λ j k. any (λ i. eqb (link_at t j i) k) (count 0 6) }

-- ---- the search

-- The search as it stands: how many corners are in the queue, the rank of each corner, 0 if it has none yet, and the queue.
pub record Frontier : Type 0 where
  pub tail : ℕ
  pub found : List ℕ
  pub queue : List ℕ

-- corner j is looked at: if it has no rank it gets this one, and its place at the queue's end counts
abbrev pub reached : ℕ → ℕ → Frontier → Frontier
reached rank j s = record {
  tail = s.tail + bit (eqb (get_or s.found j 0) 0);
  found = set s.found j (cond (eqb (get_or s.found j 0) 0) rank (get_or s.found j 0));
  queue = set s.queue s.tail j;
}

-- the first i links of corner k are followed
unfoldable pub visited : List ℕ → ℕ → ℕ → ℕ → Frontier → Frontier
visited t rank k zero s = s
visited t rank k (suc i) s = reached rank (link_at t k i) (visited t rank k i s)

-- ---- the way

-- of n corners that of lowest record number that is joined to corner k, and to which r gives the rank m; 0 where there is none
abbrev pub lowest_link : List ℕ → List ℕ → ℕ → ℕ → ℕ → ℕ
lowest_link t r n k m = first (λ j. eqb (get_or r j 0) m && (graph_in t n).joined k j) 0 (count 0 n)

-- m corners from k on, each that of lowest record number that is joined to the one before and has a rank lower by one: m, m - 1, down to 1
abbrev pub followed : List ℕ → List ℕ → ℕ → ℕ → ℕ → List ℕ
followed t r n zero k = []
followed t r n (suc m) k = k ∷ followed t r n m (lowest_link t r n k m)
