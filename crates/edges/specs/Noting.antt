-- How the table of slots changes as an edge is noted.
use Rattle.std.specs.Prelude.{ℕ, ◌+◌, ◌*◌, min, max, cond, List, ltb, set}
use Rattle.edges.specs.Tables.{lowest_at, highest_at, far_at}

-- the table with an edge of level l to corner record m noted at slot i
unfoldable pub with_edge : List ℕ → ℕ → ℕ → ℕ → List ℕ
unfolding lowest_at highest_at far_at
with_edge slots i l m =
    set (set slots (3 * i + 1) (cond (ltb l (lowest_at slots i)) m (far_at slots i))) (3 * i) (min l (lowest_at slots i) + 16 * max l (highest_at slots i))
