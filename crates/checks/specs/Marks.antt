-- Check 6 by look-up: the corner records of each cell are marked; none may be missing, and in the end none unmarked.
use Rattle.std.specs.Prelude.{ℕ, ◌+◌, ◌^◌, List, [], ◌∷◌, map, set}
use Rattle.base.specs.Lists.{collect, count}
use Rattle.records.specs.Keys.{record_at}
use Rattle.cells.specs.Laid.{octant_key, key_in, level_in}

-- the corner records of a cell, by the key of its lowest corner and its level
unfoldable pub corner_numbers : List ℕ → ℕ → ℕ → List ℕ
corner_numbers t key level = map (λ i. record_at t (key + octant_key i (2 ^ level))) (count 0 8)

-- the corner records of the first n cells, by the table of their keys and levels
unfoldable pub all_numbers : List ℕ → List ℕ → ℕ → List ℕ
unfolding corner_numbers
all_numbers t table n = collect (λ j. corner_numbers t (key_in table j) (level_in table j)) (count 0 n)

-- marks with 1 written at each of some positions
unfoldable pub marked : List ℕ → List ℕ → List ℕ
marked [] marks = marks
marked (k ∷ ks) marks = marked ks (set marks k 1)
