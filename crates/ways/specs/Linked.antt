-- How the table of links changes as the edge of a slot is looked at.
use Rattle.std.specs.Prelude.{ℕ, ◌+◌, ◌*◌, Bool, ◌&&◌, cond, List, leb, eqb, get_or, set}
use Rattle.edges.specs.Tables.{lowest_at, far_at}

-- an edge starts at corner k on the axis with number n, and both ends of the one of the lowest level are wet
abbrev pub is_step : List ℕ → List ℕ → ℕ → ℕ → Bool
is_step wets slots n k = leb (lowest_at slots (4872 * n + k)) 10 && (eqb (get_or wets k 0) 1 && eqb (get_or wets (far_at slots (4872 * n + k)) 0) 1)

-- the table with both ends linked then
abbrev pub linked_at : List ℕ → List ℕ → ℕ → ℕ → List ℕ → List ℕ
linked_at wets slots n k t =
    cond (is_step wets slots n k) (set (set t (6 * k + (3 + n)) (far_at slots (4872 * n + k))) (6 * far_at slots (4872 * n + k) + n) k) t
