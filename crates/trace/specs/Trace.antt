-- The scratch of one leaf, as one table: what it holds of a list of face steps. Element 0 is how many points the steps meet. Then, for each point v
-- below a limit, element 3 v + 1 is where a step leads from v, or 65,535 where none leaves it; element 3 v + 2 is 1 if a step meets v, else 65,535; and
-- element 3 i + 3 is the point that was met after i others. So a table of 65,535 throughout, with 0 in front, holds no step.
-- Assumes nothing: these are definitions.
use Rattle.std.specs.Prelude.{◌≡◌, Bool, true, false, ◌&&◌, ◌||◌, cond, List, [], ◌∷◌, ℕ, ◌+◌, ◌*◌, ◌≤◌, ◌<◌, eqb, ltb, length, get_or, set}
use Rattle.base.specs.Lists.{any, first}
use Rattle.rules.specs.Steps.{Step, met}

abbrev pub next_at : List ℕ → ℕ → ℕ
next_at t v = get_or t (3 * v + 1) 0

abbrev pub mark_at : List ℕ → ℕ → ℕ
mark_at t v = get_or t (3 * v + 2) 0

abbrev pub met_at : List ℕ → ℕ → ℕ
met_at t i = get_or t (3 * i + 3) 0

abbrev pub met_count : List ℕ → ℕ
met_count t = get_or t 0 0

-- a step meets v
abbrev pub meets : List Step → ℕ → Bool
meets ss v = any (λ t. eqb v t.0 || eqb v t.1) ss

-- where the first step that leaves v ends, or 65,535
abbrev pub end_from : List Step → ℕ → ℕ
end_from ss v = (first (λ t. eqb v t.0) (v, 65535) ss).1

-- the mark of a point that is met, or not
abbrev pub mark_of : Bool → ℕ
mark_of true = 1
mark_of false = 65535

-- the table, for points below a limit, holds the steps ss
pub record Traced (limit : ℕ) (ss : List Step) (t : List ℕ) : Type 0 where
  pub room : length t ≡ 3 * limit + 1
  pub small : limit ≤ 14616
  -- the steps join points below the limit
  pub within : (v : ℕ) → meets ss v ≡ true → v < limit
  pub next : (v : ℕ) → v < limit → next_at t v ≡ end_from ss v
  pub mark : (v : ℕ) → v < limit → mark_at t v ≡ mark_of (meets ss v)
  -- the points met are listed, each once
  pub counted : met_count t ≡ length (met ss limit)
  pub listed : (v : ℕ) → meets ss v ≡ true → (i : ℕ) × (i < met_count t) × (met_at t i ≡ v)
  pub lists : (i : ℕ) → i < met_count t → met_at t i < limit

-- ---- recording

-- the end of a step from a, which counts only where none left a before
abbrev pub leave_at : List ℕ → ℕ → ℕ → List ℕ
leave_at t a b = cond (eqb (next_at t a) 65535) (set t (3 * a + 1) b) t

-- a point, which is listed only where it was not met before and there is room
abbrev pub meet_at : List ℕ → ℕ → List ℕ
meet_at t v =
    let new = set (set (set t (3 * v + 2) 1) (3 * met_count t + 3) v) 0 (met_count t + 1) in
    cond (eqb (mark_at t v) 65535 && ltb (3 * met_count t + 3) (length t)) new t

-- one step more
abbrev pub record_one : Step → List ℕ → List ℕ
record_one s t = meet_at (meet_at (leave_at t s.0 s.1) s.0) s.1

-- steps one after the other
abbrev pub recorded : List Step → List ℕ → List ℕ
recorded [] t = t
recorded (s ∷ ss) t = recorded ss (record_one s t)
