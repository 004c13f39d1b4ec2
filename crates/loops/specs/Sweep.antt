-- The way through the points of a leaf in rising order, each loop from the first of its points that comes: what is done when the points below
-- one are passed.
-- Assumes nothing: these are definitions.
use Rattle.std.specs.Prelude.{◌≡◌, ◌⊎◌, Bool, true, false, cond, List, ℕ, zero, suc, ◌+◌, ◌*◌, ◌≤◌, ◌<◌, min, eqb, Option, None, Some, length, get_or, set}
use Rattle.std.proofs.lemmas.List.Edits.{sets}
use Rattle.base.specs.Lists.{keep, collect, count}
use Rattle.rules.specs.Steps.{Step, Triangle, onward, loop, lowest_first, loops, fan}
use Rattle.rules.specs.Outputs.{numbers}
use Rattle.trace.specs.Trace.{next_at, mark_at, met_at, met_count, mark_of, meets, end_from}
use Rattle.loops.specs.Loops.{Leaf}
use Rattle.loops.specs.declared.Walk.{Walk}

-- where the tables lead from v: along the face step that leaves it, or to its twin where none does
abbrev pub leads : List ℕ → List ℕ → ℕ → ℕ
leads t twins v = cond (eqb (next_at t v) 65535) (get_or twins v 0) (next_at t v)

-- the state of a walk one step on
abbrev pub on_of : List ℕ → List ℕ → Walk → Walk
on_of t twins w = record { before = w.at; at = leads t twins w.at }

-- From v the walk goes to u as the rules say, of any face steps between points, where the trace holds the step from v, and the table its twin.
abbrev pub Follows : List ℕ → List ℕ → ℕ → ℕ → Type 0
Follows t twins v u =
    (ss : List Step) (twin : ℕ → ℕ) → ((x : ℕ) → meets ss x ≡ true → x < 65535) → next_at t v ≡ end_from ss v → get_or twins v 0 ≡ twin v
    → u ≡ onward ss twin v

-- a point is taken out: no step leaves it, and it has no mark
abbrev pub clear_at : List ℕ → ℕ → List ℕ
clear_at t v = set (set t (3 * v + 1) 65535) (3 * v + 2) 65535

-- A walk goes one step on, from w to r, and takes the point it leaves out of the trace.
pub record Stepped (twins : List ℕ) (w r : Walk) (t u : List ℕ) : Type 0 where
  pub walk : r ≡ on_of t twins w
  pub trace : u ≡ clear_at t w.at

-- the lower of a number and of the point v, which counts only where it has a mark
abbrev pub lower_of : List ℕ → ℕ → ℕ → ℕ
lower_of t v r = cond (eqb (mark_at t v) 1) (min v r) r

-- the lowest of the first n points of the list that has a mark, or 65,535
abbrev pub lowest_of : List ℕ → ℕ → ℕ
lowest_of t zero = 65535
lowest_of t (suc n) = lower_of t (met_at t n) (lowest_of t n)

-- the point that such a number stands for, if it does
abbrev pub point_of : ℕ → Option ℕ
point_of r = cond (eqb r 65535) None (Some r)

-- Of the first n points of the list, r is the lowest that has a mark, or 65,535.
pub record Lowest (t : List ℕ) (n r : ℕ) : Type 0 where
  pub least : (i : ℕ) → i < n → mark_at t (met_at t i) ≡ 1 → r ≤ met_at t i
  pub found : (r ≡ 65535) ⊎ ((i : ℕ) × (i < n) × (met_at t i ≡ r) × (mark_at t r ≡ 1))

-- the trace and the slice while a leaf is drawn, and how many triangles are
pub record Progress : Type 0 where
  pub trace : List ℕ
  pub out : List ℕ
  pub count : ℕ

abbrev pub progress : List ℕ → List ℕ → ℕ → Progress
progress t out count = record { trace = t; out = out; count = count }

-- the trace holds the steps from the points that pass a test, and no others; these points are in its list
pub record Held (limit : ℕ) (steps : List Step) (rest : ℕ → Bool) (t : List ℕ) : Type 0 where
  pub room : length t ≡ 3 * limit + 1
  pub small : limit ≤ 14616
  pub next : (v : ℕ) → v < limit → next_at t v ≡ cond (rest v) (end_from steps v) 65535
  pub mark : (v : ℕ) → v < limit → mark_at t v ≡ mark_of (rest v)
  pub few : met_count t ≤ limit
  pub listed : (v : ℕ) → rest v ≡ true → (i : ℕ) × (i < met_count t) × (met_at t i ≡ v)
  pub lists : (i : ℕ) → i < met_count t → met_at t i < limit

module _ {twins : List ℕ} (l : Leaf twins) where
  abbrev pub after : ℕ → ℕ
  after = onward l.steps l.twin

  -- the triangles of the loops that start at the k points from v on
  abbrev pub fans : ℕ → ℕ → List Triangle
  fans v k = collect fan (loops l.points after (keep (meets l.steps) (count v k)))

  -- What is left when the points below v are passed: whole loops, of points from v on, and every loop whose lowest point is not below v.
  pub record Left (limit v : ℕ) (s : Progress) : Type 0 where
    pub rest : ℕ → Bool
    pub held : Held limit l.steps rest s.trace
    pub met : (x : ℕ) → rest x ≡ true → meets l.steps x ≡ true
    pub stays : (x : ℕ) → rest x ≡ true → rest (after x) ≡ true
    pub low : (x : ℕ) → rest x ≡ true → v ≤ x
    pub passed : (x : ℕ) → meets l.steps x ≡ true → rest x ≡ false → v ≤ x → lowest_first (loop l.points after x) ≡ false

  -- the k points from v on are passed
  pub record Swept (limit v k : ℕ) (s t : Progress) : Type 0 where
    pub left : Left limit (v + k) t
    pub counted : t.count ≡ s.count + length (fans v k)
    pub wrote : t.out ≡ sets s.out (3 * s.count) (collect numbers (fans v k))

-- some leaf is left from v on, v has a mark, and the count is small enough
pub record Ready (twins : List ℕ) (v : ℕ) (s : Progress) : Type 0 where
  pub limit : ℕ
  pub leaf : Leaf twins
  pub left : Left leaf limit v s
  pub inside : v < limit
  pub mark : mark_at s.trace v ≡ 1
  pub room : s.count ≤ v * 14616

-- whatever leaf is left from v on, its point v is passed
abbrev pub Passes : List ℕ → ℕ → Progress → Progress → Type 0
Passes twins v s t = (limit : ℕ) (l : Leaf twins) → Left l limit v s → Swept l limit v 1 s t
