-- Document 01, "Steps and loops", of one leaf: what its loops are drawn from, and what is drawn.
-- Assumes nothing: these are definitions.
use Rattle.std.specs.Prelude.{◌≡◌, true, List, [], ◌++◌, ℕ, ◌≤◌, ◌<◌, length, get_or, take, drop}
use Rattle.base.specs.Lists.{collect}
use Rattle.rules.specs.Steps.{Step, Triangle, met, onward, loops, fan}
use Rattle.rules.specs.Outputs.{numbers}
use Rattle.trace.specs.Trace.{Traced, meets}
use Rattle.closing.specs.Permutes.{Permutes}

-- A leaf over a table of twins: how many points the survey has, the leaf's face steps, the twin of each point; the way onward from a point
-- permutes the points that the steps meet.
pub record Leaf (twins : List ℕ) : Type 0 where
  pub points : ℕ
  pub few : points ≤ 14616
  pub long : points ≤ length twins
  pub steps : List Step
  pub twin : ℕ → ℕ
  pub inside : (v : ℕ) → meets steps v ≡ true → v < points
  pub table : (v : ℕ) → v < points → get_or twins v 0 ≡ twin v
  pub permutes : Permutes points (onward steps twin) (met steps points)

-- the triangles of its loops
abbrev pub triangles : {twins : List ℕ} → Leaf twins → List Triangle
triangles l = collect fan (loops l.points (onward l.steps l.twin) (met l.steps l.points))

-- a slice with numbers written over it from its front on, as far as it goes
abbrev pub into : List ℕ → List ℕ → List ℕ
into new slice = take (length slice) new ++ drop (length new) slice

-- A leaf is drawn: how many triangles it has, their numbers in the lent slice, and the trace is empty again.
pub record Drawn (limit : ℕ) {twins : List ℕ} (l : Leaf twins) (before after : List ℕ) (r : ℕ) (t : List ℕ) : Type 0 where
  pub counted : r ≡ length (triangles l)
  pub wrote : after ≡ into (collect numbers (triangles l)) before
  pub emptied : Traced limit [] t

-- the trace is that of a leaf, for points below a limit
pub record Loaded (twins t : List ℕ) : Type 0 where
  pub limit : ℕ
  pub leaf : Leaf twins
  pub traced : Traced limit leaf.steps t

-- whatever leaf the trace is of, that one is drawn
abbrev pub Draws : List ℕ → List ℕ → List ℕ → List ℕ → ℕ → List ℕ → Type 0
Draws twins t before after r u = (limit : ℕ) (l : Leaf twins) → Traced limit l.steps t → Drawn limit l before after r u
