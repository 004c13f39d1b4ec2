-- What a call that draws promises: what it returns and what stands in the lent slices afterwards is a drawing of the rules.
-- Assumes nothing: these are definitions.
use Rattle.std.specs.Prelude.{ℕ, ◌≡◌, List, Float, Result, Ok, Err}
use Rattle.rules.specs.Refusals.{refusal_number}
use Rattle.rules.specs.Outputs.{Drawing}
use Rattle.rules.specs.declared.Drawn.{Drawn}
use Rattle.rules.specs.declared.refusal.Refusal.{Refusal}

-- the result, and the slices afterwards, are those of the drawing
pub record Draws (d : Drawing) (r : Drawn) (points : List Float) (triangles : List ℕ) : Type 0 where
  pub result_is : r ≡ d.result
  pub points_are : points ≡ d.points
  pub triangles_are : triangles ≡ d.triangles

-- what the call returns, where a refusal before anything is drawn may stand in the place of a drawing
abbrev pub drawn_of : Result Drawn Refusal → Drawn
drawn_of (Ok d) = d
drawn_of (Err r) = record { number = refusal_number r; points = 0; triangles = 0 }
