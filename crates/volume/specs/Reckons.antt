-- What a call for the volume promises: what it returns and what stands in the lent slices afterwards is what the rules say; and what holds of it where the
-- number is 0.
-- Assumes nothing: these are definitions.
use Rattle.std.specs.Prelude.{ℕ, ◌≡◌, not, List, T, ℤ, pos, Float, Result, Ok, Err}
use Rattle.base.specs.Grid.{Place}
use Rattle.rules.specs.Refusals.{refusal_number}
use Rattle.rules.specs.Steps.{all_triangles}
use Rattle.rules.specs.Outputs.{survey_of, point_floats}
use Rattle.rules.specs.Closing.{ClosedIn}
use Rattle.rules.specs.Water.{sixfold, beyond_box, Reckoning}
use Rattle.rules.specs.declared.Drawn.{Drawn}
use Rattle.rules.specs.declared.Water.{Water}
use Rattle.rules.specs.declared.refusal.Refusal.{Refusal}

-- the number and the counts, as drawing returns them
abbrev pub drawn_part : Water → Drawn
drawn_part w = record { number = w.number; points = w.points; triangles = w.triangles }

-- what the call returns, where a refusal before anything is drawn may stand in the place of a volume
abbrev pub water_of : Result Water Refusal → Water
water_of (Ok w) = w
water_of (Err r) = record { number = refusal_number r; points = 0; triangles = 0; sixfold = pos 0 }

-- the result, and the slices afterwards, are those of the rules
pub record Reckons (k : Reckoning) (w : Water) (points : List Float) (triangles : List ℕ) : Type 0 where
  pub result_is : w ≡ k.result
  pub points_are : points ≡ k.points
  pub triangles_are : triangles ≡ k.triangles

-- six times the volume of a survey, from a reference
abbrev pub sixfold_from : Place → List ℕ → List ℕ → Float → ℤ
sixfold_from q tc tk clearance = sixfold q (point_floats tc tk clearance) (all_triangles (survey_of tc tk clearance))

-- where the number is 0: what stands in the slices is closed, and the volume is the same from every reference of the box
abbrev pub ClosedAnywhere : List ℕ → List ℕ → Float → Water → List Float → List ℕ → Type 0
ClosedAnywhere tc tk clearance w points triangles =
    (w.number ≡ 0 → ClosedIn tc tk clearance (drawn_part w) points triangles)
    × (w.number ≡ 0 → (q : Place) → T (not (beyond_box q)) → w.sixfold ≡ sixfold_from q tc tk clearance)
