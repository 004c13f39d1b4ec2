-- What the checks give where they pass: a drawable survey is accepted, and what its tables are made from.
-- Assumes nothing.
use Prim.Native.Nat.{ℕ, ◌/◌, ◌≤◌}
use native.Mathlib.Omega.{arith}
use mathlib.Core.Path.{◌≡◌, refl, sym, ap, ◌∙◌}
use mathlib.Core.Bool.{true, false}
use mathlib.Core.List.{List, []}
use lib.Dec.{eqb}
use lib.ListN.{length, replicate}
use lib.Ieee.{Float}
use Rattle.base.specs.Lists.{any}
use Rattle.base.proofs.Tests.{→true, true→, false→}
use Rattle.rules.specs.Survey.{entries, cells_of}
use Rattle.rules.specs.OpenAtBox.{open_at_box}
use Rattle.rules.specs.Outputs.{corner_limit, entries_right, rising, first_of, table_checks, survey_checks, survey_refusal, checks, accepted, drawing_checks, drawable}
use Rattle.octree.proofs.Accepted.{refused-before, refused_last, refused_never, Checked, checked, accepted→, drawable→}
use Rattle.records.specs.Keys.{places_of}
use Rattle.cells.specs.Laid.{too_deep}
use Rattle.edges.specs.Tables.{Levels}
use Rattle.edges.proofs.Notes.{none_noted}
use Rattle.edges.proofs.Surveyed.{rises-true, corners-few, cells-few}

-- check 12 is made after those of the survey and the clearance
module _ (tc tk : List ℕ) (clearance : Float) (n : ℕ) (n-is : n ≡ first_of (checks tc tk clearance)) where
  pub refused-earlier : (n ≡ 0 → ⊥) → n ≡ first_of (drawing_checks tc tk clearance)
  unfolding drawing_checks
  refused-earlier = refused-before (checks tc tk clearance) (unfold checks survey_checks table_checks in tt) 12 (open_at_box tk clearance) n n-is

  pub refused_open : n ≡ 0 → open_at_box tk clearance ≡ true → 12 ≡ first_of (drawing_checks tc tk clearance)
  unfolding drawing_checks
  refused_open = refused_last (checks tc tk clearance) (unfold checks survey_checks table_checks in tt) 12 (open_at_box tk clearance) n n-is

  pub refused-not : n ≡ 0 → open_at_box tk clearance ≡ false → 0 ≡ first_of (drawing_checks tc tk clearance)
  unfolding drawing_checks
  refused-not = refused_never (checks tc tk clearance) (unfold checks survey_checks table_checks in tt) 12 (open_at_box tk clearance) n n-is

  pub accepts : n ≡ 0 → accepted tc tk clearance ≡ true
  unfolding accepted
  accepts zero = ap (λ (m : ℕ). eqb m 0) (sym n-is ∙ zero)

pub drawable-accepted : (tc tk : List ℕ) (clearance : Float) → drawable tc tk clearance ≡ true → accepted tc tk clearance ≡ true
drawable-accepted tc tk clearance ok = true→ (accepted tc tk clearance) (drawable→ tc tk clearance (→true ok)).0

module _ (tc tk : List ℕ) (clearance : Float) (ok : accepted tc tk clearance ≡ true) where
  pub unrefused : survey_refusal tc tk ≡ 0
  unrefused = (accepted→ tc tk clearance (→true ok)).0

  found : Checked tc tk
  found = checked tc tk unrefused

  pub entries_follow : entries_right 0 0 (entries tc) ≡ true
  entries_follow = true→ (entries_right 0 0 (entries tc)) found.entries_right_lem

  pub none_deep : any too_deep (cells_of tc) ≡ false
  none_deep = false→ (any too_deep (cells_of tc)) found.units-whole

  pub corners_rise : rising (places_of tk) ≡ true
  corners_rise = rises-true tc tk unrefused

  pub few-corners : length tk ≤ corner_limit
  few-corners = corners-few tc tk unrefused

  pub few-cells : length tc ≤ 8196
  few-cells = cells-few tc tk unrefused

  pub few_records : length tc / 4 ≤ 2049
  few_records = let h = cells-few tc tk unrefused in omega arith

  -- the table of slots before any edge is noted
  pub levels_fresh : Levels tk [] (replicate 43848 0x0b0b)
  levels_fresh = none_noted tk 43848 refl (let h = few-corners in omega arith)
