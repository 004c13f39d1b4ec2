-- What a call of the amended survey gives, by the first check that applies: the step from the checks of the tables to the plain call with the table as amended.
-- Assumes nothing.
use Prim.Native.Nat.{ℕ, ◌*◌, ◌≤◌, ◌<◌}
use mathlib.Core.Path.{◌≡◌, refl, sym, ap, ◌∙◌}
use mathlib.Core.Bool.{Bool, true, false, not, ◌&&◌, cond}
use mathlib.Core.List.{List, [], ◌∷◌, ◌++◌}
use native.Mathlib.Omega.{arith}
use lib.Dec.{T, eqb, ltb, eqb→eq}
use lib.ListN.{length, take, length-take}
use lib.Ieee.{Float}
use borrow.Author.Tests.{ne_eqb}
use Rattle.base.specs.Grid.{Place, axis_of}
use Rattle.base.proofs.Tests.{→true}
use Rattle.rules.specs.Survey.{record_size, record_count, record_bytes, cells_of}
use Rattle.rules.specs.Edges.{is_edge}
use Rattle.rules.specs.Outputs.{corner_limit, first_of, table_checks, survey_checks, survey_refusal, checks, drawing_checks, drawable, slice_checks, draw}
use Rattle.rules.specs.Outputs.{level_of, refused, enquiry}
use Rattle.rules.specs.Water.{volume_checks, volume}
use Rattle.rules.specs.Resounding.{in_force, amended, bad_amendments, stray_amendment, amendment_checks, as_amended, undrawn, unreckoned}
use Rattle.octree.proofs.Accepted.{numbered, first_append, first-none, first_unlike, table_fits, tables_checked}
use Rattle.amendments.proofs.Records.{whole, collect-same}
use Rattle.amendments.proofs.InForce.{in_force_at, amended-is, amended-length, amended-places}

-- no check of the tables has the number 0
pub tables_numbered : (tc tk : List ℕ) → T (numbered (table_checks tc tk))
unfolding table_checks
tables_numbered tc tk = tt

-- ---- tables that checks 1 to 6 pass

-- by check 2 a corner table is of whole records
pub whole_records : (tc tk : List ℕ) → first_of (table_checks tc tk) ≡ 0 → length tk ≡ record_size * record_count tk
whole_records tc tk pass = omega (arith, (table_fits record_size corner_limit tk (tables_checked tc tk pass).corner-table).0)

-- amended, they pass the same checks: those look at the corner table's length and places, never at a sounding or a day
pub tables-same : (tc tk ta : List ℕ) → first_of (table_checks tc tk) ≡ 0 → table_checks tc (amended tk ta) ≡ table_checks tc tk
unfolding table_checks
tables-same tc tk ta pass = rw (amended-places tk ta, amended-length tk ta ∙ sym (whole_records tc tk pass))

-- a table that is the corner table as amended passes them too
pub amended_pass : (tc tk ta t : List ℕ) → first_of (table_checks tc tk) ≡ 0 → t ≡ amended tk ta → first_of (table_checks tc t) ≡ 0
amended_pass tc tk ta t pass e = ap (λ (u : List ℕ). first_of (table_checks tc u)) e ∙ ap first_of (tables-same tc tk ta pass) ∙ pass

-- and is as long as the corner table, so that the table whose front it is has room for it
pub amended-fits : (tc tk ta table : List ℕ) → first_of (table_checks tc tk) ≡ 0 → take (length tk) table ≡ amended tk ta
    → (length tk ≤ length table) × (length tk ≡ length (take (length tk) table))
amended-fits tc tk ta table pass e =
    let as_long : length tk ≡ length (take (length tk) table) = whole_records tc tk pass ∙ sym (amended-length tk ta) ∙ sym (ap length e) in
    (omega (arith, as_long, length-take (length tk) table), as_long)

-- where no amendment takes a record's place, the corner table is as it was
pub amended_kept : (tc tk ta : List ℕ) → first_of (table_checks tc tk) ≡ 0 → ((k : ℕ) → k < record_count tk → in_force_at tk ta k ≡ record_bytes tk k)
    → amended tk ta ≡ tk
amended_kept tc tk ta pass kept =
    amended-is tk ta
    ∙ collect-same (in_force_at tk ta) (record_bytes tk) (record_count tk) 0 (λ k l h. kept k (omega arith))
    ∙ whole (record_count tk) 0 tk (whole_records tc tk pass ∙ omega arith)

-- so it is where there are no amendments
pub amended-none : (tc tk : List ℕ) → first_of (table_checks tc tk) ≡ 0 → amended tk [] ≡ tk
amended-none tc tk pass = amended_kept tc tk [] pass (λ k h. unfold in_force in refl)

-- ---- the checks of all three tables

-- checks 14 and 15, which come after those of the cell table and the corner table
abbrev pub late : List ℕ → List ℕ → List (ℕ × Bool)
late tc ta = (14, bad_amendments ta) ∷ (15, stray_amendment (cells_of tc) ta) ∷ []

amendments_after : (tc tk ta : List ℕ) → let n = first_of (table_checks tc tk) in first_of (amendment_checks tc tk ta) ≡ cond (eqb n 0) (first_of (late tc ta)) n
unfolding amendment_checks
amendments_after tc tk ta = first_append (table_checks tc tk) (late tc ta) (tables_numbered tc tk)

-- of tables that the first six pass, 14 and 15 decide
pub tables-first : (tc tk ta : List ℕ) → first_of (table_checks tc tk) ≡ 0 → first_of (amendment_checks tc tk ta) ≡ first_of (late tc ta)
tables-first tc tk ta pass = amendments_after tc tk ta ∙ rw pass

-- where none of all applies, none of the first six does
pub tables_pass : (tc tk ta : List ℕ) → first_of (amendment_checks tc tk ta) ≡ 0 → first_of (table_checks tc tk) ≡ 0
unfolding amendment_checks
tables_pass tc tk ta pass = (first-none (table_checks tc tk) (late tc ta) (tables_numbered tc tk) pass).0

-- a lawful amendment table adds no refusal
pub lawful-checks : (tc tk ta : List ℕ) → bad_amendments ta ≡ false → stray_amendment (cells_of tc) ta ≡ false
    → first_of (amendment_checks tc tk ta) ≡ first_of (table_checks tc tk)
lawful-checks tc tk ta fourteen fifteen = amendments_after tc tk ta ∙ rw (fourteen, fifteen) (go (eqb (first_of (table_checks tc tk)) 0) refl)
  where
    go : (b : Bool) → eqb (first_of (table_checks tc tk)) 0 ≡ b → cond b 0 (first_of (table_checks tc tk)) ≡ first_of (table_checks tc tk)
    go true e = sym (eqb→eq (first_of (table_checks tc tk)) 0 (→true e))
    go false e = refl

-- nor does an empty one
pub none-checks : (tc tk : List ℕ) → first_of (amendment_checks tc tk []) ≡ first_of (table_checks tc tk)
none-checks tc tk = lawful-checks tc tk [] refl (unfold stray_amendment in refl)

-- ---- any call

module _ {A : Type 0} (tc tk ta : List ℕ) (refusal : ℕ → A) (call : List ℕ → A) where
  -- by the first check that applies
  by_number : let n = first_of (amendment_checks tc tk ta) in as_amended tc tk ta refusal call ≡ cond (eqb n 0) (call (amended tk ta)) (refusal n)
  by_number = refl

  -- refused by any of the checks of the three tables
  pub refused-by_amendments : (m : ℕ) → m ≡ first_of (amendment_checks tc tk ta) → (m ≡ 0 → ⊥) → as_amended tc tk ta refusal call ≡ refusal m
  refused-by_amendments m is some = by_number ∙ rw (← is, ne_eqb m 0 some)

  -- refused by one of the first six
  pub refused-by-tables : (n : ℕ) → n ≡ first_of (table_checks tc tk) → (n ≡ 0 → ⊥) → as_amended tc tk ta refusal call ≡ refusal n
  refused-by-tables n is some = refused-by_amendments n (sym (amendments_after tc tk ta ∙ rw (← is, ne_eqb n 0 some))) some

  -- by none: the plain call
  pub called : first_of (amendment_checks tc tk ta) ≡ 0 → as_amended tc tk ta refusal call ≡ call (amended tk ta)
  called pass = by_number ∙ rw pass

-- without amendments: the plain call of the table as it was
pub none-amended : {A : Type 0} (tc tk : List ℕ) (refusal : ℕ → A) (call : List ℕ → A) → first_of (table_checks tc tk) ≡ 0
    → as_amended tc tk [] refusal call ≡ call tk
none-amended tc tk refusal call pass = called tc tk [] refusal call (none-checks tc tk ∙ pass) ∙ ap call (amended-none tc tk pass)

-- a table without bytes is the empty one
pub empty-is : (t : List ℕ) → length t ≡ 0 → t ≡ []
empty-is [] e = refl
empty-is (b ∷ t) e = absurd (omega arith)

-- ---- the plain calls

module _ (tc tk : List ℕ) (n : ℕ) (is : n ≡ first_of (table_checks tc tk)) (some : n ≡ 0 → ⊥) where
  -- where one of the first six checks applies, its number stands, whatever checks come after
  stands : (ts more : List (ℕ × Bool)) → ts ≡ table_checks tc tk ++ more → first_of ts ≡ n
  stands ts more e = ap first_of e ∙ first_append (table_checks tc tk) more (tables_numbered tc tk) ∙ rw (← is, ne_eqb n 0 some)

  -- so each call is refused with it: a check of the survey by itself,
  pub survey-refused : survey_refusal tc tk ≡ n
  unfolding survey_refusal survey_checks table_checks
  survey-refused = stands (survey_checks tc tk) _ refl

  -- an enquiry,
  pub enquiry-refused : (clearance : Float) (axis : ℕ) (p : Place) (size : ℕ) → enquiry tc tk clearance axis p size ≡ refused n
  unfolding enquiry
  enquiry-refused clearance axis p size =
      let ts : List (ℕ × Bool) = checks tc tk clearance ++ (11, not (ltb axis 3 && is_edge (cells_of tc) (axis_of axis) p (level_of size))) ∷ [] in
      let number : first_of ts ≡ n = unfold checks survey_checks table_checks in stands ts _ refl in
      rw (number, ne_eqb n 0 some)

  -- a drawing, by the checks before the slices' as by all,
  drawing_stands : (clearance : Float) → first_of (drawing_checks tc tk clearance) ≡ n
  unfolding drawing_checks checks survey_checks table_checks
  drawing_stands clearance = stands (drawing_checks tc tk clearance) _ refl

  module _ (clearance : Float) (ps : List Float) (ts : List ℕ) where
    slices_stand : first_of (drawing_checks tc tk clearance ++ slice_checks tc tk clearance ps ts) ≡ n
    unfolding drawing_checks checks survey_checks table_checks
    slices_stand = stands (drawing_checks tc tk clearance ++ slice_checks tc tk clearance ps ts) _ refl

    pub draw-refused : draw tc tk clearance ps ts ≡ undrawn n ps ts
    unfolding draw drawable
    draw-refused = rw (slices_stand, drawing_stands clearance, ne_eqb n 0 some)

    -- and a volume, which is as a drawing since the number is not 13
    pub volume-refused : (reference : Place) → volume tc tk clearance reference ps ts ≡ unreckoned n ps ts
    unfolding volume drawable
    volume-refused reference =
        let checks_of = volume_checks tc tk clearance reference ++ slice_checks tc tk clearance ps ts in
        let number : first_of checks_of ≡ n = unfold volume_checks drawing_checks checks survey_checks table_checks in stands checks_of _ refl in
        let other : eqb n 13 ≡ false = ap (λ m. eqb m 13) is ∙ first_unlike 13 (table_checks tc tk) tt (unfold table_checks in tt) in
        rw (number, other, slices_stand, drawing_stands clearance, ne_eqb n 0 some)
