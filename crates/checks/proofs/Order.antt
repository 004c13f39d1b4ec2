-- The checks in their order: the first that applies gives its number.
use Prim.Native.Nat.{ℕ}
use mathlib.Core.Path.{◌≡◌, refl, sym}
use mathlib.Core.Bool.{true, false, not}
use mathlib.Core.List.{List}
use lib.Ieee.{Float}
use Rattle.base.specs.Lists.{any}
use Rattle.rules.specs.Survey.{record_size, entries, cells_of, corners_of}
use Rattle.rules.specs.Outputs.{corner_limit, bad_table, entries_right, rising, corners_right, in_range, first_of, table_checks, survey_checks, survey_refusal, checks}
use Rattle.octree.proofs.Accepted.{refused-before, refused_last, refused_never}
use Rattle.records.specs.Keys.{places_of}
use Rattle.cells.specs.Laid.{too_deep}
use Rattle.checks.proofs.Tables.{beyond}

-- the checks before a check find nothing, and it applies
module _ (tc tk : List ℕ) where
  pub refused-one : bad_table 4 8196 tc ≡ true → 1 ≡ first_of (table_checks tc tk)
  unfolding table_checks
  refused-one a = rw a

  module _ (a : bad_table 4 8196 tc ≡ false) where
    pub refused-two : bad_table record_size corner_limit tk ≡ true → 2 ≡ first_of (table_checks tc tk)
    unfolding table_checks
    refused-two b = rw (a, b)

    module _ (b : bad_table record_size corner_limit tk ≡ false) where
      pub refused_three : not (entries_right 0 0 (entries tc)) ≡ true → 3 ≡ first_of (table_checks tc tk)
      unfolding table_checks
      refused_three c = rw (a, b, c)

      module _ (c : not (entries_right 0 0 (entries tc)) ≡ false) where
        pub refused_four : any too_deep (cells_of tc) ≡ true → 4 ≡ first_of (table_checks tc tk)
        unfolding table_checks
        refused_four d = rw (a, b, c, d)

        module _ (d : any too_deep (cells_of tc) ≡ false) where
          pub refused_five : not (rising (places_of tk)) ≡ true → 5 ≡ first_of (table_checks tc tk)
          unfolding table_checks
          refused_five e = rw (a, b, c, d, e)

          module _ (e : not (rising (places_of tk)) ≡ false) where
            pub refused_six : not (corners_right (cells_of tc) (places_of tk)) ≡ true → 6 ≡ first_of (table_checks tc tk)
            unfolding table_checks
            refused_six f = rw (a, b, c, d, e, f)

            module _ (f : not (corners_right (cells_of tc) (places_of tk)) ≡ false) where
              pub none-refused : 0 ≡ first_of (table_checks tc tk)
              unfolding table_checks
              none-refused = rw (a, b, c, d, e, f)

-- the soundings are checked after the tables
module _ (tc tk : List ℕ) (passed : first_of (table_checks tc tk) ≡ 0) where
  pub refused_seven : any beyond (corners_of tk) ≡ true → 7 ≡ survey_refusal tc tk
  unfolding survey_refusal survey_checks
  refused_seven = refused_last (table_checks tc tk) (unfold table_checks in tt) 7 (any beyond (corners_of tk)) 0 (sym passed) refl

  pub all_in_range : any beyond (corners_of tk) ≡ false → 0 ≡ survey_refusal tc tk
  unfolding survey_refusal survey_checks
  all_in_range = refused_never (table_checks tc tk) (unfold table_checks in tt) 7 (any beyond (corners_of tk)) 0 (sym passed) refl

-- the clearance is checked after the survey
module _ (tc tk : List ℕ) (clearance : Float) (n : ℕ) (n-is : n ≡ survey_refusal tc tk) where
  pub survey-refused : (n ≡ 0 → ⊥) → n ≡ first_of (checks tc tk clearance)
  unfolding checks survey_refusal
  survey-refused = refused-before (survey_checks tc tk) (unfold survey_checks table_checks in tt) 8 (not (in_range clearance)) n n-is

  pub clearance-refused : n ≡ 0 → not (in_range clearance) ≡ true → 8 ≡ first_of (checks tc tk clearance)
  unfolding checks survey_refusal
  clearance-refused = refused_last (survey_checks tc tk) (unfold survey_checks table_checks in tt) 8 (not (in_range clearance)) n n-is

  pub nothing-refused : n ≡ 0 → not (in_range clearance) ≡ false → 0 ≡ first_of (checks tc tk clearance)
  unfolding checks survey_refusal
  nothing-refused = refused_never (survey_checks tc tk) (unfold survey_checks table_checks in tt) 8 (not (in_range clearance)) n n-is
