-- The laws of request 6: the highest day holds; no amendments, or older ones alone, change nothing; and the checks of each call come in their order.
-- Assumes nothing.
use Prim.Native.Nat.{ℕ, ◌≤◌, ◌<◌}
use mathlib.Core.Path.{◌≡◌, refl, sym, ap, ◌∙◌, subst}
use mathlib.Core.Logic.{◌⊎◌, inl, inr}
use mathlib.Core.Bool.{Bool, true, false, not, ◌&&◌, ◌||◌, cond}
use mathlib.Core.List.{List, [], ◌∷◌, ◌++◌, append-nil, append_assoc}
use native.Mathlib.Omega.{arith}
use lib.Dec.{T, eqb, ltb, eqb→eq, ltb→lt, nltb→le}
use lib.Ieee.{Float}
use borrow.Author.Tests.{eqb-false, le-ltb}
use Rattle.base.specs.Lists.{all, keep, count}
use Rattle.base.specs.Grid.{Place, axis_of, same}
use Rattle.base.proofs.Tests.{→true, →false, true→, false→}
use Rattle.base.proofs.Lists.{In, in_append, all→in, in→all, map_in, count_in}
use Rattle.base.proofs.Below.{all_append}
use Rattle.base.proofs.Places.{same→}
use Rattle.rules.specs.Survey.{record_count, record_bytes, cells_of, corners_of, wet_at}
use Rattle.rules.specs.Edges.{edge, is_edge, odd, number_of, carrier, Spot, spot_on}
use Rattle.rules.specs.WhichEnd.{wet_end}
use Rattle.rules.specs.OpenAtBox.{open_at_box}
use Rattle.rules.specs.Outputs.{in_range, first_of, table_checks, sounding_check, survey_checks, survey_refusal, checks, drawing_checks, slice_checks, draw}
use Rattle.rules.specs.Outputs.{survey_of, level_of, refused, even, crossing, enquiry}
use Rattle.rules.specs.Water.{beyond_box, volume_checks, volume}
use Rattle.rules.specs.Resounding.{records_of, place_in, day_in, in_force, amended, bad_amendments, stray_amendment, amendment_checks, as_amended}
use Rattle.rules.specs.Resounding.{check_amended, enquiry_amended, undrawn, draw_amended, unreckoned, volume_amended}
use Rattle.rules.specs.Resounding.{Holds, HighestHolds, CornersInForce, AmendedPasses, number_in, check_order, drawing_order, InOrder, ChecksInOrder}
use Rattle.rules.specs.Resounding.{AsWithout, EmptyChangesNothing, OlderChangesNothing}
use Rattle.rules.specs.declared.End.{End}
use Rattle.octree.proofs.Accepted.{numbered, first_append}
use Rattle.amendments.proofs.InForce.{amended-count, amended-record}
use Rattle.amendments.proofs.Calls.{tables_numbered, tables-same, amended_pass, amended_kept, amended-none, tables_pass, lawful-checks, none-checks}
use Rattle.amendments.proofs.Calls.{refused-by_amendments, refused-by-tables, called, survey-refused, enquiry-refused, draw-refused, volume-refused}

-- ---- the highest day holds

-- a record is of a lower day than another
abbrev lower : List ℕ → List ℕ → Bool
lower a r = ltb (day_in a) (day_in r)

-- of the candidates none has a higher day than the record that holds
none_higher : (cs : List (List ℕ)) (r : List ℕ) → Holds cs r → (c : List ℕ) → In c cs → day_in c ≤ day_in r
none_higher cs r held c i = go (in_append c held.earlier (r ∷ held.later) (subst (In c) held.all_are i))
  where
    go : In c held.earlier ⊎ In c (r ∷ held.later) → day_in c ≤ day_in r
    go (inl j) = nltb→le (day_in r) (day_in c) (all→in (λ c. not (lower r c)) held.earlier held.none_higher c j)
    go (inr (inl e)) = let d = ap day_in e in omega arith
    go (inr (inr j)) = let l = ltb→lt (day_in c) (day_in r) (all→in (λ c. lower c r) held.later held.all_lower c j) in omega arith

module _ (cs : List (List ℕ)) (r a : List ℕ) (held : Holds cs r) where
  -- with a further candidate of a lower day the same record holds,
  lower_joins : lower a r ≡ true → Holds (cs ++ a ∷ []) r
  lower_joins e = record {
    earlier = held.earlier;
    later = held.later ++ a ∷ [];
    all_are = ap (λ (l : List (List ℕ)). l ++ a ∷ []) held.all_are ∙ append_assoc held.earlier (r ∷ held.later) (a ∷ []);
    none_higher = held.none_higher;
    all_lower = rw (all_append (λ c. lower c r) held.later (a ∷ []), true→ (all (λ c. lower c r) held.later) held.all_lower, e) tt;
  }

  -- with any other that one does
  other_joins : lower a r ≡ false → Holds (cs ++ a ∷ []) a
  other_joins e = record {
    earlier = cs;
    later = [];
    all_are = refl;
    none_higher = in→all (λ c. not (lower a c)) cs (λ c i. →false (le-ltb (day_in a) (day_in c) (omega (arith, none_higher cs r held c i, at_least))));
    all_lower = tt;
  }
    where
      at_least : day_in r ≤ day_in a
      at_least = nltb→le (day_in a) (day_in r) (→false e)

-- the amendments at a place
abbrev among : Place → List (List ℕ) → List (List ℕ)
among p rs = keep (λ a. same p (place_in a)) rs

-- whatever holds so far, with the amendments at its place the one in force does
abbrev Joins : List (List ℕ) → Type 0
Joins rs = (cs : List (List ℕ)) (r : List ℕ) → Holds cs r → Holds (cs ++ among (place_in r) rs) (in_force r rs)

-- so it is, as they join one by one
joined : (rs : List (List ℕ)) → Joins rs
unfolding in_force
joined [] cs r held = rw append-nil held
joined (a ∷ rs) cs r held = go (same (place_in r) (place_in a)) (lower a r) refl refl (joined rs)
  where
    go : (at less : Bool) → same (place_in r) (place_in a) ≡ at → lower a r ≡ less → Joins rs
        → Holds (cs ++ cond at (a ∷ among (place_in r) rs) (among (place_in r) rs)) (in_force (cond (at && not less) a r) rs)
    go true true e d rest = rw append_assoc at (rest (cs ++ a ∷ []) r (lower_joins cs r a held d))
    go true false e d rest =
        subst (λ p. Holds (cs ++ a ∷ among p rs) (in_force a rs)) (sym (same→ (place_in r) (place_in a) (→true e)))
        (rw append_assoc at (rest (cs ++ a ∷ []) a (other_joins cs r a held d)))
    go false less e d rest = rest cs r held

-- it begins with the record of the corner table, which holds alone
pub highest_holds : HighestHolds
unfolding HighestHolds
highest_holds r amendments = joined amendments (r ∷ []) r (record { earlier = []; later = []; all_are = refl; none_higher = tt; all_lower = tt })

-- the corners of the table made are the corners in force
pub corners_in_force : CornersInForce
unfolding CornersInForce
corners_in_force tk ta = (amended-count tk ta, amended-record tk ta)

-- and it passes the checks of a corner table
pub amended_passes : AmendedPasses
unfolding AmendedPasses
amended_passes tc tk ta pass = amended_pass tc tk ta (amended tk ta) (tables_pass tc tk ta pass) refl

-- ---- no amendments, or older ones alone, change nothing

-- an amendment table that adds no refusal, and changes nothing in tables that checks 1 to 6 pass
module _ (tc tk ta : List ℕ) (no_more : first_of (amendment_checks tc tk ta) ≡ first_of (table_checks tc tk))
    (kept : first_of (table_checks tc tk) ≡ 0 → amended tk ta ≡ tk) where
  -- the first of those checks that applies
  abbrev number : ℕ
  number = first_of (table_checks tc tk)

  -- a call that is itself refused by them is then as without
  plain : {A : Type 0} (refusal : ℕ → A) (call : List ℕ → A) → ((number ≡ 0 → ⊥) → call tk ≡ refusal number) → as_amended tc tk ta refusal call ≡ call tk
  plain refusal call refuses = go (eqb number 0) refl
    where
      go : (b : Bool) → eqb number 0 ≡ b → as_amended tc tk ta refusal call ≡ call tk
      go true e = let pass = eqb→eq number 0 (→true e) in called tc tk ta refusal call (no_more ∙ pass) ∙ ap call (kept pass)
      go false e = let some = eqb-false number 0 e in refused-by-tables tc tk ta refusal call number refl some ∙ sym (refuses some)

  -- all four are
  as_without : AsWithout tc tk ta
  unfolding check_amended enquiry_amended draw_amended volume_amended
  as_without = record {
    check = plain (λ n. n) (survey_refusal tc) (survey-refused tc tk number refl);
    answer = λ clearance axis p size.
        plain refused (λ t. enquiry tc t clearance axis p size) (λ some. enquiry-refused tc tk number refl some clearance axis p size);
    drawing = λ clearance ps ts.
        plain (λ n. undrawn n ps ts) (λ t. draw tc t clearance ps ts) (λ some. draw-refused tc tk number refl some clearance ps ts);
    reckoning = λ clearance reference ps ts.
        plain (λ n. unreckoned n ps ts) (λ t. volume tc t clearance reference ps ts) (λ some. volume-refused tc tk number refl some clearance ps ts reference);
  }

-- an empty one is such a table
pub empty_changes_nothing : EmptyChangesNothing
unfolding EmptyChangesNothing
empty_changes_nothing tc tk = as_without tc tk [] (none-checks tc tk) (amended-none tc tk)

-- an amendment is at another corner than a record, or older
abbrev older : List ℕ → List ℕ → Bool
older a r = not (same (place_in r) (place_in a)) || lower a r

-- a record stays in force where all amendments are
stays : (r : List ℕ) (rs : List (List ℕ)) → ((a : List ℕ) → In a rs → T (older a r)) → in_force r rs ≡ r
unfolding in_force
stays r [] old = refl
stays r (a ∷ rs) old =
    ap (λ b. in_force (cond b a r) rs) (go (same (place_in r) (place_in a)) (lower a r) (old a (inl refl))) ∙ stays r rs (λ b i. old b (inr i))
  where
    go : (at less : Bool) → T (not at || less) → at && not less ≡ false
    go true true t = refl
    go true false t = absurd t
    go false less t = refl

-- so one of such amendments is such a table too
pub older_changes_nothing : OlderChangesNothing
unfolding OlderChangesNothing
older_changes_nothing tc tk ta fourteen fifteen old =
    as_without tc tk ta (lawful-checks tc tk ta (false→ (bad_amendments ta) fourteen) (false→ (stray_amendment (cells_of tc) ta) fifteen))
    (λ pass. amended_kept tc tk ta pass (λ k h. stays (record_bytes tk k) (records_of ta) (λ a i. than (record_bytes tk k) a (listed k h) i)))
  where
    listed : (k : ℕ) → k < record_count tk → In (record_bytes tk k) (records_of tk)
    listed k h = map_in (record_bytes tk) (count 0 (record_count tk)) k (count_in (record_count tk) 0 k (omega arith) (omega arith))

    than : (r a : List ℕ) → In r (records_of tk) → In a (records_of ta) → T (older a r)
    than r a i j = all→in (older a) (records_of tk) (all→in (λ a. all (older a) (records_of tk)) (records_of ta) old a j) r i

-- ---- the checks of each call come in their order

module _ (tc tk ta : List ℕ) where
  -- no check of the three tables has the number 0
  pub all_numbered : T (numbered (amendment_checks tc tk ta))
  unfolding amendment_checks table_checks
  all_numbered = tt

  -- the further checks of a call, of the table as amended, come after those of the three tables
  ordered : {A : Type 0} (number : A → ℕ) (refusal : ℕ → A) (call : List ℕ → A) (further : List (ℕ × Bool)) → ((n : ℕ) → number (refusal n) ≡ n)
      → number (call (amended tk ta)) ≡ first_of (table_checks tc (amended tk ta) ++ further)
      → number (as_amended tc tk ta refusal call) ≡ first_of (amendment_checks tc tk ta ++ further)
  ordered number refusal call further numbers given = go (eqb first 0) refl
    where
      first : ℕ
      first = first_of (amendment_checks tc tk ta)

      after : first_of (amendment_checks tc tk ta ++ further) ≡ cond (eqb first 0) (first_of further) first
      after = first_append (amendment_checks tc tk ta) further all_numbered

      go : (b : Bool) → eqb first 0 ≡ b → number (as_amended tc tk ta refusal call) ≡ first_of (amendment_checks tc tk ta ++ further)
      go true e =
          let pass = eqb→eq first 0 (→true e) in
          let tables = tables_pass tc tk ta pass in
          ap number (called tc tk ta refusal call pass) ∙ given
          ∙ ap (λ (ts : List (ℕ × Bool)). first_of (ts ++ further)) (tables-same tc tk ta tables)
          ∙ first_append (table_checks tc tk) further (tables_numbered tc tk) ∙ rw tables (sym (after ∙ rw e))
      go false e = ap number (refused-by_amendments tc tk ta refusal call first refl (eqb-false first 0 e)) ∙ numbers first ∙ sym (after ∙ rw e)

  -- an answer has the number of the first check that applies
  answer-number : (n : ℕ) (is_odd : Bool) (m : ℕ) (place : Spot) (end : End) → number_in (cond (eqb n 0) (cond is_odd (crossing m place end) even) (refused n)) ≡ n
  answer-number n is_odd m place end = go (eqb n 0) is_odd refl
    where
      go : (b o : Bool) → eqb n 0 ≡ b → number_in (cond b (cond o (crossing m place end) even) (refused n)) ≡ n
      go true true e = sym (eqb→eq n 0 (→true e))
      go true false e = sym (eqb→eq n 0 (→true e))
      go false o e = refl

  enquiry-number : (t : List ℕ) (clearance : Float) (axis : ℕ) (p : Place) (size : ℕ) → number_in (enquiry tc t clearance axis p size)
      ≡ first_of (checks tc t clearance ++ (11, not (ltb axis 3 && is_edge (cells_of tc) (axis_of axis) p (level_of size))) ∷ [])
  unfolding enquiry
  enquiry-number t clearance axis p size =
      let s = survey_of tc t clearance in
      let a = axis_of axis in
      let l = level_of size in
      let e = carrier s a p l in
      answer-number (first_of (checks tc t clearance ++ (11, not (ltb axis 3 && is_edge (cells_of tc) a p l)) ∷ [])) (odd (wet_at (corners_of t) clearance) a p l)
      (number_of s e) (spot_on (corners_of t) clearance e) (wet_end (wet_at (corners_of t) clearance) (edge a p l))

  -- those are 7; 7, 8 and 11; 7, 8, 12 and the slices'; and these with 13 before the slices'
  in_order : InOrder tc tk ta
  unfolding check_amended enquiry_amended draw_amended volume_amended check_order drawing_order amendment_checks table_checks survey_refusal
      survey_checks checks drawing_checks draw volume_checks volume
  in_order =
      let table = amended tk ta in
      let seven = sounding_check table in
      let before_slices : Float → List (ℕ × Bool) = λ clearance. seven ∷ (8, not (in_range clearance)) ∷ (12, open_at_box table clearance) ∷ [] in
      record {
        check = ordered (λ n. n) (λ n. n) (survey_refusal tc) (seven ∷ []) (λ n. refl) refl;
        answer = λ clearance axis p size.
            ordered number_in refused (λ t. enquiry tc t clearance axis p size)
            (seven ∷ (8, not (in_range clearance)) ∷ (11, not (ltb axis 3 && is_edge (cells_of tc) (axis_of axis) p (level_of size))) ∷ []) (λ n. refl)
            (enquiry-number table clearance axis p size);
        drawing = λ clearance ps ts.
            ordered (λ d. d.result.number) (λ n. undrawn n ps ts) (λ t. draw tc t clearance ps ts)
            (before_slices clearance ++ slice_checks tc table clearance ps ts) (λ n. refl) refl;
        reckoning = λ clearance reference ps ts.
            ordered (λ w. w.result.number) (λ n. unreckoned n ps ts) (λ t. volume tc t clearance reference ps ts)
            (before_slices clearance ++ (13, beyond_box reference) ∷ slice_checks tc table clearance ps ts) (λ n. refl) refl;
      }

pub checks_in_order : ChecksInOrder
unfolding ChecksInOrder
checks_in_order = in_order

-- ---- the checks of the survey by itself, and what comes after them

module _ (tc tk ta : List ℕ) where
  -- the first of them that applies
  abbrev pub survey_number : ℕ
  survey_number = first_of (check_order tc tk ta)

  pub survey_numbered : T (numbered (check_order tc tk ta))
  unfolding check_order amendment_checks table_checks
  survey_numbered = tt

  -- further checks come after them
  pub after-survey : (us : List (ℕ × Bool)) → first_of (check_order tc tk ta ++ us) ≡ cond (eqb survey_number 0) (first_of us) survey_number
  after-survey us = first_append (check_order tc tk ta) us survey_numbered

  pub check-is : check_amended tc tk ta ≡ survey_number
  unfolding ChecksInOrder
  check-is = (checks_in_order tc tk ta).check
