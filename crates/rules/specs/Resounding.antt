-- Document 02, request 6, "Resounding a few corners": an amendment table lent beside the corner table, the record in force at each corner, checks 14 and 15,
-- and each call of the survey so amended. That records have 12 bytes is in Survey.antt.
use Rattle.std.specs.Prelude.{ℕ, ◌%◌, ◌<◌, ◌≡◌, Bool, not, ◌&&◌, ◌||◌, cond, List, [], ◌∷◌, ◌++◌, map, eqb, ltb, T, length, pos, Float}
use Rattle.base.specs.Lists.{any, all, keep, collect, count, little, bytes}
use Rattle.base.specs.Grid.{Place, axis_of, same}
use Rattle.rules.specs.Survey.{Cell, cells_of, cell_corners, record_size, record_count, record_bytes, corner_record, place_of}
use Rattle.rules.specs.Edges.{is_edge}
use Rattle.rules.specs.OpenAtBox.{open_at_box}
use Rattle.rules.specs.Outputs.{in_range, first_of, table_checks, sounding_check, survey_refusal, slice_checks, Drawing, draw, level_of}
use Rattle.rules.specs.Outputs.{Enquired, refused, even, crossing, enquiry}
use Rattle.rules.specs.Water.{beyond_box, Reckoning, volume}

-- ---- the record in force

-- the records of a table, each as its bytes
abbrev pub records_of : List ℕ → List (List ℕ)
records_of t = map (record_bytes t) (count 0 (record_count t))

-- of a record: the place of its corner
unfoldable pub place_in : List ℕ → Place
unfolding corner_record
place_in r = place_of (corner_record r 0)

-- and its day, "a 16-bit day number following the sounding"
unfoldable pub day_in : List ℕ → ℕ
day_in r = little (bytes r 10 2)

-- an amendment overrules the record that held so far: it is at the same corner, and its day is not lower
abbrev pub overrules : List ℕ → List ℕ → Bool
overrules a r = same (place_in r) (place_in a) && not (ltb (day_in a) (day_in r))

-- The record in force at a corner, of its record in the corner table and the amendments in the order of their table: each that overrules the one that held so
-- far takes its place. So the highest day holds, and among equal days the last (`HighestHolds`).
unfoldable pub in_force : List ℕ → List (List ℕ) → List ℕ
unfolding place_in day_in
in_force r [] = r
in_force r (a ∷ rest) = in_force (cond (overrules a r) a r) rest

-- the corner table as amended: each of its records gives way to the one in force at its corner
unfoldable pub amended : List ℕ → List ℕ → List ℕ
unfolding in_force
amended tk ta = collect (λ r. in_force r (records_of ta)) (records_of tk)

-- ---- the checks

-- the longest amendment table, in bytes: 1,000 records
abbrev pub amendment_limit : ℕ
amendment_limit = 12000

-- "14 is an amendment table not of whole records or over 12,000 bytes (an empty one is lawful)"
abbrev pub bad_amendments : List ℕ → Bool
bad_amendments ta = not (eqb (length ta % record_size) 0) || ltb amendment_limit (length ta)

-- "15 an amendment at no cell's corner", whether it is in force or not
unfoldable pub stray_amendment : List Cell → List ℕ → Bool
unfolding place_in
stray_amendment cells ta = any (λ r. not (any (λ c. any (same (place_in r)) (cell_corners c)) cells)) (records_of ta)

-- the checks of all three tables: 14 and 15 stand "directly after 6"
unfoldable pub amendment_checks : List ℕ → List ℕ → List ℕ → List (ℕ × Bool)
unfolding table_checks cells_of stray_amendment
amendment_checks tc tk ta = table_checks tc tk ++ (14, bad_amendments ta) ∷ (15, stray_amendment (cells_of tc) ta) ∷ []

-- ---- the calls

-- "Drawing, enquiry and volume are those of the survey so amended": refused by the first of these checks that applies, else the call with the corner table as
-- amended. (Of that table checks 1 to 6 find nothing to refuse either, `AmendedPasses`, so that 7 comes next: `InOrder`.)
abbrev pub as_amended : {A : Type 0} → List ℕ → List ℕ → List ℕ → (ℕ → A) → (List ℕ → A) → A
as_amended tc tk ta refusal call =
    let number = first_of (amendment_checks tc tk ta) in
    let answer = call (amended tk ta) in
    cond (eqb number 0) answer (refusal number)

-- a check of the survey by itself gives 0, 1 to 7, 14 or 15
unfoldable pub check_amended : List ℕ → List ℕ → List ℕ → ℕ
unfolding amendment_checks amended survey_refusal
check_amended tc tk ta = as_amended tc tk ta (λ n. n) (survey_refusal tc)

unfoldable pub enquiry_amended : List ℕ → List ℕ → List ℕ → Float → ℕ → Place → ℕ → Enquired
unfolding amendment_checks amended enquiry
enquiry_amended tc tk ta clearance axis p size = as_amended tc tk ta refused (λ t. enquiry tc t clearance axis p size)

-- a refused drawing: "counts 0 and 0", and the slices as they were
abbrev pub undrawn : ℕ → List Float → List ℕ → Drawing
undrawn number ps ts = record { result = record { number = number; points = 0; triangles = 0 }; points = ps; triangles = ts }

unfoldable pub draw_amended : List ℕ → List ℕ → List ℕ → Float → List Float → List ℕ → Drawing
unfolding amendment_checks amended draw
draw_amended tc tk ta clearance ps ts = as_amended tc tk ta (λ n. undrawn n ps ts) (λ t. draw tc t clearance ps ts)

-- the same of the call for the volume, which is then zero
abbrev pub unreckoned : ℕ → List Float → List ℕ → Reckoning
unreckoned number ps ts = record { result = record { number = number; points = 0; triangles = 0; sixfold = pos 0 }; points = ps; triangles = ts }

unfoldable pub volume_amended : List ℕ → List ℕ → List ℕ → Float → Place → List Float → List ℕ → Reckoning
unfolding amendment_checks amended volume
volume_amended tc tk ta clearance reference ps ts = as_amended tc tk ta (λ n. unreckoned n ps ts) (λ t. volume tc t clearance reference ps ts)

-- ---- what the request says of them

-- "For each corner the record of the highest day holds; among equal days an amendment beats the corner table and a later amendment an earlier one": of the
-- records at a corner, that of the corner table first and then the amendments in their order, none before the one that holds has a higher day, and every one
-- after it has a lower day.
pub record Holds (candidates : List (List ℕ)) (r : List ℕ) : Type 0 where
  pub earlier : List (List ℕ)
  pub later : List (List ℕ)
  pub all_are : candidates ≡ earlier ++ r ∷ later
  pub none_higher : T (all (λ c. not (ltb (day_in r) (day_in c))) earlier)
  pub all_lower : T (all (λ c. ltb (day_in c) (day_in r)) later)

unfoldable pub HighestHolds : Type 0
unfolding place_in in_force
HighestHolds = (r : List ℕ) (amendments : List (List ℕ)) → Holds (r ∷ keep (λ a. same (place_in r) (place_in a)) amendments) (in_force r amendments)

-- the corner table as amended has as many records as before, and record k is the one in force at corner k
unfoldable pub CornersInForce : Type 0
unfolding amended in_force
CornersInForce = (tk ta : List ℕ) → (record_count (amended tk ta) ≡ record_count tk)
    × ((k : ℕ) → k < record_count tk → record_bytes (amended tk ta) k ≡ in_force (record_bytes tk k) (records_of ta))

-- Of tables that pass checks 1 to 6, 14 and 15, the corner table as amended passes 1 to 6 too. So whatever holds of every survey that is accepted, or drawn,
-- holds of the survey as amended.
unfoldable pub AmendedPasses : Type 0
unfolding table_checks amendment_checks amended
AmendedPasses = (tc tk ta : List ℕ) → first_of (amendment_checks tc tk ta) ≡ 0 → first_of (table_checks tc (amended tk ta)) ≡ 0

-- The checks of the survey by itself in their order: 1 to 6 of the tables as lent, 14, 15, and 7 of the table as amended: "refusal 7 looks only at soundings in
-- force".
unfoldable pub check_order : List ℕ → List ℕ → List ℕ → List (ℕ × Bool)
unfolding amendment_checks amended
check_order tc tk ta = amendment_checks tc tk ta ++ sounding_check (amended tk ta) ∷ []

-- those of drawing and of the volume, up to 12; 13 and those of the slices follow
unfoldable pub drawing_order : List ℕ → List ℕ → List ℕ → Float → List (ℕ × Bool)
unfolding check_order in_range open_at_box amended
drawing_order tc tk ta clearance = check_order tc tk ta ++ (8, not (in_range clearance)) ∷ (12, open_at_box (amended tk ta) clearance) ∷ []

-- the number in an answer of the enquiry: 0 where it is not refused
abbrev pub number_in : Enquired → ℕ
number_in (refused n) = n
number_in even = 0
number_in (crossing n place end) = 0

-- each call gives the first of its checks that applies
pub record InOrder (tc tk ta : List ℕ) : Type 0 where
  pub check : check_amended tc tk ta ≡ first_of (check_order tc tk ta)
  pub answer : (clearance : Float) (axis : ℕ) (p : Place) (size : ℕ) → number_in (enquiry_amended tc tk ta clearance axis p size)
      ≡ first_of (check_order tc tk ta ++ (8, not (in_range clearance)) ∷ (11, not (ltb axis 3 && is_edge (cells_of tc) (axis_of axis) p (level_of size))) ∷ [])
  pub drawing : (clearance : Float) (ps : List Float) (ts : List ℕ)
      → (draw_amended tc tk ta clearance ps ts).result.number ≡ first_of (drawing_order tc tk ta clearance ++ slice_checks tc (amended tk ta) clearance ps ts)
  pub reckoning : (clearance : Float) (reference : Place) (ps : List Float) (ts : List ℕ)
      → (volume_amended tc tk ta clearance reference ps ts).result.number
      ≡ first_of (drawing_order tc tk ta clearance ++ (13, beyond_box reference) ∷ slice_checks tc (amended tk ta) clearance ps ts)

unfoldable pub ChecksInOrder : Type 0
ChecksInOrder = (tc tk ta : List ℕ) → InOrder tc tk ta

-- ---- what follows besides

-- every call is as without amendments
pub record AsWithout (tc tk ta : List ℕ) : Type 0 where
  pub check : check_amended tc tk ta ≡ survey_refusal tc tk
  pub answer : (clearance : Float) (axis : ℕ) (p : Place) (size : ℕ) → enquiry_amended tc tk ta clearance axis p size ≡ enquiry tc tk clearance axis p size
  pub drawing : (clearance : Float) (ps : List Float) (ts : List ℕ) → draw_amended tc tk ta clearance ps ts ≡ draw tc tk clearance ps ts
  pub reckoning : (clearance : Float) (reference : Place) (ps : List Float) (ts : List ℕ)
      → volume_amended tc tk ta clearance reference ps ts ≡ volume tc tk clearance reference ps ts

-- So it is with an empty amendment table, whatever the other two hold;
unfoldable pub EmptyChangesNothing : Type 0
EmptyChangesNothing = (tc tk : List ℕ) → AsWithout tc tk []

-- every amendment is older than the corner table's record at its corner
unfoldable pub all_older : List ℕ → List ℕ → Bool
unfolding place_in day_in
all_older tk ta = all (λ a. all (λ r. not (same (place_in r) (place_in a)) || ltb (day_in a) (day_in r)) (records_of tk)) (records_of ta)

-- and with a lawful one whose records are all older than the corner table's.
unfoldable pub OlderChangesNothing : Type 0
unfolding cells_of stray_amendment all_older
OlderChangesNothing = (tc tk ta : List ℕ) → T (not (bad_amendments ta)) → T (not (stray_amendment (cells_of tc) ta)) → T (all_older tk ta) → AsWithout tc tk ta
