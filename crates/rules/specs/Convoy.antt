-- Document 02, request 9, "A convoy on one way": ways that are wet at several clearances together, check 21, the call, and what the request says of it. What a
-- way is, and which one is shown, is in Ways.antt.
use Rattle.std.specs.Prelude.{ℕ, ◌≤◌, ◌<◌, ◌≡◌, Bool, not, ◌||◌, List, [], ◌∷◌, ◌++◌, eqb, ltb, T, length, get_or, Float}
use Rattle.std.specs.Float.{nan, binary32}
use Rattle.std.specs.Float.Ieee.{lt, of_bits}
use Rattle.base.specs.Lists.{any, all}
use Rattle.rules.specs.Survey.{record_count}
use Rattle.rules.specs.Outputs.{in_range, first_of}
use Rattle.rules.specs.Resounding.{amended, check_order}
use Rattle.rules.specs.Ways.{Graph, corner_graph, Way, fewest_steps, asked_checks, Shown, shown_over, passage_amended, Means}

-- ---- the corners of a convoy

-- What a convoy sees of a survey, by the clearances of its boats. "wet at all of them together": a corner is wet if it is wet for each boat. Two are joined if
-- they are joined for each, which is the same for all.
unfoldable pub convoy_graph : List ℕ → List ℕ → List Float → Graph
unfolding corner_graph
convoy_graph tc tk clearances = record {
  size = record_count tk;
  wet = λ k. all (λ c. (corner_graph tc tk c).wet k) clearances;
  joined = λ j k. all (λ c. (corner_graph tc tk c).joined j k) clearances;
}

-- ---- the checks

-- "For 1 to 16 clearances"
abbrev pub most_boats : ℕ
most_boats = 16

-- "21 is a convoy of none or more than 16, between 7 and 8; 8 is given if any clearance is out of range"
unfoldable pub clearance_checks : List Float → List (ℕ × Bool)
unfolding in_range
clearance_checks clearances =
    (21, eqb (length clearances) 0 || ltb most_boats (length clearances)) ∷ (8, any (λ c. not (in_range c)) clearances) ∷ []

-- those of the survey by itself come first
unfoldable pub convoy_checks : List ℕ → List ℕ → List ℕ → List Float → List (ℕ × Bool)
unfolding check_order clearance_checks
convoy_checks tc tk ta clearances = check_order tc tk ta ++ clearance_checks clearances

-- ---- the call

-- "find a single way that is wet at all of them together, fewest steps, ties as for one boat": what is shown over the corners of the convoy, in the survey as
-- amended, after these checks
unfoldable pub convoy_amended : List ℕ → List ℕ → List ℕ → List Float → ℕ → ℕ → List ℕ → List ℕ → Shown
unfolding amended convoy_graph convoy_checks shown_over
convoy_amended tc tk ta clearances start end way work =
    shown_over (convoy_graph tc (amended tk ta) clearances) (convoy_checks tc tk ta clearances) start end way work

-- ---- what the request says of it

-- the clearance of boat k, counted from 0
abbrev pub boat_clearance : List Float → ℕ → Float
boat_clearance clearances k = get_or clearances k nan

-- A list of corners is a way for the convoy exactly if it is a way for each of its boats.
unfoldable pub WaysTogether : Type 0
unfolding corner_graph convoy_graph
WaysTogether = (tc tk : List ℕ) (clearances : List Float) → 1 ≤ length clearances → (start end : ℕ) (w : List ℕ)
    → (Way (convoy_graph tc tk clearances) start end w
    → (k : ℕ) → k < length clearances → Way (corner_graph tc tk (boat_clearance clearances k)) start end w)
    × (((k : ℕ) → k < length clearances → Way (corner_graph tc tk (boat_clearance clearances k)) start end w)
    → Way (convoy_graph tc tk clearances) start end w)

-- An answer means for the convoy what request 8 says of one boat's, refused ones too.
unfoldable pub ConvoyMeans : Type 0
unfolding amended convoy_graph convoy_amended
ConvoyMeans = (tc tk ta : List ℕ) (clearances : List Float) (start end : ℕ) (way work : List ℕ)
    → Means (convoy_graph tc (amended tk ta) clearances) start end way work (convoy_amended tc tk ta clearances start end way work)

-- boat k of a convoy that neither 21 nor 8 refuses has "the greatest of them": no other is greater, as IEEE 754 compares; of +0 and -0 neither is
pub record Greatest (clearances : List Float) (k : ℕ) : Type 0 where
  pub lawful : first_of (clearance_checks clearances) ≡ 0
  pub there : k < length clearances
  pub none_greater : T (all (λ c. not (lt (boat_clearance clearances k) c)) clearances)

-- "It must be the answer for one boat at the greatest of them, work slice included": what is returned, and both slices
unfoldable pub AsGreatest : Type 0
unfolding passage_amended convoy_amended
AsGreatest = (tc tk ta : List ℕ) (clearances : List Float) (k : ℕ) → Greatest clearances k → (start end : ℕ) (way work : List ℕ)
    → convoy_amended tc tk ta clearances start end way work ≡ passage_amended tc tk ta (boat_clearance clearances k) start end way work

-- Some boat has the greatest, where neither 21 nor 8 refuses the convoy;
unfoldable pub SomeGreatest : Type 0
unfolding clearance_checks
SomeGreatest = (clearances : List Float) → first_of (clearance_checks clearances) ≡ 0 → (k : ℕ) × Greatest clearances k

-- and where several have it, as +0 and -0 among the clearances, it does not matter which is taken.
unfoldable pub EitherGreatest : Type 0
unfolding passage_amended
EitherGreatest = (tc tk ta : List ℕ) (clearances : List Float) (j k : ℕ) → Greatest clearances j → Greatest clearances k
    → (start end : ℕ) (way work : List ℕ)
    → passage_amended tc tk ta (boat_clearance clearances j) start end way work ≡ passage_amended tc tk ta (boat_clearance clearances k) start end way work

-- So one boat is answered alike at +0 and at -0.
unfoldable pub EitherZero : Type 0
unfolding of_bits passage_amended
EitherZero = (tc tk ta : List ℕ) (start end : ℕ) (way work : List ℕ)
    → passage_amended tc tk ta (of_bits binary32 0) start end way work ≡ passage_amended tc tk ta (of_bits binary32 0x8000_0000) start end way work

-- "no way is reported only where that boat has none"
unfoldable pub OnlyWhereNone : Type 0
unfolding amended corner_graph convoy_amended
OnlyWhereNone = (tc tk ta : List ℕ) (clearances : List Float) (k : ℕ) → Greatest clearances k → (start end : ℕ) (way work : List ℕ)
    → (convoy_amended tc tk ta clearances start end way work).result.number ≡ 20
    → (w : List ℕ) → Way (corner_graph tc (amended tk ta) (boat_clearance clearances k)) start end w → ⊥

-- all checks before 20, in their order
unfoldable pub convoy_order : List ℕ → List ℕ → List ℕ → List Float → ℕ → ℕ → ℕ → ℕ → List (ℕ × Bool)
unfolding convoy_checks amended
convoy_order tc tk ta clearances start end way_length work_length =
    convoy_checks tc tk ta clearances ++ asked_checks (record_count (amended tk ta)) start end way_length work_length

-- the number is that of the first check that applies: 1 to 6, 14, 15, 7, 21, 8, 18, 19, 20
unfoldable pub ConvoyInOrder : Type 0
unfolding amended convoy_graph convoy_order fewest_steps convoy_amended
ConvoyInOrder = (tc tk ta : List ℕ) (clearances : List Float) (start end : ℕ) (way work : List ℕ)
    → (convoy_amended tc tk ta clearances start end way work).result.number
    ≡ first_of (convoy_order tc tk ta clearances start end (length way) (length work)
    ++ (20, eqb (get_or (fewest_steps (convoy_graph tc (amended tk ta) clearances) start) end 0) 0) ∷ [])

-- where no check before it applies, 20 is given exactly if the convoy has no way
unfoldable pub ConvoyNoWayExactly : Type 0
unfolding amended convoy_graph convoy_order convoy_amended
ConvoyNoWayExactly = (tc tk ta : List ℕ) (clearances : List Float) (start end : ℕ) (way work : List ℕ)
    → first_of (convoy_order tc tk ta clearances start end (length way) (length work)) ≡ 0
    → ((convoy_amended tc tk ta clearances start end way work).result.number ≡ 20
    → (w : List ℕ) → Way (convoy_graph tc (amended tk ta) clearances) start end w → ⊥)
    × (((w : List ℕ) → Way (convoy_graph tc (amended tk ta) clearances) start end w → ⊥)
    → (convoy_amended tc tk ta clearances start end way work).result.number ≡ 20)
