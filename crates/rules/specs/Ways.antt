-- Document 02, request 8, "Can she get through?": ways over the wet corners of a survey, the one that is shown, checks 18 to 20, the call, and what the request
-- says of it.
use Rattle.std.specs.Prelude.{ℕ, zero, suc, pred, ◌^◌, ◌≤◌, ◌≡◌, ◌⊎◌, Bool, false, not, ◌&&◌, ◌||◌, cond, List, [], ◌∷◌, ◌++◌, map, eqb, ltb, T, length, get_or, take, drop, replicate, Float}
use Rattle.base.specs.Lists.{any, first, count, bit}
use Rattle.base.specs.Grid.{Place, origin, axes, move, same}
use Rattle.rules.specs.Survey.{Cell, cells_of, corners_of, place_of, wet_at}
use Rattle.rules.specs.Edges.{undivided}
use Rattle.rules.specs.Outputs.{in_range, first_of, checks, written}
use Rattle.rules.specs.Resounding.{amendment_checks, amended, as_amended, check_order}
use Rattle.rules.specs.declared.Passage.{Passage}

-- ---- corners, and which are joined

-- What a way sees of a survey: how many corners there are, numbered as their records from 0 on, which of them are wet, and which two are joined.
pub record Graph : Type 0 where
  pub size : ℕ
  pub wet : ℕ → Bool
  pub joined : ℕ → ℕ → Bool

-- the place of corner record k; the origin where there is none, which `passable` shuts out
abbrev pub corner_place : List Place → ℕ → Place
corner_place places k = get_or places k origin

-- an undivided edge runs from corner j up to corner k
unfoldable pub runs_up : List Cell → List Place → ℕ → ℕ → Bool
unfolding undivided
runs_up cells places j k =
    any (λ a. any (λ l. same (move a (2 ^ l) (corner_place places j)) (corner_place places k) && undivided cells a (corner_place places j) l) (count 0 11)) axes

-- The corners of a survey at a clearance. "corners joined by undivided edges": two are joined if they are the ends of one.
unfoldable pub corner_graph : List ℕ → List ℕ → Float → Graph
unfolding cells_of corners_of wet_at runs_up
corner_graph tc tk clearance =
    let places = map place_of (corners_of tk) in
    record {
      size = length places;
      wet = λ k. wet_at (corners_of tk) clearance (corner_place places k);
      joined = λ j k. runs_up (cells_of tc) places j k || runs_up (cells_of tc) places k j;
    }

-- ---- ways, and the one that is shown

-- k is a corner, and wet
abbrev pub passable : Graph → ℕ → Bool
passable graph k = ltb k graph.size && graph.wet k

-- A way from one corner to another, as the list of its corners: each is wet, and each is joined to the next.
pub data Way (graph : Graph) : ℕ → ℕ → List ℕ → Type 0 where
  -- "Start equal to end and wet is a way of one corner"
  one : {k : ℕ} → T (passable graph k) → Way graph k k (k ∷ [])
  more : {j k m : ℕ} {w : List ℕ} → T (passable graph j) → T (graph.joined j k) → Way graph k m w → Way graph j m (j ∷ w)

-- of two lists of one length: they differ somewhere, and at the first such place the former has the lower number
abbrev pub comes_first : List ℕ → List ℕ → Bool
comes_first [] v = false
comes_first (j ∷ w) [] = false
comes_first (j ∷ w) (k ∷ v) = let rest = comes_first w v in ltb j k || (eqb j k && rest)

-- "with the fewest steps. Of equally short ways, take the lowest corner record number at the first place where they differ."
pub record Best (graph : Graph) (start end : ℕ) (w : List ℕ) : Type 0 where
  pub way : Way graph start end w
  pub fewest : (v : List ℕ) → Way graph start end v → length w ≤ length v
  pub lowest : (v : List ℕ) → Way graph start end v → length v ≡ length w → (v ≡ w) ⊎ T (comes_first w v)

-- "for each corner its fewest steps from the start plus one, or 0 if out of reach": a way of n + 1 corners has n steps
pub record ExactSteps (graph : Graph) (start : ℕ) (r : List ℕ) : Type 0 where
  pub sized : length r ≡ graph.size
  pub there : (k n : ℕ) → get_or r k 0 ≡ suc n → (w : List ℕ) × Way graph start k w × (length w ≡ suc n)
  pub none_shorter : (k : ℕ) (w : List ℕ) → Way graph start k w → (1 ≤ get_or r k 0) × (get_or r k 0 ≤ length w)

-- ---- the same, by definitions that compute

-- corner k in a round that gives out the number n, by what the rounds before have reached: it is reached now if it was not yet, is wet, and is joined to one
-- that was
abbrev pub reached_in : Graph → List ℕ → ℕ → ℕ → ℕ
reached_in graph r n k =
    let found = any (λ j. not (eqb (get_or r j 0) 0) && graph.joined j k) (count 0 graph.size) in
    let now = cond (passable graph k && found) n 0 in
    cond (eqb (get_or r k 0) 0) now (get_or r k 0)

-- for each corner its fewest steps from the start plus one, as far as n rounds tell, else 0
unfoldable pub rounds : Graph → ℕ → ℕ → List ℕ
rounds graph start zero = map (λ k. bit (eqb k start && passable graph k)) (count 0 graph.size)
rounds graph start (suc n) = let r = rounds graph start n in map (reached_in graph r (suc (suc n))) (count 0 graph.size)

-- for each corner its fewest steps from the start plus one, or 0: no more rounds than corners are needed (`StepsExact`)
unfoldable pub fewest_steps : Graph → ℕ → List ℕ
unfolding rounds
fewest_steps graph start = rounds graph start graph.size

-- from corner k, n steps from the end: k, then on from the corner of lowest record number that is joined to it and n - 1 steps from the end; r has the steps
-- from there
unfoldable pub way_from : Graph → List ℕ → ℕ → ℕ → List ℕ
way_from graph r zero k = k ∷ []
way_from graph r (suc n) k = k ∷ way_from graph r n (first (λ j. eqb (get_or r j 0) (suc n) && graph.joined k j) 0 (count 0 graph.size))

-- the way that is shown, where there is one (`BestShown`)
unfoldable pub way_of : Graph → ℕ → ℕ → List ℕ
unfolding fewest_steps way_from
way_of graph start end = let r = fewest_steps graph end in way_from graph r (pred (get_or r start 0)) start

-- ---- the checks

-- "18 is a start or end that is no corner, 19 either slice shorter than the corner count", of how many corners there are and how long the slices are
abbrev pub asked_checks : ℕ → ℕ → ℕ → ℕ → ℕ → List (ℕ × Bool)
asked_checks size start end way_length work_length = (18, not (ltb start size && ltb end size)) ∷ (19, ltb way_length size || ltb work_length size) ∷ []

-- "20 no way" (`NoWayExactly`)
abbrev pub way_checks : Graph → ℕ → ℕ → List ℕ → List ℕ → List (ℕ × Bool)
way_checks graph start end way work =
    asked_checks graph.size start end (length way) (length work) ++ (20, eqb (get_or (fewest_steps graph start) end 0) 0) ∷ []

-- ---- the call

-- what the call returns, and what the two lent slices hold afterwards
pub record Shown : Type 0 where
  pub result : Passage
  pub way : List ℕ
  pub work : List ℕ

-- "its count of corners is returned, 0 on any refusal"; "the other refusals write to neither"
abbrev pub not_shown : ℕ → List ℕ → List ℕ → Shown
not_shown number way work = record { result = record { number = number; corners = 0 }; way = way; work = work }

-- The way over some corners, after the checks that come first, of what the two slices hold before. "Where there is no way only the work slice is written."
unfoldable pub shown_over : Graph → List (ℕ × Bool) → ℕ → ℕ → List ℕ → List ℕ → Shown
unfolding fewest_steps way_of
shown_over graph earlier start end way work =
    let number = first_of (earlier ++ way_checks graph start end way work) in
    let corners = get_or (fewest_steps graph start) end 0 in
    let new_way = written (way_of graph start end) way in
    let new_work = written (fewest_steps graph start) work in
    record {
      result = record { number = number; corners = cond (eqb number 0) corners 0 };
      way = cond (eqb number 0) new_way way;
      work = cond (eqb number 0 || eqb number 20) new_work work;
    }

-- without amendments, after checks 1 to 8: "12 is not given here"
unfoldable pub passage : List ℕ → List ℕ → Float → ℕ → ℕ → List ℕ → List ℕ → Shown
unfolding corner_graph checks shown_over
passage tc tk clearance start end way work = shown_over (corner_graph tc tk clearance) (checks tc tk clearance) start end way work

-- "in the survey as amended"
unfoldable pub passage_amended : List ℕ → List ℕ → List ℕ → Float → ℕ → ℕ → List ℕ → List ℕ → Shown
unfolding amendment_checks amended passage
passage_amended tc tk ta clearance start end way work =
    as_amended tc tk ta (λ n. not_shown n way work) (λ t. passage tc t clearance start end way work)

-- ---- what the request says of it

-- What an answer means: its number, its count and the two slices, of what these held before.
pub record Means (graph : Graph) (start end : ℕ) (way work : List ℕ) (s : Shown) : Type 0 where
  -- "show a way": as many elements as are counted, from the front
  pub best : s.result.number ≡ 0 → Best graph start end (take s.result.corners s.way)
  -- "its count of corners is returned, 0 on any refusal"
  pub counted : s.result.number ≡ 0 → length (take s.result.corners s.way) ≡ s.result.corners
  pub uncounted : (s.result.number ≡ 0 → ⊥) → s.result.corners ≡ 0
  -- "No way is reported only if none exists, a dry start or end included" (`WetEnds`)
  pub none : s.result.number ≡ 20 → (w : List ℕ) → Way graph start end w → ⊥
  -- "A work slice of the same kind then holds for each corner its fewest steps", "and all 0 for a dry start"; "Where there is no way only the work slice is
  -- written"
  pub exact : (s.result.number ≡ 0) ⊎ (s.result.number ≡ 20) → ExactSteps graph start (take graph.size s.work)
  pub all_dry : s.result.number ≡ 20 → T (not (passable graph start)) → take graph.size s.work ≡ replicate graph.size 0
  -- "Elements past the way, and in the work slice past the corner count, are untouched"
  pub way_kept : drop s.result.corners s.way ≡ drop s.result.corners way
  pub work_kept : drop graph.size s.work ≡ drop graph.size work
  -- "the other refusals write to neither"
  pub untouched : (s.result.number ≡ 0 → ⊥) → (s.result.number ≡ 20 → ⊥) → (s.way ≡ way) × (s.work ≡ work)

-- this holds of every call, refused ones too
unfoldable pub PassageMeans : Type 0
unfolding amended corner_graph passage_amended
PassageMeans = (tc tk ta : List ℕ) (clearance : Float) (start end : ℕ) (way work : List ℕ)
    → Means (corner_graph tc (amended tk ta) clearance) start end way work (passage_amended tc tk ta clearance start end way work)

-- all checks before 20, in their order
unfoldable pub passage_order : List ℕ → List ℕ → List ℕ → Float → ℕ → ℕ → ℕ → ℕ → List (ℕ × Bool)
unfolding check_order in_range amended corner_graph
passage_order tc tk ta clearance start end way_length work_length =
    check_order tc tk ta ++ (8, not (in_range clearance)) ∷ asked_checks (corner_graph tc (amended tk ta) clearance).size start end way_length work_length

-- the number is that of the first check that applies: 1 to 6, 14, 15, 7, 8, 18, 19, 20
unfoldable pub PassageInOrder : Type 0
unfolding passage_order amended corner_graph fewest_steps passage_amended
PassageInOrder = (tc tk ta : List ℕ) (clearance : Float) (start end : ℕ) (way work : List ℕ)
    → (passage_amended tc tk ta clearance start end way work).result.number
    ≡ first_of (passage_order tc tk ta clearance start end (length way) (length work)
    ++ (20, eqb (get_or (fewest_steps (corner_graph tc (amended tk ta) clearance) start) end 0) 0) ∷ [])

-- where no check before it applies, 20 is given exactly if there is no way
unfoldable pub NoWayExactly : Type 0
unfolding passage_order amended corner_graph passage_amended
NoWayExactly = (tc tk ta : List ℕ) (clearance : Float) (start end : ℕ) (way work : List ℕ)
    → first_of (passage_order tc tk ta clearance start end (length way) (length work)) ≡ 0
    → ((passage_amended tc tk ta clearance start end way work).result.number ≡ 20
    → (w : List ℕ) → Way (corner_graph tc (amended tk ta) clearance) start end w → ⊥)
    × (((w : List ℕ) → Way (corner_graph tc (amended tk ta) clearance) start end w → ⊥)
    → (passage_amended tc tk ta clearance start end way work).result.number ≡ 20)

-- ---- what follows besides

-- a way has a wet start and a wet end
unfoldable pub WetEnds : Type 0
WetEnds = (graph : Graph) (start end : ℕ) (w : List ℕ) → Way graph start end w → T (passable graph start) × T (passable graph end)

-- the steps that are computed are the fewest
unfoldable pub StepsExact : Type 0
unfolding fewest_steps
StepsExact = (graph : Graph) (start : ℕ) → ExactSteps graph start (fewest_steps graph start)

-- corners are joined both ways: so they are in a survey, as ends of an edge
abbrev pub BothWays : Graph → Type 0
BothWays graph = (j k : ℕ) → T (graph.joined j k) → T (graph.joined k j)

unfoldable pub JoinedBothWays : Type 0
unfolding corner_graph
JoinedBothWays = (tc tk : List ℕ) (clearance : Float) → BothWays (corner_graph tc tk clearance)

-- where they are, and there is any way, the one that is computed is the best
unfoldable pub BestShown : Type 0
unfolding way_of
BestShown = (graph : Graph) → BothWays graph → (start end : ℕ) (v : List ℕ) → Way graph start end v → Best graph start end (way_of graph start end)

-- and no other is
unfoldable pub OneBest : Type 0
OneBest = (graph : Graph) (start end : ℕ) (w v : List ℕ) → Best graph start end w → Best graph start end v → v ≡ w
