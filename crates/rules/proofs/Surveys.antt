-- Small surveys as tables of bytes, what a call on one gives as a list of numbers, and the common statement of all examples.
-- Assumes nothing.
use Prim.Native.Nat.{ℕ, zero, suc, ◌/◌, ◌%◌}
use mathlib.Core.Path.{◌≡◌, refl, ap₂}
use mathlib.Core.Bool.{Bool, true, false, ◌&&◌, cond}
use mathlib.Core.List.{List, [], ◌∷◌, ◌++◌, map}
use lib.Dec.{eqb, eqb→eq, T}
use lib.ListN.{length, replicate}
use lib.Ieee.{Float, binary32, of_bits, to_bits}
use Rattle.base.specs.Lists.{any, all, keep, collect, bit}
use Rattle.base.specs.Grid.{Place, origin, Axis, X, axes, same}
use Rattle.rules.specs.Survey.{cells_of, corners_of}
use Rattle.rules.specs.Edges.{edge, on_side, is_edge, odd, fraction, spot_on}
use Rattle.rules.specs.Steps.{side_by, Face, Step, steps, saddle_cut, face_steps}
use Rattle.rules.specs.WhichEnd.{end_number}
use Rattle.rules.specs.Outputs.{survey_refusal, accepted, survey_of, Drawing, draw, Enquired, refused, even, crossing, enquiry, coordinates}
use Rattle.rules.specs.Closing.{is_odd}
use Rattle.rules.specs.StepByAnswers.{odd_edges, face_answers, step_by, has_small_face}
use Rattle.rules.specs.AwashPlaces.{dry_corner, wet_corner, corner_spot}

-- ---- tables

-- n bytes of a number, little-endian
abbrev pub bytes_of : ℕ → ℕ → List ℕ
bytes_of zero v = []
bytes_of (suc n) v = v % 256 ∷ bytes_of n (v / 256)

abbrev pub place : ℕ → ℕ → ℕ → Place
place a b c = record { x = a; y = b; z = c }

-- the bits of the sounding at a place
abbrev pub Soundings : Type 0
Soundings = Place → ℕ

-- v at the places of a list, w elsewhere
abbrev pub at : List Place → ℕ → ℕ → Soundings
at ps v w p = cond (any (same p) ps) v w

-- bits of floats: -0, +1, -1, 2, 3; 1,048,576, the greatest sounding, and the least; not a number
abbrev pub minus_zero : ℕ
minus_zero = 0x8000_0000

abbrev pub one : ℕ
one = 0x3f80_0000

abbrev pub minus_one : ℕ
minus_one = 0xbf80_0000

abbrev pub two : ℕ
two = 0x4000_0000

abbrev pub three : ℕ
three = 0x4040_0000

abbrev pub greatest : ℕ
greatest = 0x4980_0000

abbrev pub least : ℕ
least = 0xc980_0000

abbrev pub not_a_number : ℕ
not_a_number = 0x7fc0_0000

-- +1 at the wet places, -1 elsewhere
abbrev pub wet_at_only : List Place → Soundings
wet_at_only ps = at ps one minus_one

abbrev pub cell_table : List ℕ → List ℕ
cell_table es = collect (bytes_of 4) es

-- a corner record: a place, the bits of its sounding, its day
abbrev pub resounded : Place → ℕ → ℕ → List ℕ
resounded p v day = bytes_of 2 p.x ++ bytes_of 2 p.y ++ bytes_of 2 p.z ++ bytes_of 4 v ++ bytes_of 2 day

-- all of day 0
abbrev pub corner_table : List Place → Soundings → List ℕ
corner_table ps f = collect (λ p. resounded p (f p) 0) ps

-- the places with coordinates of a rising list, by z, then y, then x
abbrev pub grid : List ℕ → List Place
grid vs = collect (λ c. collect (λ b. map (λ a. place a b c) vs) vs) vs

-- cells, as a table, and the places of the corners
pub record Shape : Type 0 where
  pub cells : List ℕ
  pub corners : List Place

-- of given entries, with the corners of all cells, whose coordinates are in a rising list
abbrev pub shape : List ℕ → List ℕ → Shape
unfolding cells_of
shape es vs = let t = cell_table es in record { cells = t; corners = keep (λ p. any (λ c. all (λ a. on_side c a p) axes) (cells_of t)) (grid vs) }

-- n leaves
abbrev pub leaves : ℕ → List ℕ
leaves n = replicate n 0

-- one leaf; one split
abbrev pub leaf : Shape
leaf = record { cells = cell_table (leaves 1); corners = grid (0 ∷ 1024 ∷ []) }

abbrev pub split : Shape
split = record { cells = cell_table (1 ∷ leaves 8); corners = grid (0 ∷ 512 ∷ 1024 ∷ []) }

-- ---- calls and their answers

-- a check by itself; a drawing with slices of two lengths; an enquiry by axis, lower end and length; the steps of a face by its four wet marks; of
-- a face on a side, whether it is a small face of some leaf, how many edges are odd, the steps by the rules, with their count, and the step by the answers
-- for its four edges; of an edge by axis, lower end and level, whether the survey is accepted, whether it is an edge and odd, t, the dry end and the place by
-- the edge's own two ends
pub data Call : Type 0 where
  checking : Call
  drawing : ℕ → ℕ → Call
  asking : ℕ → Place → ℕ → Call
  stepping : Bool → Bool → Bool → Bool → Call
  seeing : Axis → Bool → Face → Call
  reckoning : Axis → Place → ℕ → Call

-- two tables, the bits of a clearance, a call and its answer
pub record Example : Type 0 where
  pub cells : List ℕ
  pub corners : List ℕ
  pub clearance : ℕ
  pub call : Call
  pub answer : List ℕ

-- a survey at a clearance
abbrev pub example_at : ℕ → Shape → Soundings → Call → List ℕ → Example
example_at v s f c r = record { cells = s.cells; corners = corner_table s.corners f; clearance = v; call = c; answer = r }

-- at clearance 0
abbrev pub example : Shape → Soundings → Call → List ℕ → Example
example s f c r = example_at 0 s f c r

-- a face by itself, by its four wet marks, and the steps in it: there is no survey
abbrev pub face_alone : Bool → Bool → Bool → Bool → List ℕ → Example
face_alone a b c d r = record { cells = []; corners = []; clearance = 0; call = stepping a b c d; answer = r }

-- What the elements of the slices hold before: the bits of -7, which is no point's coordinate, and a number that is no point's.
abbrev pub old_float : ℕ
old_float = 0xc0e0_0000

abbrev pub old_number : ℕ
old_number = 0xffff_ffff

-- n elements of the point slice and m of the triangle slice, untouched
abbrev pub untouched : ℕ → ℕ → List ℕ
untouched n m = replicate n old_float ++ replicate m old_number

abbrev pub bits : Float → ℕ
unfolding to_bits
bits v = to_bits binary32 v

-- a drawing's answer: number, counts, the bits of the point slice, the triangle slice
abbrev pub drawing_numbers : Drawing → List ℕ
unfolding to_bits
drawing_numbers d = d.result.number ∷ d.result.points ∷ d.result.triangles ∷ map bits d.points ++ d.triangles

-- an enquiry's answer: the number returned, and for a crossing the point's number, the bits of its place and the wet end
abbrev pub answer_numbers : Enquired → List ℕ
unfolding to_bits
answer_numbers (refused n) = n ∷ []
answer_numbers even = 0 ∷ []
answer_numbers (crossing n place end) = 0 ∷ n ∷ map bits (coordinates place) ++ end_number end ∷ []

abbrev pub step_numbers : List Step → List ℕ
step_numbers ss = collect (λ t. t.0 ∷ t.1 ∷ []) ss

unfoldable pub outcome : Call → Float → List ℕ → List ℕ → List ℕ
unfolding survey_refusal draw enquiry of_bits to_bits saddle_cut survey_of face_steps has_small_face odd_edges face_answers
    accepted corners_of is_edge odd fraction spot_on dry_corner wet_corner corner_spot
outcome checking clearance tc tk = survey_refusal tc tk ∷ []
outcome (drawing n m) clearance tc tk = drawing_numbers (draw tc tk clearance (replicate n (of_bits binary32 old_float)) (replicate m old_number))
outcome (asking a p l) clearance tc tk = answer_numbers (enquiry tc tk clearance a p l)
outcome (stepping a b c d) clearance tc tk = step_numbers (steps (saddle_cut X origin 0) a b c d)
outcome (seeing a upper f) clearance tc tk =
    let s = survey_of tc tk clearance in
    let ss = face_steps s (side_by a upper) f in
    bit (has_small_face tc tk clearance a upper f) ∷ odd_edges s a f ∷ length ss ∷ step_numbers ss ++ step_numbers (step_by upper (face_answers tc tk clearance a f))
outcome (reckoning a p l) clearance tc tk =
    let s = survey_of tc tk clearance in
    let corners = corners_of tk in
    let e = edge a p l in
    let dry = dry_corner corners clearance e in
    bit (accepted tc tk clearance) ∷ bit (is_edge s.cells a p l) ∷ bit (is_odd s e) ∷ bits (fraction clearance dry (wet_corner corners clearance e)) ∷
    map bits (coordinates (corner_spot dry) ++ coordinates (spot_on corners clearance e))

unfoldable pub outcome_of : Example → List ℕ
unfolding outcome of_bits
outcome_of e = outcome e.call (of_bits binary32 e.clearance) e.cells e.corners

-- the common statement: what the rules give is the answer written there
unfoldable pub Right : Example → Type 0
unfolding outcome_of
Right e = outcome_of e ≡ e.answer

-- ---- a test that antt computes, and the lemma from it to the statement at each example

abbrev pub equal : List ℕ → List ℕ → Bool
equal [] [] = true
equal [] (y ∷ ys) = false
equal (x ∷ xs) [] = false
equal (x ∷ xs) (y ∷ ys) = eqb x y && equal xs ys

unfoldable pub right : Example → Bool
unfolding outcome_of
right e = equal (outcome_of e) e.answer

abbrev pub Each : {A : Type 0} → (A → Type 0) → List A → Type 0
Each P [] = Unit {0}
Each P (e ∷ es) = P e × Each P es

and_left : (a b : Bool) → T (a && b) → T a
and_left true b t = tt
and_left false b t = t

and_right : (a b : Bool) → T (a && b) → T b
and_right true b t = t
and_right false b t = absurd t

equal→eq : (xs ys : List ℕ) → T (equal xs ys) → xs ≡ ys
equal→eq [] [] t = refl
equal→eq [] (y ∷ ys) t = absurd t
equal→eq (x ∷ xs) [] t = absurd t
equal→eq (x ∷ xs) (y ∷ ys) t =
    ap₂ (λ (h : ℕ) (r : List ℕ). h ∷ r) (eqb→eq x y (and_left (eqb x y) (equal xs ys) t)) (equal→eq xs ys (and_right (eqb x y) (equal xs ys) t))

-- of things that are given a list of numbers, and have it as their answer
pub each_given : {A : Type 0} (given answer : A → List ℕ) (es : List A) → T (all (λ e. equal (given e) (answer e)) es) → Each (λ e. given e ≡ answer e) es
each_given given answer [] t = tt
each_given given answer (e ∷ es) t =
    let same = equal (given e) (answer e) in
    let rest = all (λ e. equal (given e) (answer e)) es in
    (equal→eq (given e) (answer e) (and_left same rest t), each_given given answer es (and_right same rest t))

pub each : (es : List Example) → T (all right es) → Each Right es
unfolding Right right
each es t = each_given outcome_of (λ (e : Example). e.answer) es t
