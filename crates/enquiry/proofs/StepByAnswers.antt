-- Document 02, request 1: on a small face with two odd edges the step and its direction, for the leaf on a given side of it, follow from the four edge
-- answers alone.
--     by_answers    there is one step, and it is `step_by` of the side and the four answers
--     agree         two surveys that both have the small face and agree on the four answers agree on the step
-- Both are for any axis and either side; the statements stand in rules/specs/StepByAnswers.antt.
-- Assumes nothing.
use Prim.Native.Nat.{ℕ, ◌+◌, ◌-◌, ◌^◌, ◌≤◌, ◌<◌}
use mathlib.Core.Path.{◌≡◌, refl, sym, ap, ◌∙◌, subst}
use mathlib.Core.Bool.{Bool, true, false, not, ◌&&◌, beq, cond}
use mathlib.Core.List.{List, map}
use native.Mathlib.Omega.{arith}
use lib.Dec.{T, eqb→eq}
use lib.ListN.{length}
use lib.Ieee.{Float}
use Rattle.base.specs.Lists.{any, bit}
use Rattle.base.specs.Grid.{Place, Axis, X, Y, Z, next, move, axis_number, axis_of}
use Rattle.base.proofs.Tests.{and→}
use Rattle.base.proofs.Lists.{any→in}
use Rattle.base.proofs.Alike.{alike}
use Rattle.rules.specs.Survey.{Cell, cells_of, corners_of, wet_at, Survey}
use Rattle.rules.specs.Edges.{CellEdge, upper_end, odd, carrier, point_of, Spot, spot_on}
use Rattle.rules.specs.Steps.{lower_side, upper_side, side_by, Face, same_face, side_low, small_faces, face_corner, face_edge, Step, steps, face_steps}
use Rattle.rules.specs.WhichEnd.{wet_end}
use Rattle.rules.specs.Outputs.{first_of, checks, accepted, survey_of, level_of, Enquired, refused, even, crossing}
use Rattle.rules.specs.StepByAnswers.{edge_round, odd_edges, FourAnswers, answer_to, face_answers, step_by, has_small_face, Follows, Agree}
use Rattle.rules.specs.declared.End.TheVariants.{Lower, Upper}
use Rattle.octree.specs.Lawful.{Lawful}
use Rattle.octree.proofs.Accepted.{lawful}
use Rattle.octree.proofs.Aligned.{edge-level}
use Rattle.geometry.proofs.FaceEdges.{IsEdge, small-edge}
use Rattle.enquiry.specs.Enquiry.{edge_answer}
use Rattle.enquiry.proofs.Enquiring.{found_here, enquiry-answer}

-- ---- by the marks at the corners

-- the answer for an edge with these marks at its lower and its upper end
abbrev answer_by : Bool → Bool → ℕ → Spot → Enquired
answer_by low up n q = cond (not (beq low up)) (crossing n q (cond up Upper Lower)) even

-- the answers for the four edges of a face with these marks at its corners
abbrev answers_by : Bool → Bool → Bool → Bool → (ℕ → ℕ) → (ℕ → Spot) → FourAnswers
answers_by w0 w1 w2 w3 n q =
    record { first = answer_by w0 w1 (n 0) (q 0); second = answer_by w1 w2 (n 1) (q 1); third = answer_by w3 w2 (n 2) (q 2); fourth = answer_by w0 w3 (n 3) (q 3) }

-- how many of the four edges are odd
abbrev odd_by : Bool → Bool → Bool → Bool → ℕ
odd_by w0 w1 w2 w3 =
    bit (not (beq w0 w1)) + (bit (not (beq w1 w2)) + (bit (not (beq w3 w2)) + (bit (not (beq w0 w3)) + 0)))

-- the steps with these points at the edges
abbrev steps_by : Bool → Bool → Bool → Bool → Bool → (ℕ → ℕ) → List Step
steps_by cut w0 w1 w2 w3 n = map (λ t. (n t.0, n t.1)) (steps cut w0 w1 w2 w3)

-- there is one step, and it is that of the function
abbrev OneStep : Bool → List Step → FourAnswers → Type 0
OneStep upper ss r = (ss ≡ step_by upper r) × (length ss ≡ 1)

-- The steps for the leaf below the face, and for the leaf above it, which counts corners and edges the other way round.
abbrev Seen : Bool → Bool → Bool → Bool → Bool → Type 0
Seen cut w0 w1 w2 w3 = (n : ℕ → ℕ) (q : ℕ → Spot) →
    OneStep true (steps_by cut w0 w1 w2 w3 n) (answers_by w0 w1 w2 w3 n q) ×
    OneStep false (steps_by cut w0 w3 w2 w1 n) (answers_by w0 w1 w2 w3 (λ i. n (3 - i)) q)

seen : (cut w0 w1 w2 w3 : Bool) → odd_by w0 w1 w2 w3 ≡ 2 → Seen cut w0 w1 w2 w3
seen cut true true true true h n q = absurd (omega arith)
seen cut true true true false h n q = ((refl, refl), (refl, refl))
seen cut true true false true h n q = ((refl, refl), (refl, refl))
seen cut true true false false h n q = ((refl, refl), (refl, refl))
seen cut true false true true h n q = ((refl, refl), (refl, refl))
seen cut true false true false h n q = absurd (omega arith)
seen cut true false false true h n q = ((refl, refl), (refl, refl))
seen cut true false false false h n q = ((refl, refl), (refl, refl))
seen cut false true true true h n q = ((refl, refl), (refl, refl))
seen cut false true true false h n q = ((refl, refl), (refl, refl))
seen cut false true false true h n q = absurd (omega arith)
seen cut false true false false h n q = ((refl, refl), (refl, refl))
seen cut false false true true h n q = ((refl, refl), (refl, refl))
seen cut false false true false h n q = ((refl, refl), (refl, refl))
seen cut false false false true h n q = ((refl, refl), (refl, refl))
seen cut false false false false h n q = absurd (omega arith)

-- ---- one edge

axis-named : (a : Axis) → axis_of (axis_number a) ≡ a
axis-named X = refl
axis-named Y = refl
axis-named Z = refl

axis-few : (a : Axis) → axis_number a < 3
axis-few X = omega arith
axis-few Y = omega arith
axis-few Z = omega arith

level-named : (l : ℕ) → l ≤ 10 → level_of (2 ^ l) ≡ l
level-named l h = alike 0 11 (λ i. level_of (2 ^ i)) (λ i. i) refl l (omega arith)

-- the two ways to the corner of a face opposite to its lowest one
both_ways : (a : Axis) (d : ℕ) (p : Place) → move (next (next a)) d (move (next a) d p) ≡ move (next a) d (move (next (next a)) d p)
both_ways X d p = refl
both_ways Y d p = refl
both_ways Z d p = refl

-- 1 if an answer is crossing, else 0
is_crossing : Enquired → ℕ
is_crossing (refused n) = 0
is_crossing even = 0
is_crossing (crossing n q end) = 1

-- how many of four answers are crossing
crossings : FourAnswers → ℕ
crossings r = is_crossing r.first + is_crossing r.second + is_crossing r.third + is_crossing r.fourth

by-crossing : (low up : Bool) (n : ℕ) (q : Spot) → is_crossing (answer_by low up n q) ≡ bit (not (beq low up))
unfolding is_crossing
by-crossing true true n q = refl
by-crossing true false n q = refl
by-crossing false true n q = refl
by-crossing false false n q = refl

module _ (tc tk : List ℕ) (clearance : Float) (ok : T (accepted tc tk clearance)) where
  abbrev s : Survey
  s = survey_of tc tk clearance

  abbrev is_wet : Place → Bool
  is_wet = wet_at (corners_of tk) clearance

  law : Lawful (survey_of tc tk clearance)
  law = lawful tc tk clearance ok

  abbrev place_on : CellEdge → Spot
  place_on e = spot_on (corners_of tk) clearance (carrier s e.axis e.low e.level)

  -- the answer by the marks at the ends
  answer-is : (e : CellEdge) → IsEdge (cells_of tc) e → answer_to tc tk clearance e ≡ answer_by (is_wet e.low) (is_wet (upper_end e)) (point_of s e) (place_on e)
  unfolding answer_to accepted survey_of odd wet_end point_of
  answer-is e t =
      let a = e.axis in
      let l = e.level in
      let passed = eqb→eq (first_of (checks tc tk clearance)) 0 ok in
      let named = level-named l (edge-level (cells_of tc) law.octree a e.low l t) in
      sym (enquiry-answer tc tk clearance (axis_number a) e.low (2 ^ l) (sym passed) (axis-few a))
      ∙ (λ i. edge_answer tc tk clearance (axis-named a i) e.low (named i))
      ∙ sym (found_here tc tk clearance a e.low l t)

  -- ---- a face

  module _ (a : Axis) (f : Face) (edges : (i : ℕ) → IsEdge (cells_of tc) (edge_round a f i)) where
    abbrev points : ℕ → ℕ
    points i = point_of s (edge_round a f i)

    abbrev places : ℕ → Spot
    places i = place_on (edge_round a f i)

    abbrev marks : ℕ → Bool
    marks i = is_wet (face_corner (upper_side a) f i)

    -- the upper ends of edges 1 and 2 are one corner
    far : upper_end (edge_round a f 1) ≡ upper_end (edge_round a f 2)
    far = both_ways a (2 ^ f.level) f.low

    answers_are : face_answers tc tk clearance a f ≡ answers_by (marks 0) (marks 1) (marks 2) (marks 3) points places
    unfolding face_answers
    answers_are =
        let answer : (i : ℕ) → _ = λ i. answer-is (edge_round a f i) (edges i) in
        let second = answer 1 ∙ ap (λ p. answer_by (marks 1) (is_wet p) (points 1) (places 1)) far in
        λ i. record { first = answer 0 i; second = second i; third = answer 2 i; fourth = answer 3 i }

    odd_are : odd_edges s a f ≡ odd_by (marks 0) (marks 1) (marks 2) (marks 3)
    unfolding odd_edges odd survey_of
    odd_are =
        let second : bit (not (beq (marks 1) (is_wet (upper_end (edge_round a f 1))))) ≡ bit (not (beq (marks 1) (marks 2))) =
        ap (λ p. bit (not (beq (marks 1) (is_wet p)))) far in
        omega (arith, second)

    -- as many edges are odd as answers are crossing
    odd-counted : odd_edges s a f ≡ crossings (face_answers tc tk clearance a f)
    unfolding crossings
    odd-counted =
        let each : (low up : Bool) (i : ℕ) → _ = λ low up i. by-crossing low up (points i) (places i) in
        odd_are ∙ omega (arith, each (marks 0) (marks 1) 0, each (marks 1) (marks 2) 1, each (marks 3) (marks 2) 2, each (marks 0) (marks 3) 3)
        ∙ sym (ap crossings answers_are)

    by_side : (upper : Bool) → odd_edges s a f ≡ 2 → OneStep upper (face_steps s (side_by a upper) f) (face_answers tc tk clearance a f)
    unfolding face_steps survey_of
    by_side upper h = go upper (seen (s.saddle a f.low f.level) (marks 0) (marks 1) (marks 2) (marks 3) (sym odd_are ∙ h))
      where
        go : (upper : Bool) → Seen (s.saddle a f.low f.level) (marks 0) (marks 1) (marks 2) (marks 3) →
            OneStep upper (face_steps s (side_by a upper) f) (face_answers tc tk clearance a f)
        go true r = rw answers_are (r points places).0
        go false r =
            let back : ℕ → ℕ = λ i. point_of s (face_edge (lower_side a) f i) in
            let cut = s.saddle a f.low f.level in
            subst (λ p. OneStep false (steps_by cut (marks 0) (marks 3) (is_wet p) (marks 1) back) (face_answers tc tk clearance a f)) (sym far)
            (rw answers_are (r back places).1)

-- ---- a small face

module _ (a : Axis) (upper : Bool) (f : Face) (tc tk : List ℕ) (clearance : Float) (has : T (has_small_face tc tk clearance a upper f)) where
  -- the face is listed on this side of a leaf
  abbrev listed : Cell → Bool
  listed c = any (same_face f) (small_faces (cells_of tc) (side_by a upper) (side_low (side_by a upper) c) c.level)

  parts : T (accepted tc tk clearance) × T (any (λ c. not c.split && listed c) (cells_of tc))
  unfolding has_small_face
  parts = and→ (accepted tc tk clearance) (any (λ c. not c.split && listed c) (cells_of tc)) has

  edge-round : (i : ℕ) → IsEdge (cells_of tc) (edge_round a f i)
  unfolding survey_of
  edge-round i =
      let (c, j, t) = any→in (λ c. not c.split && listed c) (cells_of tc) parts.1 in
      small-edge (survey_of tc tk clearance) (lawful tc tk clearance parts.0) a upper c j f (and→ (not c.split) (listed c) t).1 i

  one-step : odd_edges (survey_of tc tk clearance) a f ≡ 2 →
      OneStep upper (face_steps (survey_of tc tk clearance) (side_by a upper) f) (face_answers tc tk clearance a f)
  one-step h = by_side tc tk clearance parts.0 a f edge-round upper h

  counted : odd_edges (survey_of tc tk clearance) a f ≡ crossings (face_answers tc tk clearance a f)
  counted = odd-counted tc tk clearance parts.0 a f edge-round

pub by_answers : Follows
unfolding Follows
by_answers a upper f tc tk clearance has h = one-step a upper f tc tk clearance has h

pub agree : Agree
unfolding Agree
agree a upper f tc tk clearance tc' tk' clearance' has has' h e =
    let two = counted a upper f tc' tk' clearance' has' ∙ ap crossings (sym e) ∙ sym (counted a upper f tc tk clearance has) ∙ h in
    (one-step a upper f tc tk clearance has h).0 ∙ ap (step_by upper) e ∙ sym (one-step a upper f tc' tk' clearance' has' two).0
