-- Document 02, request 1, "Which end is wet": "On a small face with two odd edges the step and its direction, for the leaf on a given side of it, follow
-- from the four edge answers alone: two surveys that both have this small face and agree on these agree on the step."
-- Both halves of the sentence are stated below, for any axis and either side; they are proved in enquiry/proofs/StepByAnswers.antt. Of the survey as amended
-- they stand in AsAmended.antt.
use Rattle.std.specs.Prelude.{ℕ, ◌^◌, ◌≡◌, Bool, true, false, not, ◌&&◌, cond, List, [], ◌∷◌, ◌++◌, map, T, length, Float}
use Rattle.base.specs.Lists.{any, collect, count, sum, bit}
use Rattle.base.specs.Grid.{Axis, axis_number}
use Rattle.rules.specs.Survey.{Cell, cells_of, Survey}
use Rattle.rules.specs.Edges.{CellEdge, odd}
use Rattle.rules.specs.Steps.{upper_side, side_by, Face, same_face, side_low, small_faces, face_edge, Step, face_steps}
use Rattle.rules.specs.Outputs.{accepted, survey_of, Enquired, refused, even, crossing, enquiry}
use Rattle.rules.specs.Closing.{is_odd}
use Rattle.rules.specs.declared.End.{End}
use Rattle.rules.specs.declared.End.TheVariants.{Lower, Upper}

-- ---- the four edges and the answers for them

-- Edge i, 0 to 3, of a face across an axis, by the face alone: round it, counter-clockwise seen from outside a leaf that has the face on its upper side.
-- Seen from outside a leaf that has it on its lower side they go round in the opposite order.
abbrev pub edge_round : Axis → Face → ℕ → CellEdge
edge_round a f i = face_edge (upper_side a) f i

-- how many of the four are odd
unfoldable pub odd_edges : Survey → Axis → Face → ℕ
unfolding odd
odd_edges s a f = sum (λ i. bit (is_odd s (edge_round a f i))) (count 0 4)

-- four answers of the enquiry
pub record FourAnswers : Type 0 where
  pub first : Enquired
  pub second : Enquired
  pub third : Enquired
  pub fourth : Enquired

-- the answers for the four edges of a face, by the answer for each edge
abbrev pub four_answers : (CellEdge → Enquired) → Axis → Face → FourAnswers
four_answers answer a f =
    record { first = answer (edge_round a f 0); second = answer (edge_round a f 1); third = answer (edge_round a f 2); fourth = answer (edge_round a f 3) }

-- the enquiry's answer for an edge
unfoldable pub answer_to : List ℕ → List ℕ → Float → CellEdge → Enquired
unfolding enquiry
answer_to tc tk clearance e = enquiry tc tk clearance (axis_number e.axis) e.low (2 ^ e.level)

-- its answers for the four edges of a face
unfoldable pub face_answers : List ℕ → List ℕ → Float → Axis → Face → FourAnswers
unfolding answer_to
face_answers tc tk clearance a f = four_answers (answer_to tc tk clearance) a f

-- ---- the step by four answers

-- whether two ends are the same
abbrev pub same_end : End → End → Bool
same_end Lower Lower = true
same_end Lower Upper = false
same_end Upper Lower = false
same_end Upper Upper = true

-- the point of an edge whose wet end is this one; else none
abbrev pub point_if_wet : End → Enquired → List ℕ
point_if_wet end (refused n) = []
point_if_wet end even = []
point_if_wet end (crossing n place wet) = cond (same_end end wet) (n ∷ []) []

-- The way round the four edges leads up the first two and down the others. The points at which it comes from a dry to a wet corner:
abbrev pub into_wet : FourAnswers → List ℕ
into_wet r = point_if_wet Upper r.first ++ point_if_wet Upper r.second ++ point_if_wet Lower r.third ++ point_if_wet Lower r.fourth

-- and those at which it comes from a wet to a dry one
abbrev pub out_of_wet : FourAnswers → List ℕ
out_of_wet r = point_if_wet Lower r.first ++ point_if_wet Lower r.second ++ point_if_wet Upper r.third ++ point_if_wet Upper r.fourth

-- a step from each of some points to each of others
abbrev pub between : List ℕ → List ℕ → List Step
between ps qs = collect (λ p. map (λ q. (p, q)) qs) ps

-- The step by the four answers; with two odd edges there is one point into the wet and one out of it. For a leaf that has the face on its upper side the way
-- round is counter-clockwise, and with wet corners to its right the step leads from the former point to the latter. For a leaf that has the face on its lower
-- side it is turned round.
abbrev pub step_by : Bool → FourAnswers → List Step
step_by upper r =
    let there = between (into_wet r) (out_of_wet r) in
    let back = between (out_of_wet r) (into_wet r) in
    cond upper there back

-- ---- the sentence

-- some leaf has this small face on its upper, or on its lower, side
unfoldable pub some_leaf_has : List Cell → Axis → Bool → Face → Bool
unfolding small_faces
some_leaf_has cells a upper f =
    let side = side_by a upper in
    any (λ c. not c.split && any (same_face f) (small_faces cells side (side_low side c) c.level)) cells

-- a survey that is accepted at its clearance and has it
unfoldable pub has_small_face : List ℕ → List ℕ → Float → Axis → Bool → Face → Bool
unfolding accepted cells_of some_leaf_has
has_small_face tc tk clearance a upper f = accepted tc tk clearance && some_leaf_has (cells_of tc) a upper f

-- "On a small face with two odd edges the step and its direction [...] follow from the four edge answers alone": there is one step, and it is `step_by`'s.
unfoldable pub Follows : Type 0
unfolding survey_of odd_edges face_steps face_answers has_small_face
Follows =
    (a : Axis) (upper : Bool) (f : Face) (tc tk : List ℕ) (clearance : Float) → T (has_small_face tc tk clearance a upper f) →
    odd_edges (survey_of tc tk clearance) a f ≡ 2 →
    let ss = face_steps (survey_of tc tk clearance) (side_by a upper) f in
    (ss ≡ step_by upper (face_answers tc tk clearance a f)) × (length ss ≡ 1)

-- "Two surveys that both have this small face and agree on these agree on the step." It has two odd edges in one of them, and then in both.
unfoldable pub Agree : Type 0
unfolding survey_of odd_edges face_steps face_answers has_small_face
Agree =
    (a : Axis) (upper : Bool) (f : Face) (tc tk : List ℕ) (clearance : Float) (tc' tk' : List ℕ) (clearance' : Float) →
    T (has_small_face tc tk clearance a upper f) → T (has_small_face tc' tk' clearance' a upper f) →
    odd_edges (survey_of tc tk clearance) a f ≡ 2 →
    face_answers tc tk clearance a f ≡ face_answers tc' tk' clearance' a f →
    face_steps (survey_of tc tk clearance) (side_by a upper) f ≡ face_steps (survey_of tc' tk' clearance') (side_by a upper) f
