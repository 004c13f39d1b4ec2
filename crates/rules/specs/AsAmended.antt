-- Document 02, request 6: the laws of requests 1, 2 and 4, of the survey as amended. "Drawing, enquiry and volume are those of the survey so amended": each law
-- is stated of three tables, as the calls take them. Of two tables it stands in StepByAnswers.antt, AwashPlaces.antt or Water.antt, where its words are
-- explained. The laws of requests 1 and 2 are proved in enquiry/proofs/AsAmended.antt, those of request 4 in volume/proofs/AsAmended.antt.
use Rattle.std.specs.Prelude.{ℕ, ◌*◌, ◌^◌, ◌≤◌, ◌<◌, ◌≡◌, Bool, not, ◌&&◌, List, eqb, ltb, T, length, get_or, Float}
use Rattle.std.specs.Float.{nan}
use Rattle.base.specs.Lists.{all}
use Rattle.base.specs.Grid.{Place, Axis, axis_number}
use Rattle.rules.specs.Survey.{cells_of, corners_of, Survey}
use Rattle.rules.specs.Edges.{CellEdge, is_edge, point_edges, spot_on}
use Rattle.rules.specs.Steps.{side_by, Face, face_steps, all_triangles}
use Rattle.rules.specs.OpenAtBox.{open_at_box}
use Rattle.rules.specs.Outputs.{in_range, survey_of, numbers, point_floats, Enquired}
use Rattle.rules.specs.Closing.{is_odd}
use Rattle.rules.specs.StepByAnswers.{odd_edges, FourAnswers, four_answers, step_by, some_leaf_has}
use Rattle.rules.specs.AwashPlaces.{dry_corner, wet_corner, PlaceByEnds}
use Rattle.rules.specs.Water.{sixfold, beyond_box, TakenDown, Small}
use Rattle.rules.specs.Resounding.{amended, check_amended, enquiry_amended, volume_amended}

-- accepted: the check of the three tables by itself gives 0, and the clearance is in range. By `ChecksInOrder` these are the checks of the enquiry, of drawing
-- and of the volume up to 8.
unfoldable pub accepted_amended : List ℕ → List ℕ → List ℕ → Float → Bool
unfolding check_amended in_range
accepted_amended tc tk ta clearance = eqb (check_amended tc tk ta) 0 && in_range clearance

-- drawable: accepted, and not open at the box
unfoldable pub drawable_amended : List ℕ → List ℕ → List ℕ → Float → Bool
unfolding accepted_amended open_at_box amended
drawable_amended tc tk ta clearance = accepted_amended tc tk ta clearance && not (open_at_box (amended tk ta) clearance)

-- the survey of three tables at a clearance, as the rules see it
abbrev pub survey_amended : List ℕ → List ℕ → List ℕ → Float → Survey
survey_amended tc tk ta clearance = survey_of tc (amended tk ta) clearance

-- ---- request 1

-- the enquiry's answer for an edge
unfoldable pub answer_amended : List ℕ → List ℕ → List ℕ → Float → CellEdge → Enquired
unfolding enquiry_amended
answer_amended tc tk ta clearance e = enquiry_amended tc tk ta clearance (axis_number e.axis) e.low (2 ^ e.level)

-- the answers for the four edges of a face
unfoldable pub face_answers_amended : List ℕ → List ℕ → List ℕ → Float → Axis → Face → FourAnswers
unfolding answer_amended
face_answers_amended tc tk ta clearance a f = four_answers (answer_amended tc tk ta clearance) a f

-- a survey that is accepted at its clearance and has this small face on the upper or the lower side of one of its leaves
unfoldable pub has_small_face_amended : List ℕ → List ℕ → List ℕ → Float → Axis → Bool → Face → Bool
unfolding accepted_amended cells_of some_leaf_has
has_small_face_amended tc tk ta clearance a upper f = accepted_amended tc tk ta clearance && some_leaf_has (cells_of tc) a upper f

-- "On a small face with two odd edges the step and its direction [...] follow from the four edge answers alone": there is one step, and it is `step_by`'s.
unfoldable pub FollowsAmended : Type 0
unfolding survey_of odd_edges face_steps amended face_answers_amended has_small_face_amended
FollowsAmended =
    (a : Axis) (upper : Bool) (f : Face) (tc tk ta : List ℕ) (clearance : Float) → T (has_small_face_amended tc tk ta clearance a upper f) →
    odd_edges (survey_amended tc tk ta clearance) a f ≡ 2 →
    let ss = face_steps (survey_amended tc tk ta clearance) (side_by a upper) f in
    (ss ≡ step_by upper (face_answers_amended tc tk ta clearance a f)) × (length ss ≡ 1)

-- "Two surveys that both have this small face and agree on these agree on the step", each with its own amendments and clearance
unfoldable pub AgreeAmended : Type 0
unfolding survey_of odd_edges face_steps amended face_answers_amended has_small_face_amended
AgreeAmended =
    (a : Axis) (upper : Bool) (f : Face) (tc tk ta : List ℕ) (clearance : Float) (tc' tk' ta' : List ℕ) (clearance' : Float) →
    T (has_small_face_amended tc tk ta clearance a upper f) → T (has_small_face_amended tc' tk' ta' clearance' a upper f) →
    odd_edges (survey_amended tc tk ta clearance) a f ≡ 2 →
    face_answers_amended tc tk ta clearance a f ≡ face_answers_amended tc' tk' ta' clearance' a f →
    face_steps (survey_amended tc tk ta clearance) (side_by a upper) f ≡ face_steps (survey_amended tc' tk' ta' clearance') (side_by a upper) f

-- ---- request 2

-- what is said of places, of every odd edge, by the soundings in force at its two ends
unfoldable pub PlacesAmended : Type 0
unfolding cells_of is_edge accepted_amended survey_of corners_of amended dry_corner wet_corner spot_on
PlacesAmended =
    (tc tk ta : List ℕ) (clearance : Float) (e : CellEdge) → T (accepted_amended tc tk ta clearance) →
    T (is_edge (cells_of tc) e.axis e.low e.level) → T (is_odd (survey_amended tc tk ta clearance) e) →
    let corners = corners_of (amended tk ta) in
    PlaceByEnds clearance e (dry_corner corners clearance e) (wet_corner corners clearance e) (spot_on corners clearance e)

-- ---- request 4

-- "The sum must come out equal for any two reference points": of the box, for whatever is drawn
unfoldable pub AnyReferenceAmended : Type 0
unfolding drawable_amended survey_of amended point_floats all_triangles
AnyReferenceAmended =
    (tc tk ta : List ℕ) (clearance : Float) → T (drawable_amended tc tk ta clearance) → (p q : Place) → T (not (beyond_box p)) → T (not (beyond_box q)) →
    let points = point_floats tc (amended tk ta) clearance in
    let triangles = all_triangles (survey_amended tc tk ta clearance) in
    sixfold p points triangles ≡ sixfold q points triangles

-- so the call gives the same from any two references of the box, whatever is handed in
unfoldable pub SameAnswerAmended : Type 0
unfolding volume_amended
SameAnswerAmended =
    (tc tk ta : List ℕ) (clearance : Float) (p q : Place) (ps : List Float) (ts : List ℕ) → T (not (beyond_box p)) → T (not (beyond_box q)) →
    volume_amended tc tk ta clearance p ps ts ≡ volume_amended tc tk ta clearance q ps ts

-- every coordinate of every point is taken down exactly to a whole sixteenth
unfoldable pub AllTakenDownAmended : Type 0
unfolding accepted_amended amended point_floats
AllTakenDownAmended =
    (tc tk ta : List ℕ) (clearance : Float) → T (accepted_amended tc tk ta clearance) →
    let points = point_floats tc (amended tk ta) clearance in
    (i : ℕ) → i < length points → TakenDown (get_or points i nan)

-- every number in every triangle is that of a point
unfoldable pub NumbersBelowAmended : Type 0
unfolding accepted_amended survey_of amended point_edges all_triangles
NumbersBelowAmended =
    (tc tk ta : List ℕ) (clearance : Float) → T (accepted_amended tc tk ta clearance) →
    let s = survey_amended tc tk ta clearance in T (all (λ t. all (λ p. ltb p (length (point_edges s))) (numbers t)) (all_triangles s))

-- at most four triangles for each point
unfoldable pub FewTrianglesAmended : Type 0
unfolding accepted_amended survey_of amended point_edges all_triangles
FewTrianglesAmended =
    (tc tk ta : List ℕ) (clearance : Float) → T (accepted_amended tc tk ta clearance) →
    let s = survey_amended tc tk ta clearance in length (all_triangles s) ≤ 4 * length (point_edges s)

-- nothing is lost in 64 bits
unfoldable pub NothingLostAmended : Type 0
unfolding accepted_amended survey_of amended point_floats all_triangles
NothingLostAmended =
    (tc tk ta : List ℕ) (clearance : Float) → T (accepted_amended tc tk ta clearance) → (reference : Place) → T (not (beyond_box reference)) →
    Small reference (point_floats tc (amended tk ta) clearance) (all_triangles (survey_amended tc tk ta clearance))
