-- The laws of requests 1 and 2 of document 02, of the survey as amended: each is the law of two tables, of the corner table as amended.
--     follows_amended    there is one step, and it is `step_by` of the side and the four answers
--     agree_amended      two surveys that both have the small face and agree on the four answers agree on the step
--     places-amended     what is said of t and of places
-- The statements stand in rules/specs/AsAmended.antt.
-- Assumes nothing.
use Prim.Native.Nat.{ℕ, ◌^◌}
use mathlib.Core.Path.{◌≡◌, sym, ap, ◌∙◌}
use mathlib.Core.Bool.{Bool}
use mathlib.Core.List.{List}
use lib.Dec.{T}
use lib.Ieee.{Float}
use Rattle.base.specs.Grid.{Axis, axis_number}
use Rattle.base.proofs.Tests.{and→, →and}
use Rattle.rules.specs.Survey.{cells_of}
use Rattle.rules.specs.Edges.{CellEdge}
use Rattle.rules.specs.Steps.{Face}
use Rattle.rules.specs.Outputs.{accepted, refused, enquiry}
use Rattle.rules.specs.StepByAnswers.{edge_round, some_leaf_has, answer_to, face_answers, step_by, has_small_face, Follows, Agree}
use Rattle.rules.specs.AwashPlaces.{PlacesByEnds}
use Rattle.rules.specs.Resounding.{amended, enquiry_amended}
use Rattle.rules.specs.AsAmended.{accepted_amended, answer_amended, face_answers_amended, has_small_face_amended}
use Rattle.rules.specs.AsAmended.{FollowsAmended, AgreeAmended, PlacesAmended}
use Rattle.amendments.proofs.Calls.{called}
use Rattle.amendments.proofs.AsAmended.{accepted→}
use Rattle.places.proofs.OnEdge.{places-by-ends}
use Rattle.enquiry.proofs.StepByAnswers.{by_answers, agree}

module _ (a : Axis) (upper : Bool) (f : Face) (tc tk ta : List ℕ) (clearance : Float) (has : T (has_small_face_amended tc tk ta clearance a upper f)) where
  parts : T (accepted_amended tc tk ta clearance) × T (some_leaf_has (cells_of tc) a upper f)
  unfolding has_small_face_amended
  parts = and→ (accepted_amended tc tk ta clearance) (some_leaf_has (cells_of tc) a upper f) has

  -- the survey with the corner table as amended has the small face
  has_face : T (has_small_face tc (amended tk ta) clearance a upper f)
  unfolding has_small_face
  has_face = →and (accepted tc (amended tk ta) clearance) (some_leaf_has (cells_of tc) a upper f) (accepted→ tc tk ta clearance parts.0).1 parts.1

  -- and the answers of its enquiry are those of the call
  same_answer : (e : CellEdge) → answer_amended tc tk ta clearance e ≡ answer_to tc (amended tk ta) clearance e
  unfolding answer_amended answer_to enquiry_amended
  same_answer e =
      called tc tk ta refused (λ t. enquiry tc t clearance (axis_number e.axis) e.low (2 ^ e.level)) (accepted→ tc tk ta clearance parts.0).0

  same_answers : face_answers_amended tc tk ta clearance a f ≡ face_answers tc (amended tk ta) clearance a f
  unfolding face_answers_amended face_answers
  same_answers =
      let answer : (i : ℕ) → _ = λ i. same_answer (edge_round a f i) in
      λ i. record { first = answer 0 i; second = answer 1 i; third = answer 2 i; fourth = answer 3 i }

pub follows_amended : FollowsAmended
unfolding FollowsAmended Follows
follows_amended a upper f tc tk ta clearance has two =
    let (is, one) = by_answers a upper f tc (amended tk ta) clearance (has_face a upper f tc tk ta clearance has) two in
    (is ∙ ap (step_by upper) (sym (same_answers a upper f tc tk ta clearance has)), one)

pub agree_amended : AgreeAmended
unfolding AgreeAmended Agree
agree_amended a upper f tc tk ta clearance tc' tk' ta' clearance' has has' two same =
    agree a upper f tc (amended tk ta) clearance tc' (amended tk' ta') clearance' (has_face a upper f tc tk ta clearance has)
    (has_face a upper f tc' tk' ta' clearance' has') two
    (sym (same_answers a upper f tc tk ta clearance has) ∙ same ∙ same_answers a upper f tc' tk' ta' clearance' has')

pub places-amended : PlacesAmended
unfolding PlacesAmended PlacesByEnds
places-amended tc tk ta clearance e ok = places-by-ends tc (amended tk ta) clearance e (accepted→ tc tk ta clearance ok).1
