-- Examples of `Agree` and `AgreeAmended`, document 02, request 1: two surveys that differ, both have a small face with two odd edges, and agree on the answers
-- for its four edges, bit for bit. So they agree on the step.
-- Assumes nothing.
use Prim.Native.Nat.{ℕ}
use mathlib.Core.Path.{◌≡◌, refl, sym, ◌∙◌}
use mathlib.Core.Bool.{true, not, ◌&&◌}
use mathlib.Core.List.{List, [], ◌∷◌, ◌++◌}
use lib.Dec.{T}
use lib.Ieee.{Float, binary32, of_bits}
use Rattle.base.specs.Lists.{collect}
use Rattle.base.specs.Grid.{X}
use Rattle.rules.specs.Survey.{cells_of}
use Rattle.rules.specs.Edges.{Spot}
use Rattle.rules.specs.Steps.{side_by, Face, face, Step, face_steps}
use Rattle.rules.specs.Outputs.{survey_of, even, crossing}
use Rattle.rules.specs.StepByAnswers.{odd_edges, FourAnswers, face_answers, has_small_face, Agree}
use Rattle.rules.specs.Resounding.{amended}
use Rattle.rules.specs.AsAmended.{survey_amended, face_answers_amended, has_small_face_amended, AgreeAmended}
use Rattle.rules.specs.declared.End.TheVariants.{Lower, Upper}
use Rattle.rules.proofs.Surveys.{place, Soundings, at, one, minus_one, two, resounded, corner_table, Shape, shape, leaves, leaf, split, equal}
use Rattle.rules.proofs.Starred.{f256, f512, f1024, centre}
use Rattle.enquiry.proofs.StepByAnswers.{agree}
use Rattle.enquiry.proofs.AsAmended.{agree_amended}

-- ---- what is asked of two surveys

-- a cell table and a corner table
pub record Sounded : Type 0 where
  pub cells : List ℕ
  pub corners : List ℕ

abbrev pub sounded : Shape → Soundings → Sounded
sounded s f = record { cells = s.cells; corners = corner_table s.corners f }

-- the clearance of all
abbrev pub zero : Float
unfolding of_bits
zero = of_bits binary32 0

-- the steps in a face for the leaf that has it on its upper side along x
abbrev pub steps_in : Sounded → Face → List Step
unfolding survey_of face_steps of_bits
steps_in t f = face_steps (survey_of t.cells t.corners zero) (side_by X true) f

-- What `Agree` asks of two surveys and a face on the upper side along x, with the answers and the step that both give; and the surveys differ.
pub record Agreeing (t u : Sounded) (f : Face) (answers : FourAnswers) (step : Step) : Type 0 where
  pub has : T (has_small_face t.cells t.corners zero X true f)
  pub has_too : T (has_small_face u.cells u.corners zero X true f)
  pub two-odd : odd_edges (survey_of t.cells t.corners zero) X f ≡ 2
  pub gives : face_answers t.cells t.corners zero X f ≡ answers
  pub gives_too : face_answers u.cells u.corners zero X f ≡ answers
  pub steps : steps_in t f ≡ step ∷ []
  pub steps_too : steps_in u f ≡ step ∷ []
  pub differ : T (not (equal t.cells u.cells && equal t.corners u.corners))

-- the law applies to them
pub steps_agree : (t u : Sounded) (f : Face) (answers : FourAnswers) (step : Step) → Agreeing t u f answers step → steps_in t f ≡ steps_in u f
unfolding Agree
steps_agree t u f answers step a =
    agree X true f t.cells t.corners zero u.cells u.corners zero a.has a.has_too a.two-odd (a.gives ∙ sym a.gives_too)

-- a place by the bits of its coordinates
abbrev pub spot : ℕ → ℕ → ℕ → Spot
unfolding of_bits
spot a b c = record { x = of_bits binary32 a; y = of_bits binary32 b; z = of_bits binary32 c }

-- ---- one leaf, with other soundings

-- both ends of the edge along x at the origin are wet
abbrev pub edge_wet : ℕ → ℕ → Soundings
edge_wet wet dry = at (place 0 0 0 ∷ place 1024 0 0 ∷ []) wet dry

-- the bits of -2
abbrev pub minus_two : ℕ
minus_two = 0xc000_0000

abbrev pub ones : Sounded
ones = sounded leaf (edge_wet one minus_one)

abbrev pub twos : Sounded
twos = sounded leaf (edge_wet two minus_two)

-- the leaf's face, with one wet corner, the lowest; each crossing is half-way
abbrev pub leaf_face : Face
leaf_face = face (place 1024 0 0) 10

abbrev pub leaf_answers : FourAnswers
unfolding of_bits
leaf_answers = record { first = crossing 1 (spot f1024 f512 0) Lower; second = even; third = even; fourth = crossing 3 (spot f1024 0 f512) Lower }

-- soundings of 1 and -1, and of 2 and -2
pub leaf_agrees : Agreeing ones twos leaf_face leaf_answers (3, 1)
unfolding has_small_face odd_edges face_answers of_bits survey_of face_steps
leaf_agrees = record { has = tt; has_too = tt; two-odd = refl; gives = refl; gives_too = refl; steps = refl; steps_too = refl; differ = tt }

-- the first survey as it is, and with every corner resounded as the second has it
abbrev pub resoundings : List ℕ
resoundings = collect (λ p. resounded p (edge_wet two minus_two p) 1) leaf.corners

pub resounded_differ : T (not (equal (amended ones.corners resoundings) ones.corners))
unfolding amended
resounded_differ = tt

pub resounded_agrees : face_steps (survey_amended ones.cells ones.corners [] zero) (side_by X true) leaf_face
    ≡ face_steps (survey_amended ones.cells ones.corners resoundings zero) (side_by X true) leaf_face
unfolding AgreeAmended has_small_face_amended odd_edges face_answers_amended of_bits survey_of amended
resounded_agrees = agree_amended X true leaf_face ones.cells ones.corners [] zero ones.cells ones.corners resoundings zero tt tt refl refl

-- ---- two trees

-- the box split, and its last octant split too
unfoldable pub last_split : Shape
unfolding cells_of
last_split = shape (1 ∷ leaves 7 ++ 9 ∷ leaves 8) (0 ∷ 512 ∷ 768 ∷ 1024 ∷ [])

-- the face between the first two octants, with one wet corner, the highest
abbrev pub octant_face : Face
octant_face = face (place 512 0 0) 9

abbrev pub octant_answers : FourAnswers
unfolding of_bits
octant_answers = record { first = even; second = crossing 4 (spot f512 f512 f256) Upper; third = crossing 2 (spot f512 f256 f512) Upper; fourth = even }

-- in both the centre of the box is wet
pub trees_agree : Agreeing (sounded split centre) (sounded last_split centre) octant_face octant_answers (4, 2)
unfolding has_small_face odd_edges face_answers of_bits survey_of face_steps centre last_split
trees_agree = record { has = tt; has_too = tt; two-odd = refl; gives = refl; gives_too = refl; steps = refl; steps_too = refl; differ = tt }
