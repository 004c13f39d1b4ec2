-- Examples of document 02, request 4: check 13 among the others. Volumes that can be said by hand are in examples/proofs/Volumes.antt.
-- Assumes nothing.
use Prim.Native.Nat.{ℕ}
use mathlib.Core.Path.{◌≡◌}
use mathlib.Core.Bool.{not}
use mathlib.Core.List.{List, [], ◌∷◌, ◌++◌, map}
use lib.Dec.{T}
use lib.IntN.{nat_abs}
use lib.Signed.{non_neg}
use lib.ListN.{replicate}
use lib.Ieee.{binary32, of_bits, to_bits}
use Rattle.base.specs.Lists.{all, bit}
use Rattle.base.specs.Grid.{Place}
use Rattle.rules.specs.Water.{Reckoning, volume}
use Rattle.rules.proofs.Surveys.{place, Soundings, at, minus_one, not_a_number, corner_table, Shape, leaf, split, old_float, old_number, bits, untouched}
use Rattle.rules.proofs.Surveys.{equal, Each, each_given}
use Rattle.rules.proofs.Starred.{centre}
use Rattle.rules.proofs.Further.{minus_beyond, one_wet}

-- two tables, the bits of a clearance, a reference, the lengths of two slices, and the answer of the call for the volume
pub record Measure : Type 0 where
  pub cells : List ℕ
  pub corners : List ℕ
  pub clearance : ℕ
  pub reference : Place
  pub points : ℕ
  pub triangles : ℕ
  pub answer : List ℕ

abbrev pub measure_at : ℕ → Shape → Soundings → Place → ℕ → ℕ → List ℕ → Measure
measure_at v s f r n m a = record {
  cells = s.cells;
  corners = corner_table s.corners f;
  clearance = v;
  reference = r;
  points = n;
  triangles = m;
  answer = a;
}

-- at clearance 0
abbrev pub measure : Shape → Soundings → Place → ℕ → ℕ → List ℕ → Measure
measure s f r n m a = measure_at 0 s f r n m a

-- an answer: number, counts, whether six times the volume is below zero and how far from it, and the slices
abbrev pub volume_numbers : Reckoning → List ℕ
unfolding to_bits
volume_numbers v =
    let n = v.result.sixfold in
    v.result.number ∷ v.result.points ∷ v.result.triangles ∷ bit (not (non_neg n)) ∷ nat_abs n ∷ map bits v.points ++ v.triangles

unfoldable pub measured : Measure → List ℕ
unfolding volume of_bits to_bits
measured e =
    volume_numbers (volume e.cells e.corners (of_bits binary32 e.clearance) e.reference (replicate e.points (of_bits binary32 old_float))
    (replicate e.triangles old_number))

-- what the rules give is the answer written there
unfoldable pub Measured : Measure → Type 0
unfolding measured
Measured e = measured e ≡ e.answer

pub each_measured : (es : List Measure) → T (all (λ e. equal (measured e) e.answer) es) → Each Measured es
unfolding Measured
each_measured es t = each_given measured (λ (e : Measure). e.answer) es t

abbrev dry : Soundings
dry p = minus_one

-- refused by 13: no counts, no volume, nothing written
abbrev beyond : Place → Measure
beyond r = measure leaf dry r 3 3 (13 ∷ 0 ∷ 0 ∷ 0 ∷ 0 ∷ untouched 3 3)

unfoldable pub references : List Measure
unfolding centre
references =
    -- an empty drawing
    measure leaf dry (place 1024 1024 1024) 3 3 (0 ∷ 0 ∷ 0 ∷ 0 ∷ 0 ∷ untouched 3 3) ∷
    -- a coordinate above 1,024, on each axis
    beyond (place 1025 0 0) ∷
    beyond (place 0 1025 0) ∷
    beyond (place 0 0 1025) ∷
    beyond (place 4294967295 4294967295 4294967295) ∷
    -- with room for the drawing
    measure split centre (place 0 1025 0) 18 24 (13 ∷ 0 ∷ 0 ∷ 0 ∷ 0 ∷ untouched 18 24) ∷
    -- 13 and 9: 13; 12 and 13, 8 and 13, 7 and 13: the one before 13
    measure split centre (place 0 1025 0) 0 0 (13 ∷ 0 ∷ 0 ∷ 0 ∷ 0 ∷ []) ∷
    measure leaf one_wet (place 0 1025 0) 0 0 (12 ∷ 0 ∷ 0 ∷ 0 ∷ 0 ∷ []) ∷
    measure_at minus_beyond leaf dry (place 0 1025 0) 0 0 (8 ∷ 0 ∷ 0 ∷ 0 ∷ 0 ∷ []) ∷
    measure leaf (at (place 0 0 0 ∷ []) not_a_number minus_one) (place 0 1025 0) 0 0 (7 ∷ 0 ∷ 0 ∷ 0 ∷ 0 ∷ []) ∷ []

pub references_right : Each Measured references
unfolding measured references
references_right = each_measured references tt
