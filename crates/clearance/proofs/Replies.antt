-- A reply tells the answer of the enquiry that it is made of: nothing is lost on the way to C.
-- Assumes nothing.
use Prim.Native.Nat.{ℕ}
use mathlib.Core.Path.{◌≡◌, refl}
use mathlib.Core.Bool.{Bool, true, false, not, ◌&&◌, cond}
use mathlib.Core.List.{List, [], ◌∷◌, ◌++◌}
use lib.Dec.{eqb, ltb}
use lib.Ieee.{Float}
use Rattle.base.specs.Grid.{Place, axis_of}
use Rattle.rules.specs.Survey.{cells_of, corners_of, wet_at}
use Rattle.rules.specs.Edges.{edge, Spot, is_edge, odd, number_of, carrier, spot_on}
use Rattle.rules.specs.WhichEnd.{wet_end}
use Rattle.rules.specs.Outputs.{first_of, checks, survey_of, level_of, refused, even, crossing, enquiry}
use Rattle.rules.specs.Resounding.{amended, amendment_checks, enquiry_amended}
use Rattle.rules.specs.declared.End.{End}
use Rattle.rules.specs.declared.End.TheVariants.{Lower, Upper}
use Rattle.clearance.specs.Reply.{reply_of, told}

-- told of a refusal by a number, or of what was found where that is 0
told-found : (number : ℕ) (is_odd : Bool) (n : ℕ) (place : Spot) (end : End) →
    let answer = cond (eqb number 0) (cond is_odd (crossing n place end) even) (refused number) in told (reply_of answer) ≡ answer
told-found number is_odd n place end = go (eqb number 0) refl is_odd end
  where
    go : (b : Bool) → eqb number 0 ≡ b → (o : Bool) (end : End) →
        let answer = cond b (cond o (crossing n place end) even) (refused number) in told (reply_of answer) ≡ answer
    go true e true Lower = refl
    go true e true Upper = refl
    go true e false end = refl
    go false e o end = rw e

told-enquiry : (tc tk : List ℕ) (clearance : Float) (axis : ℕ) (p : Place) (length : ℕ) →
    told (reply_of (enquiry tc tk clearance axis p length)) ≡ enquiry tc tk clearance axis p length
unfolding enquiry
told-enquiry tc tk clearance axis p length =
    let s = survey_of tc tk clearance in
    let a = axis_of axis in
    let l = level_of length in
    let e = carrier s a p l in
    told-found (first_of (checks tc tk clearance ++ (11, not (ltb axis 3 && is_edge (cells_of tc) a p l)) ∷ []))
    (odd (wet_at (corners_of tk) clearance) a p l) (number_of s e) (spot_on (corners_of tk) clearance e) (wet_end (wet_at (corners_of tk) clearance) (edge a p l))

-- with amendments too: a refusal has a number
pub told-amended : (tc tk ta : List ℕ) (clearance : Float) (axis : ℕ) (p : Place) (length : ℕ) →
    told (reply_of (enquiry_amended tc tk ta clearance axis p length)) ≡ enquiry_amended tc tk ta clearance axis p length
unfolding enquiry_amended
told-amended tc tk ta clearance axis p length = go (eqb number 0) refl
  where
    number : ℕ
    number = first_of (amendment_checks tc tk ta)

    go : (b : Bool) → eqb number 0 ≡ b →
        let answer = cond b (enquiry tc (amended tk ta) clearance axis p length) (refused number) in told (reply_of answer) ≡ answer
    go true e = told-enquiry tc (amended tk ta) clearance axis p length
    go false e = rw e
