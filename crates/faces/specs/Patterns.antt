-- Small tables as digits of numbers, wet marks as digits in base two, and the sixteen wet patterns of a face: digit i says that corner i is wet.
use Rattle.std.specs.Prelude.{ℕ, ◌+◌, ◌*◌, ◌/◌, ◌%◌, ◌^◌, Bool, true, cond, List, [], ◌∷◌, eqb, ltb, get_or}
use Rattle.base.specs.Lists.{position, count, bit}
use Rattle.digits.specs.Digits.{digit_of}
use Rattle.rules.specs.Steps.{Step, step_in}

-- digit j of row r, where twelve rows of four digits are kept in three numbers, four rows in each
unfoldable pub row_digit : ℕ → ℕ → ℕ → ℕ → ℕ → ℕ
row_digit r j a b c = digit_of (get_or (a ∷ b ∷ c ∷ []) (r / 4) 0) (4 * (r % 4) + j)

-- digit i of a number in base two is 1
abbrev pub wet_digit : ℕ → ℕ → Bool
wet_digit mask i = eqb (mask / 2 ^ i % 2) 1

-- corner i, counted round the face, is wet
abbrev pub wet_bit : ℕ → ℕ → Bool
wet_bit pattern i = wet_digit pattern (i % 4)

-- the edge by which a step leaves, or 4 where there is none
abbrev pub exit : List Step → ℕ
exit [] = 4
exit (t ∷ ts) = t.1

-- the edge to which the step that enters by edge i goes, by the rule for steps with wet corners cut off; 4 where none enters
unfoldable pub step_from : ℕ → ℕ → ℕ
step_from p i = exit (step_in true i (wet_bit p i) (wet_bit p (i + 1)) (wet_bit p (i + 2)) (wet_bit p (i + 3)))

-- the first edge by which a step enters; 4 where none enters
unfoldable pub first_entry : ℕ → ℕ
unfolding step_from
first_entry p = position (λ i. ltb (step_from p i) 4) 0 (count 0 4)

-- the pattern of four wet marks
abbrev pub pattern_of : Bool → Bool → Bool → Bool → ℕ
pattern_of a b c d = bit a + 2 * bit b + 4 * bit c + 8 * bit d

-- the step from edge i to edge j, if j is one
abbrev pub step_to : ℕ → ℕ → List Step
step_to i j = cond (ltb j 4) ((i, j) ∷ []) []
