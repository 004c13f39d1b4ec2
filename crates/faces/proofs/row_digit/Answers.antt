-- `faces::row_digit` meets its contract: the row's number and the row's place in it are those of a division by four.
use Prim.Native.Nat.{ℕ, ◌+◌, ◌*◌, ◌-◌, ◌/◌, ◌%◌}
use mathlib.Core.Path.{◌≡◌, ◌∙◌}
use mathlib.Core.List.{[], ◌∷◌}
use native.Mathlib.Omega.{arith}
use lib.ListN.{get_or}
use Rattle.digits.specs.Digits.{digit_of}
use Rattle.faces.specs.Patterns.{row_digit}
use Rattle.faces.proofs.row_digit.Goals as goal

kept : (r j a b c q s : ℕ) → q ≡ r / 4 → s ≡ r % 4 → digit_of (get_or (a ∷ b ∷ c ∷ []) q 0) (4 * s + j) ≡ row_digit r j a b c
unfolding row_digit
kept r j a b c q s e f = λ i. digit_of (get_or (a ∷ b ∷ c ∷ []) (e i) 0) (4 * f i + j)

pub returns-then-row-lt4 : goal.returns-then-row-lt4
returns-then-row-lt4 c =
    let a = c.args in
    c.digit.ensures ∙ kept a.row a.j a.a a.b a.c 0 a.row (omega arith) (omega arith)

pub returns-then-row-lt8 : goal.returns-then-row-lt8
returns-then-row-lt8 c =
    let a = c.args in
    c.digit-then-row-lt8.ensures ∙ kept a.row a.j a.a a.b a.c 1 (a.row - 4) (omega arith) (omega arith)

pub returns : goal.returns
returns c =
    let a = c.args in
    c.digit-2.ensures ∙ kept a.row a.j a.a a.b a.c 2 (a.row - 8) (omega arith) (omega arith)
