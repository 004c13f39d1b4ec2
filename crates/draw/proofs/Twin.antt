-- Document 01's twin survey, from the files that the drawing program reads to the bytes that it prints: one statement, `twin-survey`.
-- What is printed is `printed`, of which `draw::list` is proved to write every byte; the slices lent are those of 2,048 points and 4,096 triangles.
-- `rt ci` runs the program in data/, on the same bytes.
-- Assumes nothing.
use Prim.Native.Nat.{ℕ, ◌+◌, ◌-◌, ◌*◌}
use Prim.Native.String.{String}
use mathlib.Core.Path.{◌≡◌, refl}
use mathlib.Core.Bool.{cond}
use mathlib.Core.List.{List, [], ◌∷◌}
use lib.Dec.{ltb}
use lib.ListN.{length}
use lib.Ieee.{to_bits}
use Rattle.base.specs.Lists.{collect}
use Rattle.rules.specs.Survey.{corners_of}
use Rattle.rules.proofs.Surveys.{corner_table}
use Rattle.rules.proofs.Starred.{twins, twin_soundings}
use Rattle.text.specs.Text.{hex, decimal_in, count_line, point_line, point_lines, triangle_line, triangle_lines}
use Rattle.text.proofs.Examples.{characters, lines}
use Rattle.draw.specs.Printed.{clearance_of, printed}

-- ---- bytes in hexadecimal

-- a digit, 0 to 9 or a to f, by its character
abbrev digit_value : ℕ → ℕ
digit_value c = cond (ltb c 97) (c - 48) (c - 87)

-- two digits a byte
abbrev digit_bytes : List ℕ → List ℕ
digit_bytes [] = []
digit_bytes (a ∷ []) = []
digit_bytes (a ∷ b ∷ r) = (16 * digit_value a + digit_value b) ∷ digit_bytes r

-- the bytes of some records
abbrev pub hex_bytes : List String → List ℕ
hex_bytes ls = collect (λ s. digit_bytes (characters s)) ls

-- ---- the survey

-- the tables of the starred twin survey, and a clearance of 0
unfoldable pub cells : List ℕ
unfolding twins
cells = twins.cells

unfoldable pub corners : List ℕ
unfolding twins
corners = corner_table twins.corners twin_soundings

abbrev pub clearance : List ℕ
clearance = 0 ∷ 0 ∷ 0 ∷ 0 ∷ []

pub record TwinSurvey : Type 0 where
  pub cells_file : cells ≡ hex_bytes
      ("01000000" ∷ "09000000" ∷ "00000000" ∷ "00000000" ∷ "00000000" ∷ "00000000" ∷ "00000000" ∷ "00000000" ∷ "00000000" ∷
      "00000000" ∷ "00000000" ∷ "00000000" ∷ "00000000" ∷ "00000000" ∷ "00000000" ∷ "00000000" ∷ "00000000" ∷ [])
  pub corners_file : corners ≡ hex_bytes
      ("000000000000000080bf0000" ∷ "000100000000000080bf0000" ∷ "000200000000000080bf0000" ∷ "000400000000000080bf0000" ∷ "000000010000000080bf0000" ∷
      "000100010000000080bf0000" ∷ "000200010000000080bf0000" ∷ "000000020000000080bf0000" ∷ "000100020000000080bf0000" ∷ "000200020000000080bf0000" ∷
      "000400020000000080bf0000" ∷ "000000040000000080bf0000" ∷ "000200040000000080bf0000" ∷ "000400040000000080bf0000" ∷ "000000000001000080bf0000" ∷
      "000100000001000080bf0000" ∷ "000200000001000080bf0000" ∷ "000000010001000080bf0000" ∷ "000100010001000080bf0000" ∷ "000200010001000080bf0000" ∷
      "000000020001000080bf0000" ∷ "000100020001000080bf0000" ∷ "000200020001000080bf0000" ∷ "000000000002000080bf0000" ∷ "000100000002000080bf0000" ∷
      "000200000002000080bf0000" ∷ "000400000002000080bf0000" ∷ "000000010002000080bf0000" ∷ "000100010002000080bf0000" ∷ "000200010002000080bf0000" ∷
      "000000020002000080bf0000" ∷ "0001000200020000803f0000" ∷ "000200020002000080bf0000" ∷ "000400020002000080bf0000" ∷ "000000040002000080bf0000" ∷
      "000200040002000080bf0000" ∷ "000400040002000080bf0000" ∷ "000000000004000080bf0000" ∷ "000200000004000080bf0000" ∷ "000400000004000080bf0000" ∷
      "000000020004000080bf0000" ∷ "000200020004000080bf0000" ∷ "000400020004000080bf0000" ∷ "000000040004000080bf0000" ∷ "000200040004000080bf0000" ∷
      "000400040004000080bf0000" ∷ [])
  pub corner-count : length (corners_of corners) ≡ 46
  pub listing : printed cells corners [] (clearance_of clearance) ≡ lines
      ("4 4" ∷
      "v 43000000 44000000 44000000" ∷
      "v 43c00000 44000000 44000000" ∷
      "v 43800000 43c00000 44000000" ∷
      "v 43800000 44000000 43c00000" ∷
      "t 0 1 3" ∷
      "t 0 2 1" ∷
      "t 0 3 2" ∷
      "t 1 2 3" ∷ [])

-- by computation
pub twin-survey : TwinSurvey
unfolding cells corners corners_of printed clearance_of count_line point_lines point_line triangle_lines triangle_line hex decimal_in to_bits
twin-survey = record { cells_file = refl; corners_file = refl; corner-count = refl; listing = refl }
