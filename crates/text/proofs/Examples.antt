-- Listings as people read them, computed. That of document 01's twin survey stands in draw/proofs/Twin, with its survey.
-- Assumes nothing.
use Prim.Native.Nat.{ℕ}
use Prim.Native.Char.{code}
use Prim.Native.String.{String}
use Prim.Native.String as S
use mathlib.Core.Path.{◌≡◌, refl}
use mathlib.Core.List.{List, [], ◌∷◌, ◌++◌, map}
use lib.Ieee.{binary32, of_bits, to_bits}
use Rattle.base.specs.Lists.{collect}
use Rattle.rules.specs.declared.Drawn.{Drawn}
use Rattle.text.specs.Text.{hex, decimal_in, count_line, point_line, triangle_line, refusal, point_lines, triangle_lines, listing}

-- the bytes of a text of plain characters
abbrev pub characters : String → List ℕ
characters S.[] = []
characters (S.◌∷◌ c s) = code c ∷ characters s

-- lines, each with a line feed at its end
abbrev pub lines : List String → List ℕ
lines ls = collect (λ s. characters s ++ 10 ∷ []) ls

abbrev drawn : ℕ → ℕ → ℕ → Drawn
drawn number points triangles = record { number = number; points = points; triangles = triangles }

-- a point and a triangle: every hexadecimal digit, with leading zeros; of the slices as much as was drawn
both : listing (drawn 0 1 1) (map (of_bits binary32) (0x123_4567 ∷ 0x89ab_cdef ∷ 0xc080_0000 ∷ 0 ∷ [])) (0 ∷ 12 ∷ 4294967295 ∷ 0 ∷ [])
    ≡ lines
    ("1 1" ∷
    "v 01234567 89abcdef c0800000" ∷
    "t 0 12 4294967295" ∷ [])
unfolding listing count_line point_lines point_line triangle_lines triangle_line hex decimal_in of_bits to_bits
both = refl

too_short : listing (drawn 10 2052 43054) [] [] ≡ lines ("refused 10" ∷ [])
unfolding listing refusal decimal_in
too_short = refl

-- no leading zeros, and every digit
counts : count_line 0 4294967295 ≡ lines ("0 4294967295" ∷ [])
unfolding count_line decimal_in
counts = refl
