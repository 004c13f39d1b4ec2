-- Document 01, what the drawing program prints, as bytes: `v` and the bits of x, y, z, eight hexadecimal digits each; `t` and point numbers; first
-- the points and triangles; on refusal one line only. Hexadecimal is in lower case, and every line ends with a line feed.
use Rattle.std.specs.Prelude.{ℕ, zero, suc, ◌+◌, ◌*◌, ◌/◌, ◌%◌, cond, List, [], ◌∷◌, ◌++◌, ltb, eqb, get_or, Float}
use Rattle.std.specs.Float.{nan, binary32}
use Rattle.std.specs.Float.Ieee.{to_bits}
use Rattle.base.specs.Lists.{collect, count}
use Rattle.rules.specs.declared.Drawn.{Drawn}

-- 0 to 9, a to f
abbrev pub digit : ℕ → ℕ
digit n = cond (ltb n 10) (48 + n) (87 + n)

-- eight hexadecimal digits
unfoldable pub hex : ℕ → List ℕ
hex v =
    digit (v / 0x1000_0000 % 16) ∷ digit (v / 0x100_0000 % 16) ∷ digit (v / 0x10_0000 % 16) ∷ digit (v / 0x1_0000 % 16) ∷
    digit (v / 0x1000 % 16) ∷ digit (v / 0x100 % 16) ∷ digit (v / 0x10 % 16) ∷ digit (v % 16) ∷ []

-- at most k digits in base ten, without leading zeros
unfoldable pub decimal_in : ℕ → ℕ → List ℕ
decimal_in zero v = []
decimal_in (suc k) v = let r = decimal_in k (v / 10) in cond (ltb v 10) (digit v ∷ []) (r ++ digit (v % 10) ∷ [])

-- a number below 2 ^ 32 has at most ten
abbrev pub decimal : ℕ → List ℕ
decimal v = decimal_in 10 v

abbrev pub space : ℕ
space = 32

abbrev pub line_feed : List ℕ
line_feed = 10 ∷ []

-- a space, and the bits of a float
abbrev pub hex_field : Float → List ℕ
hex_field x = space ∷ hex (to_bits binary32 x)

-- a space, and a number
abbrev pub number_field : ℕ → List ℕ
number_field n = space ∷ decimal n

unfoldable pub count_line : ℕ → ℕ → List ℕ
unfolding decimal_in
count_line points triangles = decimal points ++ number_field triangles ++ line_feed

unfoldable pub point_line : Float → Float → Float → List ℕ
unfolding hex to_bits
point_line x y z = (118 ∷ []) ++ hex_field x ++ hex_field y ++ hex_field z ++ line_feed

unfoldable pub triangle_line : ℕ → ℕ → ℕ → List ℕ
unfolding decimal_in
triangle_line a b c = (116 ∷ []) ++ number_field a ++ number_field b ++ number_field c ++ line_feed

-- `refused`
abbrev pub refused : List ℕ
refused = 114 ∷ 101 ∷ 102 ∷ 117 ∷ 115 ∷ 101 ∷ 100 ∷ []

unfoldable pub refusal : ℕ → List ℕ
unfolding decimal_in
refusal number = refused ++ number_field number ++ line_feed

-- the lines of the first n points of a slice
unfoldable pub point_lines : ℕ → List Float → List ℕ
unfolding point_line
point_lines n ps = collect (λ i. point_line (get_or ps (3 * i) nan) (get_or ps (3 * i + 1) nan) (get_or ps (3 * i + 2) nan)) (count 0 n)

unfoldable pub triangle_lines : ℕ → List ℕ → List ℕ
unfolding triangle_line
triangle_lines n ts = collect (λ i. triangle_line (get_or ts (3 * i) 0) (get_or ts (3 * i + 1) 0) (get_or ts (3 * i + 2) 0)) (count 0 n)

-- the whole listing, of what drawing returned and of what then stands in the lent slices
unfoldable pub listing : Drawn → List Float → List ℕ → List ℕ
unfolding count_line point_lines triangle_lines refusal
listing r ps ts =
    let drawn = count_line r.points r.triangles ++ point_lines r.points ps ++ triangle_lines r.triangles ts in
    let line = refusal r.number in
    cond (eqb r.number 0) drawn line
