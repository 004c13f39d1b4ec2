-- Document 01, "Steps and loops": "The small faces on a side of a leaf: if a cell of the same size across that side is split, the sides, towards
-- this leaf, of all leaves inside that cell that touch it; otherwise the leaf's own side. On the box's outside it is the leaf's own side."
-- The rules come to these faces by quartering (`small_faces`). Here is the sentence itself, as a test of a face; `small_faces_lem` in
-- proofs/SmallFaces.antt says that the rules list each face that passes it once, and no other.
-- Assumes nothing.
use Rattle.std.specs.Prelude.{ℕ, ◌+◌, Bool, not, ◌&&◌, cond, List, leb}
use Rattle.base.specs.Lists.{any, all}
use Rattle.base.specs.Grid.{axes, along}
use Rattle.rules.specs.Survey.{Cell, size}
use Rattle.rules.specs.Steps.{Side, upper_side, lower_side, Face, face, same_face, side_low}

-- a cell's side, as a face
abbrev pub side_of : Side → Cell → Face
side_of side c = face (side_low side c) c.level

-- the side of a cell beyond a leaf's side, towards the leaf: the lower one beyond an upper side, the upper one beyond a lower side
abbrev pub opposite : Side → Side
opposite side = cond side.upper (lower_side side.across) (upper_side side.across)

-- e is a cell of the same size across this side of c: its side towards c is c's own
abbrev pub is_across : Side → Cell → Cell → Bool
is_across side c e = same_face (side_of side c) (side_of (opposite side) e)

-- and it is split
abbrev pub split_beyond : Side → Cell → Cell → Bool
split_beyond side c e = e.split && is_across side c e

-- the interval of length s from x on lies in the one of length t from v on
abbrev pub lies : ℕ → ℕ → ℕ → ℕ → Bool
lies x s v t = leb v x && leb (x + s) (v + t)

-- neither of the two ends before the other begins
abbrev pub meets : ℕ → ℕ → ℕ → ℕ → Bool
meets x s v t = leb x (v + t) && leb v (x + s)

-- d is inside e: it lies in it on each axis
abbrev pub inside : Cell → Cell → Bool
inside e d = all (λ a. lies (along a d.low) (size d) (along a e.low) (size e)) axes

-- d touches c: they meet on each axis
abbrev pub touches : Cell → Cell → Bool
touches c d = all (λ a. meets (along a d.low) (size d) (along a c.low) (size c)) axes

-- f is the side, towards c, of d, and d is a leaf inside e that touches c
abbrev pub is_side_inside : Side → Cell → Face → Cell → Cell → Bool
is_side_inside side c f e d = inside e d && (touches c d && (not d.split && same_face f (side_of (opposite side) d)))

-- f is a small face on a side of the leaf c: where a cell of the same size across is split, it is such a side inside that cell; otherwise it is the
-- leaf's own side. On the box's outside there is no cell across.
unfoldable pub is_small_face : List Cell → Side → Cell → Face → Bool
is_small_face cells side c f =
    cond (any (split_beyond side c) cells)
    (any (λ e. split_beyond side c e && any (is_side_inside side c f e) cells) cells)
    (same_face f (side_of side c))
