-- Further surveys under the same statement: enquiries that tell wrong rules apart which the starred ones let pass; every refusal from 1 to 8, and 11; and
-- which one is given where two apply. Drawings are in examples/proofs/Drawings.antt.
-- Assumes nothing.
use Prim.Native.Nat.{ℕ, ◌+◌, ◌-◌, ◌*◌}
use mathlib.Core.List.{List, [], ◌∷◌, ◌++◌}
use lib.ListN.{replicate}
use Rattle.base.specs.Lists.{collect, count}
use Rattle.base.specs.Grid.{Place}
use Rattle.rules.specs.Survey.{cells_of}
use Rattle.rules.proofs.Surveys.{cell_table, corner_table, place, Soundings, at, one, minus_one, three, greatest, least, not_a_number, wet_at_only}
use Rattle.rules.proofs.Surveys.{Shape, shape, leaves, leaf, split}
use Rattle.rules.proofs.Surveys.{checking, drawing, asking, Example, example, example_at, untouched, Right, right, Each, each}
use Rattle.rules.proofs.Starred.{centre, twins}

-- ---- surveys

-- splits in records 0, 1, 15 and 23: two pairs of twins on one line, and one pair is found only past an odd edge
unfoldable pub two_pairs : Shape
unfolding cells_of
two_pairs = shape (1 ∷ 9 ∷ leaves 13 ++ 17 ∷ leaves 7 ++ 25 ∷ leaves 9) (0 ∷ 64 ∷ 128 ∷ 256 ∷ 384 ∷ 448 ∷ 512 ∷ 1024 ∷ [])

-- n split records, each but the first the first child of the one before: the last of them has depth n - 1
abbrev pub chain : ℕ → List ℕ
chain n = 1 ∷ collect (λ k. (1 + 8 * k) ∷ leaves 7) (count 1 (n - 1)) ++ leaves 8

-- another cell table, or another list of corners, in the place of the survey's own
abbrev pub with_cells : List ℕ → Shape → Shape
with_cells t s = record { cells = t; corners = s.corners }

abbrev pub with_corners : List Place → Shape → Shape
with_corners ps s = record { cells = s.cells; corners = ps }

-- corners that don't rise
abbrev pub twice : List Place
twice = place 0 0 0 ∷ place 0 0 0 ∷ []

-- bits of floats: 1,048,576.125, which is beyond the greatest sounding, and its opposite; infinity
abbrev pub beyond : ℕ
beyond = 0x4980_0001

abbrev pub minus_beyond : ℕ
minus_beyond = 0xc980_0001

abbrev pub infinity : ℕ
infinity = 0x7f80_0000

-- only (0,0,0) wet
abbrev pub one_wet : Soundings
one_wet = wet_at_only (place 0 0 0 ∷ [])

-- a drawing at clearance v that is refused by a number, with slices of three elements, which it leaves as they were
abbrev pub refused_at : ℕ → ℕ → Shape → Soundings → Example
refused_at v n s f = example_at v s f (drawing 3 3) (n ∷ 0 ∷ 0 ∷ untouched 3 3)

abbrev pub refused : ℕ → Shape → Soundings → Example
refused n s f = refused_at 0 n s f

-- with this corner table, byte by byte
abbrev pub refused_table : ℕ → Shape → List ℕ → Example
refused_table n s t = record { cells = s.cells; corners = t; clearance = 0; call = drawing 3 3; answer = n ∷ 0 ∷ 0 ∷ untouched 3 3 }

-- ---- enquiries

unfoldable pub enquiries : List Example
unfolding twins
enquiries =
    -- the point of an odd divided edge is that of its odd half, placed on that half: wet 3 at 0, dry -1 at 256 and at 512
    example twins (at (place 0 0 0 ∷ []) three minus_one) (asking 0 (place 0 0 0) 512) (0 ∷ 0 ∷ 0x4340_0000 ∷ 0 ∷ 0 ∷ 1 ∷ []) ∷
    -- a divided edge that is even, though its halves are odd
    example twins (wet_at_only (place 256 0 0 ∷ [])) (asking 0 (place 0 0 0) 512) (0 ∷ []) ∷
    -- a place is reckoned from the dry end: wet 1 at 0, dry -2 at 1,024 gives 1,024 - 682.6667 and not 341.33334
    example leaf (at (place 0 0 0 ∷ []) one 0xc000_0000) (asking 0 (place 0 0 0) 1024) (0 ∷ 0 ∷ 0x43aa_aaaa ∷ 0 ∷ 0 ∷ 1 ∷ []) ∷ []

-- ---- refusals

-- each refusal where no lower one applies
unfoldable pub refusals : List Example
refusals =
    -- 1: empty, not whole records, 8,200 bytes
    refused 1 (with_cells [] leaf) one_wet ∷
    refused 1 (with_cells (replicate 5 0) leaf) one_wet ∷
    refused 1 (with_cells (replicate 8200 0) leaf) one_wet ∷
    -- 2: empty, not whole records, 58,476 bytes
    refused_table 2 leaf [] ∷
    refused_table 2 leaf (corner_table leaf.corners one_wet ++ 0 ∷ []) ∷
    refused_table 2 leaf (replicate 58476 0) ∷
    -- 3: a record too many, a record too few, a first entry that is not 1, an entry that is its own record number
    refused 3 (with_cells (cell_table (leaves 2)) leaf) one_wet ∷
    refused 3 (with_cells (cell_table (1 ∷ leaves 7)) split) one_wet ∷
    refused 3 (with_cells (cell_table (9 ∷ leaves 8)) split) one_wet ∷
    refused 3 (with_cells (cell_table (0 ∷ 1 ∷ leaves 7)) split) one_wet ∷
    -- 4: a cell of depth 10 is split; one of depth 9 may be, and is then refused for its corners
    refused 4 (with_cells (cell_table (chain 11)) leaf) one_wet ∷
    refused 6 (with_cells (cell_table (chain 10)) leaf) one_wet ∷
    -- 5: two records about one corner; a fall on z, on y, on x
    refused 5 (with_corners twice leaf) one_wet ∷
    refused 5 (with_corners (place 0 0 1024 ∷ place 1024 1024 0 ∷ []) leaf) one_wet ∷
    refused 5 (with_corners (place 0 1024 0 ∷ place 1024 0 0 ∷ []) leaf) one_wet ∷
    refused 5 (with_corners (place 1024 0 0 ∷ place 0 0 0 ∷ []) leaf) one_wet ∷
    -- 6: corners missing, corners too many
    refused 6 (with_corners leaf.corners split) one_wet ∷
    refused 6 (with_corners split.corners leaf) one_wet ∷
    -- 7: at one corner a sounding below the least, or infinite; the least, -1,048,576, passes
    refused 7 leaf (at (place 1024 1024 1024 ∷ []) minus_beyond one) ∷
    refused 7 leaf (at (place 1024 1024 1024 ∷ []) infinity one) ∷
    example leaf (λ p. least) (drawing 3 3) (0 ∷ 0 ∷ 0 ∷ untouched 3 3) ∷
    -- 8: a clearance that is not a number, above the greatest, below the least; 1,048,576 passes
    refused_at not_a_number 8 leaf one_wet ∷
    refused_at beyond 8 leaf one_wet ∷
    refused_at minus_beyond 8 leaf one_wet ∷
    example_at greatest leaf one_wet (drawing 3 3) (0 ∷ 0 ∷ 0 ∷ untouched 3 3) ∷
    -- 9 and 10 are among the starred, and 12 is in OpenAtBox.antt; 11: a length that is no power of two, an edge that no cell has
    example leaf one_wet (asking 0 (place 0 0 0) 1000) (11 ∷ []) ∷
    example leaf one_wet (asking 0 (place 0 0 0) 512) (11 ∷ []) ∷ []

-- Of two refusals that both apply, the one checked first is given: here the lower number; 9 and 10 are in examples/proofs/Drawings.antt, and 12, which is
-- checked between 8 and 9, is in OpenAtBox.antt. No survey that passes 7 can have 8 and 9, or 8 and 10, apply: at a clearance that is refused by 8 all its
-- corners are dry, or all are wet, so it has no point, and no slice is too short.
unfoldable pub lowest : List Example
lowest =
    -- 1 and 2, 2 and 3, 3 and 4, 4 and 5, 5 and 6, 6 and 7, 7 and 8
    refused_table 1 (with_cells [] leaf) [] ∷
    refused_table 2 (with_cells (cell_table (leaves 2)) leaf) [] ∷
    refused 3 (with_cells (cell_table (chain 11 ++ leaves 1)) leaf) one_wet ∷
    refused 4 (record { cells = cell_table (chain 11); corners = twice }) one_wet ∷
    refused 5 (with_corners twice split) one_wet ∷
    refused 6 (with_corners leaf.corners split) (λ p. not_a_number) ∷
    refused_at not_a_number 7 leaf (λ p. not_a_number) ∷
    -- 7, 8, 12 and 9: one corner is wet, by a sounding beyond the greatest, at a clearance beyond it
    refused_at beyond 7 leaf (at (place 0 0 0 ∷ []) infinity minus_one) ∷
    -- 7 and 11, 8 and 11
    example leaf (λ p. not_a_number) (asking 3 (place 0 0 0) 1024) (7 ∷ []) ∷
    example_at not_a_number leaf one_wet (asking 3 (place 0 0 0) 1024) (8 ∷ []) ∷
    -- a check by itself does not look at the clearance
    example_at not_a_number leaf one_wet checking (0 ∷ []) ∷
    example_at not_a_number leaf (λ p. not_a_number) checking (7 ∷ []) ∷ []

-- Each of them gives what document 01 asks.
pub enquiries_right : Each Right enquiries
unfolding right enquiries
enquiries_right = each enquiries tt

pub refusals_right : Each Right refusals
unfolding right refusals
refusals_right = each refusals tt

pub lowest-right : Each Right lowest
unfolding right lowest centre
lowest-right = each lowest tt
