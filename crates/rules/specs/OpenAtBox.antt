-- Document 02, request 3, "Basins cut off by the box": "a survey with a wet corner on an outer face is refused for drawing". Check 12, open at the box, stands
-- between 8 and 9 of drawing: Outputs.antt. What closing says without exception is in Closing.antt.
use Rattle.std.specs.Prelude.{ℕ, Bool, ◌&&◌, ◌||◌, List, eqb, Float}
use Rattle.base.specs.Lists.{any}
use Rattle.base.specs.Grid.{Place, axes, along}
use Rattle.rules.specs.Survey.{corners_of, place_of, wet}

-- a place is on an outer face of the box: on some axis its coordinate is 0 or 1,024
abbrev pub is_outer : Place → Bool
is_outer p = any (λ a. eqb (along a p) 0 || eqb (along a p) 1024) axes

-- open at the box: some corner on an outer face is wet
unfoldable pub open_at_box : List ℕ → Float → Bool
unfolding corners_of wet
open_at_box tk clearance = any (λ c. is_outer (place_of c) && wet clearance c) (corners_of tk)
