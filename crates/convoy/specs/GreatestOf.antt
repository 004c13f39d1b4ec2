-- The greatest of some clearances, as the code finds it.
use Rattle.std.specs.Prelude.{cond, List, [], ◌∷◌, Float}
use Rattle.std.specs.Float.{nan}
use Rattle.std.specs.Float.Ieee.{lt}

-- the greater of two, the former where neither is
unfoldable pub greater_of : Float → Float → Float
unfolding lt
greater_of c d = cond (lt c d) d c

-- the greatest of one and some others
unfoldable pub greatest_after : Float → List Float → Float
unfolding greater_of
greatest_after c [] = c
greatest_after c (d ∷ ds) = greatest_after (greater_of c d) ds

-- of some; of none not a number
unfoldable pub greatest_of : List Float → Float
unfolding greatest_after
greatest_of [] = nan
greatest_of (c ∷ cs) = greatest_after c cs
