-- Places with three whole coordinates, the three axes, and moves along them.
-- Assumes nothing.
use Rattle.std.specs.Prelude.{ℕ, zero, suc, ◌+◌, ◌-◌, Bool, ◌&&◌, List, [], ◌∷◌, eqb}
use Rattle.base.specs.Lists.{collect}

pub record Place : Type 0 where
  pub x : ℕ
  pub y : ℕ
  pub z : ℕ

abbrev pub origin : Place
origin = record { x = 0; y = 0; z = 0 }

pub data Axis : Type 0 where
  X Y Z : Axis

abbrev pub axes : List Axis
axes = X ∷ Y ∷ Z ∷ []

-- x, y, z in turn: after z comes x again
abbrev pub next : Axis → Axis
next X = Y
next Y = Z
next Z = X

-- the coordinate on an axis
abbrev pub along : Axis → Place → ℕ
along X p = p.x
along Y p = p.y
along Z p = p.z

-- a place with another coordinate on an axis
abbrev pub put : Axis → ℕ → Place → Place
put X v p = record { x = v; y = p.y; z = p.z }
put Y v p = record { x = p.x; y = v; z = p.z }
put Z v p = record { x = p.x; y = p.y; z = v }

-- a place moved up by d on an axis
abbrev pub move : Axis → ℕ → Place → Place
move a d p = put a (along a p + d) p

-- a place moved down by d on an axis
abbrev pub back : Axis → ℕ → Place → Place
back a d p = put a (along a p - d) p

abbrev pub same : Place → Place → Bool
same p q = eqb p.x q.x && (eqb p.y q.y && eqb p.z q.z)

-- a place, and the one s above it on an axis
abbrev pub pair : Axis → ℕ → Place → List Place
pair a s p = p ∷ move a s p ∷ []

-- the eight corners of a cube of size s: bit 0 of a corner's number says that it is the upper one on x, bit 1 on y, bit 2 on z
abbrev pub octants : ℕ → Place → List Place
octants s p = collect (pair X s) (collect (pair Y s) (pair Z s p))

abbrev pub axis_number : Axis → ℕ
axis_number X = 0
axis_number Y = 1
axis_number Z = 2

-- the axis with a number from 0 to 2
abbrev pub axis_of : ℕ → Axis
axis_of zero = X
axis_of (suc zero) = Y
axis_of (suc (suc n)) = Z
