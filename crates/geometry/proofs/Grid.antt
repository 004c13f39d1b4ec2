-- Squares and cells by level and coordinates, and sums over the small faces of a square and the sides of a cell.
-- A square of axis a has the coordinates n u v: n on a (its plane), u on the next axis, v on the one after; its side is 2 ^ level.
use Prim.Native.Nat.{ℕ, zero, suc, ◌+◌, ◌^◌}
use native.Mathlib.Omega.{arith}
use mathlib.Core.Path.{◌≡◌, refl}
use mathlib.Core.Logic.{◌⊎◌, inl, inr}
use mathlib.Core.Bool.{Bool, true, false}
use Rattle.base.specs.Grid.{Place, Axis, X, Y, Z, next, along, move}

-- a function of a level and three coordinates
abbrev pub At : Type 0 → Type 0
At T = ℕ → ℕ → ℕ → ℕ → T

-- the place with the coordinates n on the axis a, u on the next, v on the one after
abbrev pub place : Axis → ℕ → ℕ → ℕ → Place
place X n u v = record { x = n; y = u; z = v }
place Y n u v = record { x = v; y = n; z = u }
place Z n u v = record { x = u; y = v; z = n }

-- the lower or the upper half of an interval of level suc k
abbrev pub half : Bool → ℕ → ℕ → ℕ
half true k n = n + 2 ^ k
half false k n = n

-- the far end of an interval is the far end of its upper half
pub far : (k n : ℕ) → n + 2 ^ suc k ≡ n + 2 ^ k + 2 ^ k
far k n = omega arith

pub move-across : (a : Axis) (s n u v : ℕ) → move a s (place a n u v) ≡ place a (n + s) u v
move-across X s n u v = refl
move-across Y s n u v = refl
move-across Z s n u v = refl

pub move-first : (a : Axis) (s n u v : ℕ) → move (next a) s (place a n u v) ≡ place a n (u + s) v
move-first X s n u v = refl
move-first Y s n u v = refl
move-first Z s n u v = refl

pub move-second : (a : Axis) (s n u v : ℕ) → move (next (next a)) s (place a n u v) ≡ place a n u (v + s)
move-second X s n u v = refl
move-second Y s n u v = refl
move-second Z s n u v = refl

-- the same place in the coordinates of the next axis, and of the one after
pub turn-first : (a : Axis) (n u v : ℕ) → place a n u v ≡ place (next a) u v n
turn-first X n u v = refl
turn-first Y n u v = refl
turn-first Z n u v = refl

pub turn-second : (a : Axis) (n u v : ℕ) → place a n u v ≡ place (next (next a)) v n u
turn-second X n u v = refl
turn-second Y n u v = refl
turn-second Z n u v = refl

-- sums over the four quarters of a square, the eight children of a cell, the three axes of a cell
abbrev pub four : (ℕ → ℕ → ℕ) → ℕ → ℕ → ℕ → ℕ
four f s u v = f u v + f (u + s) v + (f u (v + s) + f (u + s) (v + s))

abbrev pub eight : (ℕ → ℕ → ℕ → ℕ) → ℕ → ℕ → ℕ → ℕ → ℕ
eight f s x y z = four (f x) s y z + four (f (x + s)) s y z

abbrev pub around : (Axis → ℕ → ℕ → ℕ → ℕ) → ℕ → ℕ → ℕ → ℕ
around f x y z = f X x y z + f Y y z x + f Z z x y

-- The sum over a square's small faces: where it is divided, that of its quarters; where not, its own number.
unfoldable pub total : At Bool → At ℕ → At ℕ
total d st zero n u v = st zero n u v
total d st (suc k) n u v = elim (d (suc k) n u v) [ true ↦ four (λ u v. total d st k n u v) (2 ^ k) u v | false ↦ st (suc k) n u v ]

pub total_divided : (d : At Bool) (st : At ℕ) (k n u v : ℕ) → d (suc k) n u v ≡ true → total d st (suc k) n u v ≡ four (λ u v. total d st k n u v) (2 ^ k) u v
unfolding total
total_divided d st k n u v e = rw (e, total)

pub total_whole : (d : At Bool) (st : At ℕ) (k n u v : ℕ) → d k n u v ≡ false → total d st k n u v ≡ st k n u v
unfolding total
total_whole d st zero n u v e = refl
total_whole d st (suc k) n u v e = rw (e, total)

-- what a cell sees on its two sides across an axis: s as the lower cell sees the squares, t as the upper cell sees them
abbrev pub views : (Axis → At Bool) → (Axis → At ℕ) → (Axis → At ℕ) → ℕ → Axis → ℕ → ℕ → ℕ → ℕ
views d s t k a n u v = total (d a) (s a) k (n + 2 ^ k) u v + total (d a) (t a) k n u v

-- what it sees on its six sides
unfoldable pub seen : (Axis → At Bool) → (Axis → At ℕ) → (Axis → At ℕ) → ℕ → Place → ℕ
seen d s t k p = around (views d s t k) p.x p.y p.z

-- ---- coordinates

pub along-across : (a : Axis) (n u v : ℕ) → along a (place a n u v) ≡ n
along-across X n u v = refl
along-across Y n u v = refl
along-across Z n u v = refl

pub along-first : (a : Axis) (n u v : ℕ) → along (next a) (place a n u v) ≡ u
along-first X n u v = refl
along-first Y n u v = refl
along-first Z n u v = refl

pub along-second : (a : Axis) (n u v : ℕ) → along (next (next a)) (place a n u v) ≡ v
along-second X n u v = refl
along-second Y n u v = refl
along-second Z n u v = refl

pub along-move-first : (a : Axis) (s : ℕ) (p : Place) → along (next a) (move a s p) ≡ along (next a) p
along-move-first X s p = refl
along-move-first Y s p = refl
along-move-first Z s p = refl

pub along-move-second : (a : Axis) (s : ℕ) (p : Place) → along (next (next a)) (move a s p) ≡ along (next (next a)) p
along-move-second X s p = refl
along-move-second Y s p = refl
along-move-second Z s p = refl

-- every place by its coordinates
pub place_of : (a : Axis) (p : Place) → place a (along a p) (along (next a) p) (along (next (next a)) p) ≡ p
place_of X p = refl
place_of Y p = refl
place_of Z p = refl

-- an interval of level k at m begins or ends at n
abbrev pub Ends : ℕ → ℕ → ℕ → Type 0
Ends k m n = (n ≡ m) ⊎ (n ≡ m + 2 ^ k)

pub half_ends : (b : Bool) (k n : ℕ) → Ends k n (half b k n)
half_ends true k n = inr refl
half_ends false k n = inl refl
