-- Round the first unit of an edge, a cell's surface turns at most once each way; so the steps that leave a point, which are all drawn on one side
-- of its edge, are at most one on a cell, and so are those that enter it; and such a cell has the first unit in it or on its surface.
use Prim.Native.Nat.{ℕ, zero, suc, ◌+◌, ◌*◌, ◌^◌, ◌≤◌, ◌<◌}
use native.Mathlib.Nat.{mul-le-mul, mul-le-mul_left, mul-le-mul_right}
use native.Mathlib.Decide.{dec_lt}
use native.Mathlib.Omega.{arith}
use lib.Pow.{pow_pos}
use mathlib.Core.Path.{◌≡◌, refl, sym, subst}
use mathlib.Core.Logic.{◌≢◌}
use mathlib.Core.Bool.{Bool, true, false, not}
use Rattle.base.specs.Grid.{Axis, X, Y, Z, next}
use Rattle.geometry.proofs.Grid.{At, place, total, views, seen}
use Rattle.geometry.proofs.Area.{within, within_in, within_below, within-above, within-one, within_off, within→, within-sub, within_adds, within⁺}
use Rattle.geometry.proofs.Area.{side, side_sub, side_adds, apart, Area, area, total_none, Kept, total_le, at_most}

-- ---- round a rectangle

-- where a stands: below y, at it, within, at the end y + s, beyond
data Stand (a y s : ℕ) : Type 0 where
  under : a < y → Stand a y s
  start : a ≡ y → Stand a y s
  between : y < a → a < y + s → Stand a y s
  end : a ≡ y + s → Stand a y s
  over : y + s < a → Stand a y s

stand : (a y s : ℕ) → Stand a y s
stand a y s = go (dec_lt a y) (dec_lt y a) (dec_lt a (y + s)) (dec_lt (y + s) a)
  where
    go : Dec (a < y) → Dec (y < a) → Dec (a < y + s) → Dec (y + s < a) → Stand a y s
    go (yes h) q r o = under h
    go (no h) (no q) r o = start (omega arith)
    go (no h) (yes q) (yes r) o = between q r
    go (no h) (yes q) (no r) (no o) = end (omega arith)
    go (no h) (yes q) (no r) (yes o) = over o

-- round a rectangle: of the four unit segments that lead on from the place j l, at most one lies on its rim
turn : (j l y w s : ℕ) → 0 < s
    → within j (y + s) 1 * within⁺ l w s + within j y 1 * within l w s + (within l (w + s) 1 * within j y s + within l w 1 * within⁺ j y s) ≤ 1
unfolding within⁺
turn j l y w s h = go (stand j y s)
  where
    go : Stand j y s → within j (y + s) 1 * within⁺ l w s + within j y 1 * within l w s + (within l (w + s) 1 * within j y s + within l w 1 * within⁺ j y s) ≤ 1
    go (under p) =
        rw (within_below j (y + s) 1 (omega arith), within_below j y 1 p, within_below j y s p, within_below j (suc y) s (omega arith)) (omega arith)
    go (start p) =
        rw (
          within_below j (y + s) 1 (omega arith),
          within_in j y 1 (omega arith) (omega arith),
          within_in j y s (omega arith) (omega arith),
          within_below j (suc y) s (omega arith),
        )
        (omega (arith, apart l w s (w + s) 1 (omega arith)))
    go (between p q) =
        rw (within_below j (y + s) 1 q, within-above j y 1 (omega arith), within_in j y s (omega arith) q, within_in j (suc y) s p (omega arith))
        (omega (arith, apart l w 1 (w + s) 1 (omega arith)))
    go (end p) =
        rw (
          within_in j (y + s) 1 (omega arith) (omega arith),
          within-above j y 1 (omega arith),
          within-above j y s (omega arith),
          within_in j (suc y) s (omega arith) (omega arith),
        )
        (omega (arith, apart l w 1 (suc w) s (omega arith)))
    go (over p) =
        rw (within-above j (y + s) 1 (omega arith), within-above j y 1 (omega arith), within-above j y s (omega arith), within-above j (suc y) s (omega arith))
        (omega arith)

-- the same for either way round
turns : (e : Bool) (j l y w s : ℕ) → 0 < s
    → within j (y + s) 1 * side e l w s + within j y 1 * side (not e) l w s + (within l (w + s) 1 * side (not e) j y s + within l w 1 * side e j y s) ≤ 1
turns true j l y w s h = turn j l y w s h
turns false j l y w s h = omega (arith, turn l j w y s h)

-- ---- round an edge

-- where an edge is: its axis, and its lower end in the coordinates of that axis
pub record Seat : Type 0 where
  pub axis : Axis
  pub start : ℕ
  pub first : ℕ
  pub second : ℕ

-- the unit square beside the first unit of an edge that ends at it, or the one that begins there: across the next axis, and across the one after
abbrev pub beside_next : Bool → Seat → Area
beside_next ends e = record {
  plane = λ n. within e.first n 1;
  first = side ends e.second;
  second = within e.start;
  first_adds = side_adds ends e.second;
  second_adds = within_adds e.start;
}

abbrev pub beside_last : Bool → Seat → Area
beside_last ends e = record {
  plane = λ n. within e.second n 1;
  first = within e.start;
  second = side ends e.first;
  first_adds = within_adds e.start;
  second_adds = side_adds ends e.first;
}

-- Steps that meet a point at this edge are drawn only in the small face that holds the unit square beside the edge's first unit: on the one side
-- of it as seen from below (s), on the other as seen from above (t). Q: the squares that are sides of cells; r: which side.
pub record Beside (Q : Axis → ℕ → ℕ → ℕ → ℕ → Type 0) (s t : Axis → At ℕ) (r : Bool) (e : Seat) : Type 0 where
  pub own : (k n u v : ℕ) → Q e.axis k n u v → s e.axis k n u v + t e.axis k n u v ≤ 0
  pub next_low : (k n u v : ℕ) → Q (next e.axis) k n u v → s (next e.axis) k n u v ≤ area (beside_next r e) k n u v
  pub next-high : (k n u v : ℕ) → Q (next e.axis) k n u v → t (next e.axis) k n u v ≤ area (beside_next (not r) e) k n u v
  pub last_low : (k n u v : ℕ) → Q (next (next e.axis)) k n u v → s (next (next e.axis)) k n u v ≤ area (beside_last (not r) e) k n u v
  pub last_high : (k n u v : ℕ) → Q (next (next e.axis)) k n u v → t (next (next e.axis)) k n u v ≤ area (beside_last r e) k n u v

-- a product of indicators
scale : (A P Q R S p q r s : ℕ) → A ≤ 1 → P * p + Q * q + (R * r + S * s) ≤ 1 → P * (p * A) + Q * (q * A) + (R * (A * r) + S * (A * s)) ≤ 1
scale A P Q R S p q r s h h' = omega (arith, mul-le-mul_left A h')

pub seen_from : (d : Axis → At Bool) (s t : Axis → At ℕ) (a : Axis) (k n u v : ℕ)
    → seen d s t k (place a n u v) ≡ views d s t k a n u v + views d s t k (next a) u v n + views d s t k (next (next a)) v n u
unfolding seen
seen_from d s t X k n u v = omega arith
seen_from d s t Y k n u v = omega arith
seen_from d s t Z k n u v = omega arith

-- which of the unit squares beside the first unit of an edge lie on the four sides along the edge of the cell of level k at x y w
unfoldable besides : Bool → Seat → At ℕ
unfolding area
besides r e k x y w =
    area (beside_next r e) k (y + 2 ^ k) w x + area (beside_next (not r) e) k y w x
    + (area (beside_last (not r) e) k (w + 2 ^ k) x y + area (beside_last r e) k w x y)

-- at most one of them
besides_one : (r : Bool) (e : Seat) (k x y w : ℕ) → besides r e k x y w ≤ 1
unfolding besides
besides_one r e k x y w =
    let m = 2 ^ k in
    let j = e.first in
    let l = e.second in
    scale (within e.start x m) (within j (y + m) 1) (within j y 1) (within l (w + m) 1) (within l w 1)
    (side r l w m) (side (not r) l w m) (side (not r) j y m) (side r j y m) (within-one e.start x m) (turns r j l y w m (pow_pos k))

-- the first unit of an edge lies in the cell of level k at x y w or on its surface
abbrev pub Near : Seat → ℕ → ℕ → ℕ → ℕ → Type 0
Near e k x y w = (x ≤ e.start) × (e.start < x + 2 ^ k) × (y ≤ e.first) × (e.first ≤ y + 2 ^ k) × (w ≤ e.second) × (e.second ≤ w + 2 ^ k)

-- the factors of a product that is not 0
factors : (a b c : ℕ) → 1 ≤ a * (b * c) → (1 ≤ a) × (1 ≤ b) × (1 ≤ c)
factors zero b c h = absurd (omega arith)
factors (suc a) zero c h = absurd (omega arith)
factors (suc a) (suc b) zero h = absurd (omega arith)
factors (suc a) (suc b) (suc c) h = (omega arith, omega arith, omega arith)

-- none of them, unless the first unit is near
besides_near : (r : Bool) (e : Seat) (k x y w : ℕ) → 1 ≤ besides r e k x y w → Near e k x y w
unfolding besides
besides_near r e k x y w h =
    let m = 2 ^ k in
    let j = e.first in
    let l = e.second in
    let A = within e.start x m in
    let start : (a u : ℕ) → within a u 1 ≤ within a u (suc m) = λ a u. within-sub a u 1 u (suc m) (omega arith) (omega (arith, pow_pos k)) in
    let end : (a u : ℕ) → within a (u + m) 1 ≤ within a u (suc m) = λ a u. within-sub a (u + m) 1 u (suc m) (omega arith) (omega arith) in
    let all : 1 ≤ A * (within j y (suc m) * within l w (suc m)) = omega (
      arith,
      mul-le-mul (end j y) (mul-le-mul_right A (side_sub r l w m)),
      mul-le-mul (start j y) (mul-le-mul_right A (side_sub (not r) l w m)),
      mul-le-mul (end l w) (mul-le-mul_left A (side_sub (not r) j y m)),
      mul-le-mul (start l w) (mul-le-mul_left A (side_sub r j y m)),
    ) in
    let (own, first, second) = factors A (within j y (suc m)) (within l w (suc m)) all in
    let (a, b) = within→ e.start x m own in
    let (c, d) = within→ j y (suc m) first in
    let (f, g) = within→ l w (suc m) second in
    (a, b, c, omega arith, f, omega arith)

-- how an axis stands to another
pub data Which (a b : Axis) : Type 0 where
  same : b ≡ a → Which a b
  first : b ≡ next a → Which a b
  second : b ≡ next (next a) → Which a b

pub which : (a b : Axis) → Which a b
which X X = same refl
which X Y = first refl
which X Z = second refl
which Y X = second refl
which Y Y = same refl
which Y Z = first refl
which Z X = first refl
which Z Y = second refl
which Z Z = same refl

-- the edge does not lie in the plane n of axis b
abbrev pub Off : Seat → Axis → ℕ → Type 0
Off e b n = (b ≡ next e.axis → e.first ≢ n) × (b ≡ next (next e.axis) → e.second ≢ n)

module _ (d : Axis → At Bool) (Q : Axis → ℕ → ℕ → ℕ → ℕ → Type 0) (keep : (a : Axis) → Kept (d a) (Q a)) where
  -- both sides of a cell along an axis
  abbrev pub Sides : Axis → ℕ → ℕ → ℕ → ℕ → Type 0
  Sides a k n u v = Q a k n u v × Q a k (n + 2 ^ k) u v

  module _ (s t : Axis → At ℕ) (r : Bool) (e : Seat) (c : Beside Q s t r e) where
    -- on a square that crosses the edge's own axis none is seen
    pub none_own : (k n u v : ℕ) → Q e.axis k n u v → (total (d e.axis) (s e.axis) k n u v ≡ 0) × (total (d e.axis) (t e.axis) k n u v ≡ 0)
    none_own k n u v q =
        let a : Axis = e.axis in
        let z = total_none (d a) k n u v in (
          omega (arith, total_le (d a) (Q a) (keep a) (s a) (λ k n u v. 0) (λ k n u v q. omega (arith, c.own k n u v q)) k n u v q),
          omega (arith, total_le (d a) (Q a) (keep a) (t a) (λ k n u v. 0) (λ k n u v q. omega (arith, c.own k n u v q)) k n u v q),
        )

    -- what the surface of a cell shows of such steps is no more than the unit squares on it beside the edge
    bounded : (k x y w : ℕ) → Sides e.axis k x y w → Sides (next e.axis) k y w x → Sides (next (next e.axis)) k w x y
        → seen d s t k (place e.axis x y w) ≤ besides r e k x y w
    unfolding besides
    bounded k x y w qa qb qc =
        let b : Axis = next e.axis in
        let g : Axis = next b in
        let m = 2 ^ k in
        let z1 = (none_own k (x + m) y w qa.1).0 in
        let z2 = (none_own k x y w qa.0).1 in
        let b1 = at_most (d b) (Q b) (keep b) (s b) (beside_next r e) c.next_low k (y + m) w x qb.1 in
        let b2 = at_most (d b) (Q b) (keep b) (t b) (beside_next (not r) e) c.next-high k y w x qb.0 in
        let c1 = at_most (d g) (Q g) (keep g) (s g) (beside_last (not r) e) c.last_low k (w + m) x y qc.1 in
        let c2 = at_most (d g) (Q g) (keep g) (t g) (beside_last r e) c.last_high k w x y qc.0 in
        rw (seen_from d s t e.axis k x y w) (omega arith)

    -- on the surface of any cell at most one such step is seen
    pub once : (k x y w : ℕ) → Sides e.axis k x y w → Sides (next e.axis) k y w x → Sides (next (next e.axis)) k w x y
        → seen d s t k (place e.axis x y w) ≤ 1
    once k x y w qa qb qc = omega (arith, bounded k x y w qa qb qc, besides_one r e k x y w)

    -- and only where the edge's first unit lies in the cell or on its surface
    pub near : (k x y w : ℕ) → Sides e.axis k x y w → Sides (next e.axis) k y w x → Sides (next (next e.axis)) k w x y
        → 1 ≤ seen d s t k (place e.axis x y w) → Near e k x y w
    near k x y w qa qb qc h = besides_near r e k x y w (omega (arith, bounded k x y w qa qb qc))

    -- on a square in whose plane the edge does not lie none is seen
    off_next : (k n u v : ℕ) → Q (next e.axis) k n u v → e.first ≢ n → total (d (next e.axis)) (s (next e.axis)) k n u v ≡ 0
    unfolding area
    off_next k n u v q h =
        let b : Axis = next e.axis in
        let m = at_most (d b) (Q b) (keep b) (s b) (beside_next r e) c.next_low k n u v q in
        omega (arith, rw (within_off e.first n h) at m)

    off_last : (k n u v : ℕ) → Q (next (next e.axis)) k n u v → e.second ≢ n → total (d (next (next e.axis))) (s (next (next e.axis))) k n u v ≡ 0
    unfolding area
    off_last k n u v q h =
        let b : Axis = next (next e.axis) in
        let m = at_most (d b) (Q b) (keep b) (s b) (beside_last (not r) e) c.last_low k n u v q in
        omega (arith, rw (within_off e.second n h) at m)

    pub off : (b : Axis) (k n u v : ℕ) → Q b k n u v → Off e b n → total (d b) (s b) k n u v ≡ 0
    off b k n u v q h = go (which e.axis b)
      where
        moved : (b' : Axis) → b ≡ b' → (Q b' k n u v → total (d b') (s b') k n u v ≡ 0) → total (d b) (s b) k n u v ≡ 0
        moved b' p f = subst (λ x. total (d x) (s x) k n u v ≡ 0) (sym p) (f (subst (λ x. Q x k n u v) p q))

        go : Which e.axis b → total (d b) (s b) k n u v ≡ 0
        go (same p) = moved e.axis p (λ q. (none_own k n u v q).0)
        go (first p) = moved (next e.axis) p (λ q. off_next k n u v q (h.0 p))
        go (second p) = moved (next (next e.axis)) p (λ q. off_last k n u v q (h.1 p))
