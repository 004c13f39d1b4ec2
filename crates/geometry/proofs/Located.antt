-- A point lies on one undivided edge; so it is left at most once and entered at most once on the surface of a cell, only of a cell near that edge, and
-- only on sides in whose plane that edge lies.
use Prim.Native.Nat.{ℕ, suc, ◌+◌, ◌*◌, ◌^◌, ◌≤◌, ◌<◌}
use native.Mathlib.Nat.{mul-le-mul_left}
use native.Mathlib.Omega.{arith}
use lib.Pow.{pow_pos}
use mathlib.Core.Path.{◌≡◌, refl, sym, ◌∙◌, ap, subst}
use mathlib.Core.Logic.{◌⊎◌, inl, inr}
use mathlib.Core.Bool.{Bool, true, false, not, not-not}
use lib.Dec.{T, eqb, eqb→eq}
use lib.ListN.{length}
use Rattle.base.specs.Lists.{bit}
use Rattle.base.specs.Grid.{Place, Axis, X, Y, Z, next, along, axis_number}
use Rattle.rules.specs.Survey.{Survey}
use Rattle.rules.specs.Edges.{CellEdge, upper_end, point_edges}
use Rattle.rules.specs.Steps.{edge_of}
use Rattle.base.proofs.Tests.{below}
use Rattle.octree.specs.Lawful.{is_cell, Lawful}
use Rattle.geometry.proofs.Grid.{At, place, move-across, turn-first, turn-second, along-across, along-first, along-second, place_of, total, views, seen}
use Rattle.geometry.proofs.Face.{rises}
use Rattle.geometry.proofs.Square.{point_at, fore, back, drawn, left_is, entered-is}
use Rattle.geometry.proofs.Area.{within, within⁺, within_in, within-sub, area, side, Kept}
use Rattle.geometry.proofs.Once.{Seat, beside_next, beside_last, Beside, once, Near, near, Off, off, none_own}
use Rattle.geometry.proofs.Sides.{EdgeAt, Flank, parted, flank_kept, side_edges}
use Rattle.geometry.proofs.Small.{shown}
use Rattle.geometry.proofs.Trees.{differ, odd_is}
use Rattle.geometry.proofs.Points.{odd_at, point_on, point_below}

next_three : (a : Axis) → next (next (next a)) ≡ a
next_three X = refl
next_three Y = refl
next_three Z = refl

pub not_first : (a : Axis) → next a ≡ a → ⊥
not_first a p = apart a (ap axis_number p)
  where
    apart : (a : Axis) → axis_number (next a) ≡ axis_number a → ⊥
    apart X h = omega arith
    apart Y h = omega arith
    apart Z h = omega arith

pub not-second : (a : Axis) → next (next a) ≡ a → ⊥
not-second a p = not_first a (sym (ap next p) ∙ next_three a)

-- 1 at the number v
abbrev pub hits : ℕ → ℕ → ℕ
hits v x = bit (eqb v x)

rises_bound : (lo hi x : Bool) (B : ℕ) → (lo ≡ false → hi ≡ true → T x → 1 ≤ B) → bit (rises lo hi) * bit x ≤ B
rises_bound true hi x B h = omega arith
rises_bound false true true B h = omega (arith, h refl refl tt)
rises_bound false true false B h = omega arith
rises_bound false false x B h = omega arith

-- an end of an interval lies in the interval, counted from its end or from its start
end_side : (e : Bool) (a u s : ℕ) → 0 < s → bit e * within a (u + s) 1 + bit (not e) * within a u 1 ≤ side e a u s
unfolding within⁺
end_side true a u s h = omega (arith, within-sub a (u + s) 1 (suc u) s (omega arith) (omega arith))
end_side false a u s h = omega (arith, within-sub a u 1 u s (omega arith) (omega arith))

end_other : (e : Bool) (a u s : ℕ) → 0 < s → bit (not e) * within a (u + s) 1 + bit e * within a u 1 ≤ side (not e) a u s
end_other true a u s h = end_side false a u s h
end_other false a u s h = end_side true a u s h

-- factors of a bound
gather : (A J D D' U U' S x y : ℕ) → x ≤ D * (A * (J * U)) → y ≤ D' * (A * (J * U')) → D * U + D' * U' ≤ S → x + y ≤ J * (S * A)
gather A J D D' U U' S x y hx hy h = omega (arith, mul-le-mul_left (A * J) h)

gather' : (A L D D' U U' S x y : ℕ) → x ≤ D * (A * (U * L)) → y ≤ D' * (A * (U' * L)) → D * U + D' * U' ≤ S → x + y ≤ L * (A * S)
gather' A L D D' U U' S x y hx hy h = omega (arith, mul-le-mul_left (A * L) h)

-- where an edge of the rules is
abbrev pub seat_of : CellEdge → Seat
seat_of e = record {
  axis = e.axis;
  start = along e.axis e.low;
  first = along (next e.axis) e.low;
  second = along (next (next e.axis)) e.low;
}

-- the first unit of an edge lies in the cell of level k at c or on its surface
abbrev pub NearCell : Seat → ℕ → Place → Type 0
NearCell e k c = Near e k (along e.axis c) (along (next e.axis) c) (along (next (next e.axis)) c)

-- an edge does not lie in the plane n of axis b
abbrev pub OffPlane : CellEdge → Axis → ℕ → Type 0
OffPlane e b n = Off (seat_of e) b n

module _ (s : Survey) where
  -- All odd edges whose point is v run along the axis of this edge, go from dry to wet just if r says so, and hold its first unit.
  abbrev pub Located : ℕ → Bool → Seat → Type 0
  Located v r e = (b : Axis) (r' : Bool) (k i j l : ℕ) → EdgeAt s.cells b k i j l → s.is_wet (place b i j l) ≡ not r'
      → s.is_wet (place b (i + 2 ^ k) j l) ≡ r' → v ≡ point_at s b k i j l
      → (b ≡ e.axis) × (r' ≡ r) × (i ≤ e.start) × (e.start < i + 2 ^ k) × (e.first ≡ j) × (e.second ≡ l)

  -- the steps that leave v, and those that enter it
  abbrev pub left : ℕ → Axis → At ℕ
  left v = drawn s (λ t. hits v t.0)

  abbrev pub entered : ℕ → Axis → At ℕ
  entered v = drawn s (λ t. hits v t.1)

  module _ (v : ℕ) (r : Bool) (e : Seat) (at-v : Located v r e) where
    abbrev a : Axis
    a = e.axis

    -- an edge along the same axis holds the first unit, as a number
    abbrev on : ℕ → ℕ → ℕ → ℕ → ℕ
    on k i j l = within e.start i (2 ^ k) * (within e.first j 1 * within e.second l 1)

    on_one : (k i j l : ℕ) → i ≤ e.start → e.start < i + 2 ^ k → e.first ≡ j → e.second ≡ l → on k i j l ≡ 1
    on_one k i j l f h p q =
        rw (within_in e.start i (2 ^ k) f h, within_in e.first j 1 (omega arith) (omega arith), within_in e.second l 1 (omega arith) (omega arith))

    fore_bound : (k i j l : ℕ) → EdgeAt s.cells a k i j l → fore s (hits v) a k i j l ≤ bit r * on k i j l
    unfolding fore
    fore_bound k i j l c =
        rises_bound (s.is_wet (place a i j l)) (s.is_wet (place a (i + 2 ^ k) j l)) (eqb v (point_at s a k i j l)) (bit r * on k i j l)
        (λ lo hi t. let (_, r, f, h, p, q) = at-v a true k i j l c lo hi (eqb→eq v (point_at s a k i j l) t) in rw (← r, on_one k i j l f h p q) (omega arith))

    back_bound : (k i j l : ℕ) → EdgeAt s.cells a k i j l → back s (hits v) a k i j l ≤ bit (not r) * on k i j l
    unfolding back
    back_bound k i j l c =
        rises_bound (s.is_wet (place a (i + 2 ^ k) j l)) (s.is_wet (place a i j l)) (eqb v (point_at s a k i j l)) (bit (not r) * on k i j l)
        (λ hi lo t. let (_, r, f, h, p, q) = at-v a false k i j l c lo hi (eqb→eq v (point_at s a k i j l) t) in rw (← r, on_one k i j l f h p q) (omega arith))

    other_none : (b : Axis) → (b ≡ a → ⊥) → (k i j l : ℕ) → EdgeAt s.cells b k i j l → fore s (hits v) b k i j l + back s (hits v) b k i j l ≤ 0
    unfolding fore back
    other_none b n k i j l c =
        omega (
          arith,
          rises_bound (s.is_wet (place b i j l)) (s.is_wet (place b (i + 2 ^ k) j l)) (eqb v (point_at s b k i j l)) 0
              (λ lo hi t. absurd (n (at-v b true k i j l c lo hi (eqb→eq v (point_at s b k i j l) t)).0)),
          rises_bound (s.is_wet (place b (i + 2 ^ k) j l)) (s.is_wet (place b i j l)) (eqb v (point_at s b k i j l)) 0
              (λ hi lo t. absurd (n (at-v b false k i j l c lo hi (eqb→eq v (point_at s b k i j l) t)).0)),
        )

    first-none : (k i j l : ℕ) → EdgeAt s.cells (next a) k i j l → fore s (hits v) (next a) k i j l + back s (hits v) (next a) k i j l ≤ 0
    first-none = other_none (next a) (not_first a)

    second_none : (k i j l : ℕ) → EdgeAt s.cells (next (next a)) k i j l
        → fore s (hits v) (next (next a)) k i j l + back s (hits v) (next (next a)) k i j l ≤ 0
    second_none = other_none (next (next a)) (not-second a)

    -- an edge along the axis three further on, and one further than that
    here : (k i j l : ℕ) → EdgeAt s.cells (next (next (next a))) k i j l → EdgeAt s.cells a k i j l
    here k i j l c = subst (λ b. EdgeAt s.cells b k i j l) (next_three a) c

    there : (k i j l : ℕ) → EdgeAt s.cells (next (next (next (next a)))) k i j l → EdgeAt s.cells (next a) k i j l
    there k i j l c = subst (λ b. EdgeAt s.cells (next b) k i j l) (next_three a) c

    -- on squares across the next axis, the edge is at the right or the left; across the one after, at the bottom or the top
    next_bounds : (k n x y : ℕ) → Flank s.cells (next a) k n x y
        → (left v (next a) k n x y ≤ area (beside_next r e) k n x y) × (entered v (next a) k n x y ≤ area (beside_next (not r) e) k n x y)
    unfolding area
    next_bounds k n x y q =
        let c = side_edges s.cells (next a) k n x y q in
        let right = here k y n (x + 2 ^ k) c.right in
        let left = here k y n x c.left in
        let l = e.second in
        let by = gather (within e.start y (2 ^ k)) (within e.first n 1) in
        rw (left_is s (hits v) (next a) k n x y, entered-is s (hits v) (next a) k n x y, next_three a)
        (omega (
          arith,
          second_none k x y n c.bottom,
          second_none k x (y + 2 ^ k) n c.top,
          by (bit r) (bit (not r)) (within l (x + 2 ^ k) 1) (within l x 1) (side r l x (2 ^ k)) _ _
              (fore_bound k y n (x + 2 ^ k) right) (back_bound k y n x left) (end_side r l x (2 ^ k) (pow_pos k)),
          by (bit (not r)) (bit r) (within l (x + 2 ^ k) 1) (within l x 1) (side (not r) l x (2 ^ k)) _ _
              (back_bound k y n (x + 2 ^ k) right) (fore_bound k y n x left) (end_other r l x (2 ^ k) (pow_pos k)),
        ))

    last_bounds : (k n x y : ℕ) → Flank s.cells (next (next a)) k n x y
        → (left v (next (next a)) k n x y ≤ area (beside_last (not r) e) k n x y) × (entered v (next (next a)) k n x y ≤ area (beside_last r e) k n x y)
    unfolding area
    last_bounds k n x y q =
        let c = side_edges s.cells (next (next a)) k n x y q in
        let top = here k x (y + 2 ^ k) n c.top in
        let bottom = here k x y n c.bottom in
        let j = e.first in
        let by = gather' (within e.start x (2 ^ k)) (within e.second n 1) in
        rw (left_is s (hits v) (next (next a)) k n x y, entered-is s (hits v) (next (next a)) k n x y, next_three a)
        (omega (
          arith,
          first-none k y n (x + 2 ^ k) (there k y n (x + 2 ^ k) c.right),
          first-none k y n x (there k y n x c.left),
          by (bit (not r)) (bit r) (within j (y + 2 ^ k) 1) (within j y 1) (side (not r) j y (2 ^ k)) _ _
              (back_bound k x (y + 2 ^ k) n top) (fore_bound k x y n bottom) (end_other r j y (2 ^ k) (pow_pos k)),
          by (bit r) (bit (not r)) (within j (y + 2 ^ k) 1) (within j y 1) (side r j y (2 ^ k)) _ _
              (fore_bound k x (y + 2 ^ k) n top) (back_bound k x y n bottom) (end_side r j y (2 ^ k) (pow_pos k)),
        ))

    own_bound : (k n x y : ℕ) → Flank s.cells a k n x y → left v a k n x y + entered v a k n x y ≤ 0
    own_bound k n x y q =
        let c = side_edges s.cells a k n x y q in
        rw (left_is s (hits v) a k n x y, entered-is s (hits v) a k n x y)
        (omega (
          arith,
          first-none k x y n c.bottom,
          second_none k y n (x + 2 ^ k) c.right,
          first-none k x (y + 2 ^ k) n c.top,
          second_none k y n x c.left,
        ))

    -- the steps that leave the point, and those that enter it, are drawn only beside its edge
    left_beside : Beside (Flank s.cells) (left v) (entered v) r e
    left_beside = record {
      own = own_bound;
      next_low = λ k n x y q. (next_bounds k n x y q).0;
      next-high = λ k n x y q. (next_bounds k n x y q).1;
      last_low = λ k n x y q. (last_bounds k n x y q).0;
      last_high = λ k n x y q. (last_bounds k n x y q).1;
    }

    entered_beside : Beside (Flank s.cells) (entered v) (left v) (not r) e
    entered_beside = record {
      own = λ k n x y q. omega (arith, own_bound k n x y q);
      next_low = λ k n x y q. (next_bounds k n x y q).1;
      next-high = λ k n x y q. rw (not-not r) (next_bounds k n x y q).0;
      last_low = λ k n x y q. rw (not-not r) (last_bounds k n x y q).1;
      last_high = λ k n x y q. (last_bounds k n x y q).0;
    }

module _ (s : Survey) (law : Lawful s) where
  ends-odd : (b : Axis) (r : Bool) (k i j l : ℕ) → s.is_wet (place b i j l) ≡ not r → s.is_wet (place b (i + 2 ^ k) j l) ≡ r
      → odd_is s b k (place b i j l) ≡ true
  ends-odd b r k i j l lo hi = odd_at s b k i j l ∙ rw (lo, hi) (go r)
    where
      go : (r : Bool) → differ (not r) r ≡ true
      go true = refl
      go false = refl

  -- a number that no point has is at no edge
  no_point : (v : ℕ) → length (point_edges s) ≤ v → (e : Seat) → Located s v true e
  no_point v h e b r k i j l c lo hi p = absurd (omega (arith, point_below s law b k i j l c (ends-odd b r k i j l lo hi)))

  -- point v is at the edge of its number
  located : (v : ℕ) → Located s v (s.is_wet (upper_end (edge_of s v))) (seat_of (edge_of s v))
  located v b r k i j l c lo hi p =
      let e = edge_of s v in
      let h = point_on s law v b k i j l c (ends-odd b r k i j l lo hi) p in
      rw h.axis (
        refl,
        sym hi ∙ ap s.is_wet (sym (move-across b (2 ^ k) i j l)) ∙ sym h.high,
        omega (arith, h.from, along-across b i j l),
        omega (arith, h.to, along-across b i j l, pow_pos e.level),
        h.first ∙ along-first b i j l,
        h.second ∙ along-second b i j l,
      )

  beside_left : (v : ℕ) → Beside (Flank s.cells) (left s v) (entered s v) (s.is_wet (upper_end (edge_of s v))) (seat_of (edge_of s v))
  beside_left v = left_beside s v (s.is_wet (upper_end (edge_of s v))) (seat_of (edge_of s v)) (located v)

  beside_entered : (v : ℕ) → Beside (Flank s.cells) (entered s v) (left s v) (not (s.is_wet (upper_end (edge_of s v)))) (seat_of (edge_of s v))
  beside_entered v = entered_beside s v (s.is_wet (upper_end (edge_of s v))) (seat_of (edge_of s v)) (located v)

  kept : (a : Axis) → Kept (parted s.cells a) (Flank s.cells a)
  kept = flank_kept s.cells law.octree

  abbrev flanks : (a : Axis) (k n u v : ℕ) → T (is_cell s.cells k (place a n u v)) → Flank s.cells a k n u v × Flank s.cells a k (n + 2 ^ k) u v
  flanks a k n u v c = ((n, inl refl, c), (n, inr refl, c))

  -- at most one such step is seen on a cell, and only on one that is near the edge
  cell_sees : (p q : Axis → At ℕ) (r : Bool) (e : Seat) → Beside (Flank s.cells) p q r e → (k : ℕ) (c : Place) → T (is_cell s.cells k c)
      → (seen (parted s.cells) p q k c ≤ 1) × (1 ≤ seen (parted s.cells) p q k c → NearCell e k c)
  cell_sees p q r e b k c t =
      let a = e.axis in
      let x = along a c in
      let y = along (next a) c in
      let z = along (next (next a)) c in
      let t0 : T (is_cell s.cells k (place a x y z)) = subst (λ d. T (is_cell s.cells k d)) (sym (place_of a c)) t in
      let t1 = flanks a k x y z t0 in
      let t2 = flanks (next a) k y z x (subst (λ d. T (is_cell s.cells k d)) (turn-first a x y z) t0) in
      let t3 = flanks (next (next a)) k z x y (subst (λ d. T (is_cell s.cells k d)) (turn-second a x y z) t0) in
      subst (λ d. (seen (parted s.cells) p q k d ≤ 1) × (1 ≤ seen (parted s.cells) p q k d → NearCell e k c)) (place_of a c)
      (once (parted s.cells) (Flank s.cells) kept p q r e b k x y z t1 t2 t3, near (parted s.cells) (Flank s.cells) kept p q r e b k x y z t1 t2 t3)

  -- of the steps that leave point v, and of those that enter it
  left_sees : (v k : ℕ) (c : Place) → T (is_cell s.cells k c)
      → (shown s (λ t. hits v t.0) k c ≤ 1) × (1 ≤ shown s (λ t. hits v t.0) k c → NearCell (seat_of (edge_of s v)) k c)
  unfolding shown
  left_sees v = cell_sees (left s v) (entered s v) _ _ (beside_left v)

  entered_sees : (v k : ℕ) (c : Place) → T (is_cell s.cells k c)
      → (shown s (λ t. hits v t.1) k c ≤ 1) × (1 ≤ shown s (λ t. hits v t.1) k c → NearCell (seat_of (edge_of s v)) k c)
  unfolding shown
  entered_sees v = cell_sees (entered s v) (left s v) _ _ (beside_entered v)

  pub left-once : (v k : ℕ) (c : Place) → T (is_cell s.cells k c) → shown s (λ t. hits v t.0) k c ≤ 1
  left-once v k c t = (left_sees v k c t).0

  pub entered-once : (v k : ℕ) (c : Place) → T (is_cell s.cells k c) → shown s (λ t. hits v t.1) k c ≤ 1
  entered-once v k c t = (entered_sees v k c t).0

  -- a cell on which a step meets point v is near the edge of v
  pub step_near : (v k : ℕ) (c : Place) → T (is_cell s.cells k c) → 1 ≤ shown s (λ t. hits v t.0) k c + shown s (λ t. hits v t.1) k c
      → NearCell (seat_of (edge_of s v)) k c
  step_near v k c t h = go (below 0 (shown s (λ t. hits v t.0) k c))
    where
      go : (0 < shown s (λ t. hits v t.0) k c) ⊎ (shown s (λ t. hits v t.0) k c ≤ 0) → NearCell (seat_of (edge_of s v)) k c
      go (inl i) = (left_sees v k c t).1 i
      go (inr i) = (entered_sees v k c t).1 (omega arith)

  -- on a side in whose plane the edge of point v does not lie, no step meets v
  pub left_off : (v : ℕ) (b : Axis) (k n x y : ℕ) → Flank s.cells b k n x y → OffPlane (edge_of s v) b n
      → total (parted s.cells b) (left s v b) k n x y ≡ 0
  left_off v = off (parted s.cells) (Flank s.cells) kept (left s v) (entered s v) _ _ (beside_left v)

  pub entered_off : (v : ℕ) (b : Axis) (k n x y : ℕ) → Flank s.cells b k n x y → OffPlane (edge_of s v) b n
      → total (parted s.cells b) (entered s v b) k n x y ≡ 0
  entered_off v = off (parted s.cells) (Flank s.cells) kept (entered s v) (left s v) _ _ (beside_entered v)

  -- a number that no point has is on no step of a cell
  no_view : (v : ℕ) → length (point_edges s) ≤ v → (b : Axis) (k n x y : ℕ) → T (is_cell s.cells k (place b n x y))
      → (views (parted s.cells) (left s v) (entered s v) k b n x y ≡ 0) × (views (parted s.cells) (entered s v) (left s v) k b n x y ≡ 0)
  no_view v h b k n x y c =
      let seat : Seat = record { axis = b; start = 0; first = 0; second = 0 } in
      let beside = left_beside s v true seat (no_point v h seat) in
      let none : (m : ℕ) → Flank s.cells b k m x y
      → (total (parted s.cells b) (left s v b) k m x y ≡ 0) × (total (parted s.cells b) (entered s v b) k m x y ≡ 0) =
      λ m q. none_own (parted s.cells) (Flank s.cells) kept (left s v) (entered s v) true seat beside k m x y q in
      let lower = none n (flanks b k n x y c).0 in
      let upper = none (n + 2 ^ k) (flanks b k n x y c).1 in
      (omega (arith, lower.1, upper.0), omega (arith, lower.0, upper.1))

  pub none_shown : (v : ℕ) → length (point_edges s) ≤ v → (k : ℕ) (c : Place) → T (is_cell s.cells k c)
      → (shown s (λ t. hits v t.0) k c ≡ 0) × (shown s (λ t. hits v t.1) k c ≡ 0)
  unfolding shown seen
  none_shown v h k c t =
      let x = no_view v h X k c.x c.y c.z t in
      let y = no_view v h Y k c.y c.z c.x t in
      let z = no_view v h Z k c.z c.x c.y t in
      (omega (arith, x.0, y.0, z.0), omega (arith, x.1, y.1, z.1))
