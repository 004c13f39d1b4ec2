-- The steps of a square by its coordinates, and that they are the face steps of the rules, seen from the cell below or, turned round, from the
-- cell above.
use Prim.Native.Nat.{ℕ, zero, suc, ◌+◌, ◌*◌, ◌-◌, ◌^◌}
use native.Mathlib.Omega.{arith}
use mathlib.Core.Path.{◌≡◌, refl, sym, ◌∙◌, ap}
use mathlib.Core.Bool.{Bool}
use mathlib.Core.List.{List, map}
use Rattle.base.specs.Lists.{sum, bit}
use Rattle.base.specs.Grid.{Place, Axis, next, move}
use Rattle.rules.specs.Survey.{Survey}
use Rattle.rules.specs.Edges.{CellEdge, edge, point_of}
use Rattle.rules.specs.Steps.{Step, upper_side, lower_side, face, face_corner, face_edge, steps, face_steps}
use Rattle.geometry.proofs.Grid.{At, place, move-first, move-second, turn-first, turn-second}
use Rattle.base.proofs.Sums.{sum-map}
use Rattle.geometry.proofs.Face.{rises, leaving, flip, entering}

-- corners and edges of a square, as the cell below it numbers them
abbrev pub square_corner : Axis → ℕ → ℕ → ℕ → ℕ → ℕ → Place
square_corner a k n u v zero = place a n u v
square_corner a k n u v (suc zero) = place a n (u + 2 ^ k) v
square_corner a k n u v (suc (suc zero)) = place a n (u + 2 ^ k) (v + 2 ^ k)
square_corner a k n u v (suc (suc (suc i))) = place a n u (v + 2 ^ k)

abbrev pub square_edge : Axis → ℕ → ℕ → ℕ → ℕ → ℕ → CellEdge
square_edge a k n u v zero = edge (next a) (place (next a) u v n) k
square_edge a k n u v (suc zero) = edge (next (next a)) (place (next (next a)) v n (u + 2 ^ k)) k
square_edge a k n u v (suc (suc zero)) = edge (next a) (place (next a) u (v + 2 ^ k) n) k
square_edge a k n u v (suc (suc (suc i))) = edge (next (next a)) (place (next (next a)) v n u) k

corner_below : (a : Axis) (k n u v i : ℕ) → face_corner (upper_side a) (face (place a n u v) k) i ≡ square_corner a k n u v i
corner_below a k n u v zero = refl
corner_below a k n u v (suc zero) = move-first a (2 ^ k) n u v
corner_below a k n u v (suc (suc zero)) = ap (move (next a) (2 ^ k)) (move-second a (2 ^ k) n u v) ∙ move-first a (2 ^ k) n u (v + 2 ^ k)
corner_below a k n u v (suc (suc (suc i))) = move-second a (2 ^ k) n u v

corner-above : (a : Axis) (k n u v : ℕ) → let c : ℕ → Place = face_corner (lower_side a) (face (place a n u v) k) in
    (c 1 ≡ square_corner a k n u v 3) × (c 2 ≡ square_corner a k n u v 2) × (c 3 ≡ square_corner a k n u v 1)
corner-above a k n u v = (
  move-second a (2 ^ k) n u v,
  ap (move (next (next a)) (2 ^ k)) (move-first a (2 ^ k) n u v) ∙ move-second a (2 ^ k) n (u + 2 ^ k) v,
  move-first a (2 ^ k) n u v,
)

pub edge_below : (a : Axis) (k n u v i : ℕ) → face_edge (upper_side a) (face (place a n u v) k) i ≡ square_edge a k n u v i
edge_below a k n u v zero = ap (λ p. edge (next a) p k) (turn-first a n u v)
edge_below a k n u v (suc zero) = ap (λ p. edge (next (next a)) p k) (move-first a (2 ^ k) n u v ∙ turn-second a n (u + 2 ^ k) v)
edge_below a k n u v (suc (suc zero)) = ap (λ p. edge (next a) p k) (move-second a (2 ^ k) n u v ∙ turn-first a n u (v + 2 ^ k))
edge_below a k n u v (suc (suc (suc i))) = ap (λ p. edge (next (next a)) p k) (turn-second a n u v)

edge-above : (a : Axis) (k n u v i : ℕ) → face_edge (lower_side a) (face (place a n u v) k) (3 - i) ≡ square_edge a k n u v i
edge-above a k n u v zero = ap (λ p. edge (next a) p k) (turn-first a n u v)
edge-above a k n u v (suc zero) = ap (λ p. edge (next (next a)) p k) (move-first a (2 ^ k) n u v ∙ turn-second a n (u + 2 ^ k) v)
edge-above a k n u v (suc (suc zero)) = ap (λ p. edge (next a) p k) (move-second a (2 ^ k) n u v ∙ turn-first a n u (v + 2 ^ k))
edge-above a k n u v (suc (suc (suc i))) =
    let z : 3 - suc (suc (suc i)) ≡ 0 = omega arith in
    ap (face_edge (lower_side a) (face (place a n u v) k)) z ∙ ap (λ p. edge (next (next a)) p k) (turn-second a n u v)

-- the same step the other way
abbrev pub turned : (Step → ℕ) → Step → ℕ
turned f t = f (t.1, t.0)

module _ (s : Survey) where
  -- the number of the point of an edge of axis b, in the coordinates of that axis
  unfoldable pub point_at : Axis → At ℕ
  point_at b k i j l = point_of s (edge b (place b i j l) k)

  -- the number of the point of edge i of a square
  abbrev pub square_point : Axis → ℕ → ℕ → ℕ → ℕ → ℕ → ℕ
  square_point a k n u v i = point_of s (square_edge a k n u v i)

  -- the steps of a square, from edge to edge
  unfoldable pub square_steps : Axis → ℕ → ℕ → ℕ → ℕ → List Step
  square_steps a k n u v =
      let w : ℕ → Bool = λ i. s.is_wet (square_corner a k n u v i) in
      steps (s.saddle a (place a n u v) k) (w 0) (w 1) (w 2) (w 3)

  -- a weight of steps, summed over those of a square as the cell below it sees them
  unfoldable pub drawn : (Step → ℕ) → Axis → At ℕ
  drawn f a k n u v = sum (λ t. f (square_point a k n u v t.0, square_point a k n u v t.1)) (square_steps a k n u v)

  -- the steps of a square by the edges' points and the corners' marks
  abbrev steps_by : (ℕ → ℕ) → (ℕ → Place) → Bool → List Step
  steps_by P c saddle = map (λ t. (P t.0, P t.1)) (steps saddle (s.is_wet (c 0)) (s.is_wet (c 1)) (s.is_wet (c 2)) (s.is_wet (c 3)))

  sum_by : (f : Step → ℕ) (P : ℕ → ℕ) (c : ℕ → Place) (saddle : Bool) → sum f (steps_by P c saddle)
      ≡ sum (λ t. f (P t.0, P t.1)) (steps saddle (s.is_wet (c 0)) (s.is_wet (c 1)) (s.is_wet (c 2)) (s.is_wet (c 3)))
  sum_by f P c saddle =
      sum-map f (λ (t : Step). (P t.0, P t.1)) (steps saddle (s.is_wet (c 0)) (s.is_wet (c 1)) (s.is_wet (c 2)) (s.is_wet (c 3)))

  pub seen_below : (f : Step → ℕ) (a : Axis) (k n u v : ℕ) → sum f (face_steps s (upper_side a) (face (place a n u v) k)) ≡ drawn f a k n u v
  unfolding drawn square_steps face_steps
  seen_below f a k n u v =
      (λ i. sum f (steps_by (λ e. point_of s (edge_below a k n u v e i)) (λ c. corner_below a k n u v c i) (s.saddle a (place a n u v) k)))
      ∙ sum_by f (square_point a k n u v) (square_corner a k n u v) (s.saddle a (place a n u v) k)

  pub seen_above : (f : Step → ℕ) (a : Axis) (k n u v : ℕ) → sum f (face_steps s (lower_side a) (face (place a n u v) k)) ≡ drawn (turned f) a k n u v
  unfolding drawn square_steps face_steps
  seen_above f a k n u v =
      let c = corner-above a k n u v in
      let cut = s.saddle a (place a n u v) k in
      let P : ℕ → ℕ = λ i. point_of s (face_edge (lower_side a) (face (place a n u v) k) i) in
      let w : ℕ → Bool = λ i. s.is_wet (square_corner a k n u v i) in
      sum_by f P (face_corner (lower_side a) (face (place a n u v) k)) cut
      ∙ (λ i. sum (λ (t : Step). f (P t.0, P t.1)) (steps cut (w 0) (s.is_wet (c.0 i)) (s.is_wet (c.1 i)) (s.is_wet (c.2 i))))
      ∙ flip cut (w 0) (w 1) (w 2) (w 3) (λ i j. f (P i, P j))
      ∙ (λ i. sum (λ (t : Step). f (point_of s (edge-above a k n u v t.1 i), point_of s (edge-above a k n u v t.0 i))) (square_steps a k n u v))

  -- what an edge carries: forwards if it goes from dry to wet, backwards if from wet to dry
  unfoldable pub fore : (ℕ → ℕ) → Axis → At ℕ
  fore h b k i j l = bit (rises (s.is_wet (place b i j l)) (s.is_wet (place b (i + 2 ^ k) j l))) * h (point_at b k i j l)

  unfoldable pub back : (ℕ → ℕ) → Axis → At ℕ
  back h b k i j l = bit (rises (s.is_wet (place b (i + 2 ^ k) j l)) (s.is_wet (place b i j l))) * h (point_at b k i j l)

-- round the square against the clock, seen from below: bottom and right forwards, top and left backwards
abbrev pub rim : (P M : Axis → At ℕ) → Axis → At ℕ
rim P M a k n u v = P (next a) k u v n + P (next (next a)) k v n (u + 2 ^ k) + (M (next a) k u (v + 2 ^ k) n + M (next (next a)) k v n u)

module _ (s : Survey) where
  abbrev wet : Axis → ℕ → ℕ → ℕ → Bool
  wet a n u v = s.is_wet (place a n u v)

  -- what the four edges carry by their corners' marks, where r says of two marks in turn whether it counts
  abbrev marked : (Bool → Bool → Bool) → (ℕ → ℕ) → Axis → At ℕ
  marked r h a k n u v =
      let w0 = wet a n u v in
      let w1 = wet a n (u + 2 ^ k) v in
      let w2 = wet a n (u + 2 ^ k) (v + 2 ^ k) in
      let w3 = wet a n u (v + 2 ^ k) in
      bit (r w0 w1) * h (point_at s (next a) k u v n) + bit (r w1 w2) * h (point_at s (next (next a)) k v n (u + 2 ^ k))
      + bit (r w2 w3) * h (point_at s (next a) k u (v + 2 ^ k) n) + bit (r w3 w0) * h (point_at s (next (next a)) k v n u)

  drawn-marked : (h : ℕ → ℕ) (a : Axis) (k n u v : ℕ) → (drawn s (λ t. h t.0) a k n u v ≡ marked rises h a k n u v)
      × (drawn s (λ t. h t.1) a k n u v ≡ marked (λ x y. rises y x) h a k n u v)
  unfolding drawn square_steps point_at
  drawn-marked h a k n u v =
      let cut = s.saddle a (place a n u v) k in
      let w0 = wet a n u v in
      let w1 = wet a n (u + 2 ^ k) v in
      let w2 = wet a n (u + 2 ^ k) (v + 2 ^ k) in
      let w3 = wet a n u (v + 2 ^ k) in
      (leaving cut w0 w1 w2 w3 (λ i. h (square_point s a k n u v i)), entering cut w0 w1 w2 w3 (λ i. h (square_point s a k n u v i)))

  rim_marked : (h : ℕ → ℕ) (a : Axis) (k n u v : ℕ) → (rim (fore s h) (back s h) a k n u v ≡ marked rises h a k n u v)
      × (rim (back s h) (fore s h) a k n u v ≡ marked (λ x y. rises y x) h a k n u v)
  unfolding fore back
  rim_marked h a k n u v =
      rw (
        ← turn-first a n u v,
        ← turn-first a n (u + 2 ^ k) v,
        ← turn-first a n u (v + 2 ^ k),
        ← turn-first a n (u + 2 ^ k) (v + 2 ^ k),
        ← turn-second a n u v,
        ← turn-second a n (u + 2 ^ k) v,
        ← turn-second a n u (v + 2 ^ k),
        ← turn-second a n (u + 2 ^ k) (v + 2 ^ k),
      )
      (omega arith)

  -- what the steps of a square leave is what its four edges carry, and what they enter is what they carry the other way
  pub left_is : (h : ℕ → ℕ) (a : Axis) (k n u v : ℕ) → drawn s (λ t. h t.0) a k n u v ≡ rim (fore s h) (back s h) a k n u v
  left_is h a k n u v = (drawn-marked h a k n u v).0 ∙ sym (rim_marked h a k n u v).0

  pub entered-is : (h : ℕ → ℕ) (a : Axis) (k n u v : ℕ) → drawn s (λ t. h t.1) a k n u v ≡ rim (back s h) (fore s h) a k n u v
  entered-is h a k n u v = (drawn-marked h a k n u v).1 ∙ sym (rim_marked h a k n u v).1
