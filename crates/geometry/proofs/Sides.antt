-- The sides of an octree's cells: which squares are divided, that the quarters of a divided one are sides again, and that their edges are edges
-- of cells.
use Prim.Native.Nat.{ℕ, suc, ◌+◌, ◌^◌}
use native.Mathlib.Omega.{arith}
use mathlib.Core.Path.{◌≡◌, refl, sym, ◌∙◌, ap, subst, fun_ext}
use mathlib.Core.Logic.{◌⊎◌, inl, inr}
use mathlib.Core.Bool.{Bool, true, false, ◌&&◌, ◌||◌}
use mathlib.Core.List.{List}
use lib.Dec.{T, eqb, eqb→eq}
use Rattle.base.specs.Lists.{any}
use Rattle.base.specs.Grid.{Place, Axis, X, Y, Z, next, along, move, same}
use Rattle.rules.specs.Survey.{Cell}
use Rattle.rules.specs.Edges.{is_edge}
use Rattle.rules.specs.Steps.{upper_side, lower_side, split_across}
use Rattle.base.proofs.Tests.{and→, or→, or_left, or_right, true→, →true, not_both, tests_equal, eq→eqb}
use Rattle.base.proofs.Lists.{any→in}
use Rattle.base.proofs.Places.{every_axis, same→, along-put}
use Rattle.octree.specs.Lawful.{is_cell, is_split, CornerOf, Octree}
use Rattle.octree.proofs.Cells.{split-cell}
use Rattle.octree.proofs.Edges.{edge→, →edge}
use Rattle.geometry.proofs.Grid.{At, place, half, turn-first, turn-second, along-across, along-first, along-second, place_of, Ends, half_ends}
use Rattle.geometry.proofs.Closed.{Edges}
use Rattle.geometry.proofs.Area.{Kept}

eqb_plus : (m n s : ℕ) → eqb (m + s) (n + s) ≡ eqb m n
eqb_plus m n s =
    tests_equal (eqb (m + s) (n + s)) (eqb m n) (λ t. eq→eqb m n (omega (arith, eqb→eq (m + s) (n + s) t)))
    (λ t. eq→eqb (m + s) (n + s) (omega (arith, eqb→eq m n t)))

same_up : (a : Axis) (s n u v : ℕ) (q : Place) → same (place a (n + s) u v) (move a s q) ≡ same (place a n u v) q
same_up X s n u v q = ap (λ b. b && (eqb u q.y && eqb v q.z)) (eqb_plus n q.x s)
same_up Y s n u v q = ap (λ b. eqb v q.x && (b && eqb u q.z)) (eqb_plus n q.y s)
same_up Z s n u v q = ap (λ b. eqb u q.x && (eqb v q.y && b)) (eqb_plus n q.z s)

-- a corner of a cell, by coordinates
corner_at : (a : Axis) (k n u v n' u' v' : ℕ) → Ends k n n' → Ends k u u' → Ends k v v' → CornerOf k (place a n u v) (place a n' u' v')
corner_at a k n u v n' u' v' f g h =
    every_axis (λ x. Ends k (along x (place a n u v)) (along x (place a n' u' v'))) a
    (rw (along-across a n' u' v', along-across a n u v) f)
    (rw (along-first a n' u' v', along-first a n u v) g)
    (rw (along-second a n' u' v', along-second a n u v) h)

-- the children of a cell
pub corner_halves : (a : Axis) (k n u v : ℕ) (b q r : Bool) → CornerOf k (place a n u v) (place a (half b k n) (half q k u) (half r k v))
corner_halves a k n u v b q r = corner_at a k n u v (half b k n) (half q k u) (half r k v) (half_ends b k n) (half_ends q k u) (half_ends r k v)

module _ (cells : List Cell) where
  -- the cell over a square is split; the cell under it is
  abbrev pub over : Axis → At Bool
  over a k n u v = any (split_across (upper_side a) (place a n u v) k) cells

  abbrev pub under : Axis → At Bool
  under a k n u v = any (split_across (lower_side a) (place a n u v) k) cells

  -- a square is divided: one of the two cells of its size beside it is split
  unfoldable pub parted : Axis → At Bool
  parted a k n u v = over a k n u v || under a k n u v

  pub over_is : (a : Axis) (k n u v : ℕ) → over a k n u v ≡ is_split cells k (place a n u v)
  unfolding is_split
  over_is a k n u v = refl

  pub under_is : (a : Axis) (k n u v : ℕ) → under a k (n + 2 ^ k) u v ≡ is_split cells k (place a n u v)
  unfolding is_split
  under_is a k n u v =
      ap (λ (f : Cell → Bool). any f cells) (fun_ext (λ c. ap (λ b. c.split && (eqb k c.level && b)) (same_up a (2 ^ k) n u v c.low)))

  under→ : (a : Axis) (k n u v : ℕ) → T (under a k n u v) → (m : ℕ) × (n ≡ m + 2 ^ k) × T (is_split cells k (place a m u v))
  under→ a k n u v t =
      let (c, i, h) = any→in (split_across (lower_side a) (place a n u v) k) cells t in
      let g = and→ (eqb k c.level) (same (place a n u v) (move a (2 ^ k) c.low)) (and→ c.split _ h).1 in
      let p = same→ (place a n u v) (move a (2 ^ k) c.low) g.1 in
      let e : n ≡ along a c.low + 2 ^ k = sym (along-across a n u v) ∙ ap (along a) p ∙ along-put a (along a c.low + 2 ^ k) c.low in
      (along a c.low, e, subst T (ap (λ n. under a k n u v) e ∙ under_is a k (along a c.low) u v) t)

  -- beside a divided square there is a split cell
  parted→ : (a : Axis) (k n u v : ℕ) → parted a k n u v ≡ true → (m : ℕ) × Ends k m n × T (is_split cells k (place a m u v))
  unfolding parted
  parted→ a k n u v e = go (or→ (over a k n u v) (under a k n u v) (→true e))
    where
      go : T (over a k n u v) ⊎ T (under a k n u v) → (m : ℕ) × Ends k m n × T (is_split cells k (place a m u v))
      go (inl t) = (n, inl refl, subst T (over_is a k n u v) t)
      go (inr t) = let (m, p, h) = under→ a k n u v t in (m, inr p, h)

  -- both sides of a split cell are divided
  pub parted_sides : (a : Axis) (k n u v : ℕ) → is_split cells k (place a n u v) ≡ true → (parted a k n u v ≡ true) × (parted a k (n + 2 ^ k) u v ≡ true)
  unfolding parted
  parted_sides a k n u v e = (
    true→ (parted a k n u v) (or_left (over a k n u v) (under a k n u v) (→true (over_is a k n u v ∙ e))),
    true→ (parted a k (n + 2 ^ k) u v) (or_right (over a k (n + 2 ^ k) u v) (under a k (n + 2 ^ k) u v) (→true (under_is a k n u v ∙ e))),
  )

  -- a square that is a side of a cell
  abbrev pub Flank : Axis → ℕ → ℕ → ℕ → ℕ → Type 0
  Flank a k n u v = (m : ℕ) × Ends k m n × T (is_cell cells k (place a m u v))

  -- an edge of a cell
  abbrev pub EdgeAt : Axis → ℕ → ℕ → ℕ → ℕ → Type 0
  EdgeAt b k i j l = is_edge cells b (place b i j l) k ≡ true

  cell-edge : (b : Axis) (k i j l j' l' : ℕ) → T (is_cell cells k (place b i j' l')) → Ends k j' j → Ends k l' l → EdgeAt b k i j l
  cell-edge b k i j l j' l' c f g =
      true→ (is_edge cells b (place b i j l) k) (→edge cells b (place b i j l) k
      (place b i j' l', c, along-across b i j l ∙ sym (along-across b i j' l'), corner_at b k i j' l' i j l (inl refl) f g))

  -- an edge is an edge of a cell
  pub edge-cell : (b : Axis) (k i j l : ℕ) → EdgeAt b k i j l → (j' : ℕ) × (l' : ℕ) × Ends k j' j × Ends k l' l × T (is_cell cells k (place b i j' l'))
  edge-cell b k i j l e =
      let (q, c, p, f) = edge→ cells b (place b i j l) k (→true e) in (
        along (next b) q,
        along (next (next b)) q,
        (rw (along-first b i j l) at (f (next b))),
        (rw (along-second b i j l) at (f (next (next b)))),
        subst (λ r. T (is_cell cells k r))
            (sym (place_of b q) ∙ ap (λ x. place b x (along (next b) q) (along (next (next b)) q)) (sym p ∙ along-across b i j l)) c,
      )

  -- the four edges of a cell's side
  pub side_edges : (a : Axis) (k n u v : ℕ) → Flank a k n u v → Edges EdgeAt a k n u v
  side_edges a k n u v (m, t, c) =
      let first : T (is_cell cells k (place (next a) u v m)) = subst (λ p. T (is_cell cells k p)) (turn-first a m u v) c in
      let second : T (is_cell cells k (place (next (next a)) v m u)) = subst (λ p. T (is_cell cells k p)) (turn-second a m u v) c in
      record {
        bottom = cell-edge (next a) k u v n v m first (inl refl) t;
        right = cell-edge (next (next a)) k v n (u + 2 ^ k) m u second t (inr refl);
        top = cell-edge (next a) k u (v + 2 ^ k) n v m first (inr refl) t;
        left = cell-edge (next (next a)) k v n u m u second t (inl refl);
      }

  module _ (tree : Octree cells) where
    -- a unit square is not divided
    pub parted_unit : (a : Axis) (n u v : ℕ) → parted a 0 n u v ≡ false
    parted_unit a n u v = go (parted a 0 n u v) refl
      where
        go : (b : Bool) → parted a 0 n u v ≡ b → parted a 0 n u v ≡ false
        go false e = e
        go true e = let (m, _, h) = parted→ a 0 n u v e in absurd (not_both h (tree.unit_whole (place a m u v)))

    -- a quarter of a divided square is a side of a child
    pub quarter : (a : Axis) (k n u v : ℕ) → parted a (suc k) n u v ≡ true → (q r : Bool) → Flank a k n (half q k u) (half r k v)
    quarter a k n u v e q r = let (m, t, h) = parted→ a (suc k) n u v e in go m t h
      where
        child : (m : ℕ) → T (is_split cells (suc k) (place a m u v)) → (b : Bool) → T (is_cell cells k (place a (half b k m) (half q k u) (half r k v)))
        child m h b = tree.child k (place a m u v) (place a (half b k m) (half q k u) (half r k v)) h (corner_halves a k m u v b q r)

        go : (m : ℕ) → Ends (suc k) m n → T (is_split cells (suc k) (place a m u v)) → Flank a k n (half q k u) (half r k v)
        go m (inl p) h = (m, inl p, child m h false)
        go m (inr p) h = (m + 2 ^ k, inr (omega arith), child m h true)

    pub flank_kept : (a : Axis) → Kept (parted a) (Flank a)
    flank_kept a k n u v _ e = quarter a k n u v e

    -- a divided square is a side of a split cell
    pub parted_flank : (a : Axis) (k n u v : ℕ) → parted a k n u v ≡ true → Flank a k n u v
    parted_flank a k n u v e = let (m, t, h) = parted→ a k n u v e in (m, t, split-cell cells k (place a m u v) h)
