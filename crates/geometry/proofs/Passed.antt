-- Every point is passed on some leaf: on a leaf that has its edge, the two own sides at the edge are small faces; one step enters the point, one
-- leaves it, and their other ends differ, since a common one would lie in both planes.
use Prim.Native.Nat.{ℕ, zero, suc, ◌+◌, ◌^◌, ◌≤◌, ◌<◌}
use native.Mathlib.Omega.{arith}
use mathlib.Core.Path.{◌≡◌, refl, sym, ◌∙◌, ap, subst}
use mathlib.Core.Logic.{◌⊎◌, inl, inr}
use mathlib.Core.Bool.{Bool, true, false, true≢false}
use lib.Dec.{T}
use lib.ListN.{length}
use Rattle.base.specs.Lists.{sum}
use Rattle.base.specs.Grid.{Place, Axis, X, Y, Z, next, along}
use Rattle.rules.specs.Survey.{Cell, cell, Survey}
use Rattle.rules.specs.Edges.{edge, point_edges, number_of, carrier}
use Rattle.rules.specs.Steps.{Step, leaf_steps, edge_of, twin_of}
use Rattle.rules.specs.Closing.{step}
use Rattle.base.proofs.Lists.{In}
use Rattle.octree.specs.Lawful.{is_cell, is_split, Lawful}
use Rattle.octree.proofs.Points.{Crossed}
use Rattle.geometry.proofs.Interface.{leaves_of, enter, Paired, Passage}
use Rattle.geometry.proofs.Grid.{place, half, far, turn-first, turn-second, along-second, place_of, Ends, half_ends}
use Rattle.geometry.proofs.Square.{turned, point_at, drawn}
use Rattle.geometry.proofs.Closed.{Edges}
use Rattle.geometry.proofs.Once.{seen_from}
use Rattle.geometry.proofs.Sides.{EdgeAt, Flank, parted, parted_sides, parted_unit, quarter, side_edges, edge-cell}
use Rattle.geometry.proofs.Small.{shown, leaf-shows, leaf-cell, cell-leaf}
use Rattle.geometry.proofs.Trees.{edge_is, divided_is, odd_is, divided_half, carrier-undivided}
use Rattle.geometry.proofs.Points.{crossed_parts, pointed, point_on, point-is}
use Rattle.geometry.proofs.Located.{hits, not_first, not-second}
use Rattle.geometry.proofs.Views.{either_pos, hits_pos, hits_same, step_same, Named, weight, weight→, →weight, view, view_named, view_ends, side_shows}
use Rattle.geometry.proofs.Laws.{leaf_paired, leave_is, enter-is, tally_is}

-- ---- a leaf passes a point that two of its squares meet

module _ (s : Survey) (p : ℕ) (c : Cell) (m : In c (leaves_of s)) (leaf : (v : ℕ) → enter (leaf_steps s c) v ≤ 1)
    (one two : (Step → ℕ) → ℕ) (named-one : Named one) (named-two : Named two) (parts : (f : Step → ℕ) → one f + two f ≤ sum f (leaf_steps s c))
    (only : (x : ℕ) → 1 ≤ one (λ t. hits x t.0) + one (λ t. hits x t.1) → 1 ≤ two (λ t. hits x t.0) + two (λ t. hits x t.1) → x ≡ p) where
  -- out by the one, in by the other
  passes : 1 ≤ one (λ t. hits p t.0) → 1 ≤ two (λ t. hits p t.1) → Passage s p
  passes out_one in_two =
      let (t, out, more) = named-one (λ t. hits p t.0) out_one in
      let (t', into, more') = named-two (λ t. hits p t.1) in_two in
      record {
        leaf = c;
        is_leaf = m;
        before = t'.0;
        after = t.1;
        in_step = omega (
          arith,
          tally_is t'.0 p (leaf_steps s c),
          parts (λ r. step t'.0 p r.0 r.1),
          more' (λ r. step t'.0 p r.0 r.1),
          step_same t'.0 p t'.0 t'.1 refl (hits_pos p t'.1 into),
        );
        out_step = omega (
          arith,
          tally_is p t.1 (leaf_steps s c),
          parts (λ r. step p t.1 r.0 r.1),
          more (λ r. step p t.1 r.0 r.1),
          step_same p t.1 t.0 t.1 (hits_pos p t.0 out) refl,
        );
        apart = λ e.
            let x = t.1 in
            let v = more (λ r. hits x r.1) in
            let w = more' (λ r. hits x r.0) in
            let q : x ≡ p = only x (omega (arith, v, hits_same x x refl)) (omega (arith, w, hits_same x t'.0 (sym e))) in
            let v' = more (λ r. hits p r.1) in
            absurd (omega (arith, v', hits_same p t.1 (sym q), in_two, parts (λ r. hits p r.1), enter-is (leaf_steps s c) p, leaf p));
      }

module _ (s : Survey) (law : Lawful s) where
  -- the edge of point x, by its axis and last coordinate
  abbrev On : ℕ → Axis → ℕ → Type 0
  On x b l = ((edge_of s x).axis ≡ b) × (along (next (next b)) (edge_of s x).low ≡ l)

  weighs : (x : ℕ) (b : Axis) (k i j l : ℕ) → EdgeAt s.cells b k i j l → 1 ≤ weight s x b k i j l → On x b l × (x ≡ point_at s b k i j l)
  weighs x b k i j l e h =
      let (q, o) = weight→ s x b k i j l h in
      let r = point_on s law x b k i j l e o q in
      ((r.axis, r.second ∙ along-second b i j l), q)

  -- a square that is divided only if k is not 0 and a certain edge of the level below is an edge
  whole_by : (b : Axis) (k n u v : ℕ) → ((m : ℕ) → k ≡ suc m → parted s.cells b (suc m) n u v ≡ true → ⊥) → parted s.cells b k n u v ≡ false
  whole_by b k n u v f = go (parted s.cells b k n u v) refl
    where
      by : (m : ℕ) → k ≡ m → parted s.cells b m n u v ≡ true → ⊥
      by zero e h = true≢false (sym h ∙ parted_unit s.cells law.octree b n u v)
      by (suc m) e h = f m e h

      go : (x : Bool) → parted s.cells b k n u v ≡ x → parted s.cells b k n u v ≡ false
      go false h = h
      go true h = absurd (by k refl h)

  -- An edge of level k along next (next b), at one of the four places beside the cell at j l i (in b's coordinates): it is odd and not divided, and
  -- its point is p.
  module _ (b : Axis) (k j l i : ℕ) (o o' : Bool) (p : ℕ) (is-cell : T (is_cell s.cells k (place b j l i)))
      (whole : divided_is s (next (next b)) k (place (next (next b)) i (half o k j) (half o' k l)) ≡ false)
      (is_odd : odd_is s (next (next b)) k (place (next (next b)) i (half o k j) (half o' k l)) ≡ true)
      (is-p : p ≡ point_at s (next (next b)) k i (half o k j) (half o' k l)) where
    -- the leaf's own sides at the edge
    first_flank : Flank s.cells b k (half o k j) l i
    first_flank = (j, half_ends o k j, is-cell)

    second_flank : Flank s.cells (next b) k (half o' k l) i j
    second_flank = (l, half_ends o' k l, subst (λ q. T (is_cell s.cells k q)) (turn-first b j l i) is-cell)

    -- a half of the edge is no edge
    no_half : (m : ℕ) → k ≡ suc m → (x y : ℕ) → half o k j ≡ x → half o' k l ≡ y → EdgeAt s.cells (next (next b)) m i x y → ⊥
    no_half m e x y f g h =
        let q : place (next (next b)) i (half o k j) (half o' k l) ≡ place (next (next b)) i x y = λ t. place (next (next b)) i (f t) (g t) in
        let d = divided_half s (next (next b)) m false (place (next (next b)) i x y) h in
        true≢false (sym d ∙ (λ t. divided_is s (next (next b)) (sym e t) (sym q t)) ∙ whole)

    first-whole : parted s.cells b k (half o k j) l i ≡ false
    first-whole = whole_by b k (half o k j) l i (λ m e h. go m e h o' refl)
      where
        go : (m : ℕ) → k ≡ suc m → parted s.cells b (suc m) (half o k j) l i ≡ true → (q : Bool) → o' ≡ q → ⊥
        go m e h true q =
            no_half m e (half o k j) (l + 2 ^ m + 2 ^ m) refl (rw (q, e) (far m l))
            (side_edges s.cells b m (half o k j) (l + 2 ^ m) i (quarter s.cells law.octree b m (half o k j) l i h true false)).right
        go m e h false q =
            no_half m e (half o k j) l refl (rw q refl)
            (side_edges s.cells b m (half o k j) l i (quarter s.cells law.octree b m (half o k j) l i h false false)).left

    second-whole : parted s.cells (next b) k (half o' k l) i j ≡ false
    second-whole = whole_by (next b) k (half o' k l) i j (λ m e h. go m e h o refl)
      where
        go : (m : ℕ) → k ≡ suc m → parted s.cells (next b) (suc m) (half o' k l) i j ≡ true → (q : Bool) → o ≡ q → ⊥
        go m e h true q =
            no_half m e (j + 2 ^ m + 2 ^ m) (half o' k l) (rw (q, e) (far m j)) refl
            (side_edges s.cells (next b) m (half o' k l) i (j + 2 ^ m) (quarter s.cells law.octree (next b) m (half o' k l) i j h false true)).top
        go m e h false q =
            no_half m e j (half o' k l) (rw q refl) refl
            (side_edges s.cells (next b) m (half o' k l) i j (quarter s.cells law.octree (next b) m (half o' k l) i j h false false)).bottom

    -- the cell is a leaf
    not-split : is_split s.cells k (place b j l i) ≡ false
    not-split = go (is_split s.cells k (place b j l i)) refl
      where
        at : (q : Bool) → o ≡ q → (parted s.cells b k j l i ≡ true) × (parted s.cells b k (j + 2 ^ k) l i ≡ true) → ⊥
        at true e d = true≢false (sym d.1 ∙ (λ t. parted s.cells b k (half (sym e t) k j) l i) ∙ first-whole)
        at false e d = true≢false (sym d.0 ∙ (λ t. parted s.cells b k (half (sym e t) k j) l i) ∙ first-whole)

        go : (x : Bool) → is_split s.cells k (place b j l i) ≡ x → is_split s.cells k (place b j l i) ≡ false
        go false h = h
        go true h = absurd (at o refl (parted_sides s.cells b k j l i h))

    -- the two squares, as the leaf sees them
    abbrev one : (Step → ℕ) → ℕ
    one = view s o b k (half o k j) l i

    abbrev two : (Step → ℕ) → ℕ
    two = view s o' (next b) k (half o' k l) i j

    both_shown : (f : Step → ℕ) → one f + two f ≤ shown s f k (place b j l i)
    unfolding shown
    both_shown f =
        omega (
          arith,
          side_shows s f o b k j l i first-whole,
          side_shows s f o' (next b) k l i j second-whole,
          seen_from (parted s.cells) (drawn s f) (drawn s (turned f)) b k j l i,
        )

    -- both meet p
    of_two : (q : Bool) (n : ℕ) (f : ℕ → ℕ) → f (half q k n) ≤ f (n + 2 ^ k) + f n
    of_two true n f = omega arith
    of_two false n f = omega arith

    here : 1 ≤ weight s p (next (next b)) k i (half o k j) (half o' k l)
    here = →weight s p (next (next b)) k i (half o k j) (half o' k l) is-p is_odd

    meets-one : 1 ≤ one (λ t. hits p t.0) + one (λ t. hits p t.1)
    meets-one = omega (arith, view_ends s o b k (half o k j) l i p, of_two o' l (weight s p (next (next b)) k i (half o k j)), here)

    meets-two : 1 ≤ two (λ t. hits p t.0) + two (λ t. hits p t.1)
    meets-two =
        omega (arith, view_ends s o' (next b) k (half o' k l) i j p, of_two o j (λ n. weight s p (next (next b)) k i n (half o' k l)), here)

    -- a point that both meet is p
    only_p : (x : ℕ) → 1 ≤ one (λ t. hits x t.0) + one (λ t. hits x t.1) → 1 ≤ two (λ t. hits x t.0) + two (λ t. hits x t.1) → x ≡ p
    only_p x v w =
        join (in_one (cases _ _ _ _ (subst (λ n. 1 ≤ n) (view_ends s o b k (half o k j) l i x) v)))
        (in_two (cases _ _ _ _ (subst (λ n. 1 ≤ n) (view_ends s o' (next b) k (half o' k l) i j x) w)))
      where
        a : Axis
        a = next (next b)

        E : Edges (EdgeAt s.cells) b k (half o k j) l i
        E = side_edges s.cells b k (half o k j) l i first_flank

        F : Edges (EdgeAt s.cells) (next b) k (half o' k l) i j
        F = side_edges s.cells (next b) k (half o' k l) i j second_flank

        Cases : ℕ → ℕ → ℕ → ℕ → Type 0
        Cases m n m' n' = ((1 ≤ m) ⊎ (1 ≤ n)) ⊎ ((1 ≤ m') ⊎ (1 ≤ n'))

        cases : (m n m' n' : ℕ) → 1 ≤ m + n + (m' + n') → Cases m n m' n'
        cases m n m' n' h = go (either_pos (m + n) (m' + n') h)
          where
            go : (1 ≤ m + n) ⊎ (1 ≤ m' + n') → Cases m n m' n'
            go (inl h) = inl (either_pos m n h)
            go (inr h) = inr (either_pos m' n' h)

        -- in the first square, x is on an edge along next b, or on one along next (next b) that is the edge of p if it ends where that does
        InOne : Type 0
        InOne = ((edge_of s x).axis ≡ next b) ⊎ ((n : ℕ) × On x a n × (x ≡ point_at s a k i (half o k j) n))

        in_one : Cases (weight s x (next b) k l i (half o k j)) (weight s x a k i (half o k j) (l + 2 ^ k))
            (weight s x (next b) k l (i + 2 ^ k) (half o k j)) (weight s x a k i (half o k j) l) → InOne
        in_one (inl (inl h)) = inl (weighs x (next b) k l i (half o k j) E.bottom h).0.0
        in_one (inl (inr h)) = let r = weighs x a k i (half o k j) (l + 2 ^ k) E.right h in inr (l + 2 ^ k, r.0, r.1)
        in_one (inr (inl h)) = inl (weighs x (next b) k l (i + 2 ^ k) (half o k j) E.top h).0.0
        in_one (inr (inr h)) = let r = weighs x a k i (half o k j) l E.left h in inr (l, r.0, r.1)

        -- in the second one, on an edge along next (next b) in the plane of that square, or on one along the axis after it
        InTwo : Type 0
        InTwo = On x a (half o' k l) ⊎ ((edge_of s x).axis ≡ next a)

        in_two : Cases (weight s x a k i j (half o' k l)) (weight s x (next a) k j (half o' k l) (i + 2 ^ k))
            (weight s x a k i (j + 2 ^ k) (half o' k l)) (weight s x (next a) k j (half o' k l) i) → InTwo
        in_two (inl (inl h)) = inl (weighs x a k i j (half o' k l) F.bottom h).0
        in_two (inl (inr h)) = inr (weighs x (next a) k j (half o' k l) (i + 2 ^ k) F.right h).0.0
        in_two (inr (inl h)) = inl (weighs x a k i (j + 2 ^ k) (half o' k l) F.top h).0
        in_two (inr (inr h)) = inr (weighs x (next a) k j (half o' k l) i F.left h).0.0

        join : InOne → InTwo → x ≡ p
        join (inl q) (inl (q', _)) = absurd (not_first (next b) (sym q' ∙ q))
        join (inl q) (inr q') = absurd (not-second (next b) (sym q' ∙ q))
        join (inr (n, (_, q), e)) (inl (_, q')) = e ∙ ap (point_at s a k i (half o k j)) (sym q ∙ q') ∙ sym is-p
        join (inr (n, (q, _), e)) (inr q') = absurd (not_first a (sym q' ∙ q))

    pass : Passage s p
    pass = by (either_pos _ _ meets-one) (either_pos _ _ meets-two)
      where
        c : Cell
        c = cell (place b j l i) k false

        m : In c (leaves_of s)
        m = cell-leaf s law k (place b j l i) is-cell not-split

        parts : (f : Step → ℕ) → one f + two f ≤ sum f (leaf_steps s c)
        parts f = omega (arith, both_shown f, leaf-shows s f c (leaf-cell s law c m).1)

        paired : Paired (twin_of s) (length (point_edges s)) (leaf_steps s c)
        paired = leaf_paired s law c m

        seen_one : Named one
        seen_one = view_named s o b k (half o k j) l i

        seen_two : Named two
        seen_two = view_named s o' (next b) k (half o' k l) i j

        by : (1 ≤ one (λ t. hits p t.0)) ⊎ (1 ≤ one (λ t. hits p t.1)) → (1 ≤ two (λ t. hits p t.0)) ⊎ (1 ≤ two (λ t. hits p t.1)) → Passage s p
        by (inl h) (inr h') = passes s p c m paired.enters one two seen_one seen_two parts only_p h h'
        by (inr h) (inl h') = passes s p c m paired.enters two one seen_two seen_one (λ f. omega (arith, parts f)) (λ x v w. only_p x w v) h' h
        by (inl h) (inl h') = absurd (omega (arith, h, h', parts (λ t. hits p t.0), leave_is (leaf_steps s c) p, paired.leaves p))
        by (inr h) (inr h') = absurd (omega (arith, h, h', parts (λ t. hits p t.1), enter-is (leaf_steps s c) p, paired.enters p))

  -- every point is passed on some leaf
  pub point-met : (p : ℕ) → p < length (point_edges s) → Passage s p
  point-met p h = let e = edge_of s p in go e.axis e.low e.level (pointed s law p h).0 (pointed s law p h).1
    where
      half_of : (k m n : ℕ) → Ends k m n → (o : Bool) × (half o k m ≡ n)
      half_of k m n (inl e) = (false, sym e)
      half_of k m n (inr e) = (true, sym e)

      HalfOf : ℕ → ℕ → ℕ → Type 0
      HalfOf k m n = (o : Bool) × (half o k m ≡ n)

      at : (b : Axis) (q : Place) (k : ℕ) → Crossed s (edge (next (next b)) q k) → number_of s (edge (next (next b)) q k) ≡ p → (j l : ℕ)
          → HalfOf k j (along (next (next (next b))) q) → HalfOf k l (along (next (next (next (next b)))) q)
          → T (is_cell s.cells k (place (next (next b)) (along (next (next b)) q) j l)) → Passage s p
      at b q k c n j l (x, u) (y, v) t =
          let a : Axis = next (next b) in
          let i = along a q in
          let (e, d, o) = crossed_parts s (edge a q k) c in
          let at_q : place a i (half x k j) (half y k l) ≡ q = (λ t. place a i (u t) (v t)) ∙ place_of a q in
          pass b k j l i x y p (subst (λ r. T (is_cell s.cells k r)) (sym (turn-second b j l i)) t)
          (ap (divided_is s a k) at_q ∙ d) (ap (odd_is s a k) at_q ∙ o)
          (sym (point-is s law a k i (half x k j) (half y k l) ∙ ap (λ r. number_of s (carrier s a r k)) at_q
          ∙ ap (number_of s) (carrier-undivided s a k q d) ∙ n))

      by : (b : Axis) (q : Place) (k : ℕ) → Crossed s (edge (next (next b)) q k) → number_of s (edge (next (next b)) q k) ≡ p → Passage s p
      by b q k c n =
          let a : Axis = next (next b) in
          let j = along (next a) q in
          let l = along (next (next a)) q in
          let e = (crossed_parts s (edge a q k) c).0 in
          let (j', l', f, f', t) = edge-cell s.cells a k (along a q) j l (ap (edge_is s a k) (place_of a q) ∙ e) in
          at b q k c n j' l' (half_of k j' j f) (half_of k l' l f') t

      go : (a : Axis) (q : Place) (k : ℕ) → Crossed s (edge a q k) → number_of s (edge a q k) ≡ p → Passage s p
      go X = by Y
      go Y = by Z
      go Z = by X
