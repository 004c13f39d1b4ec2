-- What the box shows on its own six sides: steps between edges in one outer face, and no others.
use Prim.Native.Nat.{ℕ, ◌^◌, ◌≤◌}
use native.Mathlib.Omega.{arith}
use mathlib.Core.Path.{◌≡◌, refl, sym, ◌∙◌, ap, subst}
use mathlib.Core.Logic.{◌⊎◌, inl, inr}
use mathlib.Core.Bool.{Bool, false, not, ◌&&◌, ◌||◌}
use lib.Dec.{T, eqb, eqb→eq, T_not}
use Rattle.base.specs.Grid.{origin, Axis, X, Y, Z, axes, next, along}
use Rattle.rules.specs.Survey.{Survey}
use Rattle.rules.specs.Edges.{CellEdge, upper_end}
use Rattle.rules.specs.Steps.{Step, edge_of}
use Rattle.rules.specs.Closing.{lies_in, in_one_face, step}
use Rattle.base.proofs.Tests.{and→, →and, or_left, or_right, →false, either, bit_le, eq→eqb}
use Rattle.base.proofs.Lists.{in→any}
use Rattle.base.proofs.Sums.{sum-le}
use Rattle.base.proofs.Places.{each-axis}
use Rattle.octree.specs.Lawful.{is_cell, Lawful}
use Rattle.geometry.proofs.Grid.{place, along-move-first, along-move-second, total, seen}
use Rattle.geometry.proofs.Square.{turned, drawn, square_steps, square_point}
use Rattle.geometry.proofs.Area.{total_le}
use Rattle.geometry.proofs.Once.{Which, same, first, second, which}
use Rattle.geometry.proofs.Sides.{Flank, parted, flank_kept}
use Rattle.geometry.proofs.Small.{shown}
use Rattle.geometry.proofs.Located.{not_first, not-second, hits, left, entered, OffPlane, left_off, entered_off}

-- ---- planes

-- an edge lies in a plane, or not
lies_or_off : (e : CellEdge) (b : Axis) (n : ℕ) → T (lies_in e b n) ⊎ OffPlane e b n
lies_or_off e b n = go (which e.axis b)
  where
    a : Axis
    a = e.axis

    at : (j : ℕ) → along b e.low ≡ j → along b (upper_end e) ≡ j → ((j ≡ n → ⊥) → OffPlane e b n) → T (lies_in e b n) ⊎ OffPlane e b n
    at j p q off = test (either (eqb n j))
      where
        test : T (eqb n j) ⊎ (eqb n j ≡ false) → T (lies_in e b n) ⊎ OffPlane e b n
        test (inl t) =
            inl (→and (eqb n (along b e.low)) (eqb n (along b (upper_end e)))
            (eq→eqb n (along b e.low) (eqb→eq n j t ∙ sym p)) (eq→eqb n (along b (upper_end e)) (eqb→eq n j t ∙ sym q)))
        test (inr f) = inr (off (λ h. T_not (eqb n j) (→false f) (eq→eqb n j (sym h))))

    go : Which e.axis b → T (lies_in e b n) ⊎ OffPlane e b n
    go (same p) = inr ((λ q. absurd (not_first e.axis (sym q ∙ p))), (λ q. absurd (not-second e.axis (sym q ∙ p))))
    go (first p) =
        at (along (next e.axis) e.low) (ap (λ x. along x e.low) p)
        (ap (λ x. along x (upper_end e)) p ∙ along-move-first e.axis (2 ^ e.level) e.low)
        (λ h. (λ _. h, λ q. absurd (not_first (next e.axis) (sym q ∙ p))))
    go (second p) =
        at (along (next (next e.axis)) e.low) (ap (λ x. along x e.low) p)
        (ap (λ x. along x (upper_end e)) p ∙ along-move-second e.axis (2 ^ e.level) e.low)
        (λ h. (λ q. absurd (not_first (next e.axis) (sym p ∙ q)), λ _. h))

-- the two ends of the box on an axis
abbrev pub Outer : ℕ → Type 0
Outer n = (n ≡ 0) ⊎ (n ≡ 1024)

one-face : (e f : CellEdge) (b : Axis) (n : ℕ) → Outer n → T (lies_in e b n) → T (lies_in f b n) → T (in_one_face e f)
one-face e f b n o t u = in→any both axes b (each-axis b) (go o)
  where
    both : Axis → Bool
    both a = (lies_in e a 0 && lies_in f a 0) || (lies_in e a 1024 && lies_in f a 1024)

    go : Outer n → T (both b)
    go (inl p) = or_left (lies_in e b 0 && lies_in f b 0) _
        (→and (lies_in e b 0) (lies_in f b 0) (subst (λ m. T (lies_in e b m)) p t) (subst (λ m. T (lies_in f b m)) p u))
    go (inr p) = or_right (lies_in e b 0 && lies_in f b 0) _
        (→and (lies_in e b 1024) (lies_in f b 1024) (subst (λ m. T (lies_in e b m)) p t) (subst (λ m. T (lies_in f b m)) p u))

-- of two edges in no outer face together, one does not lie in a given outer plane
pub one_off : (e f : CellEdge) → T (not (in_one_face e f)) → (b : Axis) (n : ℕ) → Outer n → OffPlane e b n ⊎ OffPlane f b n
one_off e f h b n o = go (lies_or_off e b n) (lies_or_off f b n)
  where
    go : T (lies_in e b n) ⊎ OffPlane e b n → T (lies_in f b n) ⊎ OffPlane f b n → OffPlane e b n ⊎ OffPlane f b n
    go (inr x) _ = inl x
    go (inl t) (inr x) = inr x
    go (inl t) (inl u) = absurd (T_not (in_one_face e f) h (one-face e f b n o t u))

-- ---- the sides of the box

module _ (s : Survey) (f : Step → ℕ) where
  -- what weighs no more than a point's steps
  drawn-le : (f' : Step → ℕ) → ((t : Step) → f t ≤ f' t) → (b : Axis) (k n x y : ℕ) → drawn s f b k n x y ≤ drawn s f' b k n x y
  unfolding drawn
  drawn-le f' h b k n x y =
      let P : Step → Step = λ t. (square_point s b k n x y t.0, square_point s b k n x y t.1) in
      sum-le (λ t. f (P t)) (λ t. f' (P t)) (square_steps s b k n x y) (λ t _. h (P t))

  module _ (law : Lawful s) (b : Axis) (k n x y : ℕ) (q : Flank s.cells b k n x y) where
    none_left : (v : ℕ) → ((t : Step) → f t ≤ hits v t.0) → OffPlane (edge_of s v) b n → total (parted s.cells b) (drawn s f b) k n x y ≡ 0
    none_left v h off =
        omega (
          arith,
          left_off s law v b k n x y q off,
          total_le (parted s.cells b) (Flank s.cells b) (flank_kept s.cells law.octree b) (drawn s f b) (left s v b)
              (λ k n x y _. drawn-le (λ t. hits v t.0) h b k n x y) k n x y q,
        )

    none-entered : (v : ℕ) → ((t : Step) → f t ≤ hits v t.1) → OffPlane (edge_of s v) b n → total (parted s.cells b) (drawn s f b) k n x y ≡ 0
    none-entered v h off =
        omega (
          arith,
          entered_off s law v b k n x y q off,
          total_le (parted s.cells b) (Flank s.cells b) (flank_kept s.cells law.octree b) (drawn s f b) (entered s v b)
              (λ k n x y _. drawn-le (λ t. hits v t.1) h b k n x y) k n x y q,
        )

  -- steps that no square in an outer plane has, either way round, are not shown by the box
  abbrev NoneIn : Axis → ℕ → Type 0
  NoneIn b n = (total (parted s.cells b) (drawn s f b) 10 n 0 0 ≡ 0) × (total (parted s.cells b) (drawn s (turned f) b) 10 n 0 0 ≡ 0)

  box_none : (law : Lawful s) → ((b : Axis) (n : ℕ) → Outer n → Flank s.cells b 10 n 0 0 → NoneIn b n)
      → (shown s f 10 origin ≡ 0) × (shown s (turned f) 10 origin ≡ 0)
  unfolding shown seen
  box_none law h = (
    omega (arith, (high X).0, (high Y).0, (high Z).0, (low X).1, (low Y).1, (low Z).1),
    omega (arith, (high X).1, (high Y).1, (high Z).1, (low X).0, (low Y).0, (low Z).0),
  )
    where
      cell_at : (b : Axis) → T (is_cell s.cells 10 (place b 0 0 0))
      cell_at X = law.octree.box_is
      cell_at Y = law.octree.box_is
      cell_at Z = law.octree.box_is

      low : (b : Axis) → NoneIn b 0
      low b = h b 0 (inl refl) (0, inl refl, cell_at b)

      high : (b : Axis) → NoneIn b 1024
      high b = h b 1024 (inr refl) (0, inr refl, cell_at b)

step_from : (p q a b : ℕ) → step p q a b ≤ hits p a
unfolding step
step_from p q a b = bit_le (eqb p a && eqb q b) (eqb p a) (λ t. (and→ (eqb p a) (eqb q b) t).0)

step_to : (p q a b : ℕ) → step p q a b ≤ hits q b
unfolding step
step_to p q a b = bit_le (eqb p a && eqb q b) (eqb q b) (λ t. (and→ (eqb p a) (eqb q b) t).1)

module _ (s : Survey) (law : Lawful s) where
  -- between points whose edges lie in no outer face together
  pub no_tally : (p q : ℕ) → T (not (in_one_face (edge_of s p) (edge_of s q)))
      → (shown s (λ t. step p q t.0 t.1) 10 origin ≡ 0) × (shown s (λ t. step p q t.1 t.0) 10 origin ≡ 0)
  no_tally p q h = box_none s (λ t. step p q t.0 t.1) law (λ b n o k. go b n k (one_off (edge_of s p) (edge_of s q) h b n o))
    where
      go : (b : Axis) (n : ℕ) → Flank s.cells b 10 n 0 0 → OffPlane (edge_of s p) b n ⊎ OffPlane (edge_of s q) b n → NoneIn s (λ t. step p q t.0 t.1) b n
      go b n k (inl x) = (
        none_left s (λ t. step p q t.0 t.1) law b 10 n 0 0 k p (λ t. step_from p q t.0 t.1) x,
        none-entered s (λ t. step p q t.1 t.0) law b 10 n 0 0 k p (λ t. step_from p q t.1 t.0) x,
      )
      go b n k (inr x) = (
        none-entered s (λ t. step p q t.0 t.1) law b 10 n 0 0 k q (λ t. step_to p q t.0 t.1) x,
        none_left s (λ t. step p q t.1 t.0) law b 10 n 0 0 k q (λ t. step_to p q t.1 t.0) x,
      )

  -- at a point whose edge lies in no outer face
  pub no_ends : (p : ℕ) → ((b : Axis) (n : ℕ) → Outer n → OffPlane (edge_of s p) b n)
      → (shown s (λ t. hits p t.0) 10 origin ≡ 0) × (shown s (λ t. hits p t.1) 10 origin ≡ 0)
  no_ends p h =
      box_none s (λ t. hits p t.0) law (λ b n o k. (left_off s law p b 10 n 0 0 k (h b n o), entered_off s law p b 10 n 0 0 k (h b n o)))
