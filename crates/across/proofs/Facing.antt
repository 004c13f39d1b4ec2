-- The cell of the same size across a side of a cell, by record numbers: there is at most one, and `split_beyond` is it where it is split.
use Prim.Native.Nat.{ℕ, zero, suc, ◌+◌, ◌/◌, ◌^◌, ◌≤◌, ◌<◌}
use mathlib.Core.Path.{◌≡◌, refl, sym, ap, ◌∙◌, subst}
use mathlib.Core.Logic.{◌⊎◌, inl, inr}
use mathlib.Core.Bool.{Bool, true, false, not, ◌&&◌, cond}
use mathlib.Core.List.{List, [], ◌∷◌}
use native.Mathlib.Decide.{ℕ_discrete}
use native.Mathlib.Omega.{arith}
use lib.Dec.{T, eqb, eqb→eq, ltb}
use lib.Pow.{pow_pos}
use lib.ListN.{length, get_or}
use borrow.Author.Tests.{lt-ltb, le-ltb, eq-eqb, ne_eqb}
use Rattle.base.specs.Lists.{any, position, sum, bit}
use Rattle.base.specs.Grid.{Place, origin, Axis, X, Y, Z, along, move, same}
use Rattle.base.proofs.Tests.{and→, →and, below, eq→eqb, bit-true, →false, not_both}
use Rattle.base.proofs.Lists.{in→any, in_get, position_of}
use Rattle.base.proofs.Sums.{in_sum}
use Rattle.base.proofs.Below.{any-position}
use Rattle.base.proofs.Places.{place_equal, every_axis, same→, same_refl, along-put}
use Rattle.rules.specs.Survey.{Cell, size, cells_of, entry, entries}
use Rattle.rules.specs.Steps.{Side, side_low, split_across}
use Rattle.rules.specs.Outputs.{entries_right}
use Rattle.octree.specs.Lawful.{is_at, is_cell, copies, Octree}
use Rattle.octree.proofs.Cells.{→at, →cell}
use Rattle.octree.proofs.Queue.{box}
use Rattle.octree.proofs.Tree.{octree_of}
use Rattle.octree.proofs.Records.{cell-count, record-count, box_first, mark_of}
use Rattle.cells.specs.Laid.{cell_at, too_deep}
use Rattle.across.specs.Across.{split_beyond}
use Rattle.across.specs.Filling.{if_split}

-- a test that one element of a list passes finds it at one position
one_place : {A : Type 0} (f : A → Bool) (d : A) (xs : List A) (m n : ℕ) → sum (λ x. bit (f x)) xs ≤ 1 → m < length xs → n < length xs
    → T (f (get_or xs m d)) → T (f (get_or xs n d)) → m ≡ n
one_place f d [] m n o g h t u = absurd (omega arith)
one_place f d (x ∷ xs) zero zero o g h t u = refl
one_place f d (x ∷ xs) zero (suc n) o g h t u =
    absurd (omega (arith, bit-true (f x) t, in_sum (λ x. bit (f x)) xs (get_or xs n d) (in_get xs n d (omega arith)), bit-true (f (get_or xs n d)) u))
one_place f d (x ∷ xs) (suc m) zero o g h t u =
    absurd (omega (arith, bit-true (f x) u, in_sum (λ x. bit (f x)) xs (get_or xs m d) (in_get xs m d (omega arith)), bit-true (f (get_or xs m d)) t))
one_place f d (x ∷ xs) (suc m) (suc n) o g h t u = ap suc (one_place f d xs m n (omega arith) (omega arith) (omega arith) t u)

move_cancel : (a : Axis) (d : ℕ) (p q : Place) → move a d p ≡ move a d q → p ≡ q
move_cancel a d p q e = on a e
  where
    less : (m n : ℕ) → m + d ≡ n + d → m ≡ n
    less m n h = omega arith

    equal : p.x ≡ q.x → p.y ≡ q.y → p.z ≡ q.z → p ≡ q
    equal x y z = place_equal p q (every_axis (λ b. along b p ≡ along b q) X x y z)

    on : (a : Axis) → move a d p ≡ move a d q → p ≡ q
    on X e = equal (less p.x q.x (ap (along X) e)) (ap (along Y) e) (ap (along Z) e)
    on Y e = equal (ap (along X) e) (less p.y q.y (ap (along Y) e)) (ap (along Z) e)
    on Z e = equal (ap (along X) e) (ap (along Y) e) (less p.z q.z (ap (along Z) e))

-- Record m is about the cell of the same size across side s of c: of the two cells, the upper one is the lower one moved by its size.
pub record Facing (t : List ℕ) (s : Side) (c : Cell) (m : ℕ) : Type 0 where
  pub inside : m < length t / 4
  pub level-is : (cell_at t m).level ≡ c.level
  pub beside : cond s.upper (cell_at t m).low c.low ≡ move s.across (size c) (cond s.upper c.low (cell_at t m).low)

-- the same, of levels and places that are known
pub facing_by : (t : List ℕ) (s : Side) (c : Cell) (m l : ℕ) (p q : Place) → m < length t / 4 → c.level ≡ l → (cell_at t m).level ≡ l → c.low ≡ p
    → (cell_at t m).low ≡ q → cond s.upper q p ≡ move s.across (2 ^ l) (cond s.upper p q) → Facing t s c m
facing_by t s c m l p q h cl ml cp mq e = record { inside = h; level-is = ml ∙ sym cl; beside = rw (cl, cp, mq) e }

-- and back
pub by_facing : (t : List ℕ) (s : Side) (c : Cell) (m l : ℕ) (p : Place) → c.level ≡ l → c.low ≡ p → Facing t s c m
    → cond s.upper (cell_at t m).low p ≡ move s.across (2 ^ l) (cond s.upper p (cell_at t m).low)
by_facing t s c m l p cl cp f = rw (← cl, ← cp) f.beside

module _ (a : Axis) (d : ℕ) (p q : Place) where
  same_faces : (u : Bool) → T (same (cond u (move a d p) p) (cond u q (move a d q))) → cond u q p ≡ move a d (cond u p q)
  same_faces true t = sym (same→ (move a d p) q t)
  same_faces false t = same→ p (move a d q) t

  faces_same : (u : Bool) → cond u q p ≡ move a d (cond u p q) → T (same (cond u (move a d p) p) (cond u q (move a d q)))
  faces_same true e = subst (λ r. T (same (move a d p) r)) (sym e) (same_refl (move a d p))
  faces_same false e = subst (λ r. T (same p r)) e (same_refl p)

-- what passes the test of the rules
passes→ : (t : List ℕ) (s : Side) (c : Cell) (m : ℕ) → m < length t / 4 → T (split_across s (side_low s c) c.level (cell_at t m))
    → Facing t s c m × T (cell_at t m).split
passes→ t s c m h p =
    let d = cell_at t m in
    let places : Bool = same (side_low s c) (cond s.upper d.low (move s.across (2 ^ c.level) d.low)) in
    let u = and→ d.split (eqb c.level d.level && places) p in
    let v = and→ (eqb c.level d.level) places u.1 in (
      record {
        inside = h;
        level-is = sym (eqb→eq c.level d.level v.0);
        beside = same_faces s.across (size c) c.low d.low s.upper v.1;
      },
      u.0,
    )

→passes : (t : List ℕ) (s : Side) (c : Cell) (m : ℕ) → Facing t s c m → T (cell_at t m).split → T (split_across s (side_low s c) c.level (cell_at t m))
→passes t s c m f sp =
    let d = cell_at t m in
    let places : Bool = same (side_low s c) (cond s.upper d.low (move s.across (2 ^ c.level) d.low)) in
    →and d.split (eqb c.level d.level && places) sp
    (→and (eqb c.level d.level) places (eq→eqb c.level d.level (sym f.level-is))
    (faces_same s.across (size c) c.low d.low s.upper f.beside))

module _ (t : List ℕ) (three : T (entries_right 0 0 (entries t))) (four : T (not (any too_deep (cells_of t)))) where
  pub tree : Octree (cells_of t)
  tree = octree_of t three four

  pub cell-is : (n : ℕ) → n < length t / 4 → T (is_cell (cells_of t) (cell_at t n).level (cell_at t n).low)
  cell-is n h = →cell (cells_of t) (cell_at t n) (in_get (cells_of t) n box (omega (arith, cell-count t three)))

  module _ (s : Side) (c : Cell) where
    -- there is at most one
    one_facing : (m n : ℕ) → Facing t s c m → Facing t s c n → m ≡ n
    unfolding copies
    one_facing m n f g =
        one_place (is_at c.level (cell_at t m).low) box (cells_of t) m n (tree.once c.level (cell_at t m).low)
        (omega (arith, f.inside, cell-count t three)) (omega (arith, g.inside, cell-count t three))
        (→at c.level (cell_at t m).low (cell_at t m) (sym f.level-is) refl)
        (→at c.level (cell_at t m).low (cell_at t n) (sym g.level-is) (go s.upper f.beside g.beside))
      where
        go : (u : Bool) → cond u (cell_at t m).low c.low ≡ move s.across (size c) (cond u c.low (cell_at t m).low)
            → cond u (cell_at t n).low c.low ≡ move s.across (size c) (cond u c.low (cell_at t n).low) → (cell_at t m).low ≡ (cell_at t n).low
        go true x y = x ∙ sym y
        go false x y = move_cancel s.across (size c) (cell_at t m).low (cell_at t n).low (sym x ∙ y)

    -- what the rules find
    found : T (any (split_across s (side_low s c) c.level) (cells_of t))
        → (m : ℕ) × (position (split_across s (side_low s c) c.level) 0 (cells_of t) ≡ m) × Facing t s c m × T (cell_at t m).split
    found h =
        let r = position_of (split_across s (side_low s c) c.level) box (cells_of t) 0 h in
        let f = passes→ t s c r.0 (omega (arith, r.2, cell-count t three)) r.3 in
        (r.0, r.1 ∙ (let e : 0 + r.0 ≡ r.0 = omega arith in e), f.0, f.1)

    pub beyond_at : (m : ℕ) → Facing t s c m → T (cell_at t m).split → split_beyond (cells_of t) s c ≡ m
    unfolding split_beyond
    beyond_at m f sp =
        let test : Cell → Bool = split_across s (side_low s c) c.level in
        let n = position test 0 (cells_of t) in
        let hit = in→any test (cells_of t) (cell_at t m) (in_get (cells_of t) m box (omega (arith, f.inside, cell-count t three))) (→passes t s c m f sp) in
        let r = found hit in
        let less : n < length (cells_of t) = omega (arith, r.1, r.2.inside, cell-count t three) in
        ap (λ b. cond b n 0) (lt-ltb n (length (cells_of t)) less) ∙ r.1 ∙ one_facing r.0 m r.2 f

    pub beyond-none : ((m : ℕ) → Facing t s c m → T (cell_at t m).split → ⊥) → split_beyond (cells_of t) s c ≡ 0
    unfolding split_beyond
    beyond-none none = go (below n (length (cells_of t)))
      where
        n : ℕ
        n = position (split_across s (side_low s c) c.level) 0 (cells_of t)

        go : (n < length (cells_of t)) ⊎ (length (cells_of t) ≤ n) → cond (ltb n (length (cells_of t))) n 0 ≡ 0
        go (inl h) = let r = found (any-position (split_across s (side_low s c) c.level) (cells_of t) 0 (omega arith)) in absurd (none r.0 r.2 r.3)
        go (inr h) = ap (λ b. cond b n 0) (le-ltb n (length (cells_of t)) h)

    -- what is found is split, and lies across
    pub beyond→ : (split_beyond (cells_of t) s c ≡ 0 → ⊥)
        → Facing t s c (split_beyond (cells_of t) s c) × T (cell_at t (split_beyond (cells_of t) s c)).split
    unfolding split_beyond
    beyond→ some = go (below n (length (cells_of t)))
      where
        n : ℕ
        n = position (split_across s (side_low s c) c.level) 0 (cells_of t)

        go : (n < length (cells_of t)) ⊎ (length (cells_of t) ≤ n)
            → Facing t s c (cond (ltb n (length (cells_of t))) n 0) × T (cell_at t (cond (ltb n (length (cells_of t))) n 0)).split
        go (inl h) =
            let r = found (any-position (split_across s (side_low s c) c.level) (cells_of t) 0 (omega arith)) in
            subst (λ m. Facing t s c m × T (cell_at t m).split) (sym (ap (λ b. cond b n 0) (lt-ltb n (length (cells_of t)) h) ∙ r.1)) (r.2, r.3)
        go (inr h) = absurd (some (ap (λ b. cond b n 0) (le-ltb n (length (cells_of t)) h)))

    pub beyond-inside : split_beyond (cells_of t) s c < length t / 4
    beyond-inside = go (ℕ_discrete (split_beyond (cells_of t) s c) 0)
      where
        go : Dec (split_beyond (cells_of t) s c ≡ 0) → split_beyond (cells_of t) s c < length t / 4
        go (yes z) = omega (arith, record-count t three)
        go (no f) = (beyond→ f).0.inside

    -- the record that faces a side, if it is split
    pub beyond-is : (m : ℕ) → Facing t s c m → split_beyond (cells_of t) s c ≡ if_split t m
    unfolding if_split
    beyond-is m f = go (ℕ_discrete (entry t m) 0)
      where
        mark : (cell_at t m).split ≡ not (eqb (entry t m) 0)
        mark = mark_of t three box m f.inside

        go : Dec (entry t m ≡ 0) → split_beyond (cells_of t) s c ≡ cond (eqb (entry t m) 0) 0 m
        go (yes z) =
            beyond-none (λ n g sp. not_both (subst (λ k. T (cell_at t k).split) (one_facing n m g f) sp) (mark ∙ ap not (eq-eqb (entry t m) 0 z)))
            ∙ sym (ap (λ b. cond b 0 m) (eq-eqb (entry t m) 0 z))
        go (no nz) =
            beyond_at m f (subst T (sym mark) (→false (ne_eqb (entry t m) 0 nz))) ∙ sym (ap (λ b. cond b 0 m) (ne_eqb (entry t m) 0 nz))

  -- ---- the box

  -- nothing lies across a side of a cell of level 10
  top_alone : (s : Side) (n m : ℕ) → n < length t / 4 → (cell_at t n).level ≡ 10 → Facing t s (cell_at t n) m → ⊥
  top_alone s n m h ten f = go s.upper f.beside
    where
      at_origin : (k : ℕ) → k < length t / 4 → (cell_at t k).level ≡ 10 → along s.across (cell_at t k).low ≡ along s.across origin
      at_origin k g e = ap (along s.across) (tree.only_box (cell_at t k).low (subst (λ l. T (is_cell (cells_of t) l (cell_at t k).low)) e (cell-is k g)))

      apart : (p q : Place) → along s.across p ≡ along s.across origin → along s.across q ≡ along s.across origin
          → p ≡ move s.across (size (cell_at t n)) q → ⊥
      apart p q x y e =
          omega (arith, ap (along s.across) e ∙ along-put s.across (along s.across q + size (cell_at t n)) q, pow_pos (cell_at t n).level)

      go : (u : Bool) → cond u (cell_at t m).low (cell_at t n).low ≡ move s.across (size (cell_at t n)) (cond u (cell_at t n).low (cell_at t m).low) → ⊥
      go true = apart (cell_at t m).low (cell_at t n).low (at_origin m f.inside (f.level-is ∙ ten)) (at_origin n h ten)
      go false = apart (cell_at t n).low (cell_at t m).low (at_origin n h ten) (at_origin m f.inside (f.level-is ∙ ten))

  box_level : (cell_at t 0).level ≡ 10
  box_level = ap (λ (c : Cell). c.level) (box_first t three box)

  pub box_beyond : (s : Side) → split_beyond (cells_of t) s (cell_at t 0) ≡ 0
  box_beyond s = beyond-none s (cell_at t 0) (λ m f sp. top_alone s 0 m (omega (arith, record-count t three)) box_level f)

  -- where nothing is found, no split cell lies across: the box does not
  pub none→ : (s : Side) (n : ℕ) → n < length t / 4 → split_beyond (cells_of t) s (cell_at t n) ≡ 0
      → (m : ℕ) → Facing t s (cell_at t n) m → T (cell_at t m).split → ⊥
  none→ s n h z m f sp =
      let zero-faces = subst (Facing t s (cell_at t n)) (sym (beyond_at s (cell_at t n) m f sp) ∙ z) f in
      top_alone s n 0 h (sym zero-faces.level-is ∙ box_level) zero-faces
