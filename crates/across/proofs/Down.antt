-- One step down: what lies across the sides of a split cell's children, by what lies across its own.
use Prim.Native.Nat.{ℕ, suc, pred, ◌+◌, ◌*◌, ◌/◌, ◌^◌, ◌≤◌, ◌<◌}
use mathlib.Core.Path.{◌≡◌, refl, sym, ap, ◌∙◌, subst}
use mathlib.Core.Logic.{◌⊎◌, inl, inr}
use mathlib.Core.Bool.{Bool, true, false, not, ◌&&◌, cond}
use mathlib.Core.List.{List}
use native.Mathlib.Nat.{two-pow-succ}
use native.Mathlib.Omega.{arith}
use lib.Dec.{T, T_not, eqb}
use lib.ListN.{length, get_or}
use borrow.Author.Tests.{ne_eqb}
use Rattle.base.specs.Lists.{any, bit}
use Rattle.base.specs.Grid.{Place, origin, Axis, X, Y, Z, axis_number, next, along, move, octants}
use Rattle.base.proofs.Tests.{and→, →false, eq→eqb}
use Rattle.base.proofs.Lists.{in_get, position_of}
use Rattle.base.proofs.Places.{place_equal, every_axis, along-put}
use Rattle.base.proofs.Octants.{octant→}
use Rattle.rules.specs.Survey.{Cell, cells_of, entry, entries}
use Rattle.rules.specs.Steps.{Side}
use Rattle.rules.specs.Outputs.{entries_right}
use Rattle.octree.specs.Lawful.{is_at, is_cell, is_split, CornerOf}
use Rattle.octree.proofs.Cells.{at→, split-cell}
use Rattle.octree.proofs.Aligned.{Aligned, no_middle, next_multiple, cell_aligned}
use Rattle.octree.proofs.Queue.{box}
use Rattle.octree.proofs.Records.{cell-count, mark_of, split-record, split_level}
use Rattle.cells.specs.Laid.{cell_at, too_deep}
use Rattle.across.specs.Across.{split_beyond}
use Rattle.across.specs.Filling.{digit, opposite_of, if_split}
use Rattle.across.proofs.Turned.{opposite_less, octant-along, siblings, cousins}
use Rattle.across.proofs.Facing.{Facing, facing_by, by_facing, tree, cell-is, beyond-none, beyond→, beyond-is, none→}

-- ---- places

move-first : (a : Axis) (d : ℕ) (p : Place) → along (next a) (move a d p) ≡ along (next a) p
move-first X d p = refl
move-first Y d p = refl
move-first Z d p = refl

move-second : (a : Axis) (d : ℕ) (p : Place) → along (next (next a)) (move a d p) ≡ along (next (next a)) p
move-second X d p = refl
move-second Y d p = refl
move-second Z d p = refl

-- Two aligned cubes of level l + 1 are side by side on an axis, if halves of them are, one of which touches the other cube.
parents_beside : (a : Axis) (l : ℕ) (p q u v : Place) → Aligned (suc l) p → Aligned (suc l) q → CornerOf l p u → CornerOf l q v → v ≡ move a (2 ^ l) u
    → (along a u ≡ along a p + 2 ^ l) ⊎ (along a v ≡ along a q) → q ≡ move a (2 ^ suc l) p
parents_beside a l p q u v f g cu cv e o =
    place_equal q (move a (2 ^ suc l) p) (every_axis (λ b. along b q ≡ along b (move a (2 ^ suc l) p)) a
    (on o (cu a) (cv a) ∙ sym (along-put a (along a p + 2 ^ suc l) p))
    (off (next a) (ap (along (next a)) e ∙ move-first a (2 ^ l) u) (cu (next a)) (cv (next a)) ∙ sym (move-first a (2 ^ suc l) p))
    (off (next (next a)) (ap (along (next (next a))) e ∙ move-second a (2 ^ l) u) (cu (next (next a))) (cv (next (next a)))
    ∙ sym (move-second a (2 ^ suc l) p)))
  where
    two : 2 ^ suc l ≡ 2 ^ l + 2 ^ l
    two = two-pow-succ l

    step : along a v ≡ along a u + 2 ^ l
    step = ap (along a) e ∙ along-put a (along a u + 2 ^ l) u

    on : (along a u ≡ along a p + 2 ^ l) ⊎ (along a v ≡ along a q) → (along a u ≡ along a p) ⊎ (along a u ≡ along a p + 2 ^ l)
        → (along a v ≡ along a q) ⊎ (along a v ≡ along a q + 2 ^ l) → along a q ≡ along a p + 2 ^ suc l
    on (inl x) y (inl z) = omega (arith, two, step)
    on (inl x) y (inr z) =
        absurd (no_middle l (along a p + 2 ^ suc l) (along a q) (next_multiple (suc l) (along a p) (f a)) (g a) (omega (arith, two, step)))
    on (inr x) (inl y) z = absurd (no_middle l (along a q) (along a p) (g a) (f a) (omega (arith, step)))
    on (inr x) (inr y) z = omega (arith, two, step)

    off : (b : Axis) → along b v ≡ along b u → (along b u ≡ along b p) ⊎ (along b u ≡ along b p + 2 ^ l)
        → (along b v ≡ along b q) ⊎ (along b v ≡ along b q + 2 ^ l) → along b q ≡ along b p
    off b x (inl y) (inl z) = omega arith
    off b x (inl y) (inr z) = absurd (no_middle l (along b p) (along b q) (f b) (g b) (omega arith))
    off b x (inr y) (inl z) = absurd (no_middle l (along b q) (along b p) (g b) (f b) (omega arith))
    off b x (inr y) (inr z) = omega arith

-- ---- a split cell and its children

pub record Parent (t : List ℕ) (n l : ℕ) : Type 0 where
  pub inside : n < length t / 4
  pub level-is : (cell_at t n).level ≡ suc l
  pub above : n < entry t n
  pub fits : entry t n + 8 ≤ length t / 4
  pub child-level : (j : ℕ) → j < 8 → (cell_at t (entry t n + j)).level ≡ l
  pub child-low : (j : ℕ) → j < 8 → (cell_at t (entry t n + j)).low ≡ get_or (octants (2 ^ l) (cell_at t n).low) j origin

module _ (t : List ℕ) (three : T (entries_right 0 0 (entries t))) (four : T (not (any too_deep (cells_of t)))) where
  split-parent : (n l : ℕ) → n < length t / 4 → T (not (eqb (entry t n) 0)) → (cell_at t n).level ≡ suc l → Parent t n l
  split-parent n l h mark e =
      let r = split-record t three box n h mark in record {
        inside = h;
        level-is = e;
        above = r.above;
        fits = omega (arith, r.fits);
        child-level = λ j g. r.child-level j g ∙ ap pred e;
        child-low = λ j g. r.child-low j g ∙ ap (λ m. get_or (octants (2 ^ pred m) (cell_at t n).low) j origin) e;
      }

  -- a split record
  pub parent_at : (n : ℕ) → n < length t / 4 → (entry t n ≡ 0 → ⊥) → Parent t n (pred (cell_at t n).level)
  parent_at n h nz =
      let mark = →false (ne_eqb (entry t n) 0 nz) in
      let up = split_level t three four box n h mark in
      split-parent n (pred (cell_at t n).level) h mark (omega arith)

  -- what is split, by its mark, has an entry
  marked : (m : ℕ) → m < length t / 4 → T (cell_at t m).split → T (not (eqb (entry t m) 0))
  marked m h sp = subst T (mark_of t three box m h) sp

  module _ (n l : ℕ) (p : Parent t n l) (s : Side) (j : ℕ) (h : j < 8) where
    abbrev a : ℕ
    a = axis_number s.across

    abbrev child : Cell
    child = cell_at t (entry t n + j)

    -- the side is inside the parent: a child of the parent lies across
    sibling_faces : digit a j ≡ bit (not s.upper) → Facing t s child (entry t n + opposite_of a j)
    sibling_faces e =
        let o = opposite_less s.across j h in
        facing_by t s child (entry t n + opposite_of a j) l (get_or (octants (2 ^ l) (cell_at t n).low) j origin)
        (get_or (octants (2 ^ l) (cell_at t n).low) (opposite_of a j) origin) (omega (arith, p.fits)) (p.child-level j h) (p.child-level (opposite_of a j) o)
        (p.child-low j h) (p.child-low (opposite_of a j) o) (siblings s.across l j h s.upper (cell_at t n).low e)

    -- the side is in the parent's side: a child of the split cell across that side lies across
    cousin_faces : (q : ℕ) → Facing t s (cell_at t n) q → T (cell_at t q).split → digit a j ≡ bit s.upper → Facing t s child (entry t q + opposite_of a j)
    cousin_faces q f sp e =
        let o = opposite_less s.across j h in
        let r = split-parent q l f.inside (marked q f.inside sp) (f.level-is ∙ p.level-is) in
        facing_by t s child (entry t q + opposite_of a j) l (get_or (octants (2 ^ l) (cell_at t n).low) j origin)
        (get_or (octants (2 ^ l) (cell_at t q).low) (opposite_of a j) origin) (omega (arith, r.fits)) (p.child-level j h) (r.child-level (opposite_of a j) o)
        (p.child-low j h) (r.child-low (opposite_of a j) o)
        (cousins s.across l j h s.upper (cell_at t n).low (cell_at t q).low
        (by_facing t s (cell_at t n) q (suc l) (cell_at t n).low p.level-is refl f) e)

    -- the parent of a cell across such a side is split, and lies across the parent's side
    parent_faces : digit a j ≡ bit s.upper → (m : ℕ) → Facing t s child m → (k : ℕ) × Facing t s (cell_at t n) k × T (cell_at t k).split
    unfolding is_split
    parent_faces e m f =
        let level : (cell_at t m).level ≡ l = f.level-is ∙ p.child-level j h in
        let cells = cells_of t in
        let is = subst (λ k. T (is_cell cells k (cell_at t m).low)) level (cell-is t three four m f.inside) in
        let top = (tree t three four).shallow (cell_at t n).level (cell_at t n).low (cell-is t three four n p.inside) in
        let (q, sp, corner) = (tree t three four).parent l (cell_at t m).low is (omega (arith, p.level-is)) in
        let r = position_of (λ (c : Cell). c.split && is_at (suc l) q c) box cells 0 sp in
        let k = r.0 in
        let u = and→ (cell_at t k).split (is_at (suc l) q (cell_at t k)) r.3 in
        let at = at→ (suc l) q (cell_at t k) u.1 in
        let place = across q corner (cell_aligned cells (tree t three four) (suc l) q (split-cell cells (suc l) q sp)) in (
          k,
          facing_by t s (cell_at t n) k (suc l) (cell_at t n).low q (omega (arith, r.2, cell-count t three)) p.level-is (sym at.0) refl
              (sym at.1) place,
          u.0,
        )
      where
        low : Place
        low = get_or (octants (2 ^ l) (cell_at t n).low) j origin

        corner-low : CornerOf l (cell_at t n).low low
        corner-low = octant→ (2 ^ l) (cell_at t n).low low (in_get (octants (2 ^ l) (cell_at t n).low) j origin h)

        on_axis : (b : ℕ) → digit a j ≡ b → along s.across low ≡ along s.across (cell_at t n).low + 2 ^ l * b
        on_axis b x = octant-along s.across (2 ^ l) (cell_at t n).low j h ∙ ap (λ d. along s.across (cell_at t n).low + 2 ^ l * d) x

        aligned : Aligned (suc l) (cell_at t n).low
        aligned = subst (λ k. Aligned k (cell_at t n).low) p.level-is
            (cell_aligned (cells_of t) (tree t three four) (cell_at t n).level (cell_at t n).low (cell-is t three four n p.inside))

        across : (q : Place) → CornerOf l q (cell_at t m).low → Aligned (suc l) q
            → cond s.upper q (cell_at t n).low ≡ move s.across (2 ^ suc l) (cond s.upper (cell_at t n).low q)
        across q corner g = go s.upper e (by_facing t s child m l low (p.child-level j h) (p.child-low j h) f)
          where
            go : (u : Bool) → digit a j ≡ bit u → cond u (cell_at t m).low low ≡ move s.across (2 ^ l) (cond u low (cell_at t m).low)
                → cond u q (cell_at t n).low ≡ move s.across (2 ^ suc l) (cond u (cell_at t n).low q)
            go true d b =
                parents_beside s.across l (cell_at t n).low q low (cell_at t m).low aligned g corner-low corner b (inl (on_axis 1 d ∙ omega arith))
            go false d b =
                parents_beside s.across l q (cell_at t n).low (cell_at t m).low low g aligned corner corner-low b (inr (on_axis 0 d ∙ omega arith))

    -- ---- the split cell across a child's side

    pub inner_beyond : digit a j ≡ bit (not s.upper) → split_beyond (cells_of t) s child ≡ if_split t (entry t n + opposite_of a j)
    inner_beyond e = beyond-is t three four s child (entry t n + opposite_of a j) (sibling_faces e)

    pub outer_beyond : digit a j ≡ bit s.upper → (split_beyond (cells_of t) s (cell_at t n) ≡ 0 → ⊥)
        → split_beyond (cells_of t) s child ≡ if_split t (entry t (split_beyond (cells_of t) s (cell_at t n)) + opposite_of a j)
    outer_beyond e nz =
        let q = split_beyond (cells_of t) s (cell_at t n) in
        let f = beyond→ t three four s (cell_at t n) nz in
        beyond-is t three four s child (entry t q + opposite_of a j) (cousin_faces q f.0 f.1 e)

    pub outer_none : digit a j ≡ bit s.upper → split_beyond (cells_of t) s (cell_at t n) ≡ 0 → split_beyond (cells_of t) s child ≡ 0
    outer_none e z = beyond-none t three four s child (λ m f sp.
        let r = parent_faces e m f in none→ t three four s n p.inside z r.0 r.1 r.2)

  -- the split cell that a table has is split: its entry has room for eight
  pub far-parent : (s : Side) (n : ℕ) → n < length t / 4 → (split_beyond (cells_of t) s (cell_at t n) ≡ 0 → ⊥)
      → (entry t (split_beyond (cells_of t) s (cell_at t n)) ≡ 0 → ⊥) × (entry t (split_beyond (cells_of t) s (cell_at t n)) + 8 ≤ length t / 4)
  far-parent s n h nz =
      let q = split_beyond (cells_of t) s (cell_at t n) in
      let f = beyond→ t three four s (cell_at t n) nz in
      let mark = marked q f.0.inside f.1 in
      let some : entry t q ≡ 0 → ⊥ = λ z. T_not (eqb (entry t q) 0) mark (eq→eqb (entry t q) 0 z) in
      (some, (parent_at q f.0.inside some).fits)
