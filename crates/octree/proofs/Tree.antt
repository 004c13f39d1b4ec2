-- The cells of a table that checks 3 and 4 pass are an octree.
use Prim.Native.Nat.{ℕ, zero, suc, pred, ◌+◌, ◌^◌, ◌≤◌, ◌<◌}
use mathlib.Core.Path.{◌≡◌, refl, sym, ap, ◌∙◌, subst}
use mathlib.Core.Logic.{◌⊎◌, inl, inr}
use mathlib.Core.Bool.{Bool, true, false, not, ◌&&◌, cond}
use mathlib.Core.List.{List, [], ◌∷◌, ◌++◌, map}
use native.Mathlib.Omega.{arith}
use lib.Dec.{T, T_not, not_T, eqb}
use Rattle.base.specs.Lists.{any, collect, sum, bit}
use Rattle.base.specs.Grid.{Place, origin, octants}
use Rattle.rules.specs.Survey.{Cell, cell, children, cells_from, cells_of, entries}
use Rattle.rules.specs.Outputs.{entries_right}
use Rattle.base.proofs.Tests.{→and, false→, below, eq→eqb, bit_le}
use Rattle.base.proofs.Lists.{In, in_append, in→any, in_map, map_in, in_collect, collect_in}
use Rattle.base.proofs.Sums.{sum-add, sum-zero, sum-le, sum_same, sum-map, sum-collect}
use Rattle.base.proofs.Octants.{octant→, →octant}
use Rattle.octree.specs.Lawful.{is_at, is_cell, is_split, copies, CornerOf, Octree}
use Rattle.octree.proofs.Cells.{at→, cell→, →cell, split→, →split}
use Rattle.octree.proofs.Covers.{covers, covers_no, covers_one, self_covers, octants_cover}
use Rattle.octree.proofs.Queue.{box, unmarked, kids, cells_in_order}

-- ---- children

pub child→ : (c d : Cell) → In d (children c) → (d.level ≡ pred c.level) × CornerOf (pred c.level) c.low d.low
child→ c d i =
    let r = in_map (λ p. cell p (pred c.level) false) (octants (2 ^ pred c.level) c.low) d i in (
      ap (λ (x : Cell). x.level) r.2,
      octant→ (2 ^ pred c.level) c.low d.low
          (subst (λ q. In q (octants (2 ^ pred c.level) c.low)) (sym (ap (λ (x : Cell). x.low) r.2)) r.1),
    )

pub →child : (l : ℕ) (p q : Place) (s : Bool) → CornerOf l p q → In (cell q l false) (children (cell p (suc l) s))
→child l p q s f = map_in (λ r. cell r l false) (octants (2 ^ l) p) q (→octant (2 ^ l) p q f)

-- a member of `kids` is a child, and the cell is split
pub kid→ : (c d : Cell) → In d (kids c) → T c.split × In d (children c)
kid→ c d i = go c.split i
  where
    go : (b : Bool) → In d (cond b (children c) []) → T b × In d (children c)
    go true i = (tt, i)
    go false i = absurd i

-- ---- levels

shallow-from : (es : List ℕ) (q : List Cell) → ((c : Cell) → In c q → c.level ≤ 10) → (c : Cell) → In c (cells_from es q) → c.level ≤ 10
unfolding cells_from
shallow-from [] q h c i = absurd i
shallow-from (e ∷ es) [] h c i = absurd i
shallow-from (e ∷ es) (d ∷ q) h c (inl p) = let g = ap (λ (x : Cell). x.level) p in omega (arith, h d (inl refl))
shallow-from (e ∷ es) (d ∷ q) h c (inr i) =
    shallow-from es (q ++ cond (eqb e 0) [] (children d)) (λ x j. go x (in_append x q (cond (eqb e 0) [] (children d)) j)) c i
  where
    child : (b : Bool) (x : Cell) → In x (cond b [] (children d)) → x.level ≤ 10
    child true x j = absurd j
    child false x j = let g = (child→ d x j).0 in omega (arith, h d (inl refl))

    go : (x : Cell) → In x q ⊎ In x (cond (eqb e 0) [] (children d)) → x.level ≤ 10
    go x (inl j) = h x (inr j)
    go x (inr j) = child (eqb e 0) x j

-- ---- no two records are about one cell

module _ (k : ℕ) (p : Place) where
  -- a split cell and its children together cover no more than the cell
  children_cover : (l : ℕ) (q : Place) (s : Bool) → bit (is_at k p (cell q (suc l) s)) + sum (covers k p l) (octants (2 ^ l) q) ≤ covers k p (suc l) q
  children_cover l q s = go (below l k)
    where
      go : (l < k) ⊎ (k ≤ l) → bit (is_at k p (cell q (suc l) s)) + sum (covers k p l) (octants (2 ^ l) q) ≤ covers k p (suc l) q
      go (inl h) =
          let z = sum_same (covers k p l) (λ r. 0) (octants (2 ^ l) q) (λ r i. covers_no k p l r h) ∙ sum-zero (octants (2 ^ l) q) in
          omega (arith, self_covers k p (cell q (suc l) s))
      go (inr h) =
          let z = bit_le (is_at k p (cell q (suc l) s)) false (λ t. let g = (at→ k p (cell q (suc l) s) t).0 in absurd (omega arith)) in
          omega (arith, octants_cover k p l q h)

  cover : Cell → ℕ
  cover c = covers k p c.level c.low

  kids_cover : (c : Cell) → (T c.split → (l : ℕ) × (c.level ≡ suc l)) → bit (is_at k p c) + sum cover (kids c) ≤ cover c
  unfolding cover
  kids_cover c deep = go c.split deep
    where
      go : (b : Bool) → (T b → (l : ℕ) × (c.level ≡ suc l)) → bit (is_at k p c) + sum cover (cond b (children c) []) ≤ covers k p c.level c.low
      go false f = omega (arith, self_covers k p c)
      go true f =
          let r = f tt in
          subst (λ m. bit (is_at k p (cell c.low m true)) + sum cover (children (cell c.low m true)) ≤ covers k p m c.low) (sym r.1)
          (children_cover r.0 c.low true)

  one-record : (cells : List Cell) → map unmarked cells ≡ box ∷ collect kids cells →
      ((c : Cell) → In c cells → T c.split → (l : ℕ) × (c.level ≡ suc l)) → copies cells k p ≤ 1
  unfolding copies cover
  one-record cells order deep =
      let a = sum-le (λ c. bit (is_at k p c) + sum cover (kids c)) cover cells (λ c i. kids_cover c (deep c i)) in
      let b = sum-add (λ c. bit (is_at k p c)) (λ c. sum cover (kids c)) cells in
      let c = sym (sum-map cover unmarked cells) ∙ ap (sum cover) order in
      omega (arith, sum-collect cover kids cells, covers_one k p 10 origin)

-- ---- the laws

module _ (t : List ℕ) (three : T (entries_right 0 0 (entries t))) (four : T (not (any (λ c. c.split && eqb c.level 0) (cells_of t)))) where
  -- every cell is the box or a child of a split cell
  origins : (c : Cell) → In c (cells_of t) → (unmarked c ≡ box) ⊎ ((u : Cell) × In u (cells_of t) × T u.split × In (unmarked c) (children u))
  origins c i = go (subst (In (unmarked c)) (cells_in_order t three) (map_in unmarked (cells_of t) c i))
    where
      go : In (unmarked c) (box ∷ collect kids (cells_of t)) → (unmarked c ≡ box) ⊎ ((u : Cell) × In u (cells_of t) × T u.split × In (unmarked c) (children u))
      go (inl e) = inl e
      go (inr j) =
          let r = in_collect kids (cells_of t) (unmarked c) j in
          let s = kid→ r.0 (unmarked c) r.2 in
          inr (r.0, r.1, s.0, s.1)

  -- the box and the children of split cells are cells
  listed : (d : Cell) → In d (box ∷ collect kids (cells_of t)) → T (is_cell (cells_of t) d.level d.low)
  listed d i =
      let r = in_map unmarked (cells_of t) d (subst (In d) (sym (cells_in_order t three)) i) in
      subst (λ (x : Cell). T (is_cell (cells_of t) x.level x.low)) (sym r.2) (→cell (cells_of t) r.0 r.1)

  shallow-cell : (c : Cell) → In c (cells_of t) → c.level ≤ 10
  unfolding cells_of
  shallow-cell c i = shallow-from (entries t) (box ∷ []) start c i
    where
      start : (c : Cell) → In c (box ∷ []) → c.level ≤ 10
      start c (inl e) = let g = ap (λ (x : Cell). x.level) e in omega arith
      start c (inr j) = absurd j

  -- a split cell is above level 0
  pub deep : (c : Cell) → In c (cells_of t) → T c.split → (l : ℕ) × (c.level ≡ suc l)
  deep c i s = go c.level refl
    where
      test : Cell → Bool
      test c = c.split && eqb c.level 0

      go : (m : ℕ) → c.level ≡ m → (l : ℕ) × (c.level ≡ suc l)
      go zero e = absurd (T_not (any test (cells_of t)) four (in→any test (cells_of t) c i (→and c.split (eqb c.level 0) s (eq→eqb c.level 0 e))))
      go (suc l) e = (l, e)

  child_of : (l : ℕ) (p q : Place) → T (is_split (cells_of t) (suc l) p) → CornerOf l p q → T (is_cell (cells_of t) l q)
  child_of l p q s f =
      listed (cell q l false) (inr (collect_in kids (cells_of t) (cell q l false) (cell p (suc l) true) (split→ (cells_of t) (suc l) p s) (→child l p q true f)))

  parent_of : (l : ℕ) (q : Place) → T (is_cell (cells_of t) l q) → l < 10 → (p : Place) × T (is_split (cells_of t) (suc l) p) × CornerOf l p q
  parent_of l q h lt = let r = cell→ (cells_of t) l q h in go (origins (cell q l r.0) r.1)
    where
      go : (cell q l false ≡ box) ⊎ ((u : Cell) × In u (cells_of t) × T u.split × In (cell q l false) (children u)) →
          (p : Place) × T (is_split (cells_of t) (suc l) p) × CornerOf l p q
      go (inl e) = let g = ap (λ (x : Cell). x.level) e in absurd (omega arith)
      go (inr (u, i, s, j)) =
          let d = deep u i s in
          let r = child→ u (cell q l false) j in
          let g = r.0 in
          let h = d.1 in
          let e : u.level ≡ suc l = omega arith in
          (u.low, subst (λ m. T (is_split (cells_of t) m u.low)) e (→split (cells_of t) u i s), subst (λ m. CornerOf m u.low q) (sym r.0) r.1)

  only_box : (p : Place) → T (is_cell (cells_of t) 10 p) → p ≡ origin
  only_box p h = let r = cell→ (cells_of t) 10 p h in go (origins (cell p 10 r.0) r.1)
    where
      go : (cell p 10 false ≡ box) ⊎ ((u : Cell) × In u (cells_of t) × T u.split × In (cell p 10 false) (children u)) → p ≡ origin
      go (inl e) = ap (λ (x : Cell). x.low) e
      go (inr (u, i, s, j)) =
          let d = (deep u i s).1 in
          let g = (child→ u (cell p 10 false) j).0 in
          absurd (omega (arith, shallow-cell u i))

  -- checks 3 and 4 give an octree
  pub octree_of : Octree (cells_of t)
  octree_of = record {
    box_is = listed box (inl refl);
    only_box = only_box;
    shallow = λ l p h. let r = cell→ (cells_of t) l p h in shallow-cell (cell p l r.0) r.1;
    unit_whole = λ p. false→ (is_split (cells_of t) 0 p) (not_T (is_split (cells_of t) 0 p) (λ s.
        let d = (deep (cell p 0 true) (split→ (cells_of t) 0 p s) tt).1 in omega arith));
    child = child_of;
    parent = parent_of;
    once = λ l p. one-record l p (cells_of t) (cells_in_order t three) deep;
  }
