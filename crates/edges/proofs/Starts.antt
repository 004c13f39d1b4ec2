-- The edges of cells as a list: an edge is on it just if some cell has it. The lowest and the highest level of those that start at a place.
use Prim.Native.Nat.{ℕ, ◌+◌, ◌^◌, ◌≤◌, ◌<◌, min, max}
use mathlib.Core.Path.{◌≡◌, refl, sym, ap, ◌∙◌, subst}
use mathlib.Core.Logic.{◌⊎◌, inl, inr}
use mathlib.Core.Bool.{Bool, true, false, cond}
use mathlib.Core.List.{List, [], ◌∷◌}
use native.Mathlib.Omega.{arith}
use lib.Dec.{T, eqb, eqb_refl}
use Rattle.base.specs.Lists.{collect}
use Rattle.base.specs.Grid.{Place, Axis, axes, axis_number, next, along, move, same}
use Rattle.base.proofs.Tests.{and→, →and, below}
use Rattle.base.proofs.Lists.{In, in_distinct, in_map, in_collect}
use Rattle.base.proofs.Places.{same→, same_refl, axis_equal, put_next, put_last, put_one, square}
use Rattle.rules.specs.Survey.{Cell, size}
use Rattle.rules.specs.Edges.{CellEdge, edge, same_edge, is_edge}
use Rattle.rules.specs.Closing.{cell_edges_on, all_edges}
use Rattle.octree.proofs.Edges.{all_edges_in, →edge}
use Rattle.octree.specs.Lawful.{CornerOf}
use Rattle.octree.proofs.Cells.{→cell}
use Rattle.edges.specs.Tables.{cell_edges, edges_of, starts_at, lowest_in, highest_in}

-- ---- an edge is on the list just if some cell has it

pub edge→listed : (cells : List Cell) (a : Axis) (p : Place) (l : ℕ) → T (is_edge cells a p l) → In (edge a p l) (edges_of cells)
unfolding all_edges edges_of
edge→listed cells a p l t = in_distinct same_edge (collect cell_edges cells) (edge a p l) (all_edges_in cells (edge a p l) t)

module _ (l : ℕ) (p : Place) where
  -- a corner of the cube of level l at p, and the one above it
  next-corner : (b : Axis) (q : Place) → CornerOf l p q → along b q ≡ along b p → CornerOf l p (move b (2 ^ l) q)
  next-corner b q f e = put_one (λ d n. (n ≡ along d p) ⊎ (n ≡ along d p + 2 ^ l)) b (along b q + 2 ^ l) q (inr (ap (λ n. n + 2 ^ l) e)) f

  -- the four corners in its lower side on an axis
  square_corner : (a : Axis) (q : Place) → In q (square a (2 ^ l) p) → (along a q ≡ along a p) × CornerOf l p q
  square_corner a q = go
    where
      up : Place
      up = move (next (next a)) (2 ^ l) p

      up-corner : CornerOf l p up
      up-corner = next-corner (next (next a)) p (λ b. inl refl) refl

      low_up : along a up ≡ along a p
      low_up = put_last a (along (next (next a)) p + 2 ^ l) p

      go : In q (square a (2 ^ l) p) → (along a q ≡ along a p) × CornerOf l p q
      go (inl e) = subst (λ r. (along a r ≡ along a p) × CornerOf l p r) (sym e) (refl, λ b. inl refl)
      go (inr (inl e)) =
          subst (λ r. (along a r ≡ along a p) × CornerOf l p r) (sym e)
          (put_next a (along (next a) p + 2 ^ l) p, next-corner (next a) p (λ b. inl refl) refl)
      go (inr (inr (inl e))) = subst (λ r. (along a r ≡ along a p) × CornerOf l p r) (sym e) (low_up, up-corner)
      go (inr (inr (inr (inl e)))) =
          subst (λ r. (along a r ≡ along a p) × CornerOf l p r) (sym e)
          (put_next a (along (next a) up + 2 ^ l) up ∙ low_up, next-corner (next a) up up-corner (put_next (next a) (along (next (next a)) p + 2 ^ l) p))
      go (inr (inr (inr (inr e)))) = absurd e

pub listed→edge : (cells : List Cell) (e : CellEdge) → In e (edges_of cells) → T (is_edge cells e.axis e.low e.level)
unfolding edges_of
listed→edge cells e i =
    let r = in_collect cell_edges cells e i in
    let c = r.0 in
    let u = in_collect (cell_edges_on c) axes e r.2 in
    let w = in_map (λ q. edge u.0 q c.level) (square u.0 (size c) c.low) e u.2 in
    let h = square_corner c.level c.low u.0 w.0 w.1 in
    subst (λ (f : CellEdge). T (is_edge cells f.axis f.low f.level)) (sym w.2)
    (→edge cells u.0 w.0 c.level (c.low, →cell cells c r.1, h.0, h.1))

-- ---- the lowest and the highest level

-- an edge that starts at p on axis a
pub start→ : (a : Axis) (p : Place) (e : CellEdge) → T (starts_at a p e) → (p ≡ e.low) × (a ≡ e.axis)
start→ a p e t =
    let u = and→ (same p e.low) (eqb (axis_number a) (axis_number e.axis)) t in
    (same→ p e.low u.0, axis_equal a e.axis u.1)

pub →start : (a : Axis) (p : Place) (l : ℕ) → T (starts_at a p (edge a p l))
→start a p l = →and (same p p) (eqb (axis_number a) (axis_number a)) (same_refl p) (eqb_refl (axis_number a))

module _ (a : Axis) (p : Place) where
  pub lowest-le : (es : List CellEdge) (l : ℕ) → In (edge a p l) es → lowest_in es a p ≤ l
  unfolding lowest_in
  lowest-le [] l i = absurd i
  lowest-le (e ∷ es) l (inl q) =
      go (starts_at a p e) (subst (λ f. T (starts_at a p f)) q (→start a p l)) (ap (λ (f : CellEdge). f.level) q)
    where
      go : (b : Bool) → T b → l ≡ e.level → cond b (min e.level (lowest_in es a p)) (lowest_in es a p) ≤ l
      go true t h = omega arith
      go false t h = absurd t
  lowest-le (e ∷ es) l (inr i) = go (starts_at a p e) (lowest-le es l i)
    where
      go : (b : Bool) → lowest_in es a p ≤ l → cond b (min e.level (lowest_in es a p)) (lowest_in es a p) ≤ l
      go true h = omega arith
      go false h = h

  pub highest_ge : (es : List CellEdge) (l : ℕ) → In (edge a p l) es → l ≤ highest_in es a p
  unfolding highest_in
  highest_ge [] l i = absurd i
  highest_ge (e ∷ es) l (inl q) =
      go (starts_at a p e) (subst (λ f. T (starts_at a p f)) q (→start a p l)) (ap (λ (f : CellEdge). f.level) q)
    where
      go : (b : Bool) → T b → l ≡ e.level → l ≤ cond b (max e.level (highest_in es a p)) (highest_in es a p)
      go true t h = omega arith
      go false t h = absurd t
  highest_ge (e ∷ es) l (inr i) = go (starts_at a p e) (highest_ge es l i)
    where
      go : (b : Bool) → l ≤ highest_in es a p → l ≤ cond b (max e.level (highest_in es a p)) (highest_in es a p)
      go true h = omega arith
      go false h = h

  -- a level is that of an edge on the list that starts here
  abbrev pub Here : List CellEdge → ℕ → Type 0
  Here es l = In (edge a p l) es

  here : (e : CellEdge) → T (starts_at a p e) → e ≡ edge a p e.level
  here e t = let h = start→ a p e t in λ i. record { axis = sym h.1 i; low = sym h.0 i; level = e.level }

  pub lowest-is : (es : List CellEdge) → (lowest_in es a p ≡ 11) ⊎ Here es (lowest_in es a p)
  unfolding lowest_in
  lowest-is [] = inl refl
  lowest-is (e ∷ es) = go (starts_at a p e) (here e) (below e.level (lowest_in es a p)) (lowest-is es)
    where
      later : (n : ℕ) → n ≡ lowest_in es a p → (lowest_in es a p ≡ 11) ⊎ Here es (lowest_in es a p) → (n ≡ 11) ⊎ Here (e ∷ es) n
      later n q (inl h) = inl (q ∙ h)
      later n q (inr i) = inr (inr (subst (Here es) (sym q) i))

      go : (b : Bool) → (T b → e ≡ edge a p e.level) → (e.level < lowest_in es a p) ⊎ (lowest_in es a p ≤ e.level) →
          (lowest_in es a p ≡ 11) ⊎ Here es (lowest_in es a p) →
          (cond b (min e.level (lowest_in es a p)) (lowest_in es a p) ≡ 11) ⊎ Here (e ∷ es) (cond b (min e.level (lowest_in es a p)) (lowest_in es a p))
      go true h (inl o) ih = let q : e.level ≡ min e.level (lowest_in es a p) = omega arith in inr (inl (subst (λ (n : ℕ). edge a p n ≡ e) q (sym (h tt))))
      go true h (inr o) ih = let q : min e.level (lowest_in es a p) ≡ lowest_in es a p = omega arith in later (min e.level (lowest_in es a p)) q ih
      go false h o ih = later (lowest_in es a p) refl ih

  pub highest_is : (es : List CellEdge) → (highest_in es a p ≡ 0) ⊎ Here es (highest_in es a p)
  unfolding highest_in
  highest_is [] = inl refl
  highest_is (e ∷ es) = go (starts_at a p e) (here e) (below (highest_in es a p) e.level) (highest_is es)
    where
      later : (n : ℕ) → n ≡ highest_in es a p → (highest_in es a p ≡ 0) ⊎ Here es (highest_in es a p) → (n ≡ 0) ⊎ Here (e ∷ es) n
      later n q (inl h) = inl (q ∙ h)
      later n q (inr i) = inr (inr (subst (Here es) (sym q) i))

      go : (b : Bool) → (T b → e ≡ edge a p e.level) → (highest_in es a p < e.level) ⊎ (e.level ≤ highest_in es a p) →
          (highest_in es a p ≡ 0) ⊎ Here es (highest_in es a p) →
          (cond b (max e.level (highest_in es a p)) (highest_in es a p) ≡ 0) ⊎ Here (e ∷ es) (cond b (max e.level (highest_in es a p)) (highest_in es a p))
      go true h (inl o) ih = let q : e.level ≡ max e.level (highest_in es a p) = omega arith in inr (inl (subst (λ (n : ℕ). edge a p n ≡ e) q (sym (h tt))))
      go true h (inr o) ih = let q : max e.level (highest_in es a p) ≡ highest_in es a p = omega arith in later (max e.level (highest_in es a p)) q ih
      go false h o ih = later (highest_in es a p) refl ih
