-- The edges that begin at one place on one axis, and those that end there: their levels are all those from a lowest to a highest, and the
-- lowest alone is undivided. Each law is said once, of the end of the edge that is at the place.
use Prim.Native.Nat.{ℕ, zero, suc, ◌+◌, ◌-◌, ◌^◌, ◌≤◌, ◌<◌}
use mathlib.Core.Path.{◌≡◌, refl, sym, ap, ◌∙◌, subst}
use mathlib.Core.Logic.{◌⊎◌, inl, inr}
use mathlib.Core.Bool.{Bool, true, false}
use mathlib.Core.List.{List}
use native.Mathlib.Nat.{pow-succ'}
use native.Mathlib.Omega.{arith}
use lib.Dec.{T, T_not}
use Rattle.base.specs.Grid.{Place, Axis, along, move, back}
use Rattle.rules.specs.Survey.{Cell}
use Rattle.rules.specs.Edges.{is_edge, divided, undivided}
use Rattle.base.proofs.Tests.{or_left, or_right, below}
use Rattle.base.proofs.Places.{along-put, put_one, back-move}
use Rattle.octree.specs.Lawful.{is_cell, CornerOf, Octree}
use Rattle.octree.proofs.Cells.{split-cell}
use Rattle.octree.proofs.Edges.{Sided, edge→, →edge, upper-corner, undivided→}
use Rattle.octree.proofs.Aligned.{Multiple, Aligned, multiple_down, no_middle, cell_aligned, corner-place}
use Rattle.octree.proofs.Halves.{move-move}

aligned_down : (j m : ℕ) (p : Place) → j ≤ m → Aligned m p → Aligned j p
aligned_down j m p h f a =
    let e : m ≡ m - j + j = omega arith in
    multiple_down (m - j) j (along a p) (subst (λ n. Multiple n (along a p)) e (f a))

-- the lower end (false) or the upper end (true) of the edge of level l from p; there the lower or upper half of an edge twice as long begins
abbrev end_of : Bool → Axis → ℕ → Place → Place
end_of false a l p = p
end_of true a l p = move a (2 ^ l) p

half_end : (side : Bool) (a : Axis) (l : ℕ) (p : Place) → end_of side a l (end_of side a l p) ≡ end_of side a (suc l) p
half_end false a l p = refl
half_end true a l p = move-move a l p

-- r is on the lower or the upper side of the cube of level l at q
abbrev OnSide : Bool → Axis → ℕ → Place → Place → Type 0
OnSide false a l q r = along a r ≡ along a q
OnSide true a l q r = along a r ≡ along a q + 2 ^ l

-- an aligned place that is on a side of a child at q is on the same side of its parent at u, as it is not in the parent's middle
same_side : (side : Bool) (a : Axis) (l : ℕ) (q u r : Place) → Aligned (suc l) u → Aligned (suc l) r → Sided a l u q →
    OnSide side a l q r → OnSide side a (suc l) u r
same_side false a l q u r f m (inl e) d = d ∙ e
same_side false a l q u r f m (inr e) d = absurd (no_middle l (along a r) (along a u) (m a) (f a) (d ∙ e))
same_side true a l q u r f m (inl e) d = absurd (no_middle l (along a r) (along a u) (m a) (f a) (omega arith))
same_side true a l q u r f m (inr e) d = omega (arith, pow-succ' 2 l)

module _ (cells : List Cell) (tree : Octree cells) where
  -- some cell of level l has an edge on the axis a with this end at r
  abbrev EndAt : Bool → Axis → Place → ℕ → Type 0
  EndAt side a r l = (q : Place) × T (is_cell cells l q) × OnSide side a l q r × CornerOf l q r

  →end : (side : Bool) (a : Axis) (p : Place) (l : ℕ) → T (is_edge cells a p l) → EndAt side a (end_of side a l p) l
  →end false a p l t = edge→ cells a p l t
  →end true a p l t =
      let (q, c, g, f) = edge→ cells a p l t in
      (q, c, along-put a (along a p + 2 ^ l) p ∙ ap (λ n. n + 2 ^ l) g, upper-corner a p l q g f)

  end→ : (side : Bool) (a : Axis) (p : Place) (l : ℕ) → EndAt side a (end_of side a l p) l → T (is_edge cells a p l)
  end→ false a p l t = →edge cells a p l t
  end→ true a p l (q, c, g, f) =
      let r = move a (2 ^ l) p in
      let start : along a r - 2 ^ l ≡ along a q = omega arith in
      let place = back-move a (2 ^ l) p in
      let low : along a p ≡ along a q = sym (ap (along a) place) ∙ along-put a (along a r - 2 ^ l) r ∙ start in
      let corner = put_one (λ b n. (n ≡ along b q) ⊎ (n ≡ along b q + 2 ^ l)) a (along a r - 2 ^ l) r (inl start) f in
      →edge cells a p l (q, c, low, subst (CornerOf l q) place corner)

  -- if the end is aligned to the next level, the edge is half of an edge of that level with the same end
  edge-up : (side : Bool) (a : Axis) (r : Place) (l : ℕ) → EndAt side a r l → l < 10 → Aligned (suc l) r → EndAt side a r (suc l)
  edge-up side a r l (q, c, o, f) low m =
      let (u, s, h) = tree.parent l q c low in
      let cell = split-cell cells (suc l) u s in
      go u cell (cell_aligned cells tree (suc l) u cell) h
    where
      go : (u : Place) → T (is_cell cells (suc l) u) → Aligned (suc l) u → CornerOf l u q → EndAt side a r (suc l)
      go u cell aligned h = (u, cell, same_side side a l q u r aligned m (h a) o, λ b. corner b (f b))
        where
          corner : (b : Axis) → Sided b l q r → Sided b (suc l) u r
          corner b (inl e) = inl (same_side false b l q u r aligned m (h b) e)
          corner b (inr e) = inr (same_side true b l q u r aligned m (h b) e)

  climb : (n : ℕ) (side : Bool) (a : Axis) (r : Place) (l : ℕ) → EndAt side a r l → n + l ≤ 10 → Aligned (n + l) r → EndAt side a r (n + l)
  climb zero side a r l t h m = subst (EndAt side a r) (let e : l ≡ zero + l = omega arith in e) t
  climb (suc n) side a r l t h m =
      let e : suc (n + l) ≡ suc n + l = omega arith in
      let next : Aligned (suc (n + l)) r = subst (λ k. Aligned k r) (sym e) m in
      let u = climb n side a r l t (omega arith) (aligned_down (n + l) (suc (n + l)) r (omega arith) next) in
      subst (EndAt side a r) e (edge-up side a r (n + l) u (omega arith) next)

  -- between two levels of edges with an end at a place, every level has one
  ends-between : (side : Bool) (a : Axis) (r : Place) (k j m : ℕ) → EndAt side a r k → EndAt side a r m → k ≤ j → j ≤ m → EndAt side a r j
  ends-between side a r k j m t (q, c, o, f) h g =
      let e : j - k + k ≡ j = omega arith in
      let top = tree.shallow m q c in
      let aligned = aligned_down (j - k + k) m r (omega arith) (λ b. (corner-place cells tree m q r c f b).0) in
      subst (EndAt side a r) e (climb (j - k) side a r k t (omega arith) aligned)

  -- a longer edge with the same end is divided
  longer_with_end : (side : Bool) (a : Axis) (p q : Place) (k m : ℕ) → T (is_edge cells a p k) → T (is_edge cells a q m) →
      end_of side a k p ≡ end_of side a m q → k < m → T (divided cells a q m)
  unfolding divided
  longer_with_end side a p q k zero t u e h = absurd (omega arith)
  longer_with_end side a p q k (suc m) t u e h = or side (end→ side a (end_of side a m q) m (subst (λ r. EndAt side a r m) (sym (half_end side a m q)) half))
    where
      half : EndAt side a (end_of side a (suc m) q) m
      half =
          ends-between side a (end_of side a (suc m) q) k m (suc m) (subst (λ r. EndAt side a r k) e (→end side a p k t)) (→end side a q (suc m) u)
          (omega arith) (omega arith)

      or : (side : Bool) → T (is_edge cells a (end_of side a m q) m) → T (divided cells a q (suc m))
      or false = or_left (is_edge cells a q m) (is_edge cells a (move a (2 ^ m) q) m)
      or true = or_right (is_edge cells a q m) (is_edge cells a (move a (2 ^ m) q) m)

  -- undivided edges with one end in common have one length
  one-level : (side : Bool) (a : Axis) (p q : Place) (k m : ℕ) → T (undivided cells a p k) → T (undivided cells a q m) →
      end_of side a k p ≡ end_of side a m q → k ≡ m
  one-level side a p q k m t u e = go (below k m) (below m k)
    where
      shorter : (p q : Place) (k m : ℕ) → T (undivided cells a p k) → T (undivided cells a q m) → end_of side a k p ≡ end_of side a m q → k < m → ⊥
      shorter p q k m t u e h =
          let v = undivided→ cells a q m u in
          T_not (divided cells a q m) v.1 (longer_with_end side a p q k m (undivided→ cells a p k t).0 v.0 e h)

      go : (k < m) ⊎ (m ≤ k) → (m < k) ⊎ (k ≤ m) → k ≡ m
      go (inl h) g = absurd (shorter p q k m t u e h)
      go (inr h) (inl g) = absurd (shorter q p m k u t (sym e) g)
      go (inr h) (inr g) = omega arith

  -- ---- of edges that begin at one place

  -- between two levels of edges from a place, every level has an edge from there
  pub levels_between : (a : Axis) (p : Place) (k j m : ℕ) → T (is_edge cells a p k) → T (is_edge cells a p m) → k ≤ j → j ≤ m → T (is_edge cells a p j)
  levels_between a p k j m t u h g = →edge cells a p j (ends-between false a p k j m (edge→ cells a p k t) (edge→ cells a p m u) h g)

  -- a longer edge from the same place is divided
  pub longer_divided : (a : Axis) (p : Place) (k m : ℕ) → T (is_edge cells a p k) → T (is_edge cells a p m) → k < m → T (divided cells a p m)
  longer_divided a p k m t u h = longer_with_end false a p p k m t u refl h

  -- at most one undivided edge begins at a place on an axis
  pub one-undivided : (a : Axis) (p : Place) (k m : ℕ) → T (undivided cells a p k) → T (undivided cells a p m) → k ≡ m
  one-undivided a p k m t u = one-level false a p p k m t u refl

  -- at most one undivided edge ends at a place on an axis
  pub one_end : (a : Axis) (p q : Place) (k m : ℕ) → T (undivided cells a p k) → T (undivided cells a q m) → move a (2 ^ k) p ≡ move a (2 ^ m) q → p ≡ q
  one_end a p q k m t u e =
      let level = one-level true a p q k m t u e in
      sym (back-move a (2 ^ k) p) ∙ ap (back a (2 ^ k)) (e ∙ ap (λ n. move a (2 ^ n) q) (sym level)) ∙ back-move a (2 ^ k) q
