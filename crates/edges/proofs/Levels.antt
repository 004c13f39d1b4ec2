-- The tables' levels in the rules' words: an edge is there just between the lowest and the highest level, it is divided just above the lowest,
-- and the one that may be crossed is that of the lowest level.
use Prim.Native.Nat.{ℕ, zero, suc, ◌^◌, ◌≤◌, ◌<◌}
use mathlib.Core.Path.{◌≡◌, refl, sym, ap, ◌∙◌, subst}
use mathlib.Core.Logic.{◌⊎◌, inl, inr}
use mathlib.Core.Bool.{Bool, true, false, not, ◌&&◌, cond}
use native.Mathlib.Omega.{arith}
use lib.Dec.{T, eqb, eqb→eq, ltb, ltb→lt, lt→ltb, nltb→le}
use lib.ListN.{length, get_or}
use borrow.Author.Tests.{le-ltb, lt-ltb}
use Rattle.base.specs.Lists.{any}
use Rattle.base.specs.Grid.{Place, Axis, move, same}
use Rattle.base.proofs.Tests.{and→, →and, or_left, eq→eqb, tests_equal, →true, →false}
use Rattle.rules.specs.Survey.{Survey}
use Rattle.rules.specs.Edges.{CellEdge, edge, is_edge, divided, undivided, odd, crossed, point_edges, number_of, carrier}
use Rattle.edges.specs.Tables.{edges_of, lowest_level, highest_level, crossed_at}
use Rattle.edges.proofs.Starts.{edge→listed, listed→edge, lowest-le, highest_ge, lowest-is, highest_is, Here}

-- What the laws of accepted surveys give of edges.
pub record Edged (s : Survey) : Type 0 where
  -- both halves of a divided edge are edges
  pub halves : (a : Axis) (p : Place) (l : ℕ) → T (is_edge s.cells a p (suc l)) → T (divided s.cells a p (suc l)) →
      T (is_edge s.cells a p l) × T (is_edge s.cells a (move a (2 ^ l) p) l)
  -- between the levels of two edges that start at one place, each level has one
  pub between : (a : Axis) (p : Place) (l k m : ℕ) → T (is_edge s.cells a p l) → T (is_edge s.cells a p m) → l ≤ k → k ≤ m → T (is_edge s.cells a p k)
  pub shallow : (a : Axis) (p : Place) (l : ℕ) → T (is_edge s.cells a p l) → l ≤ 10
  -- both ends are on the corner table
  pub lower_end : (a : Axis) (p : Place) (l : ℕ) → T (is_edge s.cells a p l) → T (any (same p) s.places)
  pub upper_end_lem : (a : Axis) (p : Place) (l : ℕ) → T (is_edge s.cells a p l) → T (any (same (move a (2 ^ l) p)) s.places)
  -- a point's number is its place in the order of points
  pub numbered : (d : CellEdge) (n : ℕ) → n < length (point_edges s) → number_of s (get_or (point_edges s) n d) ≡ n

module _ (s : Survey) (laws : Edged s) where
  pub edge→levels : (a : Axis) (p : Place) (l : ℕ) → T (is_edge s.cells a p l) → (lowest_level s a p ≤ l) × (l ≤ highest_level s a p)
  unfolding lowest_level highest_level
  edge→levels a p l t = let i = edge→listed s.cells a p l t in (lowest-le a p (edges_of s.cells) l i, highest_ge a p (edges_of s.cells) l i)

  pub lowest-edge : (a : Axis) (p : Place) → lowest_level s a p < 11 → T (is_edge s.cells a p (lowest_level s a p))
  unfolding lowest_level
  lowest-edge a p h = go (lowest-is a p (edges_of s.cells))
    where
      go : (lowest_level s a p ≡ 11) ⊎ Here a p (edges_of s.cells) (lowest_level s a p) → T (is_edge s.cells a p (lowest_level s a p))
      go (inl e) = absurd (omega arith)
      go (inr i) = listed→edge s.cells (edge a p (lowest_level s a p)) i

  pub levels→edge : (a : Axis) (p : Place) (l : ℕ) → lowest_level s a p ≤ l → l ≤ highest_level s a p → T (is_edge s.cells a p l)
  unfolding highest_level
  levels→edge a p l h k = go (highest_is a p (edges_of s.cells))
    where
      go : (highest_level s a p ≡ 0) ⊎ Here a p (edges_of s.cells) (highest_level s a p) → T (is_edge s.cells a p l)
      go (inl e) = let q : lowest_level s a p ≡ l = omega arith in subst (λ (n : ℕ). T (is_edge s.cells a p n)) q (lowest-edge a p (omega arith))
      go (inr i) =
          let t = listed→edge s.cells (edge a p (highest_level s a p)) i in
          let u = laws.shallow a p (highest_level s a p) t in
          laws.between a p (lowest_level s a p) l (highest_level s a p) (lowest-edge a p (omega arith)) t h k

  -- an edge is divided just if it is above the lowest level
  pub divided-is : (a : Axis) (p : Place) (l : ℕ) → T (is_edge s.cells a p l) → divided s.cells a p l ≡ ltb (lowest_level s a p) l
  unfolding divided
  divided-is a p zero t = sym (le-ltb (lowest_level s a p) 0 (omega arith))
  divided-is a p (suc l) t =
      tests_equal (divided s.cells a p (suc l)) (ltb (lowest_level s a p) (suc l))
      (λ d. let h = (edge→levels a p l (laws.halves a p l t d).0).0 in lt→ltb (lowest_level s a p) (suc l) (omega arith))
      (λ d. let h = ltb→lt (lowest_level s a p) (suc l) d in
      let top = laws.shallow a p (suc l) t in
      or_left (is_edge s.cells a p l) (is_edge s.cells a (move a (2 ^ l) p) l)
      (laws.between a p (lowest_level s a p) l (suc l) (lowest-edge a p (omega arith)) t (omega arith) (omega arith)))

  pub undivided-is : (a : Axis) (p : Place) (l : ℕ) → undivided s.cells a p l ≡ (eqb l (lowest_level s a p) && ltb (lowest_level s a p) 11)
  unfolding undivided
  undivided-is a p l =
      tests_equal (is_edge s.cells a p l && not (divided s.cells a p l)) (eqb l (lowest_level s a p) && ltb (lowest_level s a p) 11) to from
    where
      to : T (is_edge s.cells a p l && not (divided s.cells a p l)) → T (eqb l (lowest_level s a p) && ltb (lowest_level s a p) 11)
      to t =
          let u = and→ (is_edge s.cells a p l) (not (divided s.cells a p l)) t in
          let n : T (not (ltb (lowest_level s a p) l)) = subst (λ b. T (not b)) (divided-is a p l u.0) u.1 in
          let h = (edge→levels a p l u.0).0 in
          let k = laws.shallow a p l u.0 in
          let m = nltb→le (lowest_level s a p) l n in
          →and (eqb l (lowest_level s a p)) (ltb (lowest_level s a p) 11) (eq→eqb l (lowest_level s a p) (omega arith))
          (lt→ltb (lowest_level s a p) 11 (omega arith))

      from : T (eqb l (lowest_level s a p) && ltb (lowest_level s a p) 11) → T (is_edge s.cells a p l && not (divided s.cells a p l))
      from t =
          let u = and→ (eqb l (lowest_level s a p)) (ltb (lowest_level s a p) 11) t in
          let e = eqb→eq l (lowest_level s a p) u.0 in
          let i : T (is_edge s.cells a p l) = subst (λ (n : ℕ). T (is_edge s.cells a p n)) (sym e)
          (lowest-edge a p (ltb→lt (lowest_level s a p) 11 u.1)) in
          let d : divided s.cells a p l ≡ false = divided-is a p l i ∙ le-ltb (lowest_level s a p) l (omega arith) in
          →and (is_edge s.cells a p l) (not (divided s.cells a p l)) i (→false d)

  -- at a place and axis the edge of the lowest level may be crossed, and no other
  pub crossed-is : (a : Axis) (p : Place) (l : ℕ) → crossed s a p l ≡ (eqb l (lowest_level s a p) && crossed_at s a p)
  unfolding crossed crossed_at
  crossed-is a p l = ap (λ b. b && odd s.is_wet a p l) (undivided-is a p l) ∙ go (eqb l (lowest_level s a p)) (eqb→eq l (lowest_level s a p))
    where
      go : (b : Bool) → (T b → l ≡ lowest_level s a p) →
          ((b && ltb (lowest_level s a p) 11) && odd s.is_wet a p l) ≡ (b && (ltb (lowest_level s a p) 11 && odd s.is_wet a p (lowest_level s a p)))
      go true e = ap (λ (n : ℕ). ltb (lowest_level s a p) 11 && odd s.is_wet a p n) (e tt)
      go false e = refl

  -- ---- going down

  -- an edge that is not above the lowest level carries its own point
  pub carrier-here : (a : Axis) (p : Place) (l : ℕ) → T (is_edge s.cells a p l) → l ≤ lowest_level s a p → carrier s a p l ≡ edge a p l
  unfolding carrier
  carrier-here a p zero t h = refl
  carrier-here a p (suc l) t h = rw (divided-is a p (suc l) t, le-ltb (lowest_level s a p) (suc l) h)

  -- one above it, the point of a half
  pub carrier_below : (a : Axis) (p : Place) (l : ℕ) → T (is_edge s.cells a p (suc l)) → lowest_level s a p ≤ l →
      carrier s a p (suc l) ≡ cond (odd s.is_wet a p l) (carrier s a p l) (carrier s a (move a (2 ^ l) p) l)
  unfolding carrier
  carrier_below a p l t h = rw (divided-is a p (suc l) t, lt-ltb (lowest_level s a p) (suc l) (omega arith))

  -- both halves are edges there
  pub halves_below : (a : Axis) (p : Place) (l : ℕ) → T (is_edge s.cells a p (suc l)) → lowest_level s a p ≤ l →
      T (is_edge s.cells a p l) × T (is_edge s.cells a (move a (2 ^ l) p) l)
  halves_below a p l t h = laws.halves a p l t (→true (divided-is a p (suc l) t ∙ lt-ltb (lowest_level s a p) (suc l) (omega arith)))
