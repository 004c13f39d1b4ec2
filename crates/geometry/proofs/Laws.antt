-- The laws of face steps: each leaf's steps pair up, and over all leaves they balance.
use Prim.Native.Nat.{ℕ, ◌+◌, ◌≤◌, ◌<◌}
use native.Mathlib.Omega.{arith}
use mathlib.Core.Path.{◌≡◌, refl, sym, ◌∙◌, ap}
use mathlib.Core.Logic.{◌⊎◌, inl, inr, ◌≢◌}
use mathlib.Core.Bool.{Bool, true, false, not, ◌&&◌, ◌||◌}
use mathlib.Core.List.{List}
use lib.Dec.{T, eqb}
use lib.ListN.{length}
use Rattle.base.specs.Lists.{sum, bit}
use Rattle.base.specs.Grid.{Place, origin, Axis, next, along}
use Rattle.rules.specs.Survey.{Cell, Survey}
use Rattle.rules.specs.Edges.{CellEdge, point_edges}
use Rattle.rules.specs.Steps.{Step, leaf_steps, edge_of, twin_of}
use Rattle.rules.specs.Closing.{in_one_face, Carries, step}
use Rattle.base.proofs.Tests.{below}
use Rattle.base.proofs.Lists.{In, any→in}
use Rattle.base.proofs.Sums.{sum-add, in_sum}
use Rattle.octree.specs.Lawful.{is_cell, Lawful}
use Rattle.geometry.proofs.Interface.{leaves_of, tally, leave, enter, meeting, Paired}
use Rattle.geometry.proofs.Square.{drawn, fore, back, left_is, entered-is}
use Rattle.geometry.proofs.Closed.{closed}
use Rattle.geometry.proofs.Sides.{parted, parted_unit}
use Rattle.geometry.proofs.Small.{Bare, shown, leaf-shows, leaf-cell}
use Rattle.geometry.proofs.Balance.{leaves_balance}
use Rattle.geometry.proofs.Trees.{OnLine, sibling_line}
use Rattle.geometry.proofs.Points.{carried, pair_hit, pair_blind, square_adds, twin_twice, twin_edges}
use Rattle.geometry.proofs.Located.{hits, OffPlane, left-once, entered-once, none_shown}
use Rattle.geometry.proofs.Outside.{one_off, no_tally, no_ends}

pub leave_is : (ss : List Step) (p : ℕ) → leave ss p ≡ sum (λ t. hits p t.0) ss
unfolding leave
leave_is ss p = refl

pub enter-is : (ss : List Step) (p : ℕ) → enter ss p ≡ sum (λ t. hits p t.1) ss
unfolding enter
enter-is ss p = refl

-- a list with a step that meets p has one that leaves or enters it
pub meeting→ : (ss : List Step) (p : ℕ) → T (meeting ss p) → 1 ≤ leave ss p + enter ss p
unfolding leave enter
meeting→ ss p m =
    let (t, i, u) = any→in (λ (t : Step). eqb p t.0 || eqb p t.1) ss m in
    omega (
      arith,
      in_sum (λ (t : Step). hits p t.0) ss t i,
      in_sum (λ (t : Step). hits p t.1) ss t i,
      either_hits (eqb p t.0) (eqb p t.1) u,
    )
  where
    either_hits : (a b : Bool) → T (a || b) → 1 ≤ bit a + bit b
    either_hits true b u = omega arith
    either_hits false true u = omega arith
    either_hits false false u = absurd u

pub tally_is : (p q : ℕ) (ss : List Step) → tally p q ss ≡ sum (λ t. step p q t.0 t.1) ss
unfolding tally
tally_is p q ss = refl

and-turn : (a b : Bool) → (a && b) ≡ (b && a)
and-turn true true = refl
and-turn true false = refl
and-turn false true = refl
and-turn false false = refl

step-turn : (p q a b : ℕ) → step p q b a ≡ step q p a b
unfolding step
step-turn p q a b = ap bit (and-turn (eqb p b) (eqb q a))

-- edges on one line lie in the same planes
off_line : (e f : CellEdge) (b : Axis) (m : ℕ) → OnLine e.axis e f → OffPlane f b m → OffPlane e b m
off_line e f b m (x, y, z) (o, o') = (
  λ q p. o (q ∙ ap next (sym x)) (ap (λ a. along (next a) f.low) x ∙ y ∙ p),
  λ q p. o' (q ∙ ap (λ a. next (next a)) (sym x)) (ap (λ a. along (next (next a)) f.low) x ∙ z ∙ p),
)

module _ (s : Survey) (law : Lawful s) where
  -- on a cell, as much enters a point and its twin as leaves them
  pair_shown : (p : ℕ) → p < length (point_edges s) → (k : ℕ) (c : Place) → shown s (λ t. pair_hit s p t.1) k c ≡ shown s (λ t. pair_hit s p t.0) k c
  unfolding shown
  pair_shown p h =
      closed (parted s.cells) (fore s (pair_hit s p)) (back s (pair_hit s p)) (drawn s (λ t. pair_hit s p t.1)) (drawn s (λ t. pair_hit s p t.0))
      (parted_unit s.cells law.octree) (square_adds s law (pair_hit s p) (pair_blind s law p h))
      (λ a k n u v. omega (arith, left_is s (pair_hit s p) a k n u v, entered-is s (pair_hit s p) a k n u v))

  -- each leaf's steps pair up
  pub leaf_paired : (c : Cell) → In c (leaves_of s) → Paired (twin_of s) (length (point_edges s)) (leaf_steps s c)
  leaf_paired c m = record {
    leaves = λ p. omega (arith, left p, left-once s law p c.level c.low is.0);
    enters = λ p. omega (arith, entered p, entered-once s law p c.level c.low is.0);
    within = λ p h. within p h (below p (length (point_edges s)));
    even = λ p. even p (below p (length (point_edges s)));
  }
    where
      is : T (is_cell s.cells c.level c.low) × Bare s.cells c.level c.low
      is = leaf-cell s law c m

      ss : List Step
      ss = leaf_steps s c

      left : (p : ℕ) → leave ss p ≡ shown s (λ t. hits p t.0) c.level c.low
      left p = leave_is ss p ∙ leaf-shows s (λ t. hits p t.0) c is.1

      entered : (p : ℕ) → enter ss p ≡ shown s (λ t. hits p t.1) c.level c.low
      entered p = enter-is ss p ∙ leaf-shows s (λ t. hits p t.1) c is.1

      none : (p : ℕ) → length (point_edges s) ≤ p → (leave ss p ≡ 0) × (enter ss p ≡ 0)
      none p h = let z = none_shown s law p h c.level c.low is.0 in (left p ∙ z.0, entered p ∙ z.1)

      within : (p : ℕ) → 1 ≤ leave ss p + enter ss p → (p < length (point_edges s)) ⊎ (length (point_edges s) ≤ p) → p < length (point_edges s)
      within p h (inl l) = l
      within p h (inr l) = absurd (omega (arith, none p l))

      even : (p : ℕ) → (p < length (point_edges s)) ⊎ (length (point_edges s) ≤ p)
          → (enter ss p ≡ leave ss p) ⊎ ((enter ss p + enter ss (twin_of s p) ≡ leave ss p + leave ss (twin_of s p)) × (twin_of s (twin_of s p) ≡ p))
      even p (inr l) = inl (omega (arith, none p l))
      even p (inl l) =
          let f1 : Step → ℕ = λ t. pair_hit s p t.1 in
          let f0 : Step → ℕ = λ t. pair_hit s p t.0 in
          inr (
            omega (
              arith,
              enter-is ss p,
              enter-is ss (twin_of s p),
              leave_is ss p,
              leave_is ss (twin_of s p),
              sum-add (λ (t : Step). hits p t.1) (λ t. hits (twin_of s p) t.1) ss,
              sum-add (λ (t : Step). hits p t.0) (λ t. hits (twin_of s p) t.0) ss,
              leaf-shows s f1 c is.1,
              leaf-shows s f0 c is.1,
              pair_shown p l c.level c.low,
            ),
            twin_twice s law p l,
          )

  -- sums over the leaves
  abbrev over : (Step → ℕ) → ℕ
  over f = sum (λ c. sum f (leaf_steps s c)) (leaves_of s)

  tally_sum : (p q : ℕ) → sum (λ c. tally p q (leaf_steps s c)) (leaves_of s) ≡ over (λ t. step p q t.0 t.1)
  unfolding tally
  tally_sum p q = refl

  leave_sum : (p : ℕ) → sum (λ c. leave (leaf_steps s c) p) (leaves_of s) ≡ over (λ t. hits p t.0)
  unfolding leave
  leave_sum p = refl

  enter-sum : (p : ℕ) → sum (λ c. enter (leaf_steps s c) p) (leaves_of s) ≡ over (λ t. hits p t.1)
  unfolding enter
  enter-sum p = refl

  turned_sum : (p q : ℕ) → over (λ t. step p q t.1 t.0) ≡ over (λ t. step q p t.0 t.1)
  turned_sum p q = ap over (λ i t. step-turn p q t.0 t.1 i)

  -- where the box shows no step between p and q
  balanced : (p q : ℕ) → (shown s (λ t. step p q t.0 t.1) 10 origin ≡ 0) × (shown s (λ t. step p q t.1 t.0) 10 origin ≡ 0)
      → sum (λ c. tally p q (leaf_steps s c)) (leaves_of s) ≡ sum (λ c. tally q p (leaf_steps s c)) (leaves_of s)
  balanced p q h =
      omega (arith, tally_sum p q, leaves_balance s law (λ t. step p q t.0 t.1), h.0, h.1, turned_sum p q, tally_sum q p)

  even-ends : (p : ℕ) → (shown s (λ t. hits p t.0) 10 origin ≡ 0) × (shown s (λ t. hits p t.1) 10 origin ≡ 0)
      → sum (λ c. leave (leaf_steps s c) p) (leaves_of s) ≡ sum (λ c. enter (leaf_steps s c) p) (leaves_of s)
  even-ends p h = omega (arith, leave_sum p, leaves_balance s law (λ t. hits p t.0), h.0, h.1, enter-sum p)

  -- over all leaves, as many steps go from p to q as back, unless the edges of both lie in one outer face
  pub steps-balance : (e f : CellEdge) (p q : ℕ) → Carries s e p → Carries s f q → T (not (in_one_face e f))
      → sum (λ c. tally p q (leaf_steps s c)) (leaves_of s) ≡ sum (λ c. tally q p (leaf_steps s c)) (leaves_of s)
  steps-balance e f p q ce cf h = balanced p q (no_tally s law p q (rw (carried s e p ce, carried s f q cf) h))

  -- over all leaves, as many steps leave a point as enter it, if its edge and its twin's lie in no outer face together
  pub ends-even : (e f : CellEdge) (p q : ℕ) → Carries s e p → Carries s f q → T (not (in_one_face e f)) → twin_of s p ≡ q → p ≢ q
      → sum (λ c. leave (leaf_steps s c) p) (leaves_of s) ≡ sum (λ c. enter (leaf_steps s c) p) (leaves_of s)
  ends-even e f p q ce cf h t n = even-ends p (no_ends s law p (λ b m o. go b m (one_off (edge_of s p) (edge_of s (twin_of s p)) h' b m o)))
    where
      h' : T (not (in_one_face (edge_of s p) (edge_of s (twin_of s p))))
      h' = rw (t, carried s e p ce, carried s f q cf) h

      line : OnLine (edge_of s p).axis (edge_of s p) (edge_of s (twin_of s p))
      line = sibling_line s law (edge_of s p).axis (edge_of s p) (edge_of s (twin_of s p)) (twin_edges s law p ce.0 (λ i. n (i ∙ t)))

      go : (b : Axis) (m : ℕ) → OffPlane (edge_of s p) b m ⊎ OffPlane (edge_of s (twin_of s p)) b m → OffPlane (edge_of s p) b m
      go b m (inl o) = o
      go b m (inr o) = off_line (edge_of s p) (edge_of s (twin_of s p)) b m line o
