-- At most four leaves meet a point: each of them has one of the four unit cubes round the first unit of the point's edge, and each unit cube lies in one leaf.
--     leaves_hold     at most one leaf holds a place
--     near_holds      a cell that is near an edge holds one of the four unit cubes round the edge's first unit
--     few_meet        at most four leaves have a face step that starts or ends at a given point
-- Assumes nothing.
use Prim.Native.Nat.{ℕ, zero, suc, ◌+◌, ◌-◌, ◌^◌, ◌≤◌, ◌<◌}
use native.Mathlib.Nat.{pow-succ'}
use native.Mathlib.Omega.{arith}
use lib.Pow.{pow_pos}
use mathlib.Core.Path.{◌≡◌, refl, ◌∙◌, ap}
use mathlib.Core.Logic.{◌⊎◌, inl, inr}
use mathlib.Core.Bool.{Bool, true, false, not}
use mathlib.Core.List.{List, [], ◌∷◌}
use lib.Dec.{T}
use Rattle.base.specs.Lists.{keep, sum, bit}
use Rattle.base.specs.Grid.{Place, origin, next, along, octants}
use Rattle.rules.specs.Survey.{Cell, size, Survey}
use Rattle.rules.specs.Steps.{leaf_steps, edge_of}
use Rattle.base.proofs.Tests.{below}
use Rattle.base.proofs.Lists.{In}
use Rattle.base.proofs.Sums.{sum_same, sum-le, sum_swap}
use Rattle.base.proofs.Places.{every_axis}
use Rattle.base.proofs.Octants.{holds, octants_hold, holds-one, →holds}
use Rattle.octree.specs.Lawful.{is_split, Octree, Lawful}
use Rattle.octree.proofs.Leaves.{tree_sum, tree_leaf, tree_split, leaf-sum}
use Rattle.geometry.proofs.Interface.{leaves_of, meeting}
use Rattle.geometry.proofs.Grid.{place, along-across, along-first, along-second}
use Rattle.geometry.proofs.Once.{Seat}
use Rattle.geometry.proofs.Small.{leaf-shows, leaf-cell}
use Rattle.geometry.proofs.Located.{hits, seat_of, NearCell, step_near}
use Rattle.geometry.proofs.Laws.{leave_is, enter-is, meeting→}

-- ---- one leaf holds a place

-- of the leaves in a cell that holds q, however it is split, one holds q
tree_holds : (split : ℕ → Place → Bool) (q : Place) (l : ℕ) (p : Place) → tree_sum split (λ l p. holds (2 ^ l) p q) l p ≡ holds (2 ^ l) p q
unfolding tree_sum
tree_holds split q zero p = refl
tree_holds split q (suc l) p = go (split (suc l) p) refl (tree_holds split q l)
  where
    f : ℕ → Place → ℕ
    f l p = holds (2 ^ l) p q

    go : (b : Bool) → split (suc l) p ≡ b → ((r : Place) → tree_sum split f l r ≡ f l r) → tree_sum split f (suc l) p ≡ f (suc l) p
    go false e ih = tree_leaf split f (suc l) p e
    go true e ih =
        tree_split split f l p e ∙ sum_same (tree_sum split f l) (f l) (octants (2 ^ l) p) (λ r i. ih r) ∙ octants_hold (2 ^ l) p q
        ∙ ap (λ s. holds s p q) (let e = pow-succ' 2 l in omega arith)

-- at most one leaf holds a place
pub leaves_hold : (cells : List Cell) → Octree cells → (q : Place) → sum (λ c. holds (size c) c.low q) (keep (λ c. not c.split) cells) ≤ 1
leaves_hold cells tree q =
    omega (arith, leaf-sum cells tree (λ l p. holds (2 ^ l) p q), tree_holds (is_split cells) q 10 origin, holds-one (2 ^ 10) origin q)

-- ---- the unit cubes round an edge

-- the lowest corners of the four unit cubes round the first unit of an edge; at 0, where none is before, the one at 0 is named again
abbrev cubes : Seat → List Place
cubes e =
    let at : ℕ → ℕ → Place = place e.axis e.start in
    at e.first e.second ∷ at (e.first - 1) e.second ∷ at e.first (e.second - 1) ∷ at (e.first - 1) (e.second - 1) ∷ []

-- t is one of the m numbers from u on
abbrev Among : ℕ → ℕ → ℕ → Type 0
Among t u m = (u ≤ t) × (t < u + m)

-- a number among these or just after the last: it or the one before it is among them
this_or_before : (t u m : ℕ) → 0 < m → u ≤ t → t ≤ u + m → Among t u m ⊎ Among (t - 1) u m
this_or_before t u m h from to = go (below t (u + m))
  where
    go : (t < u + m) ⊎ (u + m ≤ t) → Among t u m ⊎ Among (t - 1) u m
    go (inl lt) = inl (from, lt)
    go (inr ge) = inr (omega arith, omega arith)

-- a cell that is near an edge holds one of them
near_holds : (e : Seat) (k : ℕ) (c : Place) → NearCell e k c → 1 ≤ sum (holds (2 ^ k) c) (cubes e)
near_holds e k c (from, to, first-from, first_to, second_from, second-to) =
    go (this_or_before e.first y (2 ^ k) (pow_pos k) first-from first_to) (this_or_before e.second z (2 ^ k) (pow_pos k) second_from second-to)
  where
    y : ℕ
    y = along (next e.axis) c

    z : ℕ
    z = along (next (next e.axis)) c

    held : (j l : ℕ) → Among j y (2 ^ k) → Among l z (2 ^ k) → holds (2 ^ k) c (place e.axis e.start j l) ≡ 1
    held j l f g =
        let q = place e.axis e.start j l in
        →holds (2 ^ k) c q (every_axis (λ b. Among (along b q) (along b c) (2 ^ k)) e.axis
        (rw (along-across e.axis e.start j l) (from, to)) (rw (along-first e.axis e.start j l) f) (rw (along-second e.axis e.start j l) g))

    go : Among e.first y (2 ^ k) ⊎ Among (e.first - 1) y (2 ^ k) → Among e.second z (2 ^ k) ⊎ Among (e.second - 1) z (2 ^ k)
        → 1 ≤ sum (holds (2 ^ k) c) (cubes e)
    go (inl f) (inl g) = omega (arith, held e.first e.second f g)
    go (inr f) (inl g) = omega (arith, held (e.first - 1) e.second f g)
    go (inl f) (inr g) = omega (arith, held e.first (e.second - 1) f g)
    go (inr f) (inr g) = omega (arith, held (e.first - 1) (e.second - 1) f g)

-- ---- the leaves that meet a point

-- a test that passes only where n is not 0
bit-most : (b : Bool) (n : ℕ) → (T b → 1 ≤ n) → bit b ≤ n
bit-most true n h = h tt
bit-most false n h = omega arith

module _ (s : Survey) (law : Lawful s) where
  -- a leaf that meets point p is near the edge of p
  met_near : (p : ℕ) (c : Cell) → In c (leaves_of s) → T (meeting (leaf_steps s c) p) → NearCell (seat_of (edge_of s p)) c.level c.low
  met_near p c i m =
      let (is, bare) = leaf-cell s law c i in
      step_near s law p c.level c.low is (omega (
        arith,
        meeting→ (leaf_steps s c) p m,
        leave_is (leaf_steps s c) p,
        enter-is (leaf_steps s c) p,
        leaf-shows s (λ t. hits p t.0) c bare,
        leaf-shows s (λ t. hits p t.1) c bare,
      ))

  -- at most four leaves meet point p
  pub few_meet : (p : ℕ) → sum (λ c. bit (meeting (leaf_steps s c) p)) (leaves_of s) ≤ 4
  few_meet p =
      let round = cubes (seat_of (edge_of s p)) in
      let hold : Cell → Place → ℕ = λ c. holds (size c) c.low in
      omega (
        arith,
        sum-le (λ c. bit (meeting (leaf_steps s c) p)) (λ c. sum (hold c) round) (leaves_of s)
            (λ c i. bit-most (meeting (leaf_steps s c) p) (sum (hold c) round) (λ m. near_holds (seat_of (edge_of s p)) c.level c.low (met_near p c i m))),
        sum_swap hold (leaves_of s) round,
        sum-le (λ q. sum (λ c. hold c q) (leaves_of s)) (λ q. 1) round (λ q _. leaves_hold s.cells law.octree q),
      )
