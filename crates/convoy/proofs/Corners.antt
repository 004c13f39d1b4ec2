-- The corners of a convoy: they are those of one boat at the greatest clearance, and its ways are those of each of its boats.
use Prim.Native.Nat.{ℕ, ◌≤◌, ◌<◌}
use mathlib.Core.Path.{◌≡◌, sym, subst, fun_ext}
use mathlib.Core.List.{List, map}
use native.Mathlib.Omega.{arith}
use lib.Dec.{T, ltb}
use lib.Ieee.{Float, nan}
use lib.ListN.{length}
use Rattle.base.specs.Lists.{all}
use Rattle.base.proofs.Tests.{and→, →and, tests_equal}
use Rattle.base.proofs.Lists.{all→in, in→all, in_get, get→all}
use Rattle.rules.specs.Survey.{record_count, corners_of, corner_at, place_of, wet_at}
use Rattle.rules.specs.Ways.{Graph, corner_place, passable, BothWays, corner_graph, JoinedBothWays}
use Rattle.rules.specs.Convoy.{convoy_graph, boat_clearance, WaysTogether}
use Rattle.graph.proofs.Ways.{way-wet, way-there}
use Rattle.ways.proofs.Joined.{joined_both_ways}
use Rattle.ways.proofs.Marks.{size_is}
use Rattle.convoy.proofs.Together.{Top, wet_together}

module _ (tc tk : List ℕ) (clearances : List Float) where
  -- corners are joined both ways
  pub both_ways : BothWays (convoy_graph tc tk clearances)
  unfolding convoy_graph JoinedBothWays
  both_ways j k t =
      in→all (λ c. (corner_graph tc tk c).joined k j) clearances
      (λ c i. joined_both_ways tc tk c j k (all→in (λ c. (corner_graph tc tk c).joined j k) clearances t c i))

  -- which are joined does not depend on the clearance, and which are wet is what the greatest says
  pub corners-same : (c : Float) → Top clearances c → convoy_graph tc tk clearances ≡ corner_graph tc tk c
  unfolding convoy_graph corner_graph wet_at
  corners-same c top = λ i. record {
    size = sym (size_is tc tk c) i;
    wet = fun_ext wet-same i;
    joined = fun_ext (λ (j : ℕ). fun_ext (joined_same j)) i;
  }
    where
      wet-same : (k : ℕ) → all (λ d. (corner_graph tc tk d).wet k) clearances ≡ (corner_graph tc tk c).wet k
      wet-same k = wet_together top (corner_at (corners_of tk) (corner_place (map place_of (corners_of tk)) k))

      joined_same : (j k : ℕ) → all (λ d. (corner_graph tc tk d).joined j k) clearances ≡ (corner_graph tc tk c).joined j k
      joined_same j k =
          tests_equal (all (λ d. (corner_graph tc tk d).joined j k) clearances) ((corner_graph tc tk c).joined j k)
          (λ t. all→in (λ d. (corner_graph tc tk d).joined j k) clearances t c top.one)
          (λ t. in→all (λ d. (corner_graph tc tk d).joined j k) clearances (λ d i. t))

-- ---- ways

module _ (tc tk : List ℕ) (clearances : List Float) where
  abbrev convoy : Graph
  convoy = convoy_graph tc tk clearances

  -- the corners as boat k sees them
  abbrev boat : ℕ → Graph
  boat k = corner_graph tc tk (boat_clearance clearances k)

  -- a corner that the convoy may pass each boat may pass
  for_each : (k : ℕ) → k < length clearances → (n : ℕ) → T (passable convoy n) → T (passable (boat k) n)
  unfolding convoy_graph
  for_each k h n t =
      let (a, b) = and→ (ltb n (record_count tk)) (all (λ c. (corner_graph tc tk c).wet n) clearances) t in
      →and (ltb n (boat k).size) ((boat k).wet n) (subst (λ (m : ℕ). T (ltb n m)) (sym (size_is tc tk (boat_clearance clearances k))) a)
      (all→in (λ c. (corner_graph tc tk c).wet n) clearances b (boat_clearance clearances k) (in_get clearances k nan h))

  -- and one that each boat may pass the convoy may pass
  for_all : 1 ≤ length clearances → (n : ℕ) → ((k : ℕ) → k < length clearances → T (passable (boat k) n)) → T (passable convoy n)
  unfolding convoy_graph
  for_all some n each =
      →and (ltb n (record_count tk)) (all (λ c. (corner_graph tc tk c).wet n) clearances)
      (subst (λ (m : ℕ). T (ltb n m)) (size_is tc tk (boat_clearance clearances 0)) (and→ (ltb n (boat 0).size) ((boat 0).wet n) (each 0 (omega arith))).0)
      (get→all (λ c. (corner_graph tc tk c).wet n) nan clearances (λ k h. (and→ (ltb n (boat k).size) ((boat k).wet n) (each k h)).1))

  -- which corners are joined does not depend on the clearance
  joined-each : (k : ℕ) → k < length clearances → (i j : ℕ) → T (convoy.joined i j) → T ((boat k).joined i j)
  unfolding convoy_graph
  joined-each k h i j t =
      all→in (λ c. (corner_graph tc tk c).joined i j) clearances t (boat_clearance clearances k) (in_get clearances k nan h)

  joined-all : (k i j : ℕ) → T ((boat k).joined i j) → T (convoy.joined i j)
  unfolding convoy_graph corner_graph
  joined-all k i j t = in→all (λ c. (corner_graph tc tk c).joined i j) clearances (λ c l. t)

pub ways_together : WaysTogether
unfolding WaysTogether
ways_together tc tk clearances some start end w = (
  λ y k h. way-there (convoy tc tk clearances) (boat tc tk clearances k) (joined-each tc tk clearances k h) y
      (λ n i. for_each tc tk clearances k h n (way-wet (convoy tc tk clearances) y n i)),
  λ each. way-there (boat tc tk clearances 0) (convoy tc tk clearances) (joined-all tc tk clearances 0) (each 0 (omega arith))
      (λ n i. for_all tc tk clearances some n (λ k h. way-wet (boat tc tk clearances k) (each k h) n i)),
)
