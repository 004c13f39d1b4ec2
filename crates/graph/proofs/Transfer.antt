-- What the search finds over a table of links is what holds over the graph that the table has the links of.
use Prim.Native.Nat.{ℕ, zero, suc, pred, ◌≤◌, ◌<◌}
use mathlib.Core.Path.{◌≡◌, refl, sym, ap, ◌∙◌, subst}
use mathlib.Core.Logic.{inl, inr}
use mathlib.Core.Bool.{Bool, true, false, ◌&&◌, cond}
use mathlib.Core.List.{List, [], ◌∷◌}
use native.Mathlib.Omega.{arith}
use lib.Dec.{T, eqb, eqb→eq, ltb, lt→ltb}
use lib.ListN.{get_or, replicate, length-replicate}
use Rattle.base.specs.Lists.{first, count}
use Rattle.base.proofs.Tests.{and→, →and, eq→eqb, tests_equal, not_both}
use Rattle.base.proofs.Lists.{In, any→in, in→any, in_count, count_in}
use Rattle.base.proofs.Slices.{zeros}
use Rattle.rules.specs.Ways.{Graph, passable, BothWays, fewest_steps, way_from, way_of}
use Rattle.graph.specs.Table.{link_at, Links, graph_in, lowest_link, followed}
use Rattle.graph.proofs.Walks.{Walk, walk_first, walk_last, turned}
use Rattle.graph.proofs.Rounds.{inside}
use Rattle.graph.proofs.Steps.{Stepped, stepped, stepped_same}
use Rattle.graph.proofs.Ways.{chosen, chosen_near}

first_alike : (f g : ℕ → Bool) (l : List ℕ) → ((j : ℕ) → In j l → f j ≡ g j) → first f 0 l ≡ first g 0 l
first_alike f g [] h = refl
first_alike f g (x ∷ xs) h =
    let r = first_alike f g xs (λ j i. h j (inr i)) in
    (λ d. cond (h x (inl refl) d) x (r d))

module _ (graph : Graph) (t : List ℕ) (links : Links graph t) where
  abbrev table : Graph
  table = graph_in t graph.size

  -- a step by the table is one of the graph, and the other way round
  pub step_of : (j k : ℕ) → j < graph.size → k < graph.size → T (table.joined j k) → T (passable graph j) × T (passable graph k) × T (graph.joined j k)
  step_of j k a b l =
      let (i, m, e) = any→in (λ i. eqb (link_at t j i) k) (count 0 6) l in
      let q = eqb→eq (link_at t j i) k e in
      let (x, y, z) = links.sound j i a (let v = (in_count 6 0 i m).1 in omega arith) (omega arith) in
      (x, subst (λ (v : ℕ). T (passable graph v)) q y, subst (λ (v : ℕ). T (graph.joined j v)) q z)

  pub step_by : (j k : ℕ) → T (passable graph j) → T (passable graph k) → T (graph.joined j k) → T (table.joined j k)
  step_by j k a b l =
      let (i, h, e) = links.complete j k a b l in
      in→any (λ i. eqb (link_at t j i) k) (count 0 6) i (count_in 6 0 i (omega arith) (omega arith)) (eq→eqb (link_at t j i) k e)

  walk_of : (v j k : ℕ) → T (passable graph j) → Walk table v j k → Walk graph v j k
  walk_of zero j k p w = (p, w.1)
  walk_of (suc v) j k p w =
      let m = w.0 in
      let (x, y, z) = step_of j m (inside table j w.1) (inside table m (walk_first table v m k w.3)) w.2 in
      (m, p, z, walk_of v m k y w.3)

  corner_passes : (k : ℕ) → T (passable graph k) → T (passable table k)
  corner_passes k p = →and (ltb k graph.size) true (lt→ltb k graph.size (inside graph k p)) tt

  walk-by : (v j k : ℕ) → Walk graph v j k → Walk table v j k
  walk-by zero j k w = (corner_passes j w.0, w.1)
  walk-by (suc v) j k w =
      (w.0, corner_passes j w.1, step_by j w.0 w.1 (walk_first graph v w.0 k w.3) w.2, walk-by v w.0 k w.3)

  -- the steps from a wet corner
  pub steps_of : (start : ℕ) → T (passable graph start) → fewest_steps (graph_in t graph.size) start ≡ fewest_steps graph start
  steps_of start p =
      stepped_same graph start (fewest_steps table start) (fewest_steps graph start)
      (record {
        sized = (stepped table start).sized;
        there = λ k m e. walk_of m start k p ((stepped table start).there k m e);
        least = λ k v w. (stepped table start).least k v (walk-by v start k w);
      })
      (stepped graph start)

  -- the way to a corner, by the steps from there
  module _ (both : BothWays graph) (end : ℕ) (r : List ℕ) (known : Stepped graph end r) where
    chosen_same : (n k : ℕ) → get_or r k 0 ≡ suc (suc n) → lowest_link t r graph.size k (suc n) ≡ chosen graph both end r known n k
    chosen_same n k e =
        first_alike (λ j. eqb (get_or r j 0) (suc n) && table.joined k j) (λ j. eqb (get_or r j 0) (suc n) && graph.joined k j) (count 0 graph.size)
        (λ j i. tests_equal (eqb (get_or r j 0) (suc n) && table.joined k j) (eqb (get_or r j 0) (suc n) && graph.joined k j) (to j) (from j))
      where
        k_passes : T (passable graph k)
        k_passes = walk_last graph (suc n) end k (known.there k (suc n) e)

        j_passes : (j : ℕ) → T (eqb (get_or r j 0) (suc n)) → T (passable graph j)
        j_passes j a = walk_last graph n end j (known.there j n (eqb→eq (get_or r j 0) (suc n) a))

        to : (j : ℕ) → T (eqb (get_or r j 0) (suc n) && table.joined k j) → T (eqb (get_or r j 0) (suc n) && graph.joined k j)
        to j u =
            let (a, b) = and→ (eqb (get_or r j 0) (suc n)) (table.joined k j) u in
            →and (eqb (get_or r j 0) (suc n)) (graph.joined k j) a (step_of k j (inside graph k k_passes) (inside graph j (j_passes j a)) b).2

        from : (j : ℕ) → T (eqb (get_or r j 0) (suc n) && graph.joined k j) → T (eqb (get_or r j 0) (suc n) && table.joined k j)
        from j u =
            let (a, b) = and→ (eqb (get_or r j 0) (suc n)) (graph.joined k j) u in
            →and (eqb (get_or r j 0) (suc n)) (table.joined k j) a (step_by k j k_passes (j_passes j a) b)

    followed-is : (n k : ℕ) → get_or r k 0 ≡ suc n → followed t r graph.size (suc n) k ≡ way_from graph r n k
    unfolding way_from
    followed-is zero k e = refl
    followed-is (suc n) k e =
        ap (λ (j : ℕ). k ∷ followed t r graph.size (suc n) j) (chosen_same n k e)
        ∙ ap (λ (l : List ℕ). k ∷ l) (followed-is n (chosen graph both end r known n k) (chosen_near graph both end r known n k e).0)

  pub way_of_lem : BothWays graph → (start end n : ℕ) → get_or (fewest_steps graph end) start 0 ≡ suc n →
      followed t (fewest_steps graph end) graph.size (suc n) start ≡ way_of graph start end
  unfolding way_of
  way_of_lem both start end n e =
      followed-is both end (fewest_steps graph end) (stepped graph end) n start e ∙ ap (λ (m : ℕ). way_from graph (fewest_steps graph end) (pred m) start) (sym e)

-- as many steps there as back
pub as_many : (graph : Graph) → BothWays graph → (start end : ℕ) → get_or (fewest_steps graph end) start 0 ≡ get_or (fewest_steps graph start) end 0
as_many graph both start end = let a = le start end in let b = le end start in omega arith
  where
    le : (x y : ℕ) → get_or (fewest_steps graph y) x 0 ≤ get_or (fewest_steps graph x) y 0
    le x y = go (get_or (fewest_steps graph x) y 0) refl (get_or (fewest_steps graph y) x 0) refl
      where
        go : (a : ℕ) → get_or (fewest_steps graph x) y 0 ≡ a → (b : ℕ) → get_or (fewest_steps graph y) x 0 ≡ b →
            get_or (fewest_steps graph y) x 0 ≤ get_or (fewest_steps graph x) y 0
        go (suc a) e b f = let c = ((stepped graph y).least x a (turned graph both a x y ((stepped graph x).there y a e))).1 in omega arith
        go zero e zero f = omega arith
        go zero e (suc b) f = let c = ((stepped graph x).least y b (turned graph both b y x ((stepped graph y).there x b f))).0 in absurd (omega arith)

-- the same ranks give the same way
pub followed_same : (t r q : List ℕ) (n : ℕ) → ((j : ℕ) → j < n → get_or r j 0 ≡ get_or q j 0) → (m k : ℕ) → followed t r n m k ≡ followed t q n m k
followed_same t r q n h zero k = refl
followed_same t r q n h (suc m) k =
    let e : lowest_link t r n k m ≡ lowest_link t q n k m =
    first_alike (λ j. eqb (get_or r j 0) m && (graph_in t n).joined k j) (λ j. eqb (get_or q j 0) m && (graph_in t n).joined k j) (count 0 n)
    (λ j i. ap (λ (x : ℕ). eqb x m && (graph_in t n).joined k j) (h j (let v = (in_count n 0 j i).1 in omega arith))) in
    ap (λ (j : ℕ). k ∷ followed t r n m j) e ∙ ap (λ (l : List ℕ). k ∷ l) (followed_same t r q n h m (lowest_link t q n k m))

-- from a dry corner nothing is reached
pub steps_dry : (graph : Graph) (start : ℕ) → passable graph start ≡ false → fewest_steps graph start ≡ replicate graph.size 0
steps_dry graph start e =
    stepped_same graph start (fewest_steps graph start) (replicate graph.size 0) (stepped graph start)
    (record {
      sized = length-replicate graph.size 0;
      there = λ k m f. let z = zeros graph.size k in absurd (omega arith);
      least = λ k v w. absurd (not_both (walk_first graph v start k w) e);
    })
