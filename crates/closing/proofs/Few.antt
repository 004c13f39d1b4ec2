-- How many triangles there are, and that their numbers are numbers of points. Each leaf has at most as many triangles as it meets points, and at most four
-- leaves meet a point (`few_meet`, geometry/proofs/Around.antt).
--     lawful-few         of every lawful survey: at most four triangles for each point
--     triangles-few      of the drawing of the rules, whatever tables and clearance are accepted: not refused by 1 to 8
--     triangle_below     the numbers in a triangle are below the point count
--     few-by, below_by   the same of other rules that cut loops into triangles
-- Assumes nothing.
use mathlib.Core.Path.{◌≡◌, refl, ap}
use mathlib.Core.Logic.{inl, inr}
use mathlib.Core.List.{List, [], ◌∷◌}
use Prim.Native.Nat.{ℕ, suc, ◌*◌, ◌≤◌, ◌<◌}
use native.Mathlib.Omega.{arith}
use lib.Dec.{T}
use lib.ListN.{length}
use lib.Ieee.{Float}
use Rattle.base.specs.Lists.{bit, sum, collect, count, often}
use Rattle.base.proofs.Lists.{In, in_keep, in_collect, in_count, length-count}
use Rattle.base.proofs.Sums.{sum_times, sum-le, sum_one, sum_swap, length-keep, length-collect, in_sum}
use Rattle.base.proofs.Counts.{in_often, often_in}
use Rattle.rules.specs.Survey.{Cell, Survey}
use Rattle.rules.specs.Edges.{point_edges}
use Rattle.rules.specs.Steps.{Triangle, leaf_steps, twin_of, met, onward, loops, leaf_loops, fan_from, fan, triangles_by, all_triangles}
use Rattle.rules.specs.Outputs.{accepted, survey_of}
use Rattle.octree.specs.Lawful.{Lawful}
use Rattle.octree.proofs.Accepted.{lawful}
use Rattle.geometry.proofs.Interface.{leaves_of, meeting}
use Rattle.geometry.proofs.Theorem.{face_laws}
use Rattle.geometry.proofs.Around.{few_meet}
use Rattle.closing.specs.Permutes.{Permutes}
use Rattle.closing.proofs.Loops.{loops-once, loops-points}
use Rattle.closing.proofs.Leaf.{onward-permutes}

-- a rule that cuts a loop into no more triangles than it has points
abbrev pub Sparing : (List ℕ → List Triangle) → Type 0
Sparing cutting = (l : List ℕ) → length (cutting l) ≤ length l

-- a rule that makes triangles of points of the loop
abbrev pub Inner : (List ℕ → List Triangle) → Type 0
Inner cutting = (l : List ℕ) (t : Triangle) → In t (cutting l) → In t.0 l × In t.1 l × In t.2 l

-- the loops of a leaf have no more triangles than it has points
pub loops-few : (n : ℕ) (onward : ℕ → ℕ) (points : List ℕ) → Permutes n onward points → (cutting : List ℕ → List Triangle) → Sparing cutting
    → length (collect cutting (loops n onward points)) ≤ length points
loops-few n onward points per cutting few =
    let ls = loops n onward points in
    omega (
      arith,
      length-collect cutting ls,
      sum-le (λ l. length (cutting l)) (sum (λ x. 1)) ls (λ l _. omega (arith, few l, sum_one l)),
      loops-points n onward points per (λ x. 1),
      sum_one points,
    )

module _ (s : Survey) (law : Lawful s) where
  -- the point count
  abbrev n : ℕ
  n = length (point_edges s)

  -- the way onward on a leaf
  permutes : (c : Cell) → In c (leaves_of s) → Permutes n (onward (leaf_steps s c) (twin_of s)) (met (leaf_steps s c) n)
  permutes c i = onward-permutes (twin_of s) n (leaf_steps s c) ((face_laws s law).paired c i)

  -- a point on a loop of a leaf is below the point count
  loop_below : (c : Cell) → In c (leaves_of s) → (l : List ℕ) → In l (leaf_loops s c) → (v : ℕ) → In v l → v < n
  unfolding leaf_loops
  loop_below c i l j v k =
      let ss = leaf_steps s c in
      let once = loops-once n (onward ss (twin_of s)) (met ss n) (permutes c i) v in
      let is-met : 1 ≤ often v (met ss n) = omega (arith, in_often v l k, in_sum (often v) (leaf_loops s c) l j) in
      let h = (in_count n 0 v (in_keep (meeting ss) (count 0 n) v (often_in v (met ss n) is-met)).0).1 in
      omega arith

  module _ (cutting : List ℕ → List Triangle) where
    -- the triangles of a leaf are at most the points that it meets
    leaf-few : Sparing cutting → (c : Cell) → In c (leaves_of s)
        → length (collect cutting (leaf_loops s c)) ≤ sum (λ p. bit (meeting (leaf_steps s c) p)) (count 0 n)
    unfolding leaf_loops
    leaf-few few c i =
        let ss = leaf_steps s c in
        omega (
          arith,
          loops-few n (onward ss (twin_of s)) (met ss n) (permutes c i) cutting few,
          length-keep (meeting ss) (count 0 n),
        )

    -- at most four for each point
    pub few-by : Sparing cutting → length (triangles_by cutting s) ≤ 4 * length (point_edges s)
    unfolding triangles_by
    few-by few =
        let meets : Cell → ℕ → ℕ = λ c p. bit (meeting (leaf_steps s c) p) in
        let four : sum (λ p. 4) (count 0 n) ≡ sum (λ p. 1) (count 0 n) * 4 = sum_times (λ p. 1) 4 (count 0 n) in
        omega (
          arith,
          length-collect (λ c. collect cutting (leaf_loops s c)) (leaves_of s),
          sum-le (λ c. length (collect cutting (leaf_loops s c))) (λ c. sum (meets c) (count 0 n)) (leaves_of s) (leaf-few few),
          sum_swap meets (leaves_of s) (count 0 n),
          sum-le (λ p. sum (λ c. meets c p) (leaves_of s)) (λ p. 4) (count 0 n) (λ p _. few_meet s law p),
          sum_one (count 0 n),
          length-count n 0,
        )

    -- of points below the point count
    pub below_by : Inner cutting → (t : Triangle) → In t (triangles_by cutting s)
        → (t.0 < length (point_edges s)) × (t.1 < length (point_edges s)) × (t.2 < length (point_edges s))
    unfolding triangles_by
    below_by inner t i =
        let (c, j, k) = in_collect (λ c. collect cutting (leaf_loops s c)) (leaves_of s) t i in
        let (l, m, o) = in_collect cutting (leaf_loops s c) t k in
        let (a, b, d) = inner l t o in
        (loop_below c j l m t.0 a, loop_below c j l m t.1 b, loop_below c j l m t.2 d)

-- ---- the fan

-- the fan of a loop has two triangles fewer than the loop has points
fan-from-length : (v a : ℕ) (r : List ℕ) → length (fan_from v a r) ≡ length r
fan-from-length v a [] = refl
fan-from-length v a (b ∷ r) = ap suc (fan-from-length v b r)

pub fan-few : Sparing fan
fan-few [] = omega arith
fan-few (v ∷ []) = omega arith
fan-few (v ∷ a ∷ r) = omega (arith, fan-from-length v a r)

-- and they are triangles of the loop's points
fan-from_inner : (v a : ℕ) (r : List ℕ) (t : Triangle) → In t (fan_from v a r) → (t.0 ≡ v) × In t.1 (a ∷ r) × In t.2 r
fan-from_inner v a [] t i = absurd i
fan-from_inner v a (b ∷ r) t (inl e) = (ap (λ (t : Triangle). t.0) e, inl (ap (λ (t : Triangle). t.1) e), inl (ap (λ (t : Triangle). t.2) e))
fan-from_inner v a (b ∷ r) t (inr i) = let (e, f, g) = fan-from_inner v b r t i in (e, inr f, inr g)

pub fan_inner : Inner fan
fan_inner [] t i = absurd i
fan_inner (v ∷ []) t i = absurd i
fan_inner (v ∷ a ∷ r) t i = let (e, f, g) = fan-from_inner v a r t i in (inl e, inr f, inr (inr g))

-- ---- the drawing of the rules

-- at most four triangles for each point
pub lawful-few : (s : Survey) → Lawful s → length (all_triangles s) ≤ 4 * length (point_edges s)
unfolding all_triangles
lawful-few s law = few-by s law fan fan-few

pub triangles-few : (tc tk : List ℕ) (clearance : Float) → T (accepted tc tk clearance)
    → let s = survey_of tc tk clearance in length (all_triangles s) ≤ 4 * length (point_edges s)
triangles-few tc tk clearance ok = lawful-few (survey_of tc tk clearance) (lawful tc tk clearance ok)

-- a triangle's numbers are below the point count
pub triangle_below : (s : Survey) → Lawful s → (t : Triangle) → In t (all_triangles s)
    → (t.0 < length (point_edges s)) × (t.1 < length (point_edges s)) × (t.2 < length (point_edges s))
unfolding all_triangles
triangle_below s law = below_by s law fan fan_inner
