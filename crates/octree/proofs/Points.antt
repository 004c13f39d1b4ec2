-- Points of a lawful survey: each crossed edge carries one number below the point count, which is `number_of`; each number is carried by one
-- edge alone; and there are as many points as odd undivided edges.
use Prim.Native.Nat.{ℕ, ◌≤◌, ◌<◌}
use mathlib.Core.Path.{◌≡◌, sym, ap, ◌∙◌, subst}
use mathlib.Core.Bool.{Bool, not, ◌&&◌}
use mathlib.Core.List.{List, map}
use native.Mathlib.Omega.{arith}
use lib.Dec.{T, T_not, eqb, eqb_refl}
use lib.ListN.{length, get_or}
use Rattle.base.specs.Lists.{keep, collect, position, count, bit}
use Rattle.base.specs.Grid.{Place, origin, Axis, X, axes, axis_number, same}
use Rattle.rules.specs.Survey.{Survey}
use Rattle.rules.specs.Edges.{CellEdge, edge, same_edge, crossed, point_edges, number_of}
use Rattle.rules.specs.Closing.{all_edges, Carries, is_undivided, is_odd}
use Rattle.base.proofs.Tests.{and→, →and, eq→eqb}
use Rattle.base.proofs.Lists.{In, any→in, in→any, in_get, get_any, position_of, in_keep, keep_in, in_map, map_in, in_collect, collect_in, count_in}
use Rattle.base.proofs.Sums.{times, sum-keep-le, position-once, length-le, collect-once, map-once, count-once}
use Rattle.base.proofs.Places.{same→, same_refl, each-axis, axis-once}
use Rattle.octree.specs.Lawful.{Lawful}
use Rattle.octree.proofs.Edges.{same_edge→, same-edge, edge→, lower_end, undivided→, crossed→, →crossed, all_edges_in, all_edges_once}
use Rattle.octree.proofs.Rising.{rising-once}

abbrev pub Crossed : Survey → CellEdge → Type 0
Crossed s e = T (crossed s e.axis e.low e.level)

-- ---- the list of points, over any list of levels

module _ (s : Survey) (levels : List ℕ) where
  edges_from : Axis → Place → List CellEdge
  edges_from a p = map (edge a p) (keep (crossed s a p) levels)

  edges_on : Axis → List CellEdge
  edges_on a = collect (edges_from a) s.places

  from→ : (a : Axis) (p : Place) (e : CellEdge) → In e (edges_from a p) → (e.axis ≡ a) × (e.low ≡ p) × Crossed s e
  unfolding edges_from
  from→ a p e i =
      let r = in_map (edge a p) (keep (crossed s a p) levels) e i in
      let k = in_keep (crossed s a p) levels r.0 r.1 in
      (ap (λ (f : CellEdge). f.axis) r.2, ap (λ (f : CellEdge). f.low) r.2, subst (Crossed s) (sym r.2) k.1)

  on→ : (a : Axis) (e : CellEdge) → In e (edges_on a) → (e.axis ≡ a) × Crossed s e
  unfolding edges_on
  on→ a e i = let r = in_collect (edges_from a) s.places e i in let f = from→ a r.0 e r.2 in (f.0, f.2)

  among→ : (e : CellEdge) → In e (collect edges_on axes) → Crossed s e
  among→ e i = let r = in_collect edges_on axes e i in (on→ r.0 e r.2).1

  →among : (e : CellEdge) → Crossed s e → In e.low s.places → In e.level levels → In e (collect edges_on axes)
  unfolding edges_on edges_from
  →among e t i j =
      let a = e.axis in
      let p = e.low in
      collect_in edges_on axes e a (each-axis a)
      (collect_in (edges_from a) s.places e p i (map_in (edge a p) (keep (crossed s a p) levels) e.level (keep_in (crossed s a p) levels e.level j t)))

  among_once : (e : CellEdge) → times same e.low s.places ≤ 1 → times eqb e.level levels ≤ 1 → times same_edge e (collect edges_on axes) ≤ 1
  unfolding edges_on edges_from
  among_once e low level =
      collect-once (λ a b. eqb (axis_number a) (axis_number b)) same_edge same_edge→ edges_on e e.axis axes
      (λ a i. subst (λ b. T (eqb (axis_number e.axis) (axis_number b))) (on→ a e i).0 (eqb_refl (axis_number e.axis)))
      (λ a. collect-once same same_edge same_edge→ (edges_from a) e e.low s.places
      (λ p i. subst (λ q. T (same e.low q)) (from→ a p e i).1 (same_refl e.low))
      (λ p. map-once eqb same_edge same_edge→ (edge a p) e e.level (keep (crossed s a p) levels)
      (λ l h. eq→eqb e.level l (ap (λ (f : CellEdge). f.level) h))
      (omega (arith, sum-keep-le (λ l. bit (eqb e.level l)) (crossed s a p) levels))) low)
      (axis-once e.axis)

-- ---- the points

-- a point's edge is crossed
pub point-crossed : (s : Survey) (e : CellEdge) → In e (point_edges s) → Crossed s e
unfolding point_edges edges_on edges_from
point-crossed s e i = among→ s (count 0 11) e i

pub carried-crossed : (s : Survey) (e : CellEdge) (p : ℕ) → Carries s e p → Crossed s e
carried-crossed s e p (h, g) = point-crossed s e (subst (λ x. In x (point_edges s)) g (in_get (point_edges s) p e h))

module _ (s : Survey) (law : Lawful s) where
  -- a crossed edge is a point's edge
  pub crossed-point : (e : CellEdge) → Crossed s e → In e (point_edges s)
  unfolding point_edges edges_on edges_from
  crossed-point e t =
      let u = (undivided→ s.cells e.axis e.low e.level (crossed→ s e.axis e.low e.level t).0).0 in
      let (q, c, g, f) = edge→ s.cells e.axis e.low e.level u in
      let r = any→in (same e.low) s.places (lower_end s law e.axis e.low e.level u) in
      →among s (count 0 11) e t (subst (λ x. In x s.places) (sym (same→ e.low r.0 r.2)) r.1)
      (count_in 11 0 e.level (omega arith) (omega (arith, law.octree.shallow e.level q c)))

  pub point-once : (e : CellEdge) → times same_edge e (point_edges s) ≤ 1
  unfolding point_edges edges_on edges_from
  point-once e = among_once s (count 0 11) e (rising-once s.places law.rises e.low) (count-once 11 0 e.level)

  -- a crossed edge carries its number
  pub crossed-carries : (e : CellEdge) → Crossed s e → Carries s e (number_of s e)
  unfolding number_of
  crossed-carries e t =
      let (k, g, h, f) = position_of (same_edge e) e (point_edges s) 0 (in→any (same_edge e) (point_edges s) e (crossed-point e t) (same-edge e)) in
      subst (Carries s e) (let n : k ≡ position (same_edge e) 0 (point_edges s) = omega arith in n) (h, sym (same_edge→ e (get_or (point_edges s) k e) f))

  -- the edge at number n has the number n
  pub number_at : (d : CellEdge) (n : ℕ) → n < length (point_edges s) → number_of s (get_or (point_edges s) n d) ≡ n
  unfolding number_of
  number_at d n h =
      let e = position-once same_edge same-edge d (point_edges s) n 0 h (point-once (get_or (point_edges s) n d)) in
      omega arith

  -- and an edge carries no number but its own
  pub carried-number : (e : CellEdge) (p : ℕ) → Carries s e p → p ≡ number_of s e
  carried-number e p (h, g) = sym (number_at e p h) ∙ ap (number_of s) g

  -- ---- the fields of `Closed` at the point count

  -- the part of `crossing` about the numbers
  pub crossing-carries : (e : CellEdge) → T (is_undivided s e) → T (is_odd s e) →
      (p : ℕ) × (p < length (point_edges s)) × Carries s e p × ((q : ℕ) → Carries s e q → q ≡ p)
  crossing-carries e t u =
      let c = crossed-carries e (→crossed s e.axis e.low e.level t u) in
      (number_of s e, c.0, c, carried-number e)

  pub others : (e : CellEdge) (p : ℕ) → T (is_undivided s e) → T (not (is_odd s e)) → Carries s e p → ⊥
  others e p t u c = T_not (is_odd s e) u (crossed→ s e.axis e.low e.level (carried-crossed s e p c)).1

  pub alone : (p : ℕ) → p < length (point_edges s) → (e : CellEdge) × Carries s e p × ((f : CellEdge) → Carries s f p → f ≡ e)
  alone p h =
      let d = edge X origin 0 in
      let e = get_or (point_edges s) p d in
      (e, (h, get_any (point_edges s) p e d h), λ f c. sym c.1 ∙ get_any (point_edges s) p f d h)

  pub counted : length (point_edges s) ≡ length (keep (λ e. is_undivided s e && is_odd s e) (all_edges s.cells))
  counted =
      let a = length-le same_edge same-edge (point_edges s) all →all point-once in
      let b = length-le same_edge same-edge all (point_edges s) all→
      (λ e. omega (arith, sum-keep-le (λ f. bit (same_edge e f)) test (all_edges s.cells), all_edges_once s.cells e)) in
      omega arith
    where
      test : CellEdge → Bool
      test e = is_undivided s e && is_odd s e

      all : List CellEdge
      all = keep test (all_edges s.cells)

      →all : (e : CellEdge) → In e (point_edges s) → In e all
      →all e i =
          let c = crossed→ s e.axis e.low e.level (point-crossed s e i) in
          keep_in test (all_edges s.cells) e (all_edges_in s.cells e (undivided→ s.cells e.axis e.low e.level c.0).0)
          (→and (is_undivided s e) (is_odd s e) c.0 c.1)

      all→ : (e : CellEdge) → In e all → In e (point_edges s)
      all→ e i =
          let t = and→ (is_undivided s e) (is_odd s e) (in_keep test (all_edges s.cells) e i).1 in
          crossed-point e (→crossed s e.axis e.low e.level t.0 t.1)
