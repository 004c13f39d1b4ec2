-- The loops of a leaf have each of its points once, each followed by its next point; so the leaf's triangles balance but for its steps.
--     On v y                  y is on the loop through v: an equivalence of the leaf's points (on_sym, on_trans)
--     loops-once              every point of the leaf is on one of its loops, once
--     loops-points            a sum over the points of the loops is the sum over the points of the leaf
--     loops-steps             the steps of the loops are those from each point to its next
--     loops-balance           the triangles of the loops, with each weight of steps
-- Assumes nothing.
use mathlib.Core.Path.{◌≡◌, refl, sym, ap, ◌∙◌, subst}
use mathlib.Core.Logic.{◌⊎◌, inl, inr}
use mathlib.Core.Bool.{Bool, true, false, ◌&&◌, cond}
use mathlib.Core.List.{List, [], ◌∷◌, map}
use Prim.Native.Nat.{ℕ, zero, suc, ◌+◌, ◌≤◌, ◌<◌}
use native.Mathlib.Nat.{eq-zero-or-pos, le_antisymm}
use native.Mathlib.Omega.{arith}
use native.Mathlib.Decide.{ℕ_discrete, dec_le}
use lib.Dec.{leb}
use borrow.Author.Tests.{leb-true, leb-false}
use Rattle.base.specs.Lists.{bit, sum, all, collect, often}
use Rattle.base.proofs.Lists.{In, in_keep, in_map}
use Rattle.base.proofs.Sums.{sum-keep, sum-map, sum-collect, sum-add, sum_same}
use Rattle.base.proofs.Counts.{equal, equal_eq, equal_ne, in_often, sum_perm}
use Rattle.rules.specs.Steps.{Triangle, until, loop, lowest_first, loops}
use Rattle.rules.specs.Closing.{run}
use Rattle.closing.specs.Cutting.{turn, cycle, Closes}
use Rattle.closing.specs.Permutes.{Permutes}
use Rattle.closing.proofs.Walk.{far, trail, far-next, far-far, trail_has, trail_only, trail_path, far_in, trail_once, comes_back}

-- ---- the lowest of a list

-- v is at most each element of l
abbrev Below : ℕ → List ℕ → Type 0
Below v l = (y : ℕ) → 1 ≤ often y l → v ≤ y

all_true : (v : ℕ) (l : List ℕ) → all (leb v) l ≡ true → Below v l
all_true v [] e y h = absurd (omega arith)
all_true v (x ∷ l) e y h = go (λ r. all_true v l r y) (leb v x) refl e (ℕ_discrete y x)
  where
    go : (all (leb v) l ≡ true → 1 ≤ often y l → v ≤ y) → (t : Bool) → leb v x ≡ t → t && all (leb v) l ≡ true → Dec (y ≡ x) → v ≤ y
    go ih true q r (yes s) = omega (arith, leb-true v x q)
    go ih true q r (no d) = ih r (omega (arith, equal_ne y x d))
    go ih false q r d = let z : ◌≡◌ {A = ℕ} 0 1 = ap bit r in absurd (omega arith)

all-false : (v : ℕ) (l : List ℕ) → all (leb v) l ≡ false → Below v l → ⊥
all-false v [] e b = let z : ◌≡◌ {A = ℕ} 1 0 = ap bit e in omega arith
all-false v (x ∷ l) e b = go (λ r. all-false v l r (λ y h. b y (omega arith))) (leb v x) refl e
  where
    go : (all (leb v) l ≡ false → ⊥) → (t : Bool) → leb v x ≡ t → t && all (leb v) l ≡ false → ⊥
    go ih true q r = ih r
    go ih false q r = omega (arith, leb-false v x q, b x (omega (arith, equal_eq x x refl)))

-- v is the lowest of v ∷ l if it is below l
own_below : (v : ℕ) (l : List ℕ) → Below v l → Below v (v ∷ l)
own_below v l b y h = go (ℕ_discrete y v)
  where
    go : Dec (y ≡ v) → v ≤ y
    go (yes q) = omega arith
    go (no d) = b y (omega (arith, equal_ne y v d))

-- a list that is not empty has a lowest element
least : (x : ℕ) (l : List ℕ) → (c : ℕ) × (1 ≤ often c (x ∷ l)) × Below c (x ∷ l)
least x [] = (x, omega (arith, equal_eq x x refl), own_below x [] (λ y h. absurd (omega arith)))
least x (y ∷ l) = pick (least y l) (dec_le x (least y l).0)
  where
    pick : (i : (c : ℕ) × (1 ≤ often c (y ∷ l)) × Below c (y ∷ l)) → Dec (x ≤ i.0) → (c : ℕ) × (1 ≤ often c (x ∷ y ∷ l)) × Below c (x ∷ y ∷ l)
    pick i (yes q) = (x, omega (arith, equal_eq x x refl), own_below x (y ∷ l) (λ z h. omega (arith, i.2 z h)))
    pick i (no q) = (
      i.0,
      omega (arith, i.1),
      λ z h. elim (ℕ_discrete z x) [ yes e ↦ omega arith | no d ↦ i.2 z (omega (arith, equal_ne z x d)) ],
    )

-- ---- the loop through a point

-- y is on the loop through v
abbrev On : ℕ → (ℕ → ℕ) → ℕ → ℕ → Type 0
On n onward v y = 1 ≤ often y (loop n onward v)

-- the loop through v is a trail of size + 1 points that comes back, each there once
record Round (n : ℕ) (onward : ℕ → ℕ) (v : ℕ) : Type 0 where
  size : ℕ
  is : loop n onward v ≡ trail onward (suc size) v
  back : far onward (suc size) v ≡ v
  once : (y : ℕ) → often y (loop n onward v) ≤ 1

module _ (n : ℕ) (onward : ℕ → ℕ) (points : List ℕ) (per : Permutes n onward points) where
  round : (v : ℕ) → 1 ≤ often v points → Round n onward v
  round v h =
      let s = comes_back n onward points per v h in
      let e : loop n onward v ≡ trail onward (suc s.size) v = ap (λ (r : List ℕ). v ∷ r) s.is in
      record {
        size = s.size;
        is = e;
        back = s.back;
        once = λ y. subst (λ (l : List ℕ). often y l ≤ 1) (sym e) (trail_once n onward points per s.size v h s.before y);
      }

  -- where on the loop y is
  on_far : (v y : ℕ) (h : 1 ≤ often v points) → On n onward v y → (k : ℕ) × (k < suc (round v h).size) × (far onward k v ≡ y)
  on_far v y h o = let s = round v h in trail_only onward (suc s.size) v y (subst (λ (l : List ℕ). 1 ≤ often y l) s.is o)

  on_next : (v y : ℕ) → 1 ≤ often v points → On n onward v y → On n onward v (onward y)
  on_next v y h o =
      let s = round v h in
      let t = on_far v y h o in
      subst (λ (l : List ℕ). 1 ≤ often (onward y) l) (sym s.is) (go s.size s.back t (dec_le (suc t.0) s.size))
    where
      go : (m : ℕ) → far onward (suc m) v ≡ v → (t : (k : ℕ) × (k < suc m) × (far onward k v ≡ y)) → Dec (suc t.0 ≤ m)
          → 1 ≤ often (onward y) (trail onward (suc m) v)
      go m b t (yes q) =
          subst (λ (z : ℕ). 1 ≤ often z (trail onward (suc m) v)) (far-next onward t.0 v ∙ ap onward t.2)
          (trail_has onward (suc m) v (suc t.0) (omega arith))
      go m b t (no q) =
          let e : m ≡ t.0 = omega arith in
          subst (λ (z : ℕ). 1 ≤ often z (trail onward (suc m) v))
          (sym b ∙ far-next onward m v ∙ ap (λ (k : ℕ). onward (far onward k v)) e ∙ ap onward t.2) (trail_has onward (suc m) v 0 (omega arith))

  on_has : (k v : ℕ) → 1 ≤ often v points → On n onward v (far onward k v)
  on_has zero v h = omega (arith, equal_eq v v refl)
  on_has (suc k) v h = subst (On n onward v) (sym (far-next onward k v)) (on_next v (far onward k v) h (on_has k v h))

  -- from k steps on there is a way back
  far-back : (k v : ℕ) → 1 ≤ often v points → (j : ℕ) × (far onward j (far onward k v) ≡ v)
  far-back zero v h = (0, refl)
  far-back (suc k) v h =
      let i = far-back k (onward v) (per.stays v h) in
      let s = round v h in
      (i.0 + s.size, sym (far-far onward s.size i.0 (far onward k (onward v))) ∙ ap (far onward s.size) i.1 ∙ s.back)

  on_in : (v y : ℕ) → 1 ≤ often v points → On n onward v y → 1 ≤ often y points
  on_in v y h o = let t = on_far v y h o in subst (λ (z : ℕ). 1 ≤ often z points) t.2 (far_in n onward points per t.0 v h)

  on_sym : (v y : ℕ) → 1 ≤ often v points → On n onward v y → On n onward y v
  on_sym v y h o =
      let t = on_far v y h o in
      let b = far-back t.0 v h in
      subst (On n onward y) (ap (far onward b.0) (sym t.2) ∙ b.1) (on_has b.0 y (on_in v y h o))

  on_trans : (v y z : ℕ) → 1 ≤ often v points → On n onward v y → On n onward y z → On n onward v z
  on_trans v y z h o q =
      let t = on_far v y h o in
      let u = on_far y z (on_in v y h o) q in
      subst (On n onward v) (sym (far-far onward u.0 t.0 v) ∙ ap (far onward u.0) t.2 ∙ u.2) (on_has (t.0 + u.0) v h)

  loop-cycle : (w : ℕ → ℕ → ℕ) (v : ℕ) → 1 ≤ often v points → cycle w (loop n onward v) ≡ sum (λ y. w y (onward y)) (loop n onward v)
  loop-cycle w v h =
      let s = round v h in
      subst (λ (l : List ℕ). cycle w l ≡ sum (λ y. w y (onward y)) l) (sym s.is) (trail_path onward w s.size v v s.back)

  -- ---- all loops

  -- a sum over the loops is a sum over the points: of g of a point's loop where it is the lowest there, else 0
  loops-sum : (g : List ℕ → ℕ) (h : ℕ → ℕ)
      → ((v : ℕ) → 1 ≤ often v points → cond (lowest_first (loop n onward v)) (g (loop n onward v)) 0 ≡ h v) → sum g (loops n onward points) ≡ sum h points
  loops-sum g h e =
      sum-keep g lowest_first (map (loop n onward) points) ∙ sum-map (λ l. cond (lowest_first l) (g l) 0) (loop n onward) points
      ∙ sum_same (λ v. cond (lowest_first (loop n onward v)) (g (loop n onward v)) 0) h points (λ v i. e v (in_often v points i))

  -- how often the loop through v has x
  abbrev has : ℕ → ℕ → ℕ
  has x v = often x (loop n onward v)

  -- the lowest point c of x's loop is the one start whose loop has x
  starts : (x : ℕ) → 1 ≤ often x points → (c : ℕ) → On n onward x c → Below c (loop n onward x) → (v : ℕ) → 1 ≤ often v points
      → (t : Bool) → lowest_first (loop n onward v) ≡ t → Dec (c ≡ v) → (has x v ≡ 0) ⊎ (0 < has x v) → cond t (has x v) 0 ≡ equal c v
  starts x i c o b v j true t (yes e) k =
      omega (arith, (round v j).once x, equal_eq c v e, subst (λ (u : ℕ). On n onward u x) e (on_sym x c i o))
  starts x i c o b v j false t (yes e) k =
      let lower : Below v (until n onward v (onward v)) =
      λ y q. omega (arith, b y (on_trans x c y i o (subst (λ (u : ℕ). On n onward u y) (sym e) (omega arith)))) in
      absurd (all-false v (until n onward v (onward v)) t lower)
  starts x i c o b v j true t (no d) (inl z) = omega (arith, equal_ne c v d)
  starts x i c o b v j true t (no d) (inr q) =
      let lowest = own_below v (until n onward v (onward v)) (all_true v (until n onward v (onward v)) t) in
      absurd (d (le_antisymm (b v (on_sym v x j q)) (lowest c (on_trans v x c j q o))))
  starts x i c o b v j false t (no d) k = sym (equal_ne c v d)

  -- what is no point of the leaf is on no loop
  off : (x : ℕ) → often x points ≡ 0 → (v : ℕ) → 1 ≤ often v points → (t : Bool) → (has x v ≡ 0) ⊎ (0 < has x v) → cond t (has x v) 0 ≡ equal x v
  off x z v i t (inr o) = absurd (omega (arith, on_in v x i o))
  off x z v i t (inl e) = go t (equal_ne x v (λ q. omega (arith, ap (λ (u : ℕ). often u points) q)))
    where
      go : (t : Bool) → equal x v ≡ 0 → cond t (has x v) 0 ≡ equal x v
      go true s = omega arith
      go false s = omega arith

  -- every point of the leaf is on one of the loops, once
  pub loops-once : (x : ℕ) → sum (often x) (loops n onward points) ≡ often x points
  loops-once x = go (eq-zero-or-pos (often x points)) (least x (until n onward x (onward x)))
    where
      go : (often x points ≡ 0) ⊎ (0 < often x points) → (c : ℕ) × On n onward x c × Below c (loop n onward x)
          → sum (often x) (loops n onward points) ≡ often x points
      go (inl z) c = loops-sum (often x) (equal x) (λ v i. off x z v i (lowest_first (loop n onward v)) (eq-zero-or-pos (has x v)))
      go (inr i) c =
          let start : (v : ℕ) → 1 ≤ often v points → cond (lowest_first (loop n onward v)) (has x v) 0 ≡ equal c.0 v =
          λ v j. starts x i c.0 c.1 c.2 v j (lowest_first (loop n onward v)) refl (ℕ_discrete c.0 v) (eq-zero-or-pos (has x v)) in
          omega (arith, loops-sum (often x) (equal c.0) start, per.once x, per.once c.0, on_in x c.0 i c.1)

  -- a sum over the points of the loops is the sum over the points of the leaf
  pub loops-points : (f : ℕ → ℕ) → sum (sum f) (loops n onward points) ≡ sum f points
  loops-points f =
      sym (sum-collect f (λ l. l) (loops n onward points))
      ∙ sum_perm f (collect (λ l. l) (loops n onward points)) points (λ x. sum-collect (equal x) (λ l. l) (loops n onward points) ∙ loops-once x)

  -- the steps of the loops are those from each point to its next
  pub loops-steps : (w : ℕ → ℕ → ℕ) → sum (cycle w) (loops n onward points) ≡ sum (λ p. w p (onward p)) points
  loops-steps w =
      sum_same (cycle w) (sum (λ p. w p (onward p))) (loops n onward points) stepped ∙ loops-points (λ p. w p (onward p))
    where
      stepped : (l : List ℕ) → In l (loops n onward points) → cycle w l ≡ sum (λ p. w p (onward p)) l
      stepped l i =
          let v = in_map (loop n onward) points l (in_keep lowest_first (map (loop n onward) points) l i).0 in
          subst (λ (l : List ℕ). cycle w l ≡ sum (λ p. w p (onward p)) l) (sym v.2) (loop-cycle w v.0 (in_often v.0 points v.1))

  -- the triangles of the leaf run along its steps, and as often one way as the other along everything else
  pub loops-balance : (cutting : List ℕ → List Triangle) → Closes cutting → (w : ℕ → ℕ → ℕ)
      → sum (run w) (collect cutting (loops n onward points)) + sum (λ p. w (onward p) p) points
      ≡ sum (run (turn w)) (collect cutting (loops n onward points)) + sum (λ p. w p (onward p)) points
  loops-balance cutting closes w =
      let ls = loops n onward points in
      omega (
        arith,
        loops-steps w,
        loops-steps (turn w),
        sum-collect (run w) cutting ls,
        sum-collect (run (turn w)) cutting ls,
        sum-add (λ l. sum (run w) (cutting l)) (cycle (turn w)) ls,
        sum-add (λ l. sum (run (turn w)) (cutting l)) (cycle w) ls,
        sum_same (λ l. sum (run w) (cutting l) + cycle (turn w) l) (λ l. sum (run (turn w)) (cutting l) + cycle w l) ls (λ l i. closes w l),
      )
