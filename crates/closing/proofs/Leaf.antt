-- One leaf: its face steps and twin steps together permute the points it meets, and its triangles balance but for its face steps.
--     onward-permutes      the points that the leaf's face steps meet, and the step from each
--     leaf-others          how often its triangles run from p to q and from q to p differs by the face steps between them
--     leaf_twins           for twins, it differs also by the face steps that enter and leave the one
--     leaf_passes          where face steps lead from a to p and from p to b, a ≢ b, some triangle runs from p to b
-- Assumes nothing.
use mathlib.Core.Path.{◌≡◌, refl, sym, ap, ◌∙◌, subst, fun_ext}
use mathlib.Core.Logic.{◌⊎◌, inl, inr}
use mathlib.Core.Bool.{Bool, true, false, ◌&&◌, ◌||◌, cond}
use mathlib.Core.List.{List, [], ◌∷◌}
use Prim.Native.Nat.{ℕ, ◌+◌, ◌-◌, ◌≤◌, ◌<◌}
use native.Mathlib.Nat.{eq-zero-or-pos}
use native.Mathlib.Omega.{arith}
use native.Mathlib.Decide.{ℕ_discrete}
use lib.Dec.{eqb, T}
use borrow.Author.Tests.{eqb-true, eqb-false, eq-eqb}
use Rattle.base.specs.Lists.{bit, sum, collect, first, count, often}
use Rattle.base.proofs.Lists.{in_keep, keep_in, count_in}
use Rattle.base.proofs.Sums.{sum-le, sum-add, sum_one, sum-keep-le, count-once}
use Rattle.base.proofs.Counts.{equal, equal_eq, equal_ne, in_often, often_in, take_out, length-count, any_has}
use Rattle.rules.specs.Steps.{Step, Triangle, met, onward, loops}
use Rattle.rules.specs.Closing.{run, step, runs}
use Rattle.geometry.proofs.Interface.{tally, leave, enter, meeting, Paired}
use Rattle.geometry.proofs.Laws.{meeting→}
use Rattle.closing.specs.Cutting.{turn, Closes}
use Rattle.closing.specs.Permutes.{Permutes}
use Rattle.closing.proofs.Loops.{loops-balance}

-- ---- the weight of one step

and_comm : (a b : Bool) → a && b ≡ b && a
and_comm true true = refl
and_comm true false = refl
and_comm false true = refl
and_comm false false = refl

bit_and : (s t : Bool) → bit (s && t) ≤ bit s
bit_and true true = omega arith
bit_and true false = omega arith
bit_and false t = omega arith

-- turned round, the step from p to q is the step from q to p
step_back : (p q a b : ℕ) → step p q a b ≡ step q p b a
unfolding step
step_back p q a b = ap bit (and_comm (eqb p a) (eqb q b))

pub step-turn : (p q : ℕ) → turn (step p q) ≡ step q p
step-turn p q = fun_ext (λ a. fun_ext (λ b. step_back p q b a))

step_on : (p q b : ℕ) → step p q p b ≡ equal q b
unfolding step
step_on p q b = ap (λ (t : Bool). bit (t && eqb q b)) (eq-eqb p p refl)

pub step_from : (p q a b : ℕ) → step p q a b ≤ equal p a
unfolding step
step_from p q a b = bit_and (eqb p a) (eqb q b)

-- a step to one of two points
step-two : (p q r a b : ℕ) → (q ≡ r → ⊥) → step p q a b + step p r a b ≤ equal p a
step-two p q r a b d = go (ℕ_discrete q b)
  where
    go : Dec (q ≡ b) → step p q a b + step p r a b ≤ equal p a
    go (no e) = omega (arith, step_back p q a b, step_from q p b a, equal_ne q b e, step_from p r a b)
    go (yes e) = omega (arith, step_from p q a b, step_back p r a b, step_from r p b a, equal_ne r b (λ f. d (e ∙ sym f)))

-- how often the way from each point to the one onward goes from p to q
abbrev goes : (ℕ → ℕ) → List ℕ → ℕ → ℕ → ℕ
goes onward points p q = sum (λ x. step p q x (onward x)) points

goes_none : (onward : ℕ → ℕ) (points : List ℕ) (p q : ℕ) → often p points ≡ 0 → goes onward points p q ≡ 0
goes_none onward points p q z = omega (arith, sum-le (λ x. step p q x (onward x)) (equal p) points (λ x i. step_from p q x (onward x)))

goes_once : (onward : ℕ → ℕ) (points : List ℕ) (p q : ℕ) → often p points ≡ 1 → goes onward points p q ≡ equal q (onward p)
goes_once onward points p q i =
    let t = take_out p points (omega arith) in
    let z : often p t.0 ≡ 0 = omega (arith, t.1 (equal p), equal_eq p p refl) in
    omega (arith, t.1 (λ x. step p q x (onward x)), goes_none onward t.0 p q z, step_on p q (onward p))

-- ---- face steps counted

tally_leaves : (p q : ℕ) (ss : List Step) → tally p q ss ≤ leave ss p
unfolding tally leave
tally_leaves p q [] = omega arith
tally_leaves p q (t ∷ ss) = omega (arith, step_from p q t.0 t.1, tally_leaves p q ss)

tally_enters : (p q : ℕ) (ss : List Step) → tally p q ss ≤ enter ss q
unfolding tally enter
tally_enters p q [] = omega arith
tally_enters p q (t ∷ ss) = omega (arith, step_back p q t.0 t.1, step_from q p t.1 t.0, tally_enters p q ss)

-- steps to two points leave p together, and steps from two points enter q together
two_leave : (p a b : ℕ) (ss : List Step) → (a ≡ b → ⊥) → tally p a ss + tally p b ss ≤ leave ss p
unfolding tally leave
two_leave p a b [] d = omega arith
two_leave p a b (t ∷ ss) d = omega (arith, step-two p a b t.0 t.1 d, two_leave p a b ss d)

two-enter : (a b q : ℕ) (ss : List Step) → (a ≡ b → ⊥) → tally a q ss + tally b q ss ≤ enter ss q
unfolding tally enter
two-enter a b q [] d = omega arith
two-enter a b q (t ∷ ss) d =
    omega (arith, step_back a q t.0 t.1, step_back b q t.0 t.1, step-two q a b t.1 t.0 d, two-enter a b q ss d)

-- where a face step leaves p, the loop follows one
out_step : (ss : List Step) (twin : ℕ → ℕ) (p : ℕ) → 1 ≤ leave ss p → 1 ≤ tally p (onward ss twin p) ss
unfolding tally leave
out_step [] twin p h = absurd (omega arith)
out_step (t ∷ ss) twin p h = go (eqb p t.0) refl (out_step ss twin p)
  where
    go : (u : Bool) → eqb p t.0 ≡ u → (1 ≤ leave ss p → 1 ≤ tally p (onward ss twin p) ss)
        → 1 ≤ sum (λ (r : Step). step p (cond u t (first (λ t. eqb p t.0) (p, twin p) ss)).1 r.0 r.1) (t ∷ ss)
    go true e ih = omega (arith, ap (λ (a : ℕ). step p t.1 a t.1) (sym (eqb-true p t.0 e)), step_on p t.1 t.1, equal_eq t.1 t.1 refl)
    go false e ih = omega (arith, ih (omega (arith, equal_ne p t.0 (eqb-false p t.0 e))))

-- where none does, it goes to the twin
out-twin : (ss : List Step) (twin : ℕ → ℕ) (p : ℕ) → leave ss p ≡ 0 → onward ss twin p ≡ twin p
unfolding leave
out-twin [] twin p h = refl
out-twin (t ∷ ss) twin p h = go (eqb p t.0) refl (out-twin ss twin p (omega arith))
  where
    go : (u : Bool) → eqb p t.0 ≡ u → onward ss twin p ≡ twin p → (cond u t (first (λ t. eqb p t.0) (p, twin p) ss)).1 ≡ twin p
    go true e ih = absurd (omega (arith, equal_eq p t.0 (eqb-true p t.0 e)))
    go false e ih = ih

met_has : (ss : List Step) (n p : ℕ) → p < n → 1 ≤ leave ss p + enter ss p → 1 ≤ often p (met ss n)
unfolding leave enter
met_has ss n p l h =
    let both = sum-add (λ (t : Step). equal p t.0) (λ t. equal p t.1) ss in
    let is-met : T (meeting ss p) = any_has _ (λ (t : Step). equal p t.0 + equal p t.1) ss (λ t. go (eqb p t.0) (eqb p t.1)) (omega arith) in
    in_often p (met ss n) (keep_in (meeting ss) (count 0 n) p (count_in n 0 p (omega arith) (omega arith)) is-met)
  where
    go : (a b : Bool) → a || b ≡ false → bit a + bit b ≡ 0
    go true b e = let z : ◌≡◌ {A = ℕ} 1 0 = ap bit e in absurd (omega arith)
    go false true e = let z : ◌≡◌ {A = ℕ} 1 0 = ap bit e in absurd (omega arith)
    go false false e = refl

met_only : (ss : List Step) (n p : ℕ) → 1 ≤ often p (met ss n) → 1 ≤ leave ss p + enter ss p
met_only ss n p h = meeting→ ss p (in_keep (meeting ss) (count 0 n) p (often_in p (met ss n) h)).1

-- ---- the leaf

-- the triangles of a leaf, given its face steps
abbrev pub leaf_triangles : (List ℕ → List Triangle) → (ℕ → ℕ) → ℕ → List Step → List Triangle
leaf_triangles cutting twin n ss = collect cutting (loops n (onward ss twin) (met ss n))

module _ (twin : ℕ → ℕ) (n : ℕ) (ss : List Step) (pair : Paired twin n ss) where
  -- where the loop goes from p
  abbrev next : ℕ → ℕ
  next p = onward ss twin p

  -- a face step meets p
  abbrev Here : ℕ → Type 0
  Here p = 1 ≤ leave ss p + enter ss p

  met-once : (p : ℕ) → often p (met ss n) ≤ 1
  met-once p = omega (arith, sum-keep-le (equal p) (meeting ss) (count 0 n), count-once n 0 p)

  met-one : (p : ℕ) → Here p → often p (met ss n) ≡ 1
  met-one p h = omega (arith, met-once p, met_has ss n p (pair.within p h) h)

  -- where a face step enters a point and none leaves it, one leaves its twin and none enters that
  open_end : (p : ℕ) → 1 ≤ enter ss p → leave ss p ≡ 0 → (1 ≤ leave ss (twin p)) × (enter ss (twin p) ≡ 0) × (twin (twin p) ≡ p)
  open_end p i z = go (pair.even p)
    where
      go : (enter ss p ≡ leave ss p) ⊎ ((enter ss p + enter ss (twin p) ≡ leave ss p + leave ss (twin p)) × (twin (twin p) ≡ p))
          → (1 ≤ leave ss (twin p)) × (enter ss (twin p) ≡ 0) × (twin (twin p) ≡ p)
      go (inl q) = absurd (omega arith)
      go (inr q) = (omega (arith, q.0), omega (arith, q.0, pair.leaves (twin p)), q.1)

  -- from where a face step leaves, the loop follows it
  follows : (a b : ℕ) → 1 ≤ tally a b ss → next a ≡ b
  follows a b h = go (ℕ_discrete (next a) b)
    where
      go : Dec (next a ≡ b) → next a ≡ b
      go (yes e) = e
      go (no d) = absurd (omega (arith, two_leave a (next a) b ss d, out_step ss twin a (omega (arith, tally_leaves a b ss)), pair.leaves a))

  -- a face step enters the point that p's face step goes to
  entered : (p : ℕ) → 1 ≤ leave ss p → 1 ≤ enter ss (next p)
  entered p h = omega (arith, out_step ss twin p h, tally_enters p (next p) ss)

  stays : (x : ℕ) → Here x → (leave ss x ≡ 0) ⊎ (0 < leave ss x) → Here (next x)
  stays x i (inl z) = subst Here (sym (out-twin ss twin x z)) (omega (arith, (open_end x (omega arith) z).0))
  stays x i (inr l) = omega (arith, entered x l)

  -- a face step and a twin step do not go to one point
  twin-apart : (x y : ℕ) → 1 ≤ enter ss x → leave ss x ≡ 0 → 1 ≤ leave ss y → next x ≡ next y → ⊥
  twin-apart x y i z j e = omega (arith, entered y j, ap (enter ss) (sym e ∙ out-twin ss twin x z), (open_end x i z).1)

  apart : (x y : ℕ) → Here x → Here y → next x ≡ next y → (leave ss x ≡ 0) ⊎ (0 < leave ss x) → (leave ss y ≡ 0) ⊎ (0 < leave ss y) → Dec (x ≡ y) → x ≡ y
  apart x y i j e (inl z) (inl u) d =
      sym (open_end x (omega arith) z).2 ∙ ap twin (sym (out-twin ss twin x z) ∙ e ∙ out-twin ss twin y u) ∙ (open_end y (omega arith) u).2
  apart x y i j e (inl z) (inr k) d = absurd (twin-apart x y (omega arith) z k e)
  apart x y i j e (inr h) (inl u) d = absurd (twin-apart y x (omega arith) u h (sym e))
  apart x y i j e (inr h) (inr k) (yes q) = q
  apart x y i j e (inr h) (inr k) (no d) =
      let to = subst (λ (v : ℕ). 1 ≤ tally x v ss) e (out_step ss twin x h) in
      absurd (omega (arith, out_step ss twin y k, two-enter x y (next y) ss d, pair.enters (next y)))

  pub onward-permutes : Permutes n next (met ss n)
  onward-permutes = record {
    once = met-once;
    few = omega (arith, sum_one (met ss n), sum-keep-le (λ x. 1) (meeting ss) (count 0 n), sum_one (count 0 n), length-count n 0);
    stays = λ x i. omega (arith, met-one (next x) (stays x (met_only ss n x i) (eq-zero-or-pos (leave ss x))));
    apart = λ x y i j e. apart x y (met_only ss n x i) (met_only ss n y j) e (eq-zero-or-pos (leave ss x)) (eq-zero-or-pos (leave ss y)) (ℕ_discrete x y);
  }

  -- ---- how often the leaf's steps go from p to q

  -- where a face step leaves p, as often as face steps do
  goes_face : (p q : ℕ) → 1 ≤ leave ss p → goes next (met ss n) p q ≡ tally p q ss
  goes_face p q h = goes_once next (met ss n) p q (met-one p (omega arith)) ∙ go (ℕ_discrete q (next p))
    where
      go : Dec (q ≡ next p) → equal q (next p) ≡ tally p q ss
      go (yes e) = omega (
        arith,
        equal_eq q (next p) e,
        subst (λ (v : ℕ). 1 ≤ tally p v ss) (sym e) (out_step ss twin p h),
        tally_leaves p q ss,
        pair.leaves p,
      )
      go (no d) = omega (arith, equal_ne q (next p) d, two_leave p q (next p) ss d, out_step ss twin p h, pair.leaves p)

  -- where none leaves and none enters it, never
  goes_off : (p q : ℕ) → leave ss p ≡ 0 → enter ss p ≡ 0 → goes next (met ss n) p q ≡ tally p q ss
  goes_off p q z e = go (eq-zero-or-pos (often p (met ss n)))
    where
      go : (often p (met ss n) ≡ 0) ⊎ (0 < often p (met ss n)) → goes next (met ss n) p q ≡ tally p q ss
      go (inl o) = omega (arith, goes_none next (met ss n) p q o, tally_leaves p q ss)
      go (inr o) = absurd (omega (arith, met_only ss n p o))

  -- where one enters and none leaves, to its twin
  goes_open : (p q : ℕ) → leave ss p ≡ 0 → 1 ≤ enter ss p → goes next (met ss n) p q ≡ equal q (twin p)
  goes_open p q z i = goes_once next (met ss n) p q (met-one p (omega arith)) ∙ ap (equal q) (out-twin ss twin p z)

  -- between points that are not twins of each other: as often as face steps do
  goes_others : (p q : ℕ) → (twin p ≡ q → twin q ≡ p → ⊥) → goes next (met ss n) p q ≡ tally p q ss
  goes_others p q d = go (eq-zero-or-pos (leave ss p)) (eq-zero-or-pos (enter ss p))
    where
      go : (leave ss p ≡ 0) ⊎ (0 < leave ss p) → (enter ss p ≡ 0) ⊎ (0 < enter ss p) → goes next (met ss n) p q ≡ tally p q ss
      go (inr l) e = goes_face p q l
      go (inl z) (inl e) = goes_off p q z e
      go (inl z) (inr i) =
          let off = equal_ne q (twin p) (λ e. d (sym e) (ap twin e ∙ (open_end p i z).2)) in
          omega (arith, goes_open p q z i, tally_leaves p q ss)

  -- from p to its twin: once more where p is an open end
  goes_twin : (p q : ℕ) → twin p ≡ q → goes next (met ss n) p q ≡ tally p q ss + (enter ss p - leave ss p)
  goes_twin p q t = go (eq-zero-or-pos (leave ss p)) (eq-zero-or-pos (enter ss p))
    where
      go : (leave ss p ≡ 0) ⊎ (0 < leave ss p) → (enter ss p ≡ 0) ⊎ (0 < enter ss p) → goes next (met ss n) p q ≡ tally p q ss + (enter ss p - leave ss p)
      go (inr l) e = omega (arith, goes_face p q l, pair.enters p)
      go (inl z) (inl e) = omega (arith, goes_off p q z e)
      go (inl z) (inr i) = omega (arith, goes_open p q z i, equal_eq q (twin p) (sym t), tally_leaves p q ss, pair.enters p)

  -- face steps enter a point and its twin as often as they leave them
  even_twins : (p q : ℕ) → twin p ≡ q → twin q ≡ p → enter ss p + enter ss q ≡ leave ss p + leave ss q
  even_twins p q a b = go (pair.even p) (pair.even q)
    where
      Even : ℕ → Type 0
      Even x = (enter ss x ≡ leave ss x) ⊎ ((enter ss x + enter ss (twin x) ≡ leave ss x + leave ss (twin x)) × (twin (twin x) ≡ x))

      go : Even p → Even q → enter ss p + enter ss q ≡ leave ss p + leave ss q
      go (inl x) (inl y) = omega arith
      go x (inr y) = omega (arith, y.0, ap (enter ss) b, ap (leave ss) b)
      go (inr x) (inl y) = omega (arith, x.0, ap (enter ss) a, ap (leave ss) a)

  -- ---- the leaf's triangles

  module _ (cutting : List ℕ → List Triangle) (closes : Closes cutting) where
    abbrev triangles : List Triangle
    triangles = leaf_triangles cutting twin n ss

    leaf-runs : (p q : ℕ) → runs p q triangles + goes next (met ss n) q p ≡ runs q p triangles + goes next (met ss n) p q
    leaf-runs p q =
        subst (λ (w : ℕ → ℕ → ℕ). runs p q triangles + sum (λ x. w x (next x)) (met ss n) ≡ sum (run w) triangles + goes next (met ss n) p q)
        (step-turn p q) (loops-balance n next (met ss n) onward-permutes cutting closes (step p q))

    pub leaf-others : (p q : ℕ) → (twin p ≡ q → twin q ≡ p → ⊥) → runs p q triangles + tally q p ss ≡ runs q p triangles + tally p q ss
    leaf-others p q d = omega (arith, leaf-runs p q, goes_others p q d, goes_others q p (λ a b. d b a))

    pub leaf_twins : (p q : ℕ) → twin p ≡ q → twin q ≡ p
        → runs p q triangles + (tally q p ss + leave ss p) ≡ runs q p triangles + (tally p q ss + enter ss p)
    leaf_twins p q a b =
        omega (
          arith,
          leaf-runs p q,
          goes_twin p q a,
          goes_twin q p b,
          even_twins p q a b,
          pair.leaves p,
          pair.leaves q,
          pair.enters p,
          pair.enters q,
        )

    pub leaf_passes : (a p b : ℕ) → 1 ≤ tally a p ss → 1 ≤ tally p b ss → (a ≡ b → ⊥) → 1 ≤ runs p b triangles
    leaf_passes a p b i j d =
        let la = tally_leaves a p ss in
        let lp = tally_leaves p b ss in
        let eb = tally_enters p b ss in
        let at_a = met-one a (omega arith) in
        let at_b = met-one b (omega arith) in
        let back : next b ≡ p → ⊥ = λ e. d (onward-permutes.apart a b (omega arith) (omega arith) (follows a p i ∙ sym e)) in
        omega (
          arith,
          leaf-runs p b,
          goes_face p b (omega arith),
          goes_once next (met ss n) b p at_b,
          equal_ne p (next b) (λ e. back (sym e)),
        )
