-- The way shown is the best, and the only one; and which ways of one graph are ways of another.
use Prim.Native.Nat.{ℕ, zero, suc, pred, ◌+◌, ◌≤◌, ◌<◌}
use mathlib.Core.Path.{◌≡◌, refl, sym, ap, ◌∙◌, subst}
use mathlib.Core.Logic.{◌⊎◌, inl, inr}
use mathlib.Core.Bool.{Bool, true, false, ◌&&◌, cond}
use mathlib.Core.List.{List, [], ◌∷◌}
use native.Mathlib.Omega.{arith}
use lib.Dec.{T, eqb, eqb→eq, eqb_refl, ltb, lt→ltb, ltb→lt}
use lib.ListN.{length, get_or}
use Rattle.base.specs.Lists.{first, count}
use Rattle.base.proofs.Tests.{and→, →and, or→, or_left, or_right, below, eq→eqb, not_both}
use Rattle.base.proofs.Lists.{In}
use Rattle.rules.specs.Ways.{Graph, passable, Way, one, more, comes_first, Best, fewest_steps, way_from, way_of, BothWays, BestShown, OneBest}
use Rattle.graph.proofs.Walks.{Walk, walk_first, turned, way-walk}
use Rattle.graph.proofs.Rounds.{inside}
use Rattle.graph.proofs.Steps.{Stepped, stepped}

-- the first number that passes a test, where one from i on does: it passes, and is not above that one
pub first-lowest : (f : ℕ → Bool) (n i k : ℕ) → i ≤ k → k < i + n → T (f k) → T (f (first f 0 (count i n))) × (first f 0 (count i n) ≤ k)
first-lowest f zero i k h g t = absurd (omega arith)
first-lowest f (suc n) i k h g t = go (λ d. first-lowest f n (suc i) k (omega arith) (omega arith) t) (f i) refl
  where
    go : ((i ≡ k → ⊥) → T (f (first f 0 (count (suc i) n))) × (first f 0 (count (suc i) n) ≤ k)) →
        (b : Bool) → f i ≡ b → T (f (cond b i (first f 0 (count (suc i) n)))) × (cond b i (first f 0 (count (suc i) n)) ≤ k)
    go rest true e = (subst T (sym e) tt, h)
    go rest false e = rest (λ q. not_both t (subst (λ (j : ℕ). f j ≡ false) q e))

module _ (graph : Graph) (both : BothWays graph) (end : ℕ) (r : List ℕ) (known : Stepped graph end r) where
  -- a step nearer to the end
  abbrev pub nearer : ℕ → ℕ → ℕ → Bool
  nearer n k j = eqb (get_or r j 0) (suc n) && graph.joined k j

  -- from a corner n + 1 steps away there is a step to one n steps away, and the first such is the lowest
  pub step_nearer : (n k j : ℕ) → T (graph.joined k j) → Walk graph n j end → get_or r k 0 ≡ suc (suc n) → T (nearer n k j)
  step_nearer n k j l w e =
      let back = turned graph both n j end w in
      let (a, b) = known.least j n back in
      let f = go (get_or r j 0) refl a b in
      →and (eqb (get_or r j 0) (suc n)) (graph.joined k j) (eq→eqb (get_or r j 0) (suc n) f) l
    where
      -- fewer steps from j would mean fewer from k
      go : (x : ℕ) → get_or r j 0 ≡ x → 1 ≤ get_or r j 0 → get_or r j 0 ≤ suc n → get_or r j 0 ≡ suc n
      go zero f a b = absurd (omega arith)
      go (suc m) f a b =
          let u = turned graph both m end j (known.there j m f) in
          let p = turned graph both (suc n) end k (known.there k (suc n) e) in
          let v : Walk graph (suc m) k end = (j, walk_first graph (suc n) k end p, l, u) in
          let c = (known.least k (suc m) (turned graph both (suc m) k end v)).1 in
          omega arith

  abbrev pub chosen : ℕ → ℕ → ℕ
  chosen n k = first (nearer n k) 0 (count 0 graph.size)

  pub chosen_lowest : (n k j : ℕ) → T (graph.joined k j) → Walk graph n j end → get_or r k 0 ≡ suc (suc n) →
      T (nearer n k (chosen n k)) × (chosen n k ≤ j)
  chosen_lowest n k j l w e =
      first-lowest (nearer n k) graph.size 0 j (omega arith) (let i = inside graph j (walk_first graph n j end w) in omega arith) (step_nearer n k j l w e)

  -- the walk from a corner to the end
  to_end : (n k : ℕ) → get_or r k 0 ≡ suc n → Walk graph n k end
  to_end n k e = turned graph both n end k (known.there k n e)

  pub chosen_near : (n k : ℕ) → get_or r k 0 ≡ suc (suc n) → (get_or r (chosen n k) 0 ≡ suc n) × T (graph.joined k (chosen n k))
  chosen_near n k e =
      let w = to_end (suc n) k e in
      let t = (chosen_lowest n k w.0 w.2 w.3 e).0 in
      let (a, b) = and→ (eqb (get_or r (chosen n k) 0) (suc n)) (graph.joined k (chosen n k)) t in
      (eqb→eq (get_or r (chosen n k) 0) (suc n) a, b)

  pub way-from-length : (n k : ℕ) → length (way_from graph r n k) ≡ suc n
  unfolding way_from
  way-from-length zero k = refl
  way-from-length (suc n) k = ap suc (way-from-length n (chosen n k))

  way-from-way : (n k : ℕ) → get_or r k 0 ≡ suc n → Way graph k end (way_from graph r n k)
  unfolding way_from
  way-from-way zero k e = let w = to_end 0 k e in subst (λ m. Way graph k m (k ∷ [])) w.1 (one w.0)
  way-from-way (suc n) k e =
      let (a, l) = chosen_near n k e in
      more (to_end (suc n) k e).1 l (way-from-way n (chosen n k) a)

  -- what starts lower than a way is lower
  starts_lower : {j m : ℕ} {w : List ℕ} → Way graph j m w → (n c : ℕ) → c < j → T (comes_first (way_from graph r n c) w)
  unfolding way_from
  starts_lower {j} (one t) zero c h = or_left (ltb c j) (eqb c j && false) (lt→ltb c j h)
  starts_lower {j} (one t) (suc n) c h = or_left (ltb c j) (eqb c j && comes_first (way_from graph r n (chosen n c)) []) (lt→ltb c j h)
  starts_lower {j} (more {w = w} t l y) zero c h = or_left (ltb c j) (eqb c j && comes_first [] w) (lt→ltb c j h)
  starts_lower {j} (more {w = w} t l y) (suc n) c h = or_left (ltb c j) (eqb c j && comes_first (way_from graph r n (chosen n c)) w) (lt→ltb c j h)

  -- with the same corner before both, too
  after_same : (k : ℕ) (w v : List ℕ) → T (comes_first w v) → T (comes_first (k ∷ w) (k ∷ v))
  after_same k w v t = or_right (ltb k k) (eqb k k && comes_first w v) (→and (eqb k k) (comes_first w v) (eqb_refl k) t)

  -- another way with as many corners is the same, or above it
  way-from-lowest : {k m : ℕ} {v : List ℕ} → Way graph k m v → m ≡ end → (n : ℕ) → length v ≡ suc n → get_or r k 0 ≡ suc n →
      (v ≡ way_from graph r n k) ⊎ T (comes_first (way_from graph r n k) v)
  unfolding way_from
  way-from-lowest (one t) q zero h e = inl refl
  way-from-lowest (one t) q (suc n) h e = absurd (omega arith)
  way-from-lowest (more t l y) q zero h e = absurd (short y (omega arith))
    where
      short : {j m : ℕ} {w : List ℕ} → Way graph j m w → length w ≡ 0 → ⊥
      short (one t) h = omega arith
      short (more t l y) h = omega arith
  way-from-lowest {k} (more {k = j} {w = w} t l y) q (suc n) h e = compare (way-from-lowest y q n (omega arith)) (below (chosen n k) j)
    where
      walk : Walk graph n j end
      walk =
          let (x, u, f) = way-walk graph y in
          let g : x ≡ n = omega arith in
          subst (λ (i : ℕ). Walk graph i j end) g (subst (λ (i : ℕ). Walk graph x j i) q u)

      Compared : ℕ → Type 0
      Compared c = (k ∷ w ≡ k ∷ way_from graph r n c) ⊎ T (comes_first (k ∷ way_from graph r n c) (k ∷ w))

      under : (w ≡ way_from graph r n j) ⊎ T (comes_first (way_from graph r n j) w) → Compared j
      under (inl a) = inl (ap (λ (v : List ℕ). k ∷ v) a)
      under (inr a) = inr (after_same k (way_from graph r n j) w a)

      compare : (get_or r j 0 ≡ suc n → (w ≡ way_from graph r n j) ⊎ T (comes_first (way_from graph r n j) w)) → (chosen n k < j) ⊎ (j ≤ chosen n k) →
          Compared (chosen n k)
      compare ih (inl a) = inr (after_same k (way_from graph r n (chosen n k)) w (starts_lower y n (chosen n k) a))
      compare ih (inr a) =
          let b = (chosen_lowest n k j l walk e).1 in
          let s : j ≡ chosen n k = omega arith in
          let f : get_or r j 0 ≡ suc n = ap (λ (i : ℕ). get_or r i 0) s ∙ (chosen_near n k e).0 in
          subst Compared s (under (ih f))

  pub way-from-best : (n k : ℕ) → get_or r k 0 ≡ suc n → Best graph k end (way_from graph r n k)
  way-from-best n k e = record {
    way = way-from-way n k e;
    fewest = λ v y.
        let (x, u, f) = way-walk graph y in
        let a = (known.least k x (turned graph both x k end u)).1 in
        let b = way-from-length n k in
        omega arith;
    lowest = λ v y h. way-from-lowest y refl n (h ∙ way-from-length n k) e;
  }

pub best_shown : BestShown
unfolding BestShown way_of
best_shown graph both start end v y =
    let (x, u, f) = way-walk graph y in
    go (get_or (fewest_steps graph end) start 0) refl ((stepped graph end).least start x (turned graph both x start end u)).0
  where
    go : (m : ℕ) → get_or (fewest_steps graph end) start 0 ≡ m → 1 ≤ get_or (fewest_steps graph end) start 0 →
        Best graph start end (way_from graph (fewest_steps graph end) (pred (get_or (fewest_steps graph end) start 0)) start)
    go zero e h = absurd (omega arith)
    go (suc n) e h =
        subst (λ (i : ℕ). Best graph start end (way_from graph (fewest_steps graph end) (pred i) start)) (sym e)
        (way-from-best graph both end (fewest_steps graph end) (stepped graph end) n start e)

pub way-length : (graph : Graph) → BothWays graph → (start end n : ℕ) → get_or (fewest_steps graph end) start 0 ≡ suc n → length (way_of graph start end) ≡ suc n
unfolding way_of
way-length graph both start end n e =
    ap (λ (m : ℕ). length (way_from graph (fewest_steps graph end) (pred m) start)) e
    ∙ way-from-length graph both end (fewest_steps graph end) (stepped graph end) n start

-- ---- no other way is the best too

-- of two lists one at most is lower
not_both_lower : (w v : List ℕ) → T (comes_first w v) → T (comes_first v w) → ⊥
not_both_lower [] v a b = a
not_both_lower (j ∷ w) [] a b = a
not_both_lower (j ∷ w) (k ∷ v) a b = go (not_both_lower w v) (or→ (ltb j k) (eqb j k && comes_first w v) a) (or→ (ltb k j) (eqb k j && comes_first v w) b)
  where
    go : (T (comes_first w v) → T (comes_first v w) → ⊥) → T (ltb j k) ⊎ T (eqb j k && comes_first w v) → T (ltb k j) ⊎ T (eqb k j && comes_first v w) → ⊥
    go rest (inl x) (inl y) = let p = ltb→lt j k x in let q = ltb→lt k j y in omega arith
    go rest (inl x) (inr y) = let p = ltb→lt j k x in let q = eqb→eq k j (and→ (eqb k j) (comes_first v w) y).0 in omega arith
    go rest (inr x) (inl y) = let p = eqb→eq j k (and→ (eqb j k) (comes_first w v) x).0 in let q = ltb→lt k j y in omega arith
    go rest (inr x) (inr y) = rest (and→ (eqb j k) (comes_first w v) x).1 (and→ (eqb k j) (comes_first v w) y).1

pub one-best : OneBest
unfolding OneBest
one-best graph start end w v a b =
    let c = a.fewest v b.way in
    let d = b.fewest w a.way in
    go (a.lowest v b.way (omega arith)) (b.lowest w a.way (omega arith))
  where
    go : (v ≡ w) ⊎ T (comes_first w v) → (w ≡ v) ⊎ T (comes_first v w) → v ≡ w
    go (inl e) y = e
    go (inr x) (inl e) = sym e
    go (inr x) (inr y) = absurd (not_both_lower w v x y)

-- ---- a way in another graph

-- every corner of a way is wet
pub way-wet : (graph : Graph) {start end : ℕ} {w : List ℕ} → Way graph start end w → (k : ℕ) → In k w → T (passable graph k)
way-wet graph (one t) k (inl e) = subst (λ n. T (passable graph n)) (sym e) t
way-wet graph (one t) k (inr i) = absurd i
way-wet graph (more t l y) k (inl e) = subst (λ n. T (passable graph n)) (sym e) t
way-wet graph (more t l y) k (inr i) = way-wet graph y k i

-- where its corners are wet in another graph too, and what is joined is joined there, it is a way there
pub way-there : (graph other : Graph) → ((j k : ℕ) → T (graph.joined j k) → T (other.joined j k)) →
    {start end : ℕ} {w : List ℕ} → Way graph start end w → ((k : ℕ) → In k w → T (passable other k)) → Way other start end w
way-there graph other step (one {k = k} t) wet = one (wet k (inl refl))
way-there graph other step (more {j = j} {k = k} t l y) wet = more (wet j (inl refl)) (step j k l) (way-there graph other step y (λ n i. wet n (inr i)))
