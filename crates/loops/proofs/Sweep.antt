-- The points of a leaf, passed in rising order.
--     in_points, of_points            the points that the face steps meet, by test and by list
--     fans_append, fans-none, fan-loop      the triangles of the loops that start at some points
--     swept_none, swept_more, swept_row     no point, points after others, and points that are not left
--     mark-rest, swept_long           a point with a mark is left; the slice stays as long as it was
--     begins, drawn                   from the trace of the leaf to its triangles and the empty trace
-- Assumes nothing.
use mathlib.Core.Path.{◌≡◌, refl, sym, ap, ◌∙◌, subst}
use mathlib.Core.Bool.{Bool, true, false, ◌||◌, cond, false≢true}
use mathlib.Core.List.{List, [], ◌∷◌, ◌++◌, append-nil, append_assoc}
use Prim.Native.Nat.{ℕ, zero, suc, ◌+◌, ◌*◌, ◌-◌, ◌≤◌, ◌<◌}
use native.Mathlib.Nat.{zero-add, add-zero, suc-add, mul-le-mul_left}
use native.Mathlib.Omega.{arith}
use native.Mathlib.Decide.{dec_le}
use lib.Dec.{eqb}
use lib.ListN.{length, set, length-append, length-set}
use lib.Seq.{sets, length-sets, get_or-set_same, get_or-set_other}
use Rattle.base.specs.Lists.{first, keep, collect, count, often}
use Rattle.base.proofs.Tests.{→true, true→}
use Rattle.base.proofs.Lists.{in_keep, keep_in, count_in}
use Rattle.base.proofs.Counts.{in_often, often_in, length-count}
use Rattle.rules.specs.Steps.{Step, Triangle, met, until, loop, lowest_first, loops, fan_from, fan}
use Rattle.rules.specs.Outputs.{numbers}
use Rattle.trace.specs.Trace.{Traced, mark_at, mark_of, meets, end_from}
use Rattle.trace.proofs.Laws.{empty, met-few}
use Rattle.loops.specs.Loops.{Leaf, triangles, into, Drawn}
use Rattle.loops.specs.Sweep.{Progress, progress, after, Left, fans, Swept}
use Rattle.loops.proofs.Slices.{sets_append, sets-into, length-numbers, numbers_append}

-- a point that no step meets is left by none
unmet_end : (ss : List Step) (v : ℕ) → meets ss v ≡ false → end_from ss v ≡ 65535
unmet_end [] v e = refl
unmet_end (t ∷ ss) v e = go (eqb v t.0) (eqb v t.1) e (unmet_end ss v)
  where
    go : (a b : Bool) → (a || b) || meets ss v ≡ false → (meets ss v ≡ false → end_from ss v ≡ 65535)
        → (cond a t (first (λ t. eqb v t.0) (v, 65535) ss)).1 ≡ 65535
    go true b q ih = absurd (false≢true (sym q))
    go false true q ih = absurd (false≢true (sym q))
    go false false q ih = ih q

-- ---- the points of the leaf

module _ {twins : List ℕ} (l : Leaf twins) where
  pub in_points : (v : ℕ) → meets l.steps v ≡ true → 1 ≤ often v (met l.steps l.points)
  in_points v e =
      in_often v (met l.steps l.points)
      (keep_in (meets l.steps) (count 0 l.points) v (count_in l.points 0 v (omega arith) (omega (arith, l.inside v e))) (→true e))

  pub of_points : (v : ℕ) → 1 ≤ often v (met l.steps l.points) → meets l.steps v ≡ true
  of_points v h =
      true→ (meets l.steps v) (in_keep (meets l.steps) (count 0 l.points) v (often_in v (met l.steps l.points) h)).1

  -- the way onward leads from met points to met points
  pub met_on : (v : ℕ) → meets l.steps v ≡ true → meets l.steps (after l v) ≡ true
  met_on v e = of_points (after l v) (l.permutes.stays v (in_points v e))

  -- ---- triangles of the loops that start at some points

  abbrev over : List ℕ → List Triangle
  over vs = collect fan (loops l.points (after l) (keep (meets l.steps) vs))

  over_append : (xs ys : List ℕ) → over (xs ++ ys) ≡ over xs ++ over ys
  over_append [] ys = refl
  over_append (x ∷ xs) ys = go (meets l.steps x) (over_append xs ys)
    where
      more : List ℕ → List (List ℕ)
      more vs = loops l.points (after l) (keep (meets l.steps) vs)

      starts : (b : Bool) → over (xs ++ ys) ≡ over xs ++ over ys
          → collect fan (cond b (loop l.points (after l) x ∷ more (xs ++ ys)) (more (xs ++ ys)))
          ≡ collect fan (cond b (loop l.points (after l) x ∷ more xs) (more xs)) ++ over ys
      starts true ih =
          let own = fan (loop l.points (after l) x) in
          ap (λ (ts : List Triangle). own ++ ts) ih ∙ sym (append_assoc own (over xs) (over ys))
      starts false ih = ih

      go : (b : Bool) → over (xs ++ ys) ≡ over xs ++ over ys
          → collect fan (loops l.points (after l) (cond b (x ∷ keep (meets l.steps) (xs ++ ys)) (keep (meets l.steps) (xs ++ ys))))
          ≡ collect fan (loops l.points (after l) (cond b (x ∷ keep (meets l.steps) xs) (keep (meets l.steps) xs))) ++ over ys
      go true ih = starts (lowest_first (loop l.points (after l) x)) ih
      go false ih = ih

  count_append : (k j v : ℕ) → count v (k + j) ≡ count v k ++ count (v + k) j
  count_append zero j v = rw (zero-add, add-zero)
  count_append (suc k) j v = let e : v + suc k ≡ suc v + k = omega arith in rw (suc-add, e) (ap (λ (r : List ℕ). v ∷ r) (count_append k j (suc v)))

  pub fans_append : (v k j : ℕ) → fans l v (k + j) ≡ fans l v k ++ fans l (v + k) j
  fans_append v k j = ap over (count_append k j v) ∙ over_append (count v k) (count (v + k) j)

  -- no loop starts at the points from v on
  pub fans-none : (k v : ℕ)
      → ((x : ℕ) → v ≤ x → x < v + k → meets l.steps x ≡ true → lowest_first (loop l.points (after l) x) ≡ false) → fans l v k ≡ []
  fans-none zero v h = refl
  fans-none (suc k) v h = go (meets l.steps v) refl (fans-none k (suc v) (λ x i j. h x (omega arith) (omega arith)))
    where
      others : List ℕ
      others = keep (meets l.steps) (count (suc v) k)

      go : (b : Bool) → meets l.steps v ≡ b → fans l (suc v) k ≡ [] → collect fan (loops l.points (after l) (cond b (v ∷ others) others)) ≡ []
      go true e ih = rw (h v (omega arith) (omega arith) e) ih
      go false e ih = ih

  -- one starts at v
  pub fan-loop : (v : ℕ) → meets l.steps v ≡ true → lowest_first (loop l.points (after l) v) ≡ true → fans l v 1 ≡ fan (loop l.points (after l) v)
  fan-loop v m e = rw (m, e) (append-nil (fan (loop l.points (after l) v)))

  -- ---- how many

  pub until-few : (k : ℕ) (f : ℕ → ℕ) (v u c a : ℕ) → length (fan_from c a (until k f v u)) ≤ k
  until-few zero f v u c a = omega arith
  until-few (suc k) f v u c a = go (eqb u v) (until-few k f v (f u) c u)
    where
      go : (b : Bool) → length (fan_from c u (until k f v (f u))) ≤ k → length (fan_from c a (cond b [] (u ∷ until k f v (f u)))) ≤ suc k
      go true ih = omega arith
      go false ih = omega arith

  fan-few : (n v : ℕ) (f : ℕ → ℕ) → length (fan (loop n f v)) ≤ n
  fan-few zero v f = omega arith
  fan-few (suc n) v f = go (eqb (f v) v) (until-few n f v (f (f v)) v (f v))
    where
      go : (b : Bool) → length (fan_from v (f v) (until n f v (f (f v)))) ≤ n → length (fan (v ∷ cond b [] (f v ∷ until n f v (f (f v))))) ≤ suc n
      go true h = omega arith
      go false h = omega arith

  over_few : (vs : List ℕ) → length (over vs) ≤ length vs * l.points
  over_few [] = omega arith
  over_few (v ∷ vs) = go (meets l.steps v) (over_few vs)
    where
      others : List (List ℕ)
      others = loops l.points (after l) (keep (meets l.steps) vs)

      more : ℕ
      more = length (over vs)

      starts : (b : Bool) → more ≤ length vs * l.points
          → length (collect fan (cond b (loop l.points (after l) v ∷ others) others)) ≤ suc (length vs) * l.points
      starts true ih = rw length-append (omega (arith, fan-few l.points v (after l)))
      starts false ih = omega arith

      go : (b : Bool) → more ≤ length vs * l.points
          → length (collect fan (loops l.points (after l) (cond b (v ∷ keep (meets l.steps) vs) (keep (meets l.steps) vs))))
          ≤ suc (length vs) * l.points
      go true ih = starts (lowest_first (loop l.points (after l) v)) ih
      go false ih = omega arith

  pub fans-few : (v k : ℕ) → length (fans l v k) ≤ k * 14616
  fans-few v k =
      let few : length (fans l v k) ≤ k * l.points = subst (λ (j : ℕ). length (fans l v k) ≤ j * l.points) (length-count k v) (over_few (count v k)) in
      omega (arith, few, mul-le-mul_left k l.few)

  -- ---- points passed

  pub swept_none : (limit v : ℕ) (s : Progress) → Left l limit v s → Swept l limit v 0 s s
  swept_none limit v s h =
      record { left = subst (λ (u : ℕ). Left l limit u s) (sym (add-zero v)) h; counted = omega arith; wrote = refl }

  pub swept_more : (limit v k j : ℕ) (s t u : Progress) → Swept l limit v k s t → Swept l limit (v + k) j t u → Swept l limit v (k + j) s u
  swept_more limit v k j s t u p q = record {
    left = let e : v + k + j ≡ v + (k + j) = omega arith in subst (λ (x : ℕ). Left l limit x u) e q.left;
    counted = rw (fans_append v k j, length-append) (omega (arith, p.counted, q.counted));
    wrote =
        q.wrote ∙ ap (λ (o : List ℕ). sets o (3 * t.count) (collect numbers (fans l (v + k) j))) p.wrote
        ∙ ap (λ (at : ℕ). sets (sets s.out (3 * s.count) (collect numbers (fans l v k))) at (collect numbers (fans l (v + k) j))) at
        ∙ sets_append (collect numbers (fans l v k)) (collect numbers (fans l (v + k) j)) s.out (3 * s.count)
        ∙ ap (λ (ns : List ℕ). sets s.out (3 * s.count) ns) (sym both);
  }
    where
      both : collect numbers (fans l v (k + j)) ≡ collect numbers (fans l v k) ++ collect numbers (fans l (v + k) j)
      both = ap (collect numbers) (fans_append v k j) ∙ numbers_append (fans l v k) (fans l (v + k) j)

      at : 3 * t.count ≡ 3 * s.count + length (collect numbers (fans l v k))
      at = omega (arith, p.counted, length-numbers (fans l v k))

  -- points that are not left: of their loops none is
  pub swept_row : (limit v k : ℕ) (s : Progress) (h : Left l limit v s) → ((x : ℕ) → v ≤ x → x < v + k → h.rest x ≡ false) → Swept l limit v k s s
  swept_row limit v k s h off = record {
    left = record {
      rest = h.rest;
      held = h.held;
      met = h.met;
      stays = h.stays;
      low = λ x e. beyond x e (dec_le (v + k) x);
      passed = λ x m e b. h.passed x m e (omega arith);
    };
    counted = rw none (omega arith);
    wrote = rw none;
  }
    where
      none : fans l v k ≡ []
      none = fans-none k v (λ x i j m. h.passed x m (off x i j) i)

      beyond : (x : ℕ) → h.rest x ≡ true → Dec (v + k ≤ x) → v + k ≤ x
      beyond x e (yes p) = p
      beyond x e (no d) = absurd (false≢true (sym (off x (h.low x e) (omega arith)) ∙ e))

  -- a point with a mark is left
  pub mark-rest : (limit v x : ℕ) (s : Progress) (h : Left l limit v s) → x < limit → mark_at s.trace x ≡ 1 → h.rest x ≡ true
  mark-rest limit v x s h i e = go (h.rest x) (sym (h.held.mark x i) ∙ e)
    where
      go : (b : Bool) → mark_of b ≡ 1 → b ≡ true
      go true q = refl
      go false q = absurd (omega arith)

  pub swept_long : (limit v k : ℕ) (s t : Progress) → Swept l limit v k s t → length t.out ≡ length s.out
  swept_long limit v k s t h = ap length h.wrote ∙ length-sets s.out (3 * s.count) (collect numbers (fans l v k))

  -- ---- the whole leaf

  pub begins : (limit : ℕ) (t out : List ℕ) (r : ℕ) → Traced limit l.steps t → Left l limit 0 (progress t out r)
  begins limit t out r h = record {
    rest = meets l.steps;
    held = record {
      room = h.room;
      small = h.small;
      next = λ x i. h.next x i ∙ ended x (meets l.steps x) refl;
      mark = h.mark;
      few = met-few limit l.steps t h;
      listed = h.listed;
      lists = h.lists;
    };
    met = λ x e. e;
    stays = met_on;
    low = λ x e. omega arith;
    passed = λ x e f b. absurd (false≢true (sym f ∙ e));
  }
    where
      ended : (x : ℕ) (b : Bool) → meets l.steps x ≡ b → end_from l.steps x ≡ cond b (end_from l.steps x) 65535
      ended x true e = refl
      ended x false e = unmet_end l.steps x e

  ends : (limit v : ℕ) (s : Progress) → v ≡ 65535 → Left l limit v s → Traced limit [] (set s.trace 0 0)
  ends limit v s e h =
      empty limit (set t 0 0) h.held.small (length-set t 0 0 ∙ h.held.room) (get_or-set_same t 0 0 0 (omega (arith, h.held.room)))
      (λ x i. (
        get_or-set_other t 0 (3 * x + 1) 0 0 (λ q. omega arith) ∙ h.held.next x i
            ∙ ap (λ (u : Bool). cond u (end_from l.steps x) 65535) (off x i (h.rest x) refl),
        get_or-set_other t 0 (3 * x + 2) 0 0 (λ q. omega arith) ∙ h.held.mark x i ∙ ap mark_of (off x i (h.rest x) refl),
      ))
    where
      t : List ℕ
      t = s.trace

      off : (x : ℕ) → x < limit → (u : Bool) → h.rest x ≡ u → h.rest x ≡ false
      off x i true q = absurd (omega (arith, h.low x q, h.held.small))
      off x i false q = q

  -- all points are passed
  all-fans : (k : ℕ) → k ≡ 65535 → fans l 0 k ≡ triangles l
  all-fans k e =
      let split : k ≡ l.points + (k - l.points) = omega (arith, l.few) in
      ap (fans l 0) split ∙ fans_append 0 l.points (k - l.points)
      ∙ ap (λ (ts : List Triangle). fans l 0 l.points ++ ts)
      (fans-none (k - l.points) (0 + l.points) (λ x i j m. absurd (omega (arith, l.inside x m)))) ∙ append-nil (fans l 0 l.points)

  pub drawn : (limit k : ℕ) (s t : Progress) → k ≡ 65535 → s.count ≡ 0 → Swept l limit 0 k s t
      → Drawn limit l s.out t.out t.count (set t.trace 0 0)
  drawn limit k s t e z h = record {
    counted = h.counted ∙ rw (z, zero-add) (ap length (all-fans k e));
    wrote =
        h.wrote ∙ rw z (sets-into (collect numbers (fans l 0 k)) s.out) ∙ ap (λ (ts : List Triangle). into (collect numbers ts) s.out) (all-fans k e);
    emptied = ends limit (0 + k) t (omega arith) h.left;
  }
