-- One loop walked from its lowest point, each point taken out of the trace as it is left.
--     Going            the state after some steps: where the walk is, and what the trace still holds
--     goes_off, goes_on, comes_round      the first step, one more, and the end of the walk
--     walked           the loop's triangles are drawn and its points taken out: the point is passed
-- Assumes nothing.
use mathlib.Core.Path.{◌≡◌, refl, sym, ap, ◌∙◌, subst}
use mathlib.Core.Bool.{Bool, true, false, cond, false≢true}
use mathlib.Core.List.{List, [], ◌∷◌, ◌++◌, map}
use Prim.Native.Nat.{ℕ, zero, suc, ◌+◌, ◌*◌, ◌-◌, ◌≤◌, ◌<◌}
use native.Mathlib.Nat.{zero-add, suc-add}
use native.Mathlib.Omega.{arith}
use native.Mathlib.Decide.{ℕ_discrete, dec_le}
use lib.Dec.{leb}
use lib.ListN.{length}
use lib.Seq.{sets, length-sets}
use borrow.Author.Tests.{le-leb}
use Rattle.base.specs.Lists.{all, sum, collect, often}
use Rattle.base.proofs.Sums.{sum-keep, sum-map}
use Rattle.base.proofs.Counts.{equal_eq, equal_ne, sum-sub}
use Rattle.rules.specs.Steps.{Triangle, met, until, loop, lowest_first, fan_from, fan}
use Rattle.rules.specs.Outputs.{numbers}
use Rattle.closing.proofs.Walk.{far, trail, far-next, trail_has, Stops, comes_back}
use Rattle.closing.proofs.Loops.{loops-once}
use Rattle.trace.specs.Trace.{next_at, meets, end_from}
use Rattle.trace.proofs.Laws.{Within}
use Rattle.loops.specs.Loops.{Leaf}
use Rattle.loops.specs.declared.Walk.{Walk}
use Rattle.loops.specs.Sweep.{Progress, progress, leads, clear_at, Stepped, Held, after, Left, fans, Swept, Ready}
use Rattle.loops.proofs.Slices.{sets_append, length-numbers, numbers_append}
use Rattle.loops.proofs.Held.{leads-onward, less, less_same, less_other, held_less}
use Rattle.loops.proofs.Sweep.{in_points, fan-loop, until-few, mark-rest}

-- ---- two starts of one loop

module _ {twins : List ℕ} (l : Leaf twins) where
  abbrev points : List ℕ
  points = met l.steps l.points

  abbrev starts : ℕ → Bool
  starts v = lowest_first (loop l.points (after l) v)

  -- a loop that starts at v starts at no other of its points
  one_start : (v x : ℕ) → 1 ≤ often v points → 1 ≤ often x points → (x ≡ v → ⊥) → starts v ≡ true → 1 ≤ often x (loop l.points (after l) v)
      → starts x ≡ false
  one_start v x i j d a o = go (starts x) refl
    where
      share : ℕ → ℕ
      share y = cond (starts y) (often x (loop l.points (after l) y)) 0

      total : sum share points ≡ often x points
      total =
          sym (sum-map (λ c. cond (lowest_first c) (often x c) 0) (loop l.points (after l)) points)
          ∙ sym (sum-keep (often x) lowest_first (map (loop l.points (after l)) points)) ∙ loops-once l.points (after l) points l.permutes x

      two : (y : ℕ) → Dec (y ≡ v) → Dec (y ≡ x) → often y (v ∷ x ∷ []) ≤ often y points
      two y (yes p) (yes q) = absurd (d (sym q ∙ p))
      two y (yes p) (no q) = omega (arith, equal_eq y v p, equal_ne y x q, subst (λ (z : ℕ). 1 ≤ often z points) (sym p) i)
      two y (no p) (yes q) = omega (arith, equal_ne y v p, equal_eq y x q, subst (λ (z : ℕ). 1 ≤ often z points) (sym q) j)
      two y (no p) (no q) = omega (arith, equal_ne y v p, equal_ne y x q)

      go : (b : Bool) → starts x ≡ b → b ≡ false
      go false e = refl
      go true e =
          let at_v : share v ≡ often x (loop l.points (after l) v) = rw a in
          let at_x : share x ≡ often x (loop l.points (after l) x) = rw e in
          absurd (omega (
            arith,
            total,
            l.permutes.once x,
            sum-sub share (v ∷ x ∷ []) points (λ y. two y (ℕ_discrete y v) (ℕ_discrete y x)),
            equal_eq x x refl,
          ))

-- ---- the walk

-- a point from which the points below are passed, and that is marked
pub record Start {twins : List ℕ} (l : Leaf twins) (limit v : ℕ) (s : Progress) : Type 0 where
  pub left : Left l limit v s
  pub on : left.rest v ≡ true

-- so says the mark, whatever leaf is left: its limit is told by the length of the trace
pub marked : {twins : List ℕ} (l : Leaf twins) (limit v : ℕ) (s : Progress) → Left l limit v s → Ready twins v s → Start l limit v s
marked l limit v s h r =
    record { left = h; on = mark-rest l limit v v s h (omega (arith, h.held.room, r.left.held.room, r.inside)) r.mark }

module _ {twins : List ℕ} (l : Leaf twins) (limit v : ℕ) (s : Progress) (h : Start l limit v s) where
  -- the point k steps on
  abbrev pub further : ℕ → ℕ
  further k = far (after l) k v

  rest-far : (k x : ℕ) → h.left.rest x ≡ true → h.left.rest (far (after l) k x) ≡ true
  rest-far zero x e = e
  rest-far (suc k) x e = rest-far k (after l x) (h.left.stays x e)

  in_far : (k : ℕ) → 1 ≤ often (further k) (points l)
  in_far k = in_points l (further k) (h.left.met (further k) (rest-far k v h.on))

  -- the walk comes back
  pub round : Stops (after l) v (after l v) (until l.points (after l) v (after l v))
  round = comes_back l.points (after l) (points l) l.permutes v (in_far 0)

  lowest : starts l v ≡ true
  lowest = ap (all (leb v)) round.is ∙ go round.size (after l v) (h.left.stays v h.on)
    where
      go : (k x : ℕ) → h.left.rest x ≡ true → all (leb v) (trail (after l) k x) ≡ true
      go zero x e = refl
      go (suc k) x e = rw (le-leb v x (h.left.low x e)) (go k (after l x) (h.left.stays x e))

  -- two points of the walk, before it is back, are not the same
  cancel : (k d : ℕ) → further k ≡ further (k + d) → v ≡ further d
  cancel zero d e = e ∙ ap further (zero-add d)
  cancel (suc k) d e =
      let both : after l (further k) ≡ after l (further (k + d)) =
      sym (far-next (after l) k v) ∙ e ∙ ap further (suc-add k d) ∙ far-next (after l) (k + d) v in
      cancel k d (l.permutes.apart (further k) (further (k + d)) (in_far k) (in_far (k + d)) both)

  apart : (j k : ℕ) → k < j → j ≤ round.size → further j ≡ further k → ⊥
  apart j k i b e =
      let split : j ≡ k + suc (j - suc k) = omega arith in
      let small : j - suc k < round.size = omega arith in
      round.before (j - suc k) small (sym (cancel k (suc (j - suc k)) (sym e ∙ ap further split)))

  -- what is left in the trace when the first j points are taken out
  pub rests : ℕ → ℕ → Bool
  rests zero = h.left.rest
  rests (suc j) = less (rests j) (further j)

  rests_keep : (j x : ℕ) → h.left.rest x ≡ true → ((k : ℕ) → k < j → x ≡ further k → ⊥) → rests j x ≡ true
  unfolding rests
  rests_keep zero x e d = e
  rests_keep (suc j) x e d =
      less_other (rests j) (further j) x (d j (omega arith)) ∙ rests_keep j x e (λ k i. d k (omega arith))

  rests_only : (j x : ℕ) → rests j x ≡ true → (h.left.rest x ≡ true) × ((k : ℕ) → k < j → x ≡ further k → ⊥)
  unfolding rests
  rests_only zero x e = (e, λ k i. absurd (omega arith))
  rests_only (suc j) x e = go (ℕ_discrete x (further j)) (rests_only j x)
    where
      go : Dec (x ≡ further j) → (rests j x ≡ true → (h.left.rest x ≡ true) × ((k : ℕ) → k < j → x ≡ further k → ⊥))
          → (h.left.rest x ≡ true) × ((k : ℕ) → k < suc j → x ≡ further k → ⊥)
      go (yes p) ih = absurd (false≢true (sym (less_same (rests j) (further j)) ∙ ap (less (rests j) (further j)) (sym p) ∙ e))
      go (no d) ih =
          let r = ih (sym (less_other (rests j) (further j) x d) ∙ e) in
          (r.0, λ k i. below k i (ℕ_discrete k j) r.1)
        where
          below : (k : ℕ) → k < suc j → Dec (k ≡ j) → ((k : ℕ) → k < j → x ≡ further k → ⊥) → x ≡ further k → ⊥
          below k i (yes p) r q = d (q ∙ ap further p)
          below k i (no p) r q = r k (omega arith) q

  -- a point that was left and is not any more is on the walk
  rests_gone : (j x : ℕ) → h.left.rest x ≡ true → rests j x ≡ false → (k : ℕ) × (k < j) × (x ≡ further k)
  unfolding rests
  rests_gone zero x e f = absurd (false≢true (sym f ∙ e))
  rests_gone (suc j) x e f = go (ℕ_discrete x (further j)) (rests_gone j x e)
    where
      go : Dec (x ≡ further j) → (rests j x ≡ false → (k : ℕ) × (k < j) × (x ≡ further k)) → (k : ℕ) × (k < suc j) × (x ≡ further k)
      go (yes p) ih = (j, omega arith, p)
      go (no d) ih = let r = ih (sym (less_other (rests j) (further j) x d) ∙ f) in (r.0, omega arith, r.2)

  -- ---- the trace on the walk

  far-inside : (k : ℕ) → further k < l.points
  far-inside k = l.inside (further k) (h.left.met (further k) (rest-far k v h.on))

  far_below : (k : ℕ) → further k < limit
  far_below k = let o = h.left.held.listed (further k) (rest-far k v h.on) in omega (arith, o.2, h.left.held.lists o.0 o.1)

  -- one step from the point after j others, and what the trace holds then
  one-step : (j : ℕ) (t : List ℕ) → j ≤ round.size → Held limit l.steps (rests j) t
      → (leads t twins (further j) ≡ further (suc j)) × Held limit l.steps (rests (suc j)) (clear_at t (further j))
  unfolding rests
  one-step j t i g =
      let within : Within 65535 l.steps = λ x e. omega (arith, l.inside x e, l.few) in
      let held : rests j (further j) ≡ true = rests_keep j (further j) (rest-far j v h.on) (λ k b. apart j k b i) in
      let step : next_at t (further j) ≡ end_from l.steps (further j) = g.next (further j) (far_below j) ∙ rw held in (
        leads-onward l.steps l.twin t twins (further j) within step (l.table (further j) (far-inside j)) ∙ sym (far-next (after l) j v),
        held_less limit l.steps (rests j) t (further j) (far_below j) g,
      )

  -- the walk after j + 1 steps
  pub record Going (j at : ℕ) (t : List ℕ) : Type 0 where
    pub short : j ≤ round.size
    pub is : at ≡ further (suc j)
    pub held : Held limit l.steps (rests (suc j)) t

  -- the walk can go off from v, and on from where it is
  pub start_inside : (3 * v + 2 < length s.trace) × (v < length twins)
  start_inside = (omega (arith, far_below 0, h.left.held.room), omega (arith, far-inside 0, l.long))

  pub going_inside : (j at : ℕ) (t : List ℕ) → Going j at t → (3 * at + 2 < length t) × (at < length twins)
  going_inside j at t g = (omega (arith, g.is, far_below (suc j), g.held.room), omega (arith, g.is, far-inside (suc j), l.long))

  pub goes_off : (w r : Walk) (t : List ℕ) → w.at ≡ v → Stepped twins w r s.trace t → Going 0 r.at t
  unfolding rests
  goes_off w r t e p =
      let o = one-step 0 s.trace (omega arith) h.left.held in
      record {
        short = omega arith;
        is = ap (λ (u : Walk). u.at) p.walk ∙ ap (leads s.trace twins) e ∙ o.0;
        held = rw (p.trace, e) o.1;
      }

  -- until it is back, it has not gone as far as the loop
  before_back : (j at : ℕ) (t : List ℕ) → Going j at t → (at ≡ v → ⊥) → j < round.size
  before_back j at t g d = go (ℕ_discrete j round.size)
    where
      go : Dec (j ≡ round.size) → j < round.size
      go (yes p) = absurd (d (g.is ∙ ap (λ (k : ℕ). further (suc k)) p ∙ round.back))
      go (no p) = omega (arith, g.short)

  goes_on : (j : ℕ) (w r : Walk) (q t : List ℕ) → Going j w.at q → (w.at ≡ v → ⊥) → Stepped twins w r q t → Going (suc j) r.at t
  goes_on j w r q t g d p =
      let o = one-step (suc j) q (before_back j w.at q g d) g.held in
      record {
        short = before_back j w.at q g d;
        is = ap (λ (u : Walk). u.at) p.walk ∙ ap (leads q twins) g.is ∙ o.0;
        held = rw (p.trace, g.is) o.1;
      }

  -- when it is back, it has gone as far
  pub comes_round : (j at : ℕ) (t : List ℕ) → Going j at t → at ≡ v → j ≡ round.size
  comes_round j at t g e = go (dec_le round.size j)
    where
      go : Dec (round.size ≤ j) → j ≡ round.size
      go (yes p) = omega (arith, g.short)
      go (no p) = absurd (round.before j (omega arith) (sym g.is ∙ e))

  -- ---- the point is passed

  -- what is left when the walk is back: the loop is taken out, the others are whole
  passed-left : (t : Progress) → Held limit l.steps (rests (suc round.size)) t.trace → Left l limit (v + 1) t
  passed-left t held = record {
    rest = rests (suc round.size);
    held = held;
    met = λ x e. h.left.met x (rests_only (suc round.size) x e).0;
    stays = λ x e. stays x (rests_only (suc round.size) x e);
    low = λ x e. low x (rests_only (suc round.size) x e) (ℕ_discrete x v);
    passed = λ x m e b. passed x m e b (h.left.rest x) refl;
  }
    where
      low : (x : ℕ) → (h.left.rest x ≡ true) × ((k : ℕ) → k < suc round.size → x ≡ further k → ⊥) → Dec (x ≡ v) → v + 1 ≤ x
      low x r (yes q) = absurd (r.1 0 (omega arith) q)
      low x r (no d) = omega (arith, h.left.low x r.0)

      stays : (x : ℕ) → (h.left.rest x ≡ true) × ((k : ℕ) → k < suc round.size → x ≡ further k → ⊥) → rests (suc round.size) (after l x) ≡ true
      stays x r = rests_keep (suc round.size) (after l x) (h.left.stays x r.0) hits
        where
          same : (k : ℕ) → after l x ≡ after l (further k) → x ≡ further k
          same k e = l.permutes.apart x (further k) (in_points l x (h.left.met x r.0)) (in_far k) e

          hits : (k : ℕ) → k < suc round.size → after l x ≡ further k → ⊥
          hits zero i e = r.1 round.size (omega arith) (same round.size (e ∙ sym round.back ∙ far-next (after l) round.size v))
          hits (suc k) i e = r.1 k (omega arith) (same k (e ∙ far-next (after l) k v))

      passed : (x : ℕ) → meets l.steps x ≡ true → rests (suc round.size) x ≡ false → v + 1 ≤ x → (b : Bool) → h.left.rest x ≡ b → starts l x ≡ false
      passed x m e i false q = h.left.passed x m q (omega arith)
      passed x m e i true q =
          let r = rests_gone (suc round.size) x q e in
          let on : 1 ≤ often x (trail (after l) (suc round.size) v) =
          subst (λ (y : ℕ). 1 ≤ often y (trail (after l) (suc round.size) v)) (sym r.2) (trail_has (after l) (suc round.size) v r.0 r.1) in
          one_start l v x (in_far 0) (in_points l x m) (λ p. omega arith) lowest
          (subst (λ (c : List ℕ). 1 ≤ often x (v ∷ c)) (sym round.is) on)

  pub walked : (j at : ℕ) (t : Progress) → Going j at t.trace → at ≡ v → t.count ≡ s.count + length (fan (loop l.points (after l) v))
      → t.out ≡ sets s.out (3 * s.count) (collect numbers (fan (loop l.points (after l) v))) → Swept l limit v 1 s t
  walked j at t g e c o =
      let whole : fans l v 1 ≡ fan (loop l.points (after l) v) = fan-loop l v (h.left.met v h.on) lowest in
      let held : Held limit l.steps (rests (suc round.size)) t.trace =
      subst (λ (k : ℕ). Held limit l.steps (rests (suc k)) t.trace) (comes_round j at t.trace g e) g.held in
      record { left = passed-left t held; counted = rw whole c; wrote = rw whole o }

  -- ---- the triangles on the way

  -- the first c triangles of the loop
  abbrev pub begun : ℕ → List Triangle
  begun c = fan_from v (after l v) (trail (after l) c (after l (after l v)))

  begun_more : (c : ℕ) → begun (suc c) ≡ begun c ++ (v, further (suc c), further (suc (suc c))) ∷ []
  begun_more c = go c (after l v)
    where
      go : (c a : ℕ) → fan_from v a (trail (after l) (suc c) (after l a))
          ≡ fan_from v a (trail (after l) c (after l a)) ++ (v, far (after l) c a, far (after l) (suc c) a) ∷ []
      go zero a = refl
      go (suc c) a = ap (λ (ts : List Triangle). (v, a, after l a) ∷ ts) (go c (after l a))

  fan_trail : (c x a : ℕ) → length (fan_from v a (trail (after l) c x)) ≡ c
  fan_trail zero x a = refl
  fan_trail (suc c) x a = ap suc (fan_trail c (after l x) x)

  round_short : round.size ≤ 14616
  round_short =
      let e = ap (λ (c : List ℕ). length (fan_from v v c)) round.is in
      omega (arith, fan_trail round.size (after l v) v, until-few l l.points (after l) v (after l v) v v, l.few)

  -- the state of the drawing after some triangles: the walk is at the last point of the next
  pub record Drawing (w : Walk) (t : Progress) : Type 0 where
    pub turns : ℕ
    pub going : Going (suc turns) w.at t.trace
    pub from : w.before ≡ further (suc turns)
    pub counted : t.count ≡ s.count + turns
    pub wrote : t.out ≡ sets s.out (3 * s.count) (collect numbers (begun turns))

  -- there are not so many triangles that their number is lost
  pub drawing_short : (w : Walk) (t : Progress) → Drawing w t → t.count ≤ s.count + 14616
  drawing_short w t d = omega (arith, d.counted, d.going.short, round_short)

  pub drawing-long : (w : Walk) (t : Progress) → Drawing w t → length t.out ≡ length s.out
  drawing-long w t d = ap length d.wrote ∙ length-sets s.out (3 * s.count) (collect numbers (begun d.turns))

  pub draws_off : (w r : Walk) (q t : List ℕ) → Going 0 w.at q → (w.at ≡ v → ⊥) → Stepped twins w r q t → Drawing r (progress t s.out s.count)
  draws_off w r q t g d p =
      let from = ap (λ (u : Walk). u.before) p.walk in
      record { turns = 0; going = goes_on 0 w r q t g d p; from = from ∙ g.is; counted = omega arith; wrote = refl }

  pub draws_on : (w r : Walk) (t u : Progress) → Drawing w t → (w.at ≡ v → ⊥) → Stepped twins w r t.trace u.trace
      → u.out ≡ sets t.out (3 * t.count) (v ∷ w.before ∷ w.at ∷ []) → u.count ≡ t.count + 1 → Drawing r u
  draws_on w r t u g d p o c = record {
    turns = suc g.turns;
    going = goes_on (suc g.turns) w r t.trace u.trace g.going d p;
    from = ap (λ (u : Walk). u.before) p.walk ∙ g.going.is;
    counted = omega (arith, g.counted);
    wrote =
        o ∙ ap (λ (o : List ℕ). sets o (3 * t.count) (v ∷ w.before ∷ w.at ∷ [])) g.wrote
        ∙ ap (λ (k : ℕ). sets (sets s.out (3 * s.count) (collect numbers (begun g.turns))) k (v ∷ w.before ∷ w.at ∷ [])) place
        ∙ sets_append (collect numbers (begun g.turns)) (v ∷ w.before ∷ w.at ∷ []) s.out (3 * s.count)
        ∙ ap (λ (ns : List ℕ). sets s.out (3 * s.count) ns) (sym more);
  }
    where
      place : 3 * t.count ≡ 3 * s.count + length (collect numbers (begun g.turns))
      place = omega (arith, g.counted, length-numbers (begun g.turns), fan_trail g.turns (after l (after l v)) (after l v))

      more : collect numbers (begun (suc g.turns)) ≡ collect numbers (begun g.turns) ++ (v ∷ w.before ∷ w.at ∷ [])
      more =
          ap (collect numbers) (begun_more g.turns) ∙ numbers_append (begun g.turns) ((v, further (suc g.turns), further (suc (suc g.turns))) ∷ [])
          ∙ rw (g.from, g.going.is)

  -- the loop has one point, or the walk has drawn its fan
  pub walked_one : (at : ℕ) (t : List ℕ) → Going 0 at t → at ≡ v → Swept l limit v 1 s (progress t s.out s.count)
  walked_one at t g e =
      let none : fan (loop l.points (after l) v) ≡ [] =
      ap (λ (c : List ℕ). fan (v ∷ c)) (round.is ∙ ap (λ (k : ℕ). trail (after l) k (after l v)) (sym (comes_round 0 at t g e))) in
      walked 0 at (progress t s.out s.count) g e (rw none (omega arith)) (rw none)

  pub walked-round : (w : Walk) (t : Progress) → Drawing w t → w.at ≡ v → Swept l limit v 1 s t
  walked-round w t g e =
      let whole : fan (loop l.points (after l) v) ≡ begun g.turns =
      ap (λ (c : List ℕ). fan (v ∷ c))
      (round.is ∙ ap (λ (k : ℕ). trail (after l) k (after l v)) (sym (comes_round (suc g.turns) w.at t.trace g.going e))) in
      walked (suc g.turns) w.at t g.going e
      (rw whole (omega (arith, g.counted, fan_trail g.turns (after l (after l v)) (after l v)))) (rw whole g.wrote)
