-- The rounds of `fewest_steps` are exact: a corner has its rank as soon as a walk of so many steps can reach it, and no more rounds than corners are needed.
use Prim.Native.Nat.{ℕ, zero, suc, ◌≤◌, ◌<◌}
use mathlib.Core.Path.{◌≡◌, refl, sym, ap, ◌∙◌, subst}
use mathlib.Core.Logic.{◌⊎◌, inl, inr}
use mathlib.Core.Bool.{Bool, true, false, not, ◌&&◌, cond}
use mathlib.Core.List.{List, map}
use native.Mathlib.Omega.{arith}
use lib.Dec.{T, eqb, eqb→eq, ltb, ltb→lt, T_not}
use lib.ListN.{length, get_or, get_or-eq_default}
use borrow.Author.Tests.{eq-eqb, ne_eqb, eqb-true}
use Rattle.base.specs.Lists.{any, count, bit}
use Rattle.base.proofs.Tests.{and→, →and, below, either, true→, eq→eqb, not_both}
use Rattle.base.proofs.Lists.{any→in, in→any, count_in}
use Rattle.base.proofs.Below.{get_table, length-table}
use Rattle.base.proofs.Sums.{in_sum}
use Rattle.rules.specs.Ways.{Graph, passable, reached_in, rounds}
use Rattle.graph.proofs.Counting.{sum_more, reached, mark, no_mark, bit-small}
use Rattle.graph.proofs.Walks.{Walk, walk_first, walk_last, walk_on, walk_before}

-- what n rounds tell
pub record Known (graph : Graph) (start n : ℕ) (r : List ℕ) : Type 0 where
  pub sized : length r ≡ graph.size
  pub top : (k : ℕ) → get_or r k 0 ≤ suc n
  pub there : (k m : ℕ) → get_or r k 0 ≡ suc m → Walk graph m start k
  pub least : (k v : ℕ) → Walk graph v start k → v ≤ n → (1 ≤ get_or r k 0) × (get_or r k 0 ≤ suc v)

pub inside : (graph : Graph) (k : ℕ) → T (passable graph k) → k < graph.size
inside graph k t = ltb→lt k graph.size (and→ (ltb k graph.size) (graph.wet k) t).0

-- an entry of a table over the corners: past them there is 0
entry : (f : ℕ → ℕ) (n k : ℕ) → (k < n) ⊎ (n ≤ k) → ((k < n) × (get_or (map f (count 0 n)) k 0 ≡ f k)) ⊎ ((n ≤ k) × (get_or (map f (count 0 n)) k 0 ≡ 0))
entry f n k (inl h) = inl (h, get_table f 0 n k h)
entry f n k (inr h) = inr (h, get_or-eq_default (map f (count 0 n)) 0 (let e = length-table f n in omega arith))

-- ---- the start

module _ (graph : Graph) (start : ℕ) where
  abbrev begins : ℕ → ℕ
  begins k = bit (eqb k start && passable graph k)

  abbrev first_round : List ℕ
  first_round = map begins (count 0 graph.size)

  begun : (k m : ℕ) → begins k ≡ suc m → Walk graph m start k × (m ≡ 0)
  begun k m e = go (eqb k start) refl (passable graph k) refl e
    where
      go : (b : Bool) → eqb k start ≡ b → (p : Bool) → passable graph k ≡ p → bit (b && p) ≡ suc m → Walk graph m start k × (m ≡ 0)
      go true f true g e =
          let q : k ≡ start = eqb-true k start f in
          let z : m ≡ 0 = omega arith in
          let t : T (passable graph start) = subst (λ j. T (passable graph j)) q (subst T (sym g) tt) in
          (subst (λ (n : ℕ). Walk graph n start k) (sym z) (t, sym q), z)
      go true f false g e = absurd (omega arith)
      go false f p g e = absurd (omega arith)

  known_start : Known graph start 0 first_round
  known_start = record {
    sized = length-table begins graph.size;
    top = λ k. top k (entry begins graph.size k (below k graph.size));
    there = λ k m e. found k m e (entry begins graph.size k (below k graph.size));
    least = λ k v w h. least k v w h;
  }
    where
      Entry : ℕ → Type 0
      Entry k = ((k < graph.size) × (get_or first_round k 0 ≡ begins k))
          ⊎ ((graph.size ≤ k) × (get_or first_round k 0 ≡ 0))

      top : (k : ℕ) → Entry k → get_or first_round k 0 ≤ 1
      top k (inl h) = let s = bit-small (eqb k start && passable graph k) in let e = h.1 in omega arith
      top k (inr h) = let e = h.1 in omega arith

      found : (k m : ℕ) → get_or first_round k 0 ≡ suc m → Entry k → Walk graph m start k
      found k m e (inl h) = (begun k m (sym h.1 ∙ e)).0
      found k m e (inr h) = let f = h.1 in absurd (omega arith)

      least : (k v : ℕ) → Walk graph v start k → v ≤ 0 → (1 ≤ get_or first_round k 0) × (get_or first_round k 0 ≤ suc v)
      least k zero w h =
          let t = walk_last graph 0 start k w in
          let e : get_or first_round k 0 ≡ begins k = get_table begins 0 graph.size k (inside graph k t) in
          let f : begins k ≡ 1 = rw (eq-eqb k start (sym w.1), true→ (passable graph k) t) in
          (omega arith, omega arith)
      least k (suc v) w h = absurd (omega arith)

-- ---- one round more

module _ {graph : Graph} {start n : ℕ} {r : List ℕ} (known : Known graph start n r) where
  abbrev pub next : ℕ → ℕ
  next = reached_in graph r (suc (suc n))

  abbrev pub new : List ℕ
  new = map next (count 0 graph.size)

  abbrev meets : ℕ → ℕ → Bool
  meets k j = not (eqb (get_or r j 0) 0) && graph.joined j k

  -- a corner that was reached before stays
  stays : (k m : ℕ) → get_or r k 0 ≡ suc m → next k ≡ get_or r k 0
  stays k m e = rw (ne_eqb (get_or r k 0) 0 (λ z. omega arith))

  fresh : (k : ℕ) → get_or r k 0 ≡ 0 → next k ≡ cond (passable graph k && any (meets k) (count 0 graph.size)) (suc (suc n)) 0
  fresh k e = rw (eq-eqb (get_or r k 0) 0 e)

  reached-inside : (k m : ℕ) → get_or r k 0 ≡ suc m → k < graph.size
  reached-inside k m e = inside graph k (walk_last graph m start k (known.there k m e))

  pub stays_new : (k m : ℕ) → get_or r k 0 ≡ suc m → get_or new k 0 ≡ suc m
  stays_new k m e = get_table next 0 graph.size k (reached-inside k m e) ∙ stays k m e ∙ e

  -- a walk to a corner that n rounds have not reached has more steps
  later : (k v : ℕ) → get_or r k 0 ≡ 0 → Walk graph v start k → n < v
  later k v e w = go (below n v)
    where
      go : (n < v) ⊎ (v ≤ n) → n < v
      go (inl h) = h
      go (inr h) = let f = (known.least k v w h).0 in absurd (omega arith)

  fresh_walk : (k : ℕ) → get_or r k 0 ≡ 0 → T (passable graph k && any (meets k) (count 0 graph.size)) → Walk graph (suc n) start k
  fresh_walk k e t =
      let (p, a) = and→ (passable graph k) (any (meets k) (count 0 graph.size)) t in
      let (j, i, m) = any→in (meets k) (count 0 graph.size) a in
      let (u, l) = and→ (not (eqb (get_or r j 0) 0)) (graph.joined j k) m in
      go j p u l (get_or r j 0) refl
    where
      go : (j : ℕ) → T (passable graph k) → T (not (eqb (get_or r j 0) 0)) → T (graph.joined j k) → (x : ℕ) → get_or r j 0 ≡ x → Walk graph (suc n) start k
      go j p u l zero f = absurd (T_not (eqb (get_or r j 0) 0) u (eq→eqb (get_or r j 0) 0 f))
      go j p u l (suc v) f =
          let w = walk_on graph v start j k (known.there j v f) l p in
          let a = later k (suc v) e w in
          let b = known.top j in
          let q : v ≡ n = omega arith in
          subst (λ (m : ℕ). Walk graph (suc m) start k) q w

  abbrev Next : ℕ → Type 0
  Next k = ((k < graph.size) × (get_or new k 0 ≡ next k)) ⊎ ((graph.size ≤ k) × (get_or new k 0 ≡ 0))

  top_next : (k : ℕ) → Next k → (x : ℕ) → get_or r k 0 ≡ x → get_or new k 0 ≤ suc (suc n)
  top_next k (inr h) x f = let e = h.1 in omega arith
  top_next k (inl h) (suc m) f = let e = h.1 ∙ stays k m f in let b = known.top k in omega arith
  top_next k (inl h) zero f = go (passable graph k && any (meets k) (count 0 graph.size)) (h.1 ∙ fresh k f)
    where
      go : (b : Bool) → get_or new k 0 ≡ cond b (suc (suc n)) 0 → get_or new k 0 ≤ suc (suc n)
      go true e = omega arith
      go false e = omega arith

  there-next : (k m : ℕ) → get_or new k 0 ≡ suc m → Next k → (x : ℕ) → get_or r k 0 ≡ x → Walk graph m start k
  there-next k m g (inr h) x f = let e = h.1 in absurd (omega arith)
  there-next k m g (inl h) (suc l) f = known.there k m (sym (h.1 ∙ stays k l f) ∙ g)
  there-next k m g (inl h) zero f = go (passable graph k && any (meets k) (count 0 graph.size)) refl (h.1 ∙ fresh k f)
    where
      go : (b : Bool) → (passable graph k && any (meets k) (count 0 graph.size)) ≡ b → get_or new k 0 ≡ cond b (suc (suc n)) 0 → Walk graph m start k
      go true c e =
          let q : m ≡ suc n = omega arith in
          subst (λ (l : ℕ). Walk graph l start k) (sym q) (fresh_walk k f (subst T (sym c) tt))
      go false c e = absurd (omega arith)

  -- one that is wet and joined to a corner reached before is reached
  pub met_next : (j k m : ℕ) → get_or r j 0 ≡ suc m → T (graph.joined j k) → T (passable graph k) → 1 ≤ get_or new k 0
  met_next j k m e l p = go (get_or r k 0) refl
    where
      here-is : get_or new k 0 ≡ next k
      here-is = get_table next 0 graph.size k (inside graph k p)

      go : (x : ℕ) → get_or r k 0 ≡ x → 1 ≤ get_or new k 0
      go (suc x) f = let a = here-is ∙ stays k x f in omega arith
      go zero f =
          let u : not (eqb (get_or r j 0) 0) ≡ true = ap not (ne_eqb (get_or r j 0) 0 (λ z. omega arith)) in
          let t : T (meets k j) = →and (not (eqb (get_or r j 0) 0)) (graph.joined j k) (subst T (sym u) tt) l in
          let a = in→any (meets k) (count 0 graph.size) j (count_in graph.size 0 j (omega arith) (let i = reached-inside j m e in omega arith)) t in
          let c = →and (passable graph k) (any (meets k) (count 0 graph.size)) p a in
          let d = here-is ∙ fresh k f ∙ ap (λ (b : Bool). cond b (suc (suc n)) 0) (true→ (passable graph k && any (meets k) (count 0 graph.size)) c) in
          omega arith

  least-next : (k v : ℕ) → Walk graph v start k → v ≤ suc n → (1 ≤ get_or new k 0) × (get_or new k 0 ≤ suc v)
  least-next k v w h = go v w h (below n v)
    where
      go : (v : ℕ) → Walk graph v start k → v ≤ suc n → (n < v) ⊎ (v ≤ n) → (1 ≤ get_or new k 0) × (get_or new k 0 ≤ suc v)
      go v w h (inr g) = old (get_or r k 0) refl (known.least k v w g)
        where
          old : (x : ℕ) → get_or r k 0 ≡ x → (1 ≤ get_or r k 0) × (get_or r k 0 ≤ suc v) → (1 ≤ get_or new k 0) × (get_or new k 0 ≤ suc v)
          old zero f a = absurd (omega arith)
          old (suc m) f a = let b = stays_new k m f in (omega arith, omega arith)
      go zero w h (inl g) = absurd (omega arith)
      go (suc v) w h (inl g) =
          let (j, u, l) = walk_before graph v start k w in
          let b = top_next k (entry next graph.size k (below k graph.size)) (get_or r k 0) refl in
          (near j u l (get_or r j 0) refl, omega arith)
        where
          near : (j : ℕ) → Walk graph v start j → T (graph.joined j k) → (x : ℕ) → get_or r j 0 ≡ x → 1 ≤ get_or new k 0
          near j u l zero f = let a = (known.least j v u (omega arith)).0 in absurd (omega arith)
          near j u l (suc m) f = met_next j k m f l (walk_last graph (suc v) start k w)

  pub known_next : Known graph start (suc n) new
  known_next = record {
    sized = length-table next graph.size;
    top = λ k. top_next k (entry next graph.size k (below k graph.size)) (get_or r k 0) refl;
    there = λ k m e. there-next k m e (entry next graph.size k (below k graph.size)) (get_or r k 0) refl;
    least = least-next;
  }

-- ---- as many rounds as there are corners

-- how many corners are reached
abbrev pub reached_count : Graph → List ℕ → ℕ
reached_count graph r = reached (λ k. get_or r k 0) graph.size

-- every corner that a walk reaches has a rank
abbrev pub Closed : Graph → ℕ → List ℕ → Type 0
Closed graph start r = (k v : ℕ) → Walk graph v start k → 1 ≤ get_or r k 0

module _ {graph : Graph} {start n : ℕ} {r : List ℕ} (known : Known graph start n r) where
  -- the rank of a corner after one round more
  abbrev after_next : ℕ → ℕ
  after_next k = get_or (new known) k 0

  abbrev fresh_at : ℕ → Bool
  fresh_at k = eqb (get_or r k 0) 0 && not (eqb (after_next k) 0)

  grows : (k : ℕ) → bit (not (eqb (get_or r k 0) 0)) ≤ bit (not (eqb (after_next k) 0))
  grows k = go (get_or r k 0) refl
    where
      go : (x : ℕ) → get_or r k 0 ≡ x → bit (not (eqb (get_or r k 0) 0)) ≤ bit (not (eqb (after_next k) 0))
      go zero e = let a = no_mark (get_or r k 0) e in omega arith
      go (suc m) e =
          let a = stays_new known k m e in
          let b = mark (get_or r k 0) (omega arith) in
          let c = mark (after_next k) (omega arith) in
          omega arith

  one_more : T (any fresh_at (count 0 graph.size)) → reached_count graph r < reached_count graph (new known)
  one_more t =
      let (k, i, f) = any→in fresh_at (count 0 graph.size) t in
      let (a, b) = and→ (eqb (get_or r k 0) 0) (not (eqb (after_next k) 0)) f in
      let c = no_mark (get_or r k 0) (eqb→eq (get_or r k 0) 0 a) in
      let d : bit (not (eqb (after_next k) 0)) ≡ 1 = ap bit (true→ (not (eqb (after_next k) 0)) b) in
      sum_more (λ j. bit (not (eqb (get_or r j 0) 0))) (λ j. bit (not (eqb (after_next j) 0))) (count 0 graph.size) grows k i (omega arith)

  -- where a round reaches nothing new, nothing is left
  all_found : any fresh_at (count 0 graph.size) ≡ false → Closed graph start r
  all_found e k zero w = (known.least k 0 w (omega arith)).0
  all_found e k (suc v) w =
      let (j, u, l) = walk_before graph v start k w in
      go j l (get_or r j 0) refl (all_found e j v u) (get_or r k 0) refl
    where
      go : (j : ℕ) → T (graph.joined j k) → (x : ℕ) → get_or r j 0 ≡ x → 1 ≤ get_or r j 0 → (y : ℕ) → get_or r k 0 ≡ y → 1 ≤ get_or r k 0
      go j l x f h (suc y) g = omega arith
      go j l zero f h zero g = absurd (omega arith)
      go j l (suc m) f h zero g =
          let p = walk_last graph (suc v) start k w in
          let a = met_next known j k m f l p in
          let b : T (not (eqb (after_next k) 0)) = subst T (sym (ap not (ne_eqb (after_next k) 0 (λ z. omega arith)))) tt in
          let c = →and (eqb (get_or r k 0) 0) (not (eqb (after_next k) 0)) (eq→eqb (get_or r k 0) 0 g) b in
          let d = in→any fresh_at (count 0 graph.size) k (count_in graph.size 0 k (omega arith) (let i = inside graph k p in omega arith)) c in
          absurd (not_both d e)

  still_closed : Closed graph start r → Closed graph start (new known)
  still_closed c k v w = go (get_or r k 0) refl (c k v w)
    where
      go : (x : ℕ) → get_or r k 0 ≡ x → 1 ≤ get_or r k 0 → 1 ≤ after_next k
      go zero f h = absurd (omega arith)
      go (suc m) f h = let a = stays_new known k m f in omega arith

-- all corners are found, or more than n
abbrev pub Enough : Graph → ℕ → ℕ → List ℕ → Type 0
Enough graph start n r = Closed graph start r ⊎ (n < reached_count graph r)

-- n rounds: what they tell, and that they have found enough
pub record After (graph : Graph) (start n : ℕ) (r : List ℕ) : Type 0 where
  pub known : Known graph start n r
  pub enough : Enough graph start n r

module _ (graph : Graph) (start : ℕ) where
  pub after : (n : ℕ) → After graph start n (rounds graph start n)
  unfolding rounds
  after zero = record { known = known_start graph start; enough = go (passable graph start) refl }
    where
      go : (b : Bool) → passable graph start ≡ b → Enough graph start 0 (first_round graph start)
      go false e = inl (λ k v w. absurd (not_both (walk_first graph v start k w) e))
      go true e =
          let t : T (passable graph start) = subst T (sym e) tt in
          let a = ((known_start graph start).least start 0 (t, refl) (omega arith)).0 in
          let i = count_in graph.size 0 start (omega arith) (let j = inside graph start t in omega arith) in
          let b = in_sum (λ k. bit (not (eqb (get_or (first_round graph start) k 0) 0))) (count 0 graph.size) start i in
          let c = mark (get_or (first_round graph start) start 0) a in
          inr (omega arith)
  after (suc n) = go (after n)
    where
      go : After graph start n (rounds graph start n) → After graph start (suc n) (rounds graph start (suc n))
      go a = record {
        known = known_next a.known;
        enough = pick a.enough (either (any fresh? (count 0 graph.size)));
      }
        where
          fresh? : ℕ → Bool
          fresh? = fresh_at a.known

          pick : Enough graph start n (rounds graph start n) →
              T (any fresh? (count 0 graph.size)) ⊎ (any fresh? (count 0 graph.size) ≡ false) →
              Enough graph start (suc n) (rounds graph start (suc n))
          pick (inl c) f = inl (still_closed a.known c)
          pick (inr c) (inl f) = inr (let b = one_more a.known f in omega arith)
          pick (inr c) (inr f) =
              inl (still_closed a.known (all_found a.known f))
