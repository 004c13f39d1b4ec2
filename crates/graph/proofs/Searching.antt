-- What holds while the search runs, over a graph: f k is the rank of corner k, q x the corner in place x of the queue. The corners in the
-- places below `head` are done with, and of the one at `head` the first i links.
use Prim.Native.Nat.{ℕ, zero, suc, ◌+◌, ◌≤◌, ◌<◌}
use mathlib.Core.Path.{◌≡◌, refl, sym, ap, ◌∙◌, subst}
use mathlib.Core.Logic.{◌⊎◌, inl, inr}
use mathlib.Core.Bool.{Bool, true, false, not, cond}
use mathlib.Core.List.{List}
use native.Mathlib.Omega.{arith}
use lib.Dec.{T, eqb, eqb→eq, ltb, lt→ltb}
use lib.ListN.{length, get_or, get_or-eq_default}
use borrow.Author.Tests.{eq-eqb, ne_eqb, eqb-false}
use Rattle.base.specs.Lists.{sum, count, bit}
use Rattle.base.proofs.Tests.{→and, below, either, eq→eqb}
use Rattle.base.proofs.Lists.{In, any→in, in→any, in_count, count_in}
use Rattle.base.proofs.Sums.{sum_same, sum-zero}
use Rattle.rules.specs.Ways.{passable}
use Rattle.graph.specs.Table.{link_at, graph_in}
use Rattle.graph.proofs.Counting.{reached, no_mark, reached-more, reached-few}
use Rattle.graph.proofs.Walks.{Walk, walk_on, walk_before, walk_last}
use Rattle.graph.proofs.Rounds.{inside}
use Rattle.graph.proofs.Steps.{Stepped}

-- a rank that corner k may have, after one with the rank m
pub record After (m x : ℕ) : Type 0 where
  pub some : 1 ≤ x
  pub near : x ≤ m + 1

pub record Searching (t : List ℕ) (n start : ℕ) (f q : ℕ → ℕ) (head i tail : ℕ) : Type 0 where
  -- the queue has each corner with a rank, once
  pub corner : (x : ℕ) → x < tail → q x < n
  pub ranked : (x : ℕ) → x < tail → 1 ≤ f (q x)
  pub listed : (k : ℕ) → k < n → 1 ≤ f k → (x : ℕ) × (x < tail) × (q x ≡ k)
  pub counted : tail ≡ reached f n
  -- ranks rise along the queue, by one at most from the head on
  pub rising : (x y : ℕ) → x ≤ y → y < tail → f (q x) ≤ f (q y)
  pub close : head < tail → (x : ℕ) → x < tail → f (q x) ≤ f (q head) + 1
  pub deep : (x : ℕ) → x < tail → f (q x) ≤ x + 1
  -- a rank tells of a walk
  pub there : (k m : ℕ) → k < n → f k ≡ suc m → Walk (graph_in t n) m start k
  -- the links that are done with
  pub done : (x p : ℕ) → x < head → p < 6 → link_at t (q x) p < n → After (f (q x)) (f (link_at t (q x) p))
  pub partly : (p : ℕ) → head < tail → p < i → link_at t (q head) p < n → After (f (q head)) (f (link_at t (q head) p))
  pub begun : f start ≡ 1
  pub upto : head ≤ tail

-- ---- the turns of the search

-- a corner is joined to each of its links
pub linked : (t : List ℕ) (n j p : ℕ) → p < 6 → T ((graph_in t n).joined j (link_at t j p))
linked t n j p h =
    let k = link_at t j p in
    in→any (λ i. eqb (link_at t j i) k) (count 0 6) p (count_in 6 0 p (omega arith) (omega arith)) (eq→eqb k k refl)

corner_passes : (t : List ℕ) (n k : ℕ) → k < n → T (passable (graph_in t n) k)
corner_passes t n k h = →and (ltb k n) true (lt→ltb k n h) tt

module _ {t : List ℕ} {n start : ℕ} {f q : ℕ → ℕ} {head i tail : ℕ} (known : Searching t n start f q head i tail) where
  pub room : (j : ℕ) → j < n → f j ≡ 0 → tail < n
  room j h e = let a = reached-few f n j h e in let b = known.counted in omega arith

  module _ (h : head < tail) where
    abbrev link : ℕ
    link = link_at t (q head) i

    -- what is known of the links of the corner at the head, with one more
    partly_more : (g : ℕ → ℕ) → ((k : ℕ) → 1 ≤ f k → g k ≡ f k) → (link < n → After (f (q head)) (g link)) →
        (p : ℕ) → p < suc i → link_at t (q head) p < n → After (f (q head)) (g (link_at t (q head) p))
    partly_more g same last p l o = go (below p i)
      where
        go : (p < i) ⊎ (i ≤ p) → After (f (q head)) (g (link_at t (q head) p))
        go (inl a) =
            let b = known.partly p h a o in
            subst (After (f (q head))) (sym (same (link_at t (q head) p) b.some)) b
        go (inr a) =
            let e : i ≡ p = omega arith in
            subst (λ (r : ℕ). link_at t (q head) r < n → After (f (q head)) (g (link_at t (q head) r))) e last o

    -- a link that is no corner, or that has a rank already
    old_link : (link < n → 1 ≤ f link) → link < n → After (f (q head)) (f link)
    old_link g l =
        let (x, a, e) = known.listed link l (g l) in
        let b = known.close h x a in
        record { some = g l; near = subst (λ (k : ℕ). f k ≤ f (q head) + 1) e b }

    pub passed_over : (link < n → 1 ≤ f link) → Searching t n start f q head (suc i) tail
    passed_over g = record {
      corner = known.corner;
      ranked = known.ranked;
      listed = known.listed;
      counted = known.counted;
      rising = known.rising;
      close = known.close;
      deep = known.deep;
      there = known.there;
      done = known.done;
      partly = λ p u. partly_more f (λ k a. refl) (old_link g) p;
      begun = known.begun;
      upto = known.upto;
    }

    -- a link that is reached now
    module _ (small : i < 6) (inside : link < n) (none : f link ≡ 0) (ranks places : ℕ → ℕ)
        (others : (k : ℕ) → (k ≡ link → ⊥) → ranks k ≡ f k) (rank : ranks link ≡ f (q head) + 1)
        (queue : (x : ℕ) → x < tail → places x ≡ q x) (added : places tail ≡ link) where
      same : (k : ℕ) → 1 ≤ f k → ranks k ≡ f k
      same k a = others k (λ e. let b = ap f e in omega arith)

      -- the places of the queue as before, and the new one
      old_rank : (x : ℕ) → x < tail → ranks (places x) ≡ f (q x)
      old_rank x a = ap ranks (queue x a) ∙ same (q x) (known.ranked x a)

      new_rank : ranks (places tail) ≡ f (q head) + 1
      new_rank = ap ranks added ∙ rank

      each : (P : ℕ → Type 0) → ((x : ℕ) → x < tail → P x) → P tail → (x : ℕ) → x < suc tail → P x
      each P a b x c = go (below x tail)
        where
          go : (x < tail) ⊎ (tail ≤ x) → P x
          go (inl d) = a x d
          go (inr d) = let e : tail ≡ x = omega arith in subst P e b

      head_rank : ranks (places head) ≡ f (q head)
      head_rank = old_rank head h

      corner_now : (x : ℕ) → x < suc tail → places x < n
      corner_now = each (λ x. places x < n) (λ x a. let e = queue x a in let b = known.corner x a in omega arith) (let e = added in omega arith)

      ranked_now : (x : ℕ) → x < suc tail → 1 ≤ ranks (places x)
      ranked_now =
          each (λ x. 1 ≤ ranks (places x)) (λ x a. let e = old_rank x a in let b = known.ranked x a in omega arith) (let e = new_rank in omega arith)

      listed_now : (k : ℕ) → k < n → 1 ≤ ranks k → (x : ℕ) × (x < suc tail) × (places x ≡ k)
      listed_now k a b = go (either (eqb k link))
        where
          go : T (eqb k link) ⊎ (eqb k link ≡ false) → (x : ℕ) × (x < suc tail) × (places x ≡ k)
          go (inl d) = (tail, omega arith, added ∙ sym (eqb→eq k link d))
          go (inr d) =
              let e = others k (eqb-false k link d) in
              let (x, l, g) = known.listed k a (omega arith) in
              (x, omega arith, queue x l ∙ g)

      top : (x : ℕ) → x < tail → f (q x) ≤ f (q head) + 1
      top = known.close h

      rising_now : (x y : ℕ) → x ≤ y → y < suc tail → ranks (places x) ≤ ranks (places y)
      rising_now x y a b = go (below y tail) (below x tail)
        where
          go : (y < tail) ⊎ (tail ≤ y) → (x < tail) ⊎ (tail ≤ x) → ranks (places x) ≤ ranks (places y)
          go (inl c) d =
              let e : x < tail = omega arith in
              let u = old_rank x e in
              let v = old_rank y c in
              let w = known.rising x y a c in
              omega arith
          go (inr c) (inl d) =
              let e : tail ≡ y = omega arith in
              let u = old_rank x d in
              let v = top x d in
              let w = ap (λ (z : ℕ). ranks (places z)) e in
              let r = new_rank in
              omega arith
          go (inr c) (inr d) =
              let e : x ≡ y = omega arith in
              let w = ap (λ (z : ℕ). ranks (places z)) e in
              omega arith

      close_now : (x : ℕ) → x < suc tail → ranks (places x) ≤ ranks (places head) + 1
      close_now =
          let e = head_rank in
          each (λ x. ranks (places x) ≤ ranks (places head) + 1) (λ x a. let u = old_rank x a in let v = top x a in omega arith)
          (let u = new_rank in omega arith)

      deep_now : (x : ℕ) → x < suc tail → ranks (places x) ≤ x + 1
      deep_now =
          each (λ x. ranks (places x) ≤ x + 1) (λ x a. let u = old_rank x a in let v = known.deep x a in omega arith)
          (let u = new_rank in let v = known.deep head h in omega arith)

      there_now : (k m : ℕ) → k < n → ranks k ≡ suc m → Walk (graph_in t n) m start k
      there_now k m a b = go (either (eqb k link))
        where
          go : T (eqb k link) ⊎ (eqb k link ≡ false) → Walk (graph_in t n) m start k
          go (inr d) = known.there k m a (sym (others k (eqb-false k link d)) ∙ b)
          go (inl d) =
              let e = eqb→eq k link d in
              let u : f (q head) ≡ m = (let v = ap ranks e in let w = rank in omega arith) in
              subst (λ (z : ℕ). Walk (graph_in t n) m start z) (sym e) (step m u)
            where
              step : (m : ℕ) → f (q head) ≡ m → Walk (graph_in t n) m start link
              step zero u = let v = known.ranked head h in absurd (omega arith)
              step (suc m) u =
                  walk_on (graph_in t n) m start (q head) link (known.there (q head) m (known.corner head h) u) (linked t n (q head) i small)
                  (corner_passes t n link inside)

      pub found : Searching t n start ranks places head (suc i) (suc tail)
      found = record {
        corner = corner_now;
        ranked = ranked_now;
        listed = listed_now;
        counted = let a = reached-more f ranks n link inside none (let e = rank in omega arith) others in let b = known.counted in omega arith;
        rising = rising_now;
        close = λ a. close_now;
        deep = deep_now;
        there = there_now;
        done = λ x p a b l.
            let c : x < tail = omega arith in
            let e = queue x c in
            let before : link_at t (q x) p < n = subst (λ (z : ℕ). link_at t z p < n) e l in
            let d = known.done x p a b before in
            let u : After (f (q x)) (ranks (link_at t (q x) p)) = subst (After (f (q x))) (sym (same (link_at t (q x) p) d.some)) d in
            let v = old_rank x c in
            subst (λ (z : ℕ). After z (ranks (link_at t (places x) p))) (sym v) (subst (λ (z : ℕ). After (f (q x)) (ranks (link_at t z p))) (sym e) u);
        partly = λ p a b l.
            let e = queue head h in
            let before : link_at t (q head) p < n = subst (λ (z : ℕ). link_at t z p < n) e l in
            let u = partly_more ranks same (λ o. record { some = let w = rank in omega arith; near = let w = rank in omega arith }) p b before in
            subst (λ (z : ℕ). After z (ranks (link_at t (places head) p))) (sym head_rank)
            (subst (λ (z : ℕ). After (f (q head)) (ranks (link_at t z p))) (sym e) u);
        begun = same start (let b = known.begun in omega arith) ∙ known.begun;
        upto = omega arith;
      }

module _ {t : List ℕ} {n start : ℕ} where
  -- what stands in the queue past its tail does not matter
  pub queue_kept : {f q : ℕ → ℕ} {head i tail : ℕ} → Searching t n start f q head i tail → (places : ℕ → ℕ) →
      ((x : ℕ) → x < tail → places x ≡ q x) → Searching t n start f places head i tail
  queue_kept {f} {q} {head} {i} {tail} known places same = record {
    corner = λ x a. let e = same x a in let b = known.corner x a in omega arith;
    ranked = λ x a. let e = ap f (same x a) in let b = known.ranked x a in omega arith;
    listed = λ k a b. let (x, l, e) = known.listed k a b in (x, l, same x l ∙ e);
    counted = known.counted;
    rising = λ x y a b. let e = ap f (same x (omega arith)) in let g = ap f (same y b) in let c = known.rising x y a b in omega arith;
    close = λ a x b. let e = ap f (same x b) in let g = ap f (same head a) in let c = known.close a x b in omega arith;
    deep = λ x a. let e = ap f (same x a) in let b = known.deep x a in omega arith;
    there = known.there;
    done = λ x p a. let u = known.upto in
        subst (λ (k : ℕ). p < 6 → link_at t k p < n → After (f k) (f (link_at t k p))) (sym (same x (omega arith))) (known.done x p a);
    partly = λ p a. subst (λ (k : ℕ). p < i → link_at t k p < n → After (f k) (f (link_at t k p))) (sym (same head a)) (known.partly p a);
    begun = known.begun;
    upto = known.upto;
  }

  -- the corner at the head is done with
  pub head_done : {f q : ℕ → ℕ} {head tail : ℕ} → Searching t n start f q head 6 tail → head < tail → Searching t n start f q (suc head) 0 tail
  head_done {f} {q} {head} {tail} known h = record {
    corner = known.corner;
    ranked = known.ranked;
    listed = known.listed;
    counted = known.counted;
    rising = known.rising;
    close = λ a x b. let u = known.close h x b in let v = known.rising head (suc head) (omega arith) a in omega arith;
    deep = known.deep;
    there = known.there;
    done = λ x p a. go x p a (below x head);
    partly = λ p a b. absurd (omega arith);
    begun = known.begun;
    upto = h;
  }
    where
      go : (x p : ℕ) → x < suc head → (x < head) ⊎ (head ≤ x) → p < 6 → link_at t (q x) p < n → After (f (q x)) (f (link_at t (q x) p))
      go x p a (inl b) = known.done x p b
      go x p a (inr b) =
          let e : head ≡ x = omega arith in
          subst (λ (z : ℕ). p < 6 → link_at t (q z) p < n → After (f (q z)) (f (link_at t (q z) p))) e (known.partly p h)

  -- ---- the first turn and the last

  pub first-turn : (f q : ℕ → ℕ) → start < n → q 0 ≡ start → f start ≡ 1 → ((k : ℕ) → k < n → (k ≡ start → ⊥) → f k ≡ 0) → Searching t n start f q 0 0 1
  first-turn f q h e one none = record {
    corner = λ x a. let u = here x a in omega arith;
    ranked = λ x a. let u = ap f (here x a) in omega arith;
    listed = λ k a b. listed k a b (either (eqb k start));
    counted = counted;
    rising = λ x y a b. let u = ap f (here x (omega arith)) in let v = ap f (here y b) in omega arith;
    close = λ a x b. let u = ap f (here x b) in let v = ap f e in omega arith;
    deep = λ x a. let u = ap f (here x a) in omega arith;
    there = λ k m a b. there k m a b (either (eqb k start));
    done = λ x p a. absurd (omega arith);
    partly = λ p a b. absurd (omega arith);
    begun = one;
    upto = omega arith;
  }
    where
      here : (x : ℕ) → x < 1 → q x ≡ start
      here x a = let z : 0 ≡ x = omega arith in subst (λ (y : ℕ). q y ≡ start) z e

      listed : (k : ℕ) → k < n → 1 ≤ f k → T (eqb k start) ⊎ (eqb k start ≡ false) → (x : ℕ) × (x < 1) × (q x ≡ k)
      listed k a b (inl d) = (0, omega arith, e ∙ sym (eqb→eq k start d))
      listed k a b (inr d) = let z = none k a (eqb-false k start d) in absurd (omega arith)

      there : (k m : ℕ) → k < n → f k ≡ suc m → T (eqb k start) ⊎ (eqb k start ≡ false) → Walk (graph_in t n) m start k
      there k m a b (inl d) =
          let s = eqb→eq k start d in
          let v = ap f s in
          let z : m ≡ 0 = omega arith in
          subst (λ (y : ℕ). Walk (graph_in t n) y start k) (sym z) (corner_passes t n start h, sym s)
      there k m a b (inr d) = let z = none k a (eqb-false k start d) in absurd (omega arith)

      counted : 1 ≡ reached f n
      counted =
          let zero-all : sum (λ k. bit (not (eqb (cond (eqb k start) 0 (f k)) 0))) (count 0 n) ≡ 0 =
          sum_same (λ k. bit (not (eqb (cond (eqb k start) 0 (f k)) 0))) (λ k. 0) (count 0 n) nothing ∙ sum-zero (count 0 n) in
          let a = reached-more (λ k. cond (eqb k start) 0 (f k)) f n start h (rw (eq-eqb start start refl)) (omega arith) (λ k u. rw (ne_eqb k start u)) in
          omega arith
        where
          nothing : (k : ℕ) → In k (count 0 n) → bit (not (eqb (cond (eqb k start) 0 (f k)) 0)) ≡ 0
          nothing k i = go (eqb k start) refl
            where
              go : (b : Bool) → eqb k start ≡ b → bit (not (eqb (cond b 0 (f k)) 0)) ≡ 0
              go true u = refl
              go false u = no_mark (f k) (none k (let v = (in_count n 0 k i).1 in omega arith) (eqb-false k start u))

  pub last_turn : {f q : ℕ → ℕ} {head i tail : ℕ} → Searching t n start f q head i tail → start < n → tail ≤ head → (r : List ℕ) → length r ≡ n →
      ((k : ℕ) → k < n → get_or r k 0 ≡ f k) → Stepped (graph_in t n) start r
  last_turn {f} {q} {head} {i} {tail} known s h r e same = record {
    sized = e;
    there = λ k m a. there k m a (below k n);
    least = least;
  }
    where
      there : (k m : ℕ) → get_or r k 0 ≡ suc m → (k < n) ⊎ (n ≤ k) → Walk (graph_in t n) m start k
      there k m a (inl b) = known.there k m b (sym (same k b) ∙ a)
      there k m a (inr b) = let u = get_or-eq_default r 0 {n = k} (omega arith) in absurd (omega arith)

      rank : (k v : ℕ) → Walk (graph_in t n) v start k → After v (f k)
      rank k zero w =
          let u = ap f w.1 in
          let o = known.begun in
          record { some = omega arith; near = omega arith }
      rank k (suc v) w =
          let (j, u, l) = walk_before (graph_in t n) v start k w in
          go j (rank j v u) (inside (graph_in t n) j (walk_last (graph_in t n) v start j u)) (any→in (λ p. eqb (link_at t j p) k) (count 0 6) l)
          (inside (graph_in t n) k (walk_last (graph_in t n) (suc v) start k w))
        where
          go : (j : ℕ) → After v (f j) → j < n → (p : ℕ) × In p (count 0 6) × T (eqb (link_at t j p) k) → k < n → After (suc v) (f k)
          go j a b (p, o, d) c =
              let (x, l, g) = known.listed j b a.some in
              let m = eqb→eq (link_at t j p) k d in
              let y : link_at t (q x) p ≡ k = ap (λ (z : ℕ). link_at t z p) g ∙ m in
              let z = known.done x p (omega arith) (in_count 6 0 p o).1 (omega arith) in
              record { some = omega (arith, z.some, ap f y); near = omega (arith, z.near, a.near, ap f y, ap f g) }

      least : (k v : ℕ) → Walk (graph_in t n) v start k → (1 ≤ get_or r k 0) × (get_or r k 0 ≤ suc v)
      least k v w =
          let b = inside (graph_in t n) k (walk_last (graph_in t n) v start k w) in
          let a = rank k v w in
          (omega (arith, a.some, same k b), omega (arith, a.near, same k b))
