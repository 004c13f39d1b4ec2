-- The search as its loop has it: ranks and queue are lists, and the six links of a corner are followed at once.
use Prim.Native.Nat.{ℕ, zero, suc, ◌+◌, ◌-◌, ◌*◌, ◌≤◌, ◌<◌}
use mathlib.Core.Path.{◌≡◌, refl, sym, ap, ◌∙◌, subst}
use mathlib.Core.Logic.{◌⊎◌, inl, inr}
use mathlib.Core.Bool.{Bool, true, false, cond}
use mathlib.Core.List.{List, [], ◌∷◌, ◌++◌}
use native.Mathlib.Omega.{arith}
use lib.Dec.{eqb}
use lib.ListN.{length, get_or, set, take, drop, replicate, length-set, get_or-replicate, get_or-append, length-replicate, take-append-drop}
use lib.Seq.{get_or-set_same, get_or-set_other, drop-set-lt, get_or-drop, get_or-take, length-take-le, drop_at}
use borrow.Author.Tests.{eqb-true, eqb-false}
use Rattle.base.specs.Lists.{bit}
use Rattle.base.proofs.Tests.{below}
use Rattle.base.proofs.Slices.{filled_length}
use Rattle.rules.specs.Ways.{fewest_steps}
use Rattle.graph.specs.Table.{link_at, Within, graph_in, Frontier, reached, visited}
use Rattle.graph.proofs.Steps.{stepped, stepped_same}
use Rattle.graph.proofs.Counting.{reached-le}
use Rattle.graph.proofs.Searching.{Searching, passed_over, queue_kept, found, head_done, first-turn, last_turn}

abbrev at : List ℕ → ℕ → ℕ
at l k = get_or l k 0

set_same : (l : List ℕ) (j : ℕ) → j < length l → set l j (get_or l j 0) ≡ l
set_same [] j h = refl
set_same (x ∷ l) zero h = refl
set_same (x ∷ l) (suc j) h = ap (λ (r : List ℕ). x ∷ r) (set_same l j (omega arith))

-- what is past the corners has a rank from the start on, so that it is never new
pub record Exploring (t : List ℕ) (n start : ℕ) (past : List ℕ) (s : Frontier) (head i : ℕ) : Type 0 where
  pub known : Searching t n start (at s.found) (at s.queue) head i s.tail
  pub queue-size : length s.queue ≡ 4878
  pub size : length s.found ≡ 4884
  pub kept : drop n s.found ≡ past

-- where the first i links of corner k, which is at the head, are followed
record Visited (t : List ℕ) (n start : ℕ) (past : List ℕ) (s : Frontier) (head k rank i : ℕ) : Type 0 where
  exploring : Exploring t n start past (visited t rank k i s) head i
  is_head : at (visited t rank k i s).queue head ≡ k
  next : at (visited t rank k i s).found k + 1 ≡ rank
  grown : head < (visited t rank k i s).tail

-- what a search stands on: the corners are few, no link is above 4,883, and all that is past the corners has a rank
pub record Grounded (t : List ℕ) (n : ℕ) (past : List ℕ) : Type 0 where
  pub few : n ≤ 4872
  pub within : Within t
  pub some : (k : ℕ) → n + k < 4884 → 1 ≤ at past k

module _ {t : List ℕ} {n start : ℕ} {past : List ℕ} (ground : Grounded t n past) where
  module _ {s : Frontier} {head i : ℕ} (e : Exploring t n start past s head i) where
    pub tail-few : s.tail ≤ n
    tail-few = let a = reached-le (at s.found) n in let b = e.known.counted in omega arith

    pub rank_small : head < s.tail → at s.found (at s.queue head) ≤ 4872
    rank_small h = let a = e.known.deep head h in let b = tail-few in let c = ground.few in omega arith

    pub head_inside : head < s.tail → at s.queue head < n
    head_inside h = e.known.corner head h

    -- only a corner can be new
    new_inside : (j : ℕ) → j ≤ 4883 → at s.found j ≡ 0 → j < n
    new_inside j h z = go (below j n)
      where
        go : (j < n) ⊎ (n ≤ j) → j < n
        go (inl a) = a
        go (inr a) =
            let d : n + (j - n) ≡ j = omega arith in
            let u = ground.some (j - n) (omega arith) in
            let v = ap (λ (l : List ℕ). at l (j - n)) e.kept in
            let w = get_or-drop n s.found (j - n) 0 in
            let x = ap (at s.found) d in
            absurd (omega arith)

    -- one link of the corner at the head is followed
    module _ (h : head < s.tail) (small : i < 6) (k rank : ℕ) (is_head : at s.queue head ≡ k) (next : at s.found k + 1 ≡ rank) where
      abbrev link : ℕ
      link = link_at t k i

      head_link : link_at t (at s.queue head) i ≡ link_at t k i
      head_link = ap (λ (x : ℕ). link_at t x i) is_head

      link_listed : link < length s.found
      link_listed = let w = ground.within (6 * k + i) in let z = e.size in omega arith

      abbrev queue_then : List ℕ
      queue_then = set s.queue s.tail link

      abbrev after : Bool → Frontier
      after b = record {
        tail = s.tail + bit b;
        found = set s.found link (cond b rank (at s.found link));
        queue = queue_then;
      }

      earlier : (x : ℕ) → x < s.tail → at queue_then x ≡ at s.queue x
      earlier x a = get_or-set_other s.queue s.tail x link 0 (λ z. omega arith)

      queue-stays : length queue_then ≡ 4878
      queue-stays = length-set s.queue s.tail link ∙ e.queue-size

      -- a corner that has a rank, or none at all
      over : eqb (at s.found link) 0 ≡ false → Exploring t n start past (after false) head (suc i)
      over f =
          let same : set s.found link (at s.found link) ≡ s.found = set_same s.found link link_listed in
          let more : 1 ≤ at s.found link = positive (at s.found link) (eqb-false (at s.found link) 0 f) in
          let m : 1 ≤ at s.found (link_at t (at s.queue head) i) = subst (λ (x : ℕ). 1 ≤ at s.found x) (sym head_link) more in
          let u = queue_kept (passed_over e.known h (λ z. m)) (at queue_then) earlier in
          let tail-stays : s.tail ≡ s.tail + 0 = omega arith in
          subst (λ (l : List ℕ). Exploring t n start past (record { tail = s.tail + 0; found = l; queue = queue_then }) head (suc i)) (sym same)
          (record {
            known = subst (Searching t n start (at s.found) (at queue_then) head (suc i)) tail-stays u;
            queue-size = queue-stays;
            size = e.size;
            kept = e.kept;
          })
        where
          positive : (x : ℕ) → (x ≡ 0 → ⊥) → 1 ≤ x
          positive zero z = absurd (z refl)
          positive (suc x) z = omega arith

      fresh : eqb (at s.found link) 0 ≡ true → Exploring t n start past (after true) head (suc i)
      fresh f =
          let none = eqb-true (at s.found link) 0 f in
          let inside = new_inside link (ground.within (6 * k + i)) none in
          let e-size = e.size in
          let q-size = e.queue-size in
          let tail-small = tail-few in
          let few = ground.few in
          let u = found e.known h small (let z = head_link in omega arith) (ap (at s.found) head_link ∙ none)
          (at (set s.found link rank)) (at queue_then)
          (λ x d. get_or-set_other s.found link x rank 0 (λ z. d (z ∙ sym head_link)))
          (ap (at (set s.found link rank)) head_link ∙ get_or-set_same s.found link rank 0 (omega arith) ∙ sym next
          ∙ ap (λ (x : ℕ). at s.found x + 1) (sym is_head))
          earlier (get_or-set_same s.queue s.tail link 0 (omega arith) ∙ sym head_link) in
          let tail_grows : suc s.tail ≡ s.tail + 1 = omega arith in
          record {
            known = subst (Searching t n start (at (set s.found link rank)) (at queue_then) head (suc i)) tail_grows u;
            queue-size = queue-stays;
            size = length-set s.found link rank ∙ e.size;
            kept = drop-set-lt n s.found link rank inside ∙ e.kept;
          }

      turn : Exploring t n start past (reached rank (link_at t k i) s) head (suc i)
      turn = go (eqb (at s.found link) 0) refl
        where
          go : (b : Bool) → eqb (at s.found (link_at t k i)) 0 ≡ b → Exploring t n start past (after b) head (suc i)
          go true f = fresh f
          go false f = over f

      -- the corner at the head stays there, with its rank
      head_stays : at queue_then head ≡ k
      head_stays = earlier head h ∙ is_head

      rank_stays : at (reached rank (link_at t k i) s).found k + 1 ≡ rank
      rank_stays = ap (λ (x : ℕ). x + 1) (go (eqb (at s.found link) 0) refl (below k link) (below link k)) ∙ next
        where
          go : (b : Bool) → eqb (at s.found link) 0 ≡ b → (k < link) ⊎ (link ≤ k) → (link < k) ⊎ (k ≤ link) →
              at (set s.found link (cond b rank (at s.found link))) k ≡ at s.found k
          go b f (inl a) c = get_or-set_other s.found link k (cond b rank (at s.found link)) 0 (λ z. omega arith)
          go b f (inr a) (inl c) = get_or-set_other s.found link k (cond b rank (at s.found link)) 0 (λ z. omega arith)
          go true f (inr a) (inr c) =
              let z : link ≡ k = omega arith in
              let u = e.known.ranked head h in
              let v = ap (at s.found) is_head in
              let w = ap (at s.found) z in
              let x = eqb-true (at s.found link) 0 f in
              absurd (omega arith)
          go false f (inr a) (inr c) =
              ap (λ (l : List ℕ). at l k) (set_same s.found link link_listed)

  module _ {s : Frontier} {head : ℕ} (e : Exploring t n start past s head 0) (h : head < s.tail) (k rank : ℕ)
      (is_head : at s.queue head ≡ k) (next : at s.found k + 1 ≡ rank) where
    links_followed : (i : ℕ) → i ≤ 6 → Visited t n start past s head k rank i
    unfolding visited
    links_followed zero a = record { exploring = e; is_head = is_head; next = next; grown = h }
    links_followed (suc i) a =
        let v = links_followed i (omega arith) in
        record {
          exploring = turn v.exploring v.grown (omega arith) k rank v.is_head v.next;
          is_head = head_stays v.exploring v.grown (omega arith) k rank v.is_head v.next;
          next = rank_stays v.exploring v.grown (omega arith) k rank v.is_head v.next;
          grown = let g = v.grown in omega arith;
        }

    -- the corner at the head is done with
    pub next_head : Exploring t n start past (visited t rank k 6 s) (head + 1) 0
    next_head =
        let v = links_followed 6 (omega arith) in
        let d : suc head ≡ head + 1 = omega arith in
        let r = visited t rank k 6 s in
        record {
          known = subst (λ (x : ℕ). Searching t n start (at r.found) (at r.queue) x 0 r.tail) d
              (head_done v.exploring.known v.grown);
          queue-size = v.exploring.queue-size;
          size = v.exploring.size;
          kept = v.exploring.kept;
        }

  pub all_done : {s : Frontier} {head i : ℕ} → Exploring t n start past s head i → start < n → s.tail ≤ head →
      s.found ≡ fewest_steps (graph_in t n) start ++ past
  all_done {s} {head} {i} e a h =
      let z = e.size in
      let few = ground.few in
      let u = last_turn e.known a h (take n s.found)
      (length-take-le n s.found (omega arith)) (λ k l. get_or-take n s.found k 0 l) in
      let v = stepped_same (graph_in t n) start (take n s.found) (fewest_steps (graph_in t n) start) u (stepped (graph_in t n) start) in
      sym (take-append-drop n s.found) ∙ ap (λ (l : List ℕ). l ++ drop n s.found) v
      ∙ ap (λ (l : List ℕ). fewest_steps (graph_in t n) start ++ l) e.kept

-- ---- the ranks before the first turn

-- a table with some rank everywhere, of which those of the corners are cleared
pub record Cleared (n start : ℕ) (lent cleared : List ℕ) : Type 0 where
  pub few : n ≤ 4872
  pub is_start : start < n
  pub ranked : lent ≡ replicate 4884 257
  pub clear : cleared ≡ replicate n 0 ++ drop n lent

module _ {n start : ℕ} {lent cleared : List ℕ} (made : Cleared n start lent cleared) where
  lent_size : length lent ≡ 4884
  lent_size = ap length made.ranked ∙ length-replicate {A = ℕ} 4884 257

  pub cleared_size : length cleared ≡ 4884
  cleared_size = filled_length n 0 lent cleared (let z = lent_size in let few = made.few in omega arith) made.clear ∙ lent_size

  pub rest_kept : drop n (set cleared start 1) ≡ drop n lent
  rest_kept = drop-set-lt n cleared start 1 made.is_start ∙ ap (drop n) made.clear ∙ drop_at (replicate n 0) (drop n lent) n (length-replicate n 0)

  pub past_ranked : (k : ℕ) → n + k < 4884 → 1 ≤ at (drop n (set cleared start 1)) k
  past_ranked k h =
      let a = get_or-drop n lent k 0 in
      let b = ap (λ (l : List ℕ). at l (n + k)) made.ranked in
      let c = get_or-replicate {A = ℕ} 4884 (n + k) 257 0 h in
      let d = ap (λ (l : List ℕ). at l k) rest_kept in
      omega arith

  none : (k : ℕ) → k < n → (k ≡ start → ⊥) → at (set cleared start 1) k ≡ 0
  none k l d =
      get_or-set_other cleared start k 1 0 d ∙ ap (λ (x : List ℕ). at x k) made.clear
      ∙ get_or-append (replicate n 0) (drop n lent) 0 k (let r = length-replicate {A = ℕ} n 0 in omega arith) ∙ get_or-replicate n k 0 0 l

  pub first_ranks : (t queue : List ℕ) → length queue ≡ 4878 →
      Exploring t n start (drop n (set cleared start 1)) (record { tail = 1; found = set cleared start 1; queue = set queue 0 start }) 0 0
  first_ranks t queue q =
      let z = cleared_size in
      let few = made.few in
      let inside = made.is_start in
      record {
        known = first-turn (at (set cleared start 1)) (at (set queue 0 start)) made.is_start (get_or-set_same queue 0 start 0 (omega arith))
            (get_or-set_same cleared start 1 0 (omega arith)) none;
        queue-size = length-set queue 0 start ∙ q;
        size = length-set cleared start 1 ∙ cleared_size;
        kept = refl;
      }
