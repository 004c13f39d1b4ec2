-- How the table of links is filled: for each axis n and corner k in turn, k and the upper end of its edge are linked both ways. P n k m: on
-- axis n the corners k and m are to be linked, k the lower.
use Prim.Native.Nat.{ℕ, zero, suc, ◌+◌, ◌*◌, ◌≤◌, ◌<◌}
use mathlib.Core.Path.{◌≡◌, sym, ◌∙◌, subst}
use mathlib.Core.Logic.{◌⊎◌, inl, inr}
use mathlib.Core.Bool.{false}
use mathlib.Core.List.{List, [], ◌∷◌}
use native.Mathlib.Omega.{arith}
use lib.Dec.{T, eqb, eqb→eq}
use lib.ListN.{length, get_or, set, length-set, replicate, length-replicate, get_or-replicate, get_or-eq_default}
use lib.Seq.{get_or-set_same, get_or-set_other}
use borrow.Author.Tests.{eqb-false}
use Rattle.base.proofs.Tests.{below, either}
use Rattle.graph.specs.Table.{link_at, Within}

-- a number of at most 4,883 may stand at any place
set-within : (t : List ℕ) (a v : ℕ) → Within t → v ≤ 4883 → Within (set t a v)
set-within [] a v w h x = w x
set-within (y ∷ t) zero v w h zero = h
set-within (y ∷ t) zero v w h (suc x) = w (suc x)
set-within (y ∷ t) (suc a) v w h zero = w 0
set-within (y ∷ t) (suc a) v w h (suc x) = set-within t a v (λ z. w (suc z)) h x

module _ (size : ℕ) (P : ℕ → ℕ → ℕ → Type 0) where
  -- the links of the slots before x are in: slot 3 k + n is that of corner k and axis n
  pub record LinkedTo (t : List ℕ) (x : ℕ) : Type 0 where
    pub room : length t ≡ 29232
    pub within : Within t
    pub up : (n k m : ℕ) → n < 3 → 3 * k + n < x → P n k m → link_at t k (3 + n) ≡ m
    pub down : (n k m : ℕ) → n < 3 → 3 * k + n < x → P n k m → link_at t m n ≡ k
    pub sound : (j i : ℕ) → j < size → i < 6 → link_at t j i < size → (n : ℕ) × (P n j (link_at t j i) ⊎ P n (link_at t j i) j)

  module _ (few : size ≤ 4872) where
    pub link_start : (w : ℕ) → w ≡ 29232 → LinkedTo (replicate w 4883) 0
    link_start w e = record {
      room = length-replicate w 4883 ∙ e;
      within = λ x. filled x (below x w);
      up = λ n k m a b. absurd (omega arith);
      down = λ n k m a b. absurd (omega arith);
      sound = λ j i a b c. let u = get_or-replicate {A = ℕ} w (6 * j + i) 4883 0 (omega arith) in absurd (omega arith);
    }
      where
        filled : (x : ℕ) → (x < w) ⊎ (w ≤ x) → get_or (replicate w 4883) x 0 ≤ 4883
        filled x (inl a) = let u = get_or-replicate {A = ℕ} w x 4883 0 a in omega arith
        filled x (inr a) =
            let l = length-replicate {A = ℕ} w 4883 in
            let u = get_or-eq_default {A = ℕ} (replicate w 4883) 0 {n = x} (omega arith) in
            omega arith

    pub link_none : (t : List ℕ) (n k x : ℕ) → n < 3 → x ≡ 3 * k + n → ((m : ℕ) → P n k m → ⊥) → LinkedTo t x → LinkedTo t (x + 1)
    link_none t n k x h e none known = record {
      room = known.room;
      within = known.within;
      up = λ axis low m a b p. go axis low m a b p (λ u. known.up axis low m a u p) (below (3 * low + axis) x);
      down = λ axis low m a b p. go axis low m a b p (λ u. known.down axis low m a u p) (below (3 * low + axis) x);
      sound = known.sound;
    }
      where
        go : {A : Type 0} (axis low m : ℕ) → axis < 3 → 3 * low + axis < x + 1 → P axis low m → (3 * low + axis < x → A) →
            (3 * low + axis < x) ⊎ (x ≤ 3 * low + axis) → A
        go axis low m a b p f (inl c) = f c
        go axis low m a b p f (inr c) =
            let u : low ≡ k = omega arith in
            let v : axis ≡ n = omega arith in
            absurd (none m (subst (λ (z : ℕ). P z k m) v (subst (λ (z : ℕ). P axis z m) u p)))

    module _ (functional : (n k l m : ℕ) → P n k l → P n k m → l ≡ m) (injective : (n j k m : ℕ) → P n j m → P n k m → j ≡ k)
        (t : List ℕ) (n k m x : ℕ) (h : n < 3) (e : x ≡ 3 * k + n) (lower : k < size) (upper : m < size) (p : P n k m) (known : LinkedTo t x) where
      abbrev first : List ℕ
      first = set t (6 * k + (3 + n)) m

      abbrev new : List ℕ
      new = set first (6 * m + n) k

      fits : length t ≡ 29232
      fits = known.room

      up_new : link_at new k (3 + n) ≡ m
      up_new = get_or-set_other first (6 * m + n) (6 * k + (3 + n)) k 0 (λ z. omega arith) ∙ get_or-set_same t (6 * k + (3 + n)) m 0 (let f = fits in omega arith)

      down_new : link_at new m n ≡ k
      down_new = get_or-set_same first (6 * m + n) k 0 (let f = fits in let g = length-set t (6 * k + (3 + n)) m in omega arith)

      -- any other place is as before
      other : (j i : ℕ) → i < 6 → (6 * j + i ≡ 6 * k + (3 + n) → ⊥) → (6 * j + i ≡ 6 * m + n → ⊥) → link_at new j i ≡ link_at t j i
      other j i a b c = get_or-set_other first (6 * m + n) (6 * j + i) k 0 c ∙ get_or-set_other t (6 * k + (3 + n)) (6 * j + i) m 0 b

      pub link_next : LinkedTo new (x + 1)
      link_next = record {
        room = length-set first (6 * m + n) k ∙ length-set t (6 * k + (3 + n)) m ∙ known.room;
        within = set-within first (6 * m + n) k (set-within t (6 * k + (3 + n)) m known.within (omega arith)) (omega arith);
        up = λ axis low high a b q. ups axis low high a b q (below (3 * low + axis) x);
        down = λ axis low high a b q. downs axis low high a b q (below (3 * low + axis) x);
        sound = λ j i a b. sounds j i a b (either (eqb (6 * j + i) (6 * k + (3 + n)))) (either (eqb (6 * j + i) (6 * m + n)));
      }
        where
          here : (axis low : ℕ) → axis < 3 → 3 * low + axis < x + 1 → x ≤ 3 * low + axis → (axis ≡ n) × (low ≡ k)
          here axis low a b c = (omega arith, omega arith)

          ups : (axis low high : ℕ) → axis < 3 → 3 * low + axis < x + 1 → P axis low high → (3 * low + axis < x) ⊎ (x ≤ 3 * low + axis) →
              link_at new low (3 + axis) ≡ high
          ups axis low high a b q (inl c) = other low (3 + axis) (omega arith) (λ z. omega arith) (λ z. omega arith) ∙ known.up axis low high a c q
          ups axis low high a b q (inr c) =
              let (u, v) = here axis low a b c in
              let moved : P n k high = subst (λ (z : ℕ). P z k high) u (subst (λ (z : ℕ). P axis z high) v q) in
              (λ d. link_at new (v d) (3 + u d)) ∙ up_new ∙ functional n k m high p moved

          downs : (axis low high : ℕ) → axis < 3 → 3 * low + axis < x + 1 → P axis low high → (3 * low + axis < x) ⊎ (x ≤ 3 * low + axis) →
              link_at new high axis ≡ low
          downs axis low high a b q (inr c) =
              let (u, v) = here axis low a b c in
              let moved : P n k high = subst (λ (z : ℕ). P z k high) u (subst (λ (z : ℕ). P axis z high) v q) in
              let w = functional n k high m moved p in
              (λ d. link_at new (w d) (u d)) ∙ down_new ∙ sym v
          downs axis low high a b q (inl c) = other high axis (omega arith) (λ z. omega arith) apart ∙ known.down axis low high a c q
            where
              apart : 6 * high + axis ≡ 6 * m + n → ⊥
              apart z =
                  let u : high ≡ m = omega arith in
                  let v : axis ≡ n = omega arith in
                  let moved : P n low m = subst (λ (y : ℕ). P y low m) v (subst (λ (y : ℕ). P axis low y) u q) in
                  let w = injective n low k m moved p in
                  omega arith

          sounds : (j i : ℕ) → j < size → i < 6 → T (eqb (6 * j + i) (6 * k + (3 + n))) ⊎ (eqb (6 * j + i) (6 * k + (3 + n)) ≡ false) →
              T (eqb (6 * j + i) (6 * m + n)) ⊎ (eqb (6 * j + i) (6 * m + n) ≡ false) →
              link_at new j i < size → (r : ℕ) × (P r j (link_at new j i) ⊎ P r (link_at new j i) j)
          sounds j i a b (inl c) d l =
              let z = eqb→eq (6 * j + i) (6 * k + (3 + n)) c in
              let u : j ≡ k = omega arith in
              let v : i ≡ 3 + n = omega arith in
              let w : link_at new j i ≡ m = (λ y. link_at new (u y) (v y)) ∙ up_new in
              (n, inl (subst (λ (y : ℕ). P n j y) (sym w) (subst (λ (y : ℕ). P n y m) (sym u) p)))
          sounds j i a b (inr c) (inl d) l =
              let z = eqb→eq (6 * j + i) (6 * m + n) d in
              let u : j ≡ m = omega arith in
              let v : i ≡ n = omega arith in
              let w : link_at new j i ≡ k = (λ y. link_at new (u y) (v y)) ∙ down_new in
              (n, inr (subst (λ (y : ℕ). P n y j) (sym w) (subst (λ (y : ℕ). P n k y) (sym u) p)))
          sounds j i a b (inr c) (inr d) l =
              let w = other j i b (eqb-false (6 * j + i) (6 * k + (3 + n)) c) (eqb-false (6 * j + i) (6 * m + n) d) in
              let (r, s) = known.sound j i a b (omega arith) in
              (r, subst (λ (y : ℕ). P r j y ⊎ P r y j) (sym w) s)
