-- Loops over a counter: the element at a position, and what a test of a list says after some turns.
use Prim.Native.Nat.{ℕ, zero, suc, ◌+◌, ◌≤◌, ◌<◌}
use mathlib.Core.Path.{◌≡◌, refl, ap, ◌∙◌}
use mathlib.Core.Bool.{Bool, true, false, ◌&&◌, ◌||◌, cond}
use mathlib.Core.List.{List, [], ◌∷◌, ◌++◌, map}
use native.Mathlib.Nat.{add-zero}
use native.Mathlib.Numerals.{add-one}
use native.Mathlib.Omega.{arith}
use lib.Dec.{T}
use lib.ListN.{length, get_or, drop, length-map, get_or-map}
use lib.Seq.{drop-cons}
use Rattle.base.specs.Lists.{any, all, first, position, collect, count}
use Rattle.base.proofs.Lists.{get_any, length-count, get_count}

module _ {A : Type 0} where
  -- the element at a position of a list that a function makes of the numbers from 0 on
  pub get_table : (f : ℕ → A) (d : A) (n j : ℕ) → j < n → get_or (map f (count 0 n)) j d ≡ f j
  get_table f d n j h =
      get_any (map f (count 0 n)) j d (f 0) (omega (arith, length-map (count 0 n) f, length-count n 0))
      ∙ get_or-map f (count 0 n) j 0
      ∙ ap f (get_count n 0 j 0 h ∙ (let e : 0 + j ≡ j = omega arith in e))

  pub length-table : (f : ℕ → A) (n : ℕ) → length (map f (count 0 n)) ≡ n
  length-table f n = length-map (count 0 n) f ∙ length-count n 0

  -- what is left of a list before turn i
  pub rest : (l : List A) (i : ℕ) (d : A) → i < length l → drop i l ≡ get_or l i d ∷ drop (i + 1) l
  rest l i d h = rw add-one (drop-cons l i d h)

  pub any_hit : (f : A → Bool) (l : List A) (i : ℕ) (d : A) → i < length l → f (get_or l i d) ≡ true → any f (drop i l) ≡ true
  any_hit f l i d h e = rw (rest l i d h, e)

  pub any_miss : (f : A → Bool) (l : List A) (i : ℕ) (d : A) → i < length l → f (get_or l i d) ≡ false → any f (drop (i + 1) l) ≡ any f (drop i l)
  any_miss f l i d h e = rw (rest l i d h, e)

  pub all_fails : (f : A → Bool) (l : List A) (i : ℕ) (d : A) → i < length l → f (get_or l i d) ≡ false → all f (drop i l) ≡ false
  all_fails f l i d h e = rw (rest l i d h, e)

  pub all_passes : (f : A → Bool) (l : List A) (i : ℕ) (d : A) → i < length l → f (get_or l i d) ≡ true → all f (drop (i + 1) l) ≡ all f (drop i l)
  all_passes f l i d h e = rw (rest l i d h, e)

  -- the position of the first element that passes
  pub position_at : (f : A → Bool) (d : A) (l : List A) (n i : ℕ) → i < length l → f (get_or l i d) ≡ true → ((j : ℕ) → j < i → f (get_or l j d) ≡ false)
      → position f n l ≡ n + i
  position_at f d [] n i h e g = absurd (omega arith)
  position_at f d (x ∷ l) n zero h e g = rw e (omega arith)
  position_at f d (x ∷ l) n (suc i) h e g =
      rw (g 0 (omega arith)) (omega (arith, position_at f d l (suc n) i (omega arith) e (λ j k. g (suc j) (omega arith))))

  pub position-none : (f : A → Bool) (d : A) (l : List A) (n : ℕ) → ((j : ℕ) → j < length l → f (get_or l j d) ≡ false) → position f n l ≡ n + length l
  position-none f d [] n g = omega arith
  position-none f d (x ∷ l) n g = rw (g 0 (omega arith)) (omega (arith, position-none f d l (suc n) (λ j k. g (suc j) (omega arith))))

  pub position-le : (f : A → Bool) (l : List A) (n : ℕ) → position f n l ≤ n + length l
  position-le f [] n = omega arith
  position-le f (x ∷ l) n = go (f x) (position-le f l (suc n))
    where
      go : (b : Bool) → position f (suc n) l ≤ suc n + length l → cond b n (position f (suc n) l) ≤ n + suc (length l)
      go true h = omega arith
      go false h = omega arith

  -- two tests that agree on a list find the same position
  pub position-same : (f g : A → Bool) (d : A) (l : List A) (n : ℕ) → ((j : ℕ) → j < length l → f (get_or l j d) ≡ g (get_or l j d))
      → position f n l ≡ position g n l
  position-same f g d [] n h = refl
  position-same f g d (x ∷ l) n h =
      rw (h 0 (omega arith), position-same f g d l (suc n) (λ j k. h (suc j) (omega arith)))

  -- the first element that passes stands at its position
  pub first-position : (f : A → Bool) (d : A) (l : List A) → first f d l ≡ get_or l (position f 0 l) d
  first-position f d l = from l
    where
      -- the position, counted from n, is that counted from 0, and n
      shift : (l : List A) (n : ℕ) → position f n l ≡ n + position f 0 l
      shift [] n = omega arith
      shift (x ∷ l) n = go (f x) (shift l (suc n)) (shift l 1)
        where
          go : (b : Bool) → position f (suc n) l ≡ suc n + position f 0 l → position f 1 l ≡ 1 + position f 0 l
              → cond b n (position f (suc n) l) ≡ n + cond b 0 (position f 1 l)
          go true p q = omega arith
          go false p q = omega arith

      from : (l : List A) → first f d l ≡ get_or l (position f 0 l) d
      from [] = refl
      from (x ∷ l) = go (f x) (from l)
        where
          go : (b : Bool) → first f d l ≡ get_or l (position f 0 l) d → cond b x (first f d l) ≡ get_or (x ∷ l) (cond b 0 (position f 1 l)) d
          go true h = refl
          go false h = rw (shift l 1) (h ∙ ap (λ k. get_or (x ∷ l) k d) (let e : suc (position f 0 l) ≡ 1 + position f 0 l = omega arith in e))

  -- an element passes where its position is inside, and nowhere else
  pub any-position : (f : A → Bool) (l : List A) (n : ℕ) → position f n l < n + length l → T (any f l)
  any-position f [] n h = absurd (omega arith)
  any-position f (x ∷ l) n h = go (f x) h (λ k. any-position f l (suc n) k)
    where
      go : (b : Bool) → cond b n (position f (suc n) l) < n + suc (length l) → (position f (suc n) l < suc n + length l → T (any f l)) → T (b || any f l)
      go true k r = tt
      go false k r = r (omega arith)

  pub position-any : (f : A → Bool) (l : List A) (n : ℕ) → T (any f l) → position f n l < n + length l
  position-any f [] n t = absurd t
  position-any f (x ∷ l) n t = go (f x) t (λ s. position-any f l (suc n) s)
    where
      go : (b : Bool) → T (b || any f l) → (T (any f l) → position f (suc n) l < suc n + length l) → cond b n (position f (suc n) l) < n + suc (length l)
      go true k r = omega arith
      go false k r = omega (arith, r k)

  -- ---- tests of lists as tests over the numbers of their elements

  -- a test of the elements is a test of their numbers
  pub all-count : (f : A → Bool) (d : A) (h : ℕ → Bool) (l : List A) (i : ℕ) → ((j : ℕ) → j < length l → f (get_or l j d) ≡ h (i + j))
      → all f l ≡ all h (count i (length l))
  all-count f d h [] i e = refl
  all-count f d h (x ∷ l) i e =
      rw (e 0 (omega arith) ∙ ap h (add-zero i))
      (ap (λ b. h i && b) (all-count f d h l (suc i) (λ j k. e (suc j) (omega arith) ∙ ap h (let q : i + suc j ≡ suc i + j = omega arith in q))))

  pub any-count : (f : A → Bool) (d : A) (h : ℕ → Bool) (l : List A) (i : ℕ) → ((j : ℕ) → j < length l → f (get_or l j d) ≡ h (i + j))
      → any f l ≡ any h (count i (length l))
  any-count f d h [] i e = refl
  any-count f d h (x ∷ l) i e =
      rw (e 0 (omega arith) ∙ ap h (add-zero i))
      (ap (λ b. h i || b) (any-count f d h l (suc i) (λ j k. e (suc j) (omega arith) ∙ ap h (let q : i + suc j ≡ suc i + j = omega arith in q))))

  pub all_append : (f : A → Bool) (xs ys : List A) → all f (xs ++ ys) ≡ all f xs && all f ys
  all_append f [] ys = refl
  all_append f (x ∷ xs) ys = rw (all_append f xs ys) (go (f x) (all f xs))
    where
      go : (a b : Bool) → a && (b && all f ys) ≡ (a && b) && all f ys
      go true b = refl
      go false b = refl

  pub any_append : (f : A → Bool) (xs ys : List A) → any f (xs ++ ys) ≡ any f xs || any f ys
  any_append f [] ys = refl
  any_append f (x ∷ xs) ys = rw (any_append f xs ys) (go (f x) (any f xs))
    where
      go : (a b : Bool) → a || (b || any f ys) ≡ (a || b) || any f ys
      go true b = refl
      go false b = refl

module _ {A B : Type 0} where
  pub all-collect : (f : B → Bool) (g : A → List B) (l : List A) → all f (collect g l) ≡ all (λ x. all f (g x)) l
  all-collect f g [] = refl
  all-collect f g (x ∷ l) = all_append f (g x) (collect g l) ∙ ap (λ b. all f (g x) && b) (all-collect f g l)

  pub any-collect : (f : B → Bool) (g : A → List B) (l : List A) → any f (collect g l) ≡ any (λ x. any f (g x)) l
  any-collect f g [] = refl
  any-collect f g (x ∷ l) = any_append f (g x) (collect g l) ∙ ap (λ b. any f (g x) || b) (any-collect f g l)

  pub all_map : (f : B → Bool) (g : A → B) (l : List A) → all f (map g l) ≡ all (λ x. f (g x)) l
  all_map f g [] = refl
  all_map f g (x ∷ l) = ap (λ b. f (g x) && b) (all_map f g l)

  pub any-map : (f : B → Bool) (g : A → B) (l : List A) → any f (map g l) ≡ any (λ x. f (g x)) l
  any-map f g [] = refl
  any-map f g (x ∷ l) = ap (λ b. f (g x) || b) (any-map f g l)
