-- Membership, and the tests and choices of lists as facts of it.
use Prim.Native.Nat.{ℕ, zero, suc, ◌+◌, ◌≤◌, ◌<◌}
use mathlib.Core.Path.{◌≡◌, refl, sym, ap, ◌∙◌, subst}
use mathlib.Core.Logic.{◌⊎◌, inl, inr}
use mathlib.Core.Bool.{Bool, true, false, ◌||◌, cond}
use mathlib.Core.List.{List, [], ◌∷◌, ◌++◌, map, append_assoc}
use native.Mathlib.Omega.{arith}
use lib.Dec.{T}
use lib.ListN.{length, get_or}
use Rattle.base.specs.Lists.{any, all, keep, distinct, collect, position, count}
use Rattle.base.proofs.Tests.{and→, →and, or→, or_left, or_right, →true, below}

module _ {A : Type 0} where
  -- x is on the list
  abbrev pub In : A → List A → Type 0
  In x [] = ⊥
  In x (y ∷ ys) = (x ≡ y) ⊎ In x ys

  pub in_left : (x : A) (ys zs : List A) → In x ys → In x (ys ++ zs)
  in_left x [] zs i = absurd i
  in_left x (y ∷ ys) zs (inl p) = inl p
  in_left x (y ∷ ys) zs (inr i) = inr (in_left x ys zs i)

  pub in_right : (x : A) (ys zs : List A) → In x zs → In x (ys ++ zs)
  in_right x [] zs i = i
  in_right x (y ∷ ys) zs i = inr (in_right x ys zs i)

  pub in_append : (x : A) (ys zs : List A) → In x (ys ++ zs) → In x ys ⊎ In x zs
  in_append x [] zs i = inr i
  in_append x (y ∷ ys) zs (inl p) = inl (inl p)
  in_append x (y ∷ ys) zs (inr i) = go (in_append x ys zs i)
    where
      go : In x ys ⊎ In x zs → In x (y ∷ ys) ⊎ In x zs
      go (inl j) = inl (inr j)
      go (inr j) = inr j

  -- ---- tests of a list

  pub any→in : (f : A → Bool) (xs : List A) → T (any f xs) → (x : A) × In x xs × T (f x)
  any→in f [] t = absurd t
  any→in f (x ∷ xs) t = go (or→ (f x) (any f xs) t) (any→in f xs)
    where
      go : T (f x) ⊎ T (any f xs) → (T (any f xs) → (y : A) × In y xs × T (f y)) → (y : A) × In y (x ∷ xs) × T (f y)
      go (inl s) r = (x, inl refl, s)
      go (inr s) r = let y = r s in (y.0, inr y.1, y.2)

  pub in→any : (f : A → Bool) (xs : List A) (x : A) → In x xs → T (f x) → T (any f xs)
  in→any f [] x i t = absurd i
  in→any f (y ∷ xs) x (inl p) t = or_left (f y) (any f xs) (subst (λ z. T (f z)) p t)
  in→any f (y ∷ xs) x (inr i) t = or_right (f y) (any f xs) (in→any f xs x i t)

  pub all→in : (f : A → Bool) (xs : List A) → T (all f xs) → (x : A) → In x xs → T (f x)
  all→in f [] t x i = absurd i
  all→in f (y ∷ xs) t x (inl p) = subst (λ z. T (f z)) (sym p) (and→ (f y) (all f xs) t).0
  all→in f (y ∷ xs) t x (inr i) = all→in f xs (and→ (f y) (all f xs) t).1 x i

  pub in→all : (f : A → Bool) (xs : List A) → ((x : A) → In x xs → T (f x)) → T (all f xs)
  in→all f [] h = tt
  in→all f (x ∷ xs) h = →and (f x) (all f xs) (h x (inl refl)) (in→all f xs (λ y i. h y (inr i)))

  -- ---- elements by position

  pub in_get : (xs : List A) (n : ℕ) (d : A) → n < length xs → In (get_or xs n d) xs
  in_get [] n d h = absurd (omega arith)
  in_get (x ∷ xs) zero d h = inl refl
  in_get (x ∷ xs) (suc n) d h = inr (in_get xs n d (omega arith))

  pub get→all : (f : A → Bool) (d : A) (xs : List A) → ((n : ℕ) → n < length xs → T (f (get_or xs n d))) → T (all f xs)
  get→all f d [] h = tt
  get→all f d (x ∷ xs) h = →and (f x) (all f xs) (h 0 (omega arith)) (get→all f d xs (λ n l. h (suc n) (omega arith)))

  -- an element of the list does not depend on what stands for one beyond its end
  pub get_any : (xs : List A) (n : ℕ) (d e : A) → n < length xs → get_or xs n d ≡ get_or xs n e
  get_any [] n d e h = absurd (omega arith)
  get_any (x ∷ xs) zero d e h = refl
  get_any (x ∷ xs) (suc n) d e h = get_any xs n d e (omega arith)

  -- the position of an element that passes the test
  pub position_of : (f : A → Bool) (d : A) (xs : List A) (i : ℕ) → T (any f xs) → (k : ℕ) × (position f i xs ≡ i + k) × (k < length xs) × T (f (get_or xs k d))
  position_of f d [] i t = absurd t
  position_of f d (x ∷ xs) i t = go (f x) refl t (position_of f d xs (suc i))
    where
      go : (b : Bool) → f x ≡ b → T (b || any f xs) →
          (T (any f xs) → (k : ℕ) × (position f (suc i) xs ≡ suc i + k) × (k < length xs) × T (f (get_or xs k d))) →
          (k : ℕ) × (cond b i (position f (suc i) xs) ≡ i + k) × (k < suc (length xs)) × T (f (get_or (x ∷ xs) k d))
      go true e u r = (0, omega arith, omega arith, →true e)
      go false e u r = let s = r u in let p = s.1 in let q = s.2 in (suc s.0, omega arith, omega arith, s.3)

  -- ---- what is kept

  pub in_keep : (f : A → Bool) (xs : List A) (x : A) → In x (keep f xs) → In x xs × T (f x)
  in_keep f [] x i = absurd i
  in_keep f (y ∷ xs) x i = go (f y) refl i (in_keep f xs x)
    where
      go : (b : Bool) → f y ≡ b → In x (cond b (y ∷ keep f xs) (keep f xs)) → (In x (keep f xs) → In x xs × T (f x)) → In x (y ∷ xs) × T (f x)
      go true e (inl p) r = (inl p, subst (λ z. T (f z)) (sym p) (→true e))
      go true e (inr j) r = let s = r j in (inr s.0, s.1)
      go false e j r = let s = r j in (inr s.0, s.1)

  pub keep_in : (f : A → Bool) (xs : List A) (x : A) → In x xs → T (f x) → In x (keep f xs)
  keep_in f [] x i t = absurd i
  keep_in f (y ∷ xs) x i t = go (f y) refl i (λ j. keep_in f xs x j t)
    where
      go : (b : Bool) → f y ≡ b → In x (y ∷ xs) → (In x xs → In x (keep f xs)) → In x (cond b (y ∷ keep f xs) (keep f xs))
      go true e (inl p) r = inl p
      go true e (inr j) r = inr (r j)
      go false e (inl p) r = absurd (subst T e (subst (λ z. T (f z)) p t))
      go false e (inr j) r = r j

  pub in_distinct : (same : A → A → Bool) (xs : List A) (x : A) → In x (distinct same xs) → In x xs
  in_distinct same [] x i = i
  in_distinct same (y ∷ xs) x i = go (any (same y) xs) i (in_distinct same xs x)
    where
      go : (b : Bool) → In x (cond b (distinct same xs) (y ∷ distinct same xs)) → (In x (distinct same xs) → In x xs) → In x (y ∷ xs)
      go true j r = inr (r j)
      go false (inl p) r = inl p
      go false (inr j) r = inr (r j)

  -- where the test gives equality
  pub distinct_in : (same : A → A → Bool) → ((x y : A) → T (same x y) → x ≡ y) → (xs : List A) (x : A) → In x xs → In x (distinct same xs)
  distinct_in same eq [] x i = i
  distinct_in same eq (y ∷ xs) x i = go (any (same y) xs) refl i (distinct_in same eq xs)
    where
      again : T (any (same y) xs) → In y xs
      again t = let r = any→in (same y) xs t in subst (λ z. In z xs) (sym (eq y r.0 r.2)) r.1

      go : (b : Bool) → any (same y) xs ≡ b → In x (y ∷ xs) → ((z : A) → In z xs → In z (distinct same xs)) →
          In x (cond b (distinct same xs) (y ∷ distinct same xs))
      go true e (inl p) r = r x (subst (λ z. In z xs) (sym p) (again (→true e)))
      go true e (inr j) r = r x j
      go false e (inl p) r = inl p
      go false e (inr j) r = inr (r x j)

module _ {A B : Type 0} where
  pub in_map : (f : A → B) (xs : List A) (y : B) → In y (map f xs) → (x : A) × In x xs × (y ≡ f x)
  in_map f [] y i = absurd i
  in_map f (x ∷ xs) y (inl p) = (x, inl refl, p)
  in_map f (x ∷ xs) y (inr i) = let r = in_map f xs y i in (r.0, inr r.1, r.2)

  pub map_in : (f : A → B) (xs : List A) (x : A) → In x xs → In (f x) (map f xs)
  map_in f [] x i = absurd i
  map_in f (y ∷ xs) x (inl p) = inl (ap f p)
  map_in f (y ∷ xs) x (inr i) = inr (map_in f xs x i)

  pub in_collect : (f : A → List B) (xs : List A) (y : B) → In y (collect f xs) → (x : A) × In x xs × In y (f x)
  in_collect f [] y i = absurd i
  in_collect f (x ∷ xs) y i = go (in_append y (f x) (collect f xs) i) (in_collect f xs y)
    where
      go : In y (f x) ⊎ In y (collect f xs) → (In y (collect f xs) → (z : A) × In z xs × In y (f z)) → (z : A) × In z (x ∷ xs) × In y (f z)
      go (inl j) r = (x, inl refl, j)
      go (inr j) r = let s = r j in (s.0, inr s.1, s.2)

  pub collect_in : (f : A → List B) (xs : List A) (y : B) (x : A) → In x xs → In y (f x) → In y (collect f xs)
  collect_in f [] y x i j = absurd i
  collect_in f (z ∷ xs) y x (inl p) j = in_left y (f z) (collect f xs) (subst (λ w. In y (f w)) p j)
  collect_in f (z ∷ xs) y x (inr i) j = in_right y (f z) (collect f xs) (collect_in f xs y x i j)

-- ---- n numbers from i on

pub in_count : (n i m : ℕ) → In m (count i n) → (i ≤ m) × (m < i + n)
in_count zero i m h = absurd h
in_count (suc n) i m (inl p) = (omega arith, omega arith)
in_count (suc n) i m (inr h) = let r = in_count n (suc i) m h in (omega arith, omega arith)

pub count_in : (n i m : ℕ) → i ≤ m → m < i + n → In m (count i n)
count_in zero i m a b = absurd (omega arith)
count_in (suc n) i m a b = go (below i m) (λ h. count_in n (suc i) m h (omega arith))
  where
    go : (i < m) ⊎ (m ≤ i) → (i < m → In m (count (suc i) n)) → In m (count i (suc n))
    go (inl h) r = inr (r h)
    go (inr h) r = inl (omega arith)

pub length-count : (n i : ℕ) → length (count i n) ≡ n
length-count zero i = refl
length-count (suc n) i = ap suc (length-count n (suc i))

pub get_count : (n i m d : ℕ) → m < n → get_or (count i n) m d ≡ i + m
get_count zero i m d h = absurd (omega arith)
get_count (suc n) i zero d h = omega arith
get_count (suc n) i (suc m) d h = omega (arith, get_count n (suc i) m d (omega arith))

pub collect_append : {A B : Type 0} (f : A → List B) (xs ys : List A) → collect f (xs ++ ys) ≡ collect f xs ++ collect f ys
collect_append f [] ys = refl
collect_append {B = B} f (x ∷ xs) ys =
    ap (λ (l : List B). f x ++ l) (collect_append f xs ys) ∙ sym (append_assoc (f x) (collect f xs) (collect f ys))
