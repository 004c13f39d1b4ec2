-- Sums over lists, and counts as sums of bits.
use Prim.Native.Nat.{ℕ, zero, suc, ◌+◌, ◌*◌, ◌≤◌, ◌<◌}
use mathlib.Core.Path.{◌≡◌, refl, sym, ap, ◌∙◌, subst}
use mathlib.Core.Logic.{◌⊎◌, inl, inr}
use mathlib.Core.Bool.{Bool, true, false, cond}
use mathlib.Core.List.{List, [], ◌∷◌, ◌++◌, map}
use native.Mathlib.Omega.{arith}
use lib.Dec.{T, eqb, eqb→eq, eqb_refl}
use lib.ListN.{length, get_or, length-append}
use Rattle.base.specs.Lists.{any, keep, distinct, collect, position, sum, count, bit}
use Rattle.base.proofs.Tests.{either, below, not_both, bit-true, bit_le}
use Rattle.base.proofs.Lists.{In, in→any, in_distinct, in_count}

module _ {A : Type 0} where
  pub sum_append : (f : A → ℕ) (xs ys : List A) → sum f (xs ++ ys) ≡ sum f xs + sum f ys
  sum_append f [] ys = omega arith
  sum_append f (x ∷ xs) ys = omega (arith, sum_append f xs ys)

  pub sum-add : (f g : A → ℕ) (xs : List A) → sum (λ x. f x + g x) xs ≡ sum f xs + sum g xs
  sum-add f g [] = refl
  sum-add f g (x ∷ xs) = omega (arith, sum-add f g xs)

  pub sum_times : (f : A → ℕ) (k : ℕ) (xs : List A) → sum (λ x. f x * k) xs ≡ sum f xs * k
  sum_times f k [] = omega arith
  sum_times f k (x ∷ xs) = omega (arith, sum_times f k xs)

  pub sum-zero : (xs : List A) → sum (λ x. 0) xs ≡ 0
  sum-zero [] = refl
  sum-zero (x ∷ xs) = omega (arith, sum-zero xs)

  pub sum_one : (xs : List A) → sum (λ x. 1) xs ≡ length xs
  sum_one [] = refl
  sum_one (x ∷ xs) = omega (arith, sum_one xs)

  pub sum_same : (f g : A → ℕ) (xs : List A) → ((x : A) → In x xs → f x ≡ g x) → sum f xs ≡ sum g xs
  sum_same f g [] h = refl
  sum_same f g (x ∷ xs) h = omega (arith, h x (inl refl), sum_same f g xs (λ y i. h y (inr i)))

  pub sum-le : (f g : A → ℕ) (xs : List A) → ((x : A) → In x xs → f x ≤ g x) → sum f xs ≤ sum g xs
  sum-le f g [] h = omega arith
  sum-le f g (x ∷ xs) h = omega (arith, h x (inl refl), sum-le f g xs (λ y i. h y (inr i)))

  -- an element's share is no more than the sum
  pub in_sum : (f : A → ℕ) (xs : List A) (x : A) → In x xs → f x ≤ sum f xs
  in_sum f [] x i = absurd i
  in_sum f (y ∷ xs) x (inl p) = let e = ap f p in omega arith
  in_sum f (y ∷ xs) x (inr i) = omega (arith, in_sum f xs x i)

  pub two_in_sum : (f : A → ℕ) (xs : List A) (x y : A) → In x xs → In y xs → (x ≡ y → ⊥) → f x + f y ≤ sum f xs
  two_in_sum f [] x y i j ne = absurd i
  two_in_sum f (z ∷ xs) x y (inl p) (inl q) ne = absurd (ne (p ∙ sym q))
  two_in_sum f (z ∷ xs) x y (inl p) (inr j) ne = let e = ap f p in omega (arith, in_sum f xs y j)
  two_in_sum f (z ∷ xs) x y (inr i) (inl q) ne = let e = ap f q in omega (arith, in_sum f xs x i)
  two_in_sum f (z ∷ xs) x y (inr i) (inr j) ne = omega (arith, two_in_sum f xs x y i j ne)

  pub sum-keep : (f : A → ℕ) (c : A → Bool) (xs : List A) → sum f (keep c xs) ≡ sum (λ x. cond (c x) (f x) 0) xs
  sum-keep f c [] = refl
  sum-keep f c (x ∷ xs) = go (c x) (sum-keep f c xs)
    where
      go : (b : Bool) → sum f (keep c xs) ≡ sum (λ x. cond (c x) (f x) 0) xs →
          sum f (cond b (x ∷ keep c xs) (keep c xs)) ≡ cond b (f x) 0 + sum (λ x. cond (c x) (f x) 0) xs
      go true ih = omega arith
      go false ih = omega arith

  pub sum-keep-le : (f : A → ℕ) (c : A → Bool) (xs : List A) → sum f (keep c xs) ≤ sum f xs
  sum-keep-le f c [] = omega arith
  sum-keep-le f c (x ∷ xs) = go (c x) (sum-keep-le f c xs)
    where
      go : (b : Bool) → sum f (keep c xs) ≤ sum f xs → sum f (cond b (x ∷ keep c xs) (keep c xs)) ≤ f x + sum f xs
      go true ih = omega arith
      go false ih = omega arith

  -- how many elements pass a test
  pub length-keep : (c : A → Bool) (xs : List A) → length (keep c xs) ≡ sum (λ x. bit (c x)) xs
  length-keep c [] = refl
  length-keep c (x ∷ xs) = go (c x) (length-keep c xs)
    where
      go : (b : Bool) → length (keep c xs) ≡ sum (λ x. bit (c x)) xs → length (cond b (x ∷ keep c xs) (keep c xs)) ≡ bit b + sum (λ x. bit (c x)) xs
      go true ih = omega arith
      go false ih = omega arith

module _ {A B : Type 0} where
  pub sum-map : (f : B → ℕ) (g : A → B) (xs : List A) → sum f (map g xs) ≡ sum (λ x. f (g x)) xs
  sum-map f g [] = refl
  sum-map f g (x ∷ xs) = omega (arith, sum-map f g xs)

  pub sum-collect : (f : B → ℕ) (g : A → List B) (xs : List A) → sum f (collect g xs) ≡ sum (λ x. sum f (g x)) xs
  sum-collect f g [] = refl
  sum-collect f g (x ∷ xs) = omega (arith, sum_append f (g x) (collect g xs), sum-collect f g xs)

  -- the lengths of the lists, added up
  pub length-collect : (g : A → List B) (xs : List A) → length (collect g xs) ≡ sum (λ x. length (g x)) xs
  length-collect g [] = refl
  length-collect g (x ∷ xs) = omega (arith, length-append (g x) (collect g xs), length-collect g xs)

  -- the order of two sums does not matter
  pub sum_swap : (f : A → B → ℕ) (xs : List A) (ys : List B) → sum (λ x. sum (f x) ys) xs ≡ sum (λ y. sum (λ x. f x y) xs) ys
  sum_swap f [] ys = sym (sum-zero ys)
  sum_swap f (x ∷ xs) ys = ap (λ n. sum (f x) ys + n) (sum_swap f xs ys) ∙ sym (sum-add (f x) (λ y. sum (λ z. f z y) xs) ys)

-- ---- how often an element stands in a list, by a test that is equality

module _ {A : Type 0} (same : A → A → Bool) where
  abbrev pub times : A → List A → ℕ
  times x ys = sum (λ y. bit (same x y)) ys

module _ {A : Type 0} (same : A → A → Bool) (reflexive : (x : A) → T (same x x)) where
  -- the position of an element that stands once
  pub position-once : (d : A) (xs : List A) (n i : ℕ) → n < length xs → times same (get_or xs n d) xs ≤ 1 → position (same (get_or xs n d)) i xs ≡ i + n
  position-once d xs n i h one = go xs n i h refl one
    where
      x : A
      x = get_or xs n d

      got : (ys : List A) (m : ℕ) → m < length ys → x ≡ get_or ys m d → 1 ≤ times same x ys
      got [] m h p = absurd (omega arith)
      got (y ∷ ys) zero h p = let t = bit-true (same x y) (subst (λ z. T (same x z)) p (reflexive x)) in omega arith
      got (y ∷ ys) (suc m) h p = let t = got ys m (omega arith) p in omega arith

      go : (ys : List A) (m i : ℕ) → m < length ys → x ≡ get_or ys m d → times same x ys ≤ 1 → position (same x) i ys ≡ i + m
      go [] m i h p one = absurd (omega arith)
      go (y ∷ ys) zero i h p one = here (same x y) (subst (λ z. T (same x z)) p (reflexive x))
        where
          here : (b : Bool) → T b → cond b i (position (same x) (suc i) ys) ≡ i + zero
          here true t = omega arith
          here false t = absurd t
      go (y ∷ ys) (suc m) i h p one = later (same x y) one (go ys m (suc i) (omega arith) p) (got ys m (omega arith) p)
        where
          later : (b : Bool) → bit b + times same x ys ≤ 1 → (times same x ys ≤ 1 → position (same x) (suc i) ys ≡ suc i + m) →
              1 ≤ times same x ys → cond b i (position (same x) (suc i) ys) ≡ i + suc m
          later true o r s = absurd (omega arith)
          later false o r s = let q = r (omega arith) in omega arith

  -- a list whose elements stand once each is no longer than one that has them all
  pub length-le : (xs ys : List A) → ((x : A) → In x xs → In x ys) → ((y : A) → times same y xs ≤ 1) → length xs ≤ length ys
  length-le xs ys has once =
      let a = sum-le (λ x. 1) (λ x. sum (λ y. bit (same y x)) ys) xs (λ x i.
      omega (arith, in_sum (λ y. bit (same y x)) ys x (has x i), bit-true (same x x) (reflexive x))) in
      let b = sum_swap (λ x y. bit (same y x)) xs ys in
      let c = sum-le (λ y. times same y xs) (λ y. 1) ys (λ y i. once y) in
      omega (arith, sum_one xs, sum_one ys)

module _ {A : Type 0} (same : A → A → Bool) (equal : (x y : A) → T (same x y) → x ≡ y) where
  pub times_none : (x : A) (ys : List A) → (In x ys → ⊥) → times same x ys ≡ 0
  times_none x [] h = refl
  times_none x (y ∷ ys) h =
      let z = bit_le (same x y) false (λ t. absurd (h (inl (equal x y t)))) in
      omega (arith, times_none x ys (λ i. h (inr i)))

  pub times_in : (x : A) (ys : List A) → 1 ≤ times same x ys → In x ys
  times_in x [] h = absurd (omega arith)
  times_in x (y ∷ ys) h = go (either (same x y)) (times_in x ys)
    where
      go : T (same x y) ⊎ (same x y ≡ false) → (1 ≤ times same x ys → In x ys) → In x (y ∷ ys)
      go (inl t) r = inl (equal x y t)
      go (inr e) r = inr (r (let z = ap bit e in omega arith))

module _ {A : Type 0} (same : A → A → Bool) (reflexive : (x : A) → T (same x x)) (equal : (x y : A) → T (same x y) → x ≡ y) where
  -- one more element, which was not there
  pub once_more : (x y : A) (ys : List A) → (In y ys → ⊥) → times same x ys ≤ 1 → times same x (y ∷ ys) ≤ 1
  once_more x y ys new one = go (either (same x y))
    where
      go : T (same x y) ⊎ (same x y ≡ false) → bit (same x y) + times same x ys ≤ 1
      go (inl t) =
          let z = times_none same equal x ys (λ i. new (subst (λ w. In w ys) (equal x y t) i)) in
          omega (arith, bit_le (same x y) true (λ u. tt))
      go (inr e) = let z = ap bit e in omega arith

  -- each element of `distinct` stands once
  pub distinct-once : (x : A) (xs : List A) → times same x (distinct same xs) ≤ 1
  distinct-once x [] = omega arith
  distinct-once x (y ∷ xs) = go (any (same y) xs) refl (distinct-once x xs)
    where
      go : (b : Bool) → any (same y) xs ≡ b → times same x (distinct same xs) ≤ 1 → times same x (cond b (distinct same xs) (y ∷ distinct same xs)) ≤ 1
      go true e ih = ih
      go false e ih = once_more x y (distinct same xs) (λ i. not_both (in→any (same y) xs y (in_distinct same xs y i) (reflexive y)) e) ih

-- ---- lists made from lists, whose elements show what they were made from

module _ {A B : Type 0} (sameA : A → A → Bool) (sameB : B → B → Bool) (equal : (x y : B) → T (sameB x y) → x ≡ y) where
  pub collect-once : (f : A → List B) (y : B) (key : A) (xs : List A) → ((x : A) → In y (f x) → T (sameA key x)) →
      ((x : A) → times sameB y (f x) ≤ 1) → times sameA key xs ≤ 1 → times sameB y (collect f xs) ≤ 1
  collect-once f y key xs shows each once =
      let a = sum-collect (λ z. bit (sameB y z)) f xs in
      let b = sum-le (λ x. times sameB y (f x)) (λ x. bit (sameA key x)) xs (λ x i. go x (below 0 (times sameB y (f x)))) in
      omega arith
    where
      go : (x : A) → (0 < times sameB y (f x)) ⊎ (times sameB y (f x) ≤ 0) → times sameB y (f x) ≤ bit (sameA key x)
      go x (inl h) = omega (arith, each x, bit-true (sameA key x) (shows x (times_in sameB equal y (f x) h)))
      go x (inr h) = omega arith

  pub map-once : (f : A → B) (y : B) (key : A) (xs : List A) → ((x : A) → y ≡ f x → T (sameA key x)) → times sameA key xs ≤ 1 → times sameB y (map f xs) ≤ 1
  map-once f y key xs shows once =
      let a = sum-map (λ z. bit (sameB y z)) f xs in
      let b = sum-le (λ x. bit (sameB y (f x))) (λ x. bit (sameA key x)) xs (λ x i. bit_le (sameB y (f x)) (sameA key x) (λ t. shows x (equal y (f x) t))) in
      omega arith

-- each of some numbers in a row stands once
pub count-once : (n i m : ℕ) → times eqb m (count i n) ≤ 1
count-once zero i m = omega arith
count-once (suc n) i m =
    once_more eqb eqb_refl eqb→eq m i (count (suc i) n) (λ h. let r = in_count n (suc i) i h in omega arith) (count-once n (suc i) m)
