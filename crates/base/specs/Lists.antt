-- Tests and choices over lists, for the definitions above. A recursive call that a test may leave out stands in a `let`, which antt
-- computes only if it is asked for.
-- Assumes nothing.
use Rattle.std.specs.Prelude.{ℕ, zero, suc, ◌+◌, ◌*◌, Bool, true, false, ◌&&◌, ◌||◌, cond, List, [], ◌∷◌, ◌++◌, eqb, take, drop}

module _ {A : Type 0} where
  -- some element passes the test
  abbrev pub any : (A → Bool) → List A → Bool
  any f [] = false
  any f (x ∷ xs) = let r = any f xs in f x || r

  -- every element passes the test
  abbrev pub all : (A → Bool) → List A → Bool
  all f [] = true
  all f (x ∷ xs) = let r = all f xs in f x && r

  -- the elements that pass the test, in their order
  abbrev pub keep : (A → Bool) → List A → List A
  keep f [] = []
  keep f (x ∷ xs) = let r = keep f xs in cond (f x) (x ∷ r) r

  -- the first element that passes the test, or d
  abbrev pub first : (A → Bool) → A → List A → A
  first f d [] = d
  first f d (x ∷ xs) = let r = first f d xs in cond (f x) x r

  -- the position of the first element that passes the test, where the list starts at position i
  abbrev pub position : (A → Bool) → ℕ → List A → ℕ
  position f i [] = i
  position f i (x ∷ xs) = let r = position f (suc i) xs in cond (f x) i r

  -- the elements, of each group of the same ones the last
  abbrev pub distinct : (A → A → Bool) → List A → List A
  distinct same [] = []
  distinct same (x ∷ xs) = let r = distinct same xs in cond (any (same x) xs) r (x ∷ r)

  -- the sum of f over a list
  abbrev pub sum : (A → ℕ) → List A → ℕ
  sum f [] = 0
  sum f (x ∷ xs) = f x + sum f xs

module _ {A B : Type 0} where
  -- the lists of all elements, one after the other
  abbrev pub collect : (A → List B) → List A → List B
  collect f [] = []
  collect f (x ∷ xs) = f x ++ collect f xs

-- n numbers from i on
abbrev pub count : ℕ → ℕ → List ℕ
count i zero = []
count i (suc n) = i ∷ count (suc i) n

-- 1 if a test passes, else 0
abbrev pub bit : Bool → ℕ
bit true = 1
bit false = 0

-- how often x stands in a list
abbrev pub often : ℕ → List ℕ → ℕ
often x l = sum (λ y. bit (eqb x y)) l

-- a little-endian number
abbrev pub little : List ℕ → ℕ
little [] = 0
little (b ∷ bs) = b + 256 * little bs

-- n bytes of a table, from byte i on
abbrev pub bytes : List ℕ → ℕ → ℕ → List ℕ
bytes t i n = take n (drop i t)
