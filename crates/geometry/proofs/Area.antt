-- The small faces of a square do not overlap: exactly one of them holds a given unit square of it, and none holds one outside.
use Prim.Native.Nat.{ℕ, zero, suc, ◌+◌, ◌*◌, ◌-◌, ◌^◌, ◌≤◌, ◌<◌, min}
use native.Mathlib.Nat.{add_assoc, two-pow-succ}
use native.Mathlib.Decide.{dec_lt}
use native.Mathlib.Omega.{arith}
use mathlib.Core.Path.{◌≡◌, refl, ◌∙◌, ap}
use mathlib.Core.Logic.{◌≢◌}
use mathlib.Core.Bool.{Bool, true, false}
use Rattle.geometry.proofs.Grid.{At, half, four, total, total_divided, total_whole}

-- ---- a number in an interval

-- 1 if a is below b, else 0
unfoldable pub less : ℕ → ℕ → ℕ
less a b = min 1 (b - a)

less_mono : (a b c : ℕ) → b ≤ c → less a b ≤ less a c
unfolding less
less_mono a b c h = omega arith

less_one : (a b : ℕ) → less a b ≤ 1
unfolding less
less_one a b = omega arith

-- 1 if a is one of the s numbers from u on, else 0
unfoldable pub within : ℕ → ℕ → ℕ → ℕ
within a u s = less a (u + s) - less a u

pub within_in : (a u s : ℕ) → u ≤ a → a < u + s → within a u s ≡ 1
unfolding within less
within_in a u s h h' = omega arith

pub within_below : (a u s : ℕ) → a < u → within a u s ≡ 0
unfolding within less
within_below a u s h = omega arith

pub within-above : (a u s : ℕ) → u + s ≤ a → within a u s ≡ 0
unfolding within less
within-above a u s h = omega arith

pub within-one : (a u s : ℕ) → within a u s ≤ 1
unfolding within
within-one a u s = omega (arith, less_one a (u + s))

pub within_off : (a n : ℕ) → a ≢ n → within a n 1 ≡ 0
within_off a n h = go (dec_lt a n)
  where
    go : Dec (a < n) → within a n 1 ≡ 0
    go (yes b) = within_below a n 1 b
    go (no b) = within-above a n 1 (omega arith)

-- where it is not 0
pub within→ : (a u s : ℕ) → 1 ≤ within a u s → (u ≤ a) × (a < u + s)
unfolding within less
within→ a u s h = (omega arith, omega arith)

-- an interval within another
pub within-sub : (a u s u' s' : ℕ) → u' ≤ u → u + s ≤ u' + s' → within a u s ≤ within a u' s'
unfolding within
within-sub a u s u' s' h h' = omega (arith, less_mono a u' u h, less_mono a (u + s) (u' + s') h')

-- a function of intervals that adds up over the halves
abbrev pub Additive : (ℕ → ℕ → ℕ) → Type 0
Additive f = (u s : ℕ) → f u (s + s) ≡ f u s + f (u + s) s

pub within_adds : (a : ℕ) → Additive (within a)
unfolding within
within_adds a u s = rw (← add_assoc u s s) (omega (arith, less_mono a u (u + s) (omega arith), less_mono a (u + s) (u + s + s) (omega arith)))

-- the same one further up, for the unit square that ends at a, where `within` is for the one that begins there
unfoldable pub within⁺ : ℕ → ℕ → ℕ → ℕ
within⁺ a u s = within a (suc u) s

within⁺_adds : (a : ℕ) → Additive (within⁺ a)
unfolding within⁺
within⁺_adds a u s = within_adds a (suc u) s ∙ ap (λ m. within a (suc u) s + within a m s) (omega arith)

-- the unit square that ends at a, or the one that begins there
abbrev pub side : Bool → ℕ → ℕ → ℕ → ℕ
side true = within⁺
side false = within

-- both lie in the interval with its end
pub side_sub : (e : Bool) (a u s : ℕ) → side e a u s ≤ within a u (suc s)
unfolding within⁺
side_sub true a u s = within-sub a (suc u) s u (suc s) (omega arith) (omega arith)
side_sub false a u s = within-sub a u s u (suc s) (omega arith) (omega arith)

pub side_adds : (e : Bool) (a : ℕ) → Additive (side e a)
side_adds true = within⁺_adds
side_adds false = within_adds

-- two intervals that lie apart
pub apart : (a u s u' s' : ℕ) → u + s ≤ u' → within a u s + within a u' s' ≤ 1
unfolding within
apart a u s u' s' h = omega (arith, less_mono a u (u + s) (omega arith), less_mono a (u + s) u' h, less_mono a u' (u' + s') (omega arith), less_one a (u' + s'))

-- ---- weights of squares

-- by the plane, and by each of the two directions, along which they add up
pub record Area : Type 0 where
  pub plane : ℕ → ℕ
  pub first : ℕ → ℕ → ℕ
  pub second : ℕ → ℕ → ℕ
  pub first_adds : Additive first
  pub second_adds : Additive second

unfoldable pub area : Area → At ℕ
area w k n u v = w.plane n * (w.first u (2 ^ k) * w.second v (2 ^ k))

area_adds : (w : Area) (k n u v : ℕ) → four (area w k n) (2 ^ k) u v ≡ area w (suc k) n u v
unfolding area
area_adds w k n u v = rw (two-pow-succ k, w.first_adds u (2 ^ k), w.second_adds v (2 ^ k)) (omega arith)

-- the sum of such a weight over a square's small faces is the square's own weight
total_area : (d : At Bool) (w : Area) (k n u v : ℕ) → total d (area w) k n u v ≡ area w k n u v
unfolding total
total_area d w zero n u v = refl
total_area d w (suc k) n u v = go (d (suc k) n u v) refl (total_area d w k n)
  where
    go : (b : Bool) → d (suc k) n u v ≡ b → ((u v : ℕ) → total d (area w) k n u v ≡ area w k n u v) → total d (area w) (suc k) n u v ≡ area w (suc k) n u v
    go true e ih =
        omega (arith, total_divided d (area w) k n u v e, ih u v, ih (u + 2 ^ k) v, ih u (v + 2 ^ k), ih (u + 2 ^ k) (v + 2 ^ k), area_adds w k n u v)
    go false e ih = total_whole d (area w) (suc k) n u v e

pub total_none : (d : At Bool) (k n u v : ℕ) → total d (λ k n u v. 0) k n u v ≡ 0
unfolding total
total_none d zero n u v = refl
total_none d (suc k) n u v = go (d (suc k) n u v) refl (total_none d k n)
  where
    go : (b : Bool) → d (suc k) n u v ≡ b → ((u v : ℕ) → total d (λ k n u v. 0) k n u v ≡ 0) → total d (λ k n u v. 0) (suc k) n u v ≡ 0
    go true e ih = total_divided d (λ k n u v. 0) k n u v e ∙ omega (arith, ih u v, ih (u + 2 ^ k) v, ih u (v + 2 ^ k), ih (u + 2 ^ k) (v + 2 ^ k))
    go false e ih = total_whole d (λ k n u v. 0) (suc k) n u v e

-- a property of squares that goes over from a divided square to its quarters
abbrev pub Kept : At Bool → (ℕ → ℕ → ℕ → ℕ → Type 0) → Type 0
Kept d Q = (k n u v : ℕ) → Q (suc k) n u v → d (suc k) n u v ≡ true → (q r : Bool) → Q k n (half q k u) (half r k v)

-- squares for which Q holds, as that they are sides of cells
module _ (d : At Bool) (Q : ℕ → ℕ → ℕ → ℕ → Type 0) (keep : Kept d Q) where
  -- what is no more on every small face is no more on the square
  pub total_le : (s t : At ℕ) → ((k n u v : ℕ) → Q k n u v → s k n u v ≤ t k n u v) → (k n u v : ℕ) → Q k n u v → total d s k n u v ≤ total d t k n u v
  unfolding total
  total_le s t h zero n u v c = h 0 n u v c
  total_le s t h (suc k) n u v c = go (d (suc k) n u v) refl (λ u v c. total_le s t h k n u v c)
    where
      go : (b : Bool) → d (suc k) n u v ≡ b → ((u v : ℕ) → Q k n u v → total d s k n u v ≤ total d t k n u v)
          → total d s (suc k) n u v ≤ total d t (suc k) n u v
      go true e ih =
          let part = keep k n u v c e in
          omega (
            arith,
            total_divided d s k n u v e,
            total_divided d t k n u v e,
            ih u v (part false false),
            ih (u + 2 ^ k) v (part true false),
            ih u (v + 2 ^ k) (part false true),
            ih (u + 2 ^ k) (v + 2 ^ k) (part true true),
          )
      go false e ih = rw (total_whole d s (suc k) n u v e, total_whole d t (suc k) n u v e) (h (suc k) n u v c)

  -- what is drawn only in the small face that holds a certain unit square: at most once, and not where the unit square lies elsewhere
  pub at_most : (s : At ℕ) (w : Area) → ((k n u v : ℕ) → Q k n u v → s k n u v ≤ area w k n u v)
      → (k n u v : ℕ) → Q k n u v → total d s k n u v ≤ area w k n u v
  at_most s w h k n u v q = rw (total_area d w k n u v) at (total_le s (area w) h k n u v q)
