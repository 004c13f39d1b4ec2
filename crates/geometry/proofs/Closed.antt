-- Numbers on edges that add up over the halves: what the small faces of a square carry is what its rim carries, and a cell's six sides carry
-- nothing. An edge of axis b has a level and three coordinates in b's own order. Its number is P − M, kept as two natural numbers.
use Prim.Native.Nat.{ℕ, zero, suc, ◌+◌, ◌^◌}
use native.Mathlib.Omega.{arith}
use mathlib.Core.Path.{◌≡◌, refl}
use mathlib.Core.Bool.{Bool, true, false}
use Rattle.base.specs.Grid.{Place, Axis, X, Y, Z, next}
use Rattle.geometry.proofs.Grid.{At, far, four, around, total, total_divided, total_whole, seen}
use Rattle.geometry.proofs.Square.{rim}

-- an edge of level suc k carries what its two halves carry
abbrev pub Adds : (P M : At ℕ) → ℕ → ℕ → ℕ → ℕ → Type 0
Adds P M k i j l = P (suc k) i j l + (M k i j l + M k (i + 2 ^ k) j l) ≡ M (suc k) i j l + (P k i j l + P k (i + 2 ^ k) j l)

-- the four edges of a square satisfy E
pub record Edges (E : Axis → ℕ → ℕ → ℕ → ℕ → Type 0) (a : Axis) (k n u v : ℕ) : Type 0 where
  pub bottom : E (next a) k u v n
  pub right : E (next (next a)) k v n (u + 2 ^ k)
  pub top : E (next a) k u (v + 2 ^ k) n
  pub left : E (next (next a)) k v n u

-- the four edges of a square of level suc k add up
pub record Rim (P M : Axis → At ℕ) (a : Axis) (k n u v : ℕ) : Type 0 where
  pub bottom : Adds (P (next a)) (M (next a)) k u v n
  pub right : Adds (P (next (next a))) (M (next (next a))) k v n (u + 2 ^ suc k)
  pub top : Adds (P (next a)) (M (next a)) k u (v + 2 ^ suc k) n
  pub left : Adds (P (next (next a))) (M (next (next a))) k v n u

rim_adds : (P M : Axis → At ℕ) (a : Axis) (k n u v : ℕ) → Rim P M a k n u v
    → rim P M a (suc k) n u v + four (rim M P a k n) (2 ^ k) u v ≡ rim M P a (suc k) n u v + four (rim P M a k n) (2 ^ k) u v
rim_adds P M a k n u v r =
    let right : Adds (P (next (next a))) (M (next (next a))) k v n (u + 2 ^ k + 2 ^ k) = rw (← far k u) r.right in
    let top : Adds (P (next a)) (M (next a)) k u (v + 2 ^ k + 2 ^ k) n = rw (← far k v) r.top in
    rw (far k u, far k v) (omega (arith, r.bottom, r.left))

-- four quarters, added up
four_add : (f g p q : ℕ → ℕ → ℕ) (s u v : ℕ) → ((u v : ℕ) → f u v + p u v ≡ g u v + q u v)
    → four f s u v + four p s u v ≡ four g s u v + four q s u v
four_add f g p q s u v h = omega (arith, h u v, h (u + s) v, h u (v + s), h (u + s) (v + s))

-- round a cell: each of the twelve edges is met twice, once each way
round : (P M : Axis → At ℕ) (k x y z : ℕ) → around (λ a n u v. rim P M a k (n + 2 ^ k) u v + rim M P a k n u v) x y z
    ≡ around (λ a n u v. rim M P a k (n + 2 ^ k) u v + rim P M a k n u v) x y z
round P M k x y z = omega arith

module _ (d : Axis → At Bool) (P M I O : Axis → At ℕ)
    (flat : (a : Axis) (n u v : ℕ) → d a 0 n u v ≡ false)
    (adds : (a : Axis) (k n u v : ℕ) → d a (suc k) n u v ≡ true → Rim P M a k n u v)
    (small : (a : Axis) (k n u v : ℕ) → I a k n u v + rim P M a k n u v ≡ O a k n u v + rim M P a k n u v) where
  abbrev Carries : Axis → ℕ → ℕ → ℕ → ℕ → Type 0
  Carries a k n u v = total (d a) (I a) k n u v + rim P M a k n u v ≡ total (d a) (O a) k n u v + rim M P a k n u v

  step : (a : Axis) (k n u v : ℕ) → ((u v : ℕ) → Carries a k n u v) → (b : Bool) → d a (suc k) n u v ≡ b → Carries a (suc k) n u v
  step a k n u v ih true e =
      rw (total_divided (d a) (I a) k n u v e, total_divided (d a) (O a) k n u v e)
      (omega (
        arith,
        four_add (total (d a) (I a) k n) (total (d a) (O a) k n) (rim P M a k n) (rim M P a k n) (2 ^ k) u v ih,
        rim_adds P M a k n u v (adds a k n u v e),
      ))
  step a k n u v ih false e = rw (total_whole (d a) (I a) (suc k) n u v e, total_whole (d a) (O a) (suc k) n u v e) (small a (suc k) n u v)

  -- what the small faces of a square carry is what its rim carries
  carries : (a : Axis) (k n u v : ℕ) → Carries a k n u v
  carries a zero n u v = rw (total_whole (d a) (I a) 0 n u v (flat a n u v), total_whole (d a) (O a) 0 n u v (flat a n u v)) (small a 0 n u v)
  carries a (suc k) n u v = step a k n u v (carries a k n) (d a (suc k) n u v) refl

  -- over the six sides of a cell as much enters as leaves
  pub closed : (k : ℕ) (p : Place) → seen d I O k p ≡ seen d O I k p
  unfolding seen
  closed k p =
      omega (
        arith,
        round P M k p.x p.y p.z,
        carries X k p.x p.y p.z,
        carries Y k p.y p.z p.x,
        carries Z k p.z p.x p.y,
        carries X k (p.x + 2 ^ k) p.y p.z,
        carries Y k (p.y + 2 ^ k) p.z p.x,
        carries Z k (p.z + 2 ^ k) p.x p.y,
      )
