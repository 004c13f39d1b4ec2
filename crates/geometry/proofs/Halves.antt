-- Halves of edges, by place: which half of the edge above an edge is, and where that edge begins.
use Prim.Native.Nat.{ℕ, zero, suc, ◌+◌, ◌-◌, ◌*◌, ◌/◌, ◌%◌, ◌^◌, ◌≤◌}
use native.Mathlib.Nat.{pow-suc}
use native.Mathlib.Omega.{arith}
use lib.Pow.{split, shl-shr}
use mathlib.Core.Path.{◌≡◌, refl, ◌∙◌, ap}
use mathlib.Core.Bool.{Bool, true, false, not, cond}
use lib.Dec.{eqb, eqb→eq}
use Rattle.base.specs.Lists.{bit}
use Rattle.base.specs.Grid.{Place, Axis, X, Y, Z, along, move, back}
use Rattle.rules.specs.Steps.{is_upper, above, other}
use Rattle.base.proofs.Tests.{→true}
use Rattle.base.proofs.Places.{along-put, back-move}
use Rattle.octree.proofs.Aligned.{Multiple}
use Rattle.geometry.proofs.Grid.{half}

-- ---- on one axis

-- the interval of level k at x is the upper half of the one above
abbrev is_high : ℕ → ℕ → Bool
is_high k x = eqb (x / 2 ^ k % 2) 1

high_bit : (n : ℕ) (b : Bool) → n ≡ bit b → eqb n 1 ≡ b
high_bit n true p = rw p
high_bit n false p = rw p

half_bits : (k j : ℕ) (b : Bool) → half b k (j * 2 ^ suc k) ≡ (2 * j + bit b) * 2 ^ k
half_bits k j true = rw (pow-suc 2 k) (omega arith)
half_bits k j false = rw (pow-suc 2 k) (omega arith)

odd-bit : (j : ℕ) (b : Bool) → (2 * j + bit b) % 2 ≡ bit b
odd-bit j true = omega arith
odd-bit j false = omega arith

high_half : (k x : ℕ) → Multiple (suc k) x → (b : Bool) → is_high k (half b k x) ≡ b
high_half k x (j, e) b =
    ap (λ y. is_high k (half b k y)) e ∙ rw (half_bits k j b, shl-shr (2 * j + bit b) k) (high_bit ((2 * j + bit b) % 2) b (odd-bit j b))

high-above : (k x : ℕ) → is_high k x ≡ true → 2 ^ k ≤ x
high-above k x h = go (x / 2 ^ k) (eqb→eq (x / 2 ^ k % 2) 1 (→true h)) (split x k)
  where
    go : (q : ℕ) → q % 2 ≡ 1 → q * 2 ^ k + x % 2 ^ k ≡ x → 2 ^ k ≤ x
    go zero e p = absurd (omega arith)
    go (suc q) e p = omega arith

-- ---- by place

module _ (a : Axis) where
  abbrev pub half_of : ℕ → Bool → Place → Place
  half_of k false p = p
  half_of k true p = move a (2 ^ k) p

  along_half : (k : ℕ) (b : Bool) (p : Place) → along a (half_of k b p) ≡ half b k (along a p)
  along_half k false p = refl
  along_half k true p = along-put a (along a p + 2 ^ k) p

  upper_half : (k : ℕ) (b : Bool) (p : Place) → Multiple (suc k) (along a p) → is_upper a (half_of k b p) k ≡ b
  upper_half k b p h = ap (is_high k) (along_half k b p) ∙ high_half k (along a p) h b

move-back : (a : Axis) (s : ℕ) (p : Place) → s ≤ along a p → move a s (back a s p) ≡ p
move-back X s p h = λ i. record { x = (let e : p.x - s + s ≡ p.x = omega arith in e) i; y = p.y; z = p.z }
move-back Y s p h = λ i. record { x = p.x; y = (let e : p.y - s + s ≡ p.y = omega arith in e) i; z = p.z }
move-back Z s p h = λ i. record { x = p.x; y = p.y; z = (let e : p.z - s + s ≡ p.z = omega arith in e) i }

module _ (a : Axis) where
  -- the edge above a half, and the other half of it
  pub above_half : (k : ℕ) (b : Bool) (p : Place) → Multiple (suc k) (along a p) → above a (half_of a k b p) k ≡ p
  above_half k false p h = ap (λ t. cond t (back a (2 ^ k) p) p) (upper_half a k false p h)
  above_half k true p h =
      ap (λ t. cond t (back a (2 ^ k) (move a (2 ^ k) p)) (move a (2 ^ k) p)) (upper_half a k true p h) ∙ back-move a (2 ^ k) p

  pub other_half : (k : ℕ) (b : Bool) (p : Place) → Multiple (suc k) (along a p) → other a (half_of a k b p) k ≡ half_of a k (not b) p
  other_half k false p h = ap (λ t. cond t (back a (2 ^ k) p) (move a (2 ^ k) p)) (upper_half a k false p h)
  other_half k true p h =
      ap (λ t. cond t (back a (2 ^ k) (move a (2 ^ k) p)) (move a (2 ^ k) (move a (2 ^ k) p))) (upper_half a k true p h) ∙ back-move a (2 ^ k) p

  -- an edge is the half of the edge above that `is_upper` names
  pub half_above : (k : ℕ) (p : Place) → half_of a k (is_upper a p k) (above a p k) ≡ p
  half_above k p = go (is_upper a p k) refl
    where
      go : (b : Bool) → is_upper a p k ≡ b → half_of a k (is_upper a p k) (above a p k) ≡ p
      go true e = rw e (move-back a (2 ^ k) p (high-above k (along a p) e))
      go false e = rw e

  pub other-above : (k : ℕ) (p : Place) → other a p k ≡ half_of a k (not (is_upper a p k)) (above a p k)
  other-above k p = go (is_upper a p k) refl
    where
      go : (b : Bool) → is_upper a p k ≡ b → other a p k ≡ half_of a k (not (is_upper a p k)) (above a p k)
      go true e = rw e
      go false e = rw e
