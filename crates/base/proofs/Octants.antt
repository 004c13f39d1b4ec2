-- The eight corners of a cube, which are the lowest corners of the eight halves of the cube of twice the size; and the places in a cube.
use Prim.Native.Nat.{ℕ, zero, suc, ◌+◌, ◌*◌, ◌/◌, ◌%◌, ◌≤◌, ◌<◌}
use mathlib.Core.Path.{◌≡◌, refl, sym, subst}
use mathlib.Core.Logic.{◌⊎◌, inl, inr}
use mathlib.Core.Bool.{Bool, true, false, ◌&&◌}
use native.Mathlib.Omega.{arith}
use lib.Dec.{T, leb, ltb, leb→le, le→leb, ltb→lt, lt→ltb}
use lib.ListN.{get_or}
use Rattle.base.specs.Lists.{sum, bit}
use Rattle.base.specs.Grid.{Place, Axis, X, Y, Z, along, octants}
use Rattle.base.proofs.Tests.{and→, →and, below, bit-true, bit_le}
use Rattle.base.proofs.Lists.{In}
use Rattle.base.proofs.Places.{every_axis, place_equal}

-- q is a corner of the cube of size s at p
abbrev pub Octant : ℕ → Place → Place → Type 0
Octant s p q = (a : Axis) → (along a q ≡ along a p) ⊎ (along a q ≡ along a p + s)

pub octant→ : (s : ℕ) (p q : Place) → In q (octants s p) → Octant s p q
octant→ s p q i = go i
  where
    at : {r : Place} → q ≡ r → (r.x ≡ p.x) ⊎ (r.x ≡ p.x + s) → (r.y ≡ p.y) ⊎ (r.y ≡ p.y + s) → (r.z ≡ p.z) ⊎ (r.z ≡ p.z + s) → Octant s p q
    at {r} e u v w =
        subst (Octant s p) (sym e) (every_axis (λ a. (along a r ≡ along a p) ⊎ (along a r ≡ along a p + s)) X u v w)

    go : In q (octants s p) → Octant s p q
    go (inl e) = at e (inl refl) (inl refl) (inl refl)
    go (inr (inl e)) = at e (inr refl) (inl refl) (inl refl)
    go (inr (inr (inl e))) = at e (inl refl) (inr refl) (inl refl)
    go (inr (inr (inr (inl e)))) = at e (inr refl) (inr refl) (inl refl)
    go (inr (inr (inr (inr (inl e))))) = at e (inl refl) (inl refl) (inr refl)
    go (inr (inr (inr (inr (inr (inl e)))))) = at e (inr refl) (inl refl) (inr refl)
    go (inr (inr (inr (inr (inr (inr (inl e))))))) = at e (inl refl) (inr refl) (inr refl)
    go (inr (inr (inr (inr (inr (inr (inr (inl e)))))))) = at e (inr refl) (inr refl) (inr refl)
    go (inr (inr (inr (inr (inr (inr (inr (inr e)))))))) = absurd e

pub →octant : (s : ℕ) (p q : Place) → Octant s p q → In q (octants s p)
→octant s p q f = go (f X) (f Y) (f Z)
  where
    at : {r : Place} → q.x ≡ r.x → q.y ≡ r.y → q.z ≡ r.z → q ≡ r
    at {r} u v w = place_equal q r (every_axis (λ a. along a q ≡ along a r) X u v w)

    go : (q.x ≡ p.x) ⊎ (q.x ≡ p.x + s) → (q.y ≡ p.y) ⊎ (q.y ≡ p.y + s) → (q.z ≡ p.z) ⊎ (q.z ≡ p.z + s) → In q (octants s p)
    go (inl x) (inl y) (inl z) = inl (at x y z)
    go (inr x) (inl y) (inl z) = inr (inl (at x y z))
    go (inl x) (inr y) (inl z) = inr (inr (inl (at x y z)))
    go (inr x) (inr y) (inl z) = inr (inr (inr (inl (at x y z))))
    go (inl x) (inl y) (inr z) = inr (inr (inr (inr (inl (at x y z)))))
    go (inr x) (inl y) (inr z) = inr (inr (inr (inr (inr (inl (at x y z))))))
    go (inl x) (inr y) (inr z) = inr (inr (inr (inr (inr (inr (inl (at x y z)))))))
    go (inr x) (inr y) (inr z) = inr (inr (inr (inr (inr (inr (inr (inl (at x y z))))))))

-- the corner with a number from 0 to 7, by the bits of the number
pub octant_at : (s : ℕ) (p : Place) (i : ℕ) → i < 8 → (d : Place) →
    get_or (octants s p) i d ≡ record { x = p.x + s * (i % 2); y = p.y + s * (i / 2 % 2); z = p.z + s * (i / 4 % 2) }
octant_at s p i h d = go i h
  where
    place : ℕ → Place
    place i = record { x = p.x + s * (i % 2); y = p.y + s * (i / 2 % 2); z = p.z + s * (i / 4 % 2) }

    at : (q : Place) (i : ℕ) → q.x ≡ p.x + s * (i % 2) → q.y ≡ p.y + s * (i / 2 % 2) → q.z ≡ p.z + s * (i / 4 % 2) → q ≡ place i
    at q i u v w = place_equal q (place i) (every_axis (λ a. along a q ≡ along a (place i)) X u v w)

    go : (i : ℕ) → i < 8 → get_or (octants s p) i d ≡ place i
    go zero h = at (get_or (octants s p) 0 d) 0 (omega arith) (omega arith) (omega arith)
    go (suc zero) h = at (get_or (octants s p) 1 d) 1 (omega arith) (omega arith) (omega arith)
    go (suc (suc zero)) h = at (get_or (octants s p) 2 d) 2 (omega arith) (omega arith) (omega arith)
    go (suc (suc (suc zero))) h = at (get_or (octants s p) 3 d) 3 (omega arith) (omega arith) (omega arith)
    go (suc (suc (suc (suc zero)))) h = at (get_or (octants s p) 4 d) 4 (omega arith) (omega arith) (omega arith)
    go (suc (suc (suc (suc (suc zero))))) h = at (get_or (octants s p) 5 d) 5 (omega arith) (omega arith) (omega arith)
    go (suc (suc (suc (suc (suc (suc zero)))))) h = at (get_or (octants s p) 6 d) 6 (omega arith) (omega arith) (omega arith)
    go (suc (suc (suc (suc (suc (suc (suc zero))))))) h = at (get_or (octants s p) 7 d) 7 (omega arith) (omega arith) (omega arith)
    go (suc (suc (suc (suc (suc (suc (suc (suc n)))))))) h = absurd (omega arith)

-- ---- how many of a cube's eight halves hold a place

abbrev pub within : ℕ → ℕ → ℕ → Bool
within t v s = leb v t && ltb t (v + s)

-- 1 if q is in the cube of size s at p, its upper sides left out; else 0
unfoldable pub holds : ℕ → Place → Place → ℕ
holds s p q = bit (within q.x p.x s) * (bit (within q.y p.y s) * bit (within q.z p.z s))

within-yes : (t v s : ℕ) → v ≤ t → t < v + s → bit (within t v s) ≡ 1
within-yes t v s a b = bit-true (within t v s) (→and (leb v t) (ltb t (v + s)) (le→leb v t a) (lt→ltb t (v + s) b))

within_no : (t v s : ℕ) → (v ≤ t → t < v + s → ⊥) → bit (within t v s) ≡ 0
within_no t v s f =
    let h = bit_le (within t v s) false (λ w. let u = and→ (leb v t) (ltb t (v + s)) w in absurd (f (leb→le v t u.0) (ltb→lt t (v + s) u.1))) in
    omega arith

-- a number in an interval is in one of its halves
halved : (t v s : ℕ) → bit (within t v s) + bit (within t (v + s) s) ≡ bit (within t v (s + s))
halved t v s = go (below t v) (below t (v + s)) (below t (v + (s + s)))
  where
    go : (t < v) ⊎ (v ≤ t) → (t < v + s) ⊎ (v + s ≤ t) → (t < v + (s + s)) ⊎ (v + (s + s) ≤ t) →
        bit (within t v s) + bit (within t (v + s) s) ≡ bit (within t v (s + s))
    go (inl a) b c =
        omega (arith, within_no t v s (λ h g. omega arith), within_no t (v + s) s (λ h g. omega arith), within_no t v (s + s) (λ h g. omega arith))
    go (inr a) (inl b) c =
        omega (arith, within-yes t v s a b, within_no t (v + s) s (λ h g. omega arith), within-yes t v (s + s) a (omega arith))
    go (inr a) (inr b) (inl c) =
        omega (arith, within_no t v s (λ h g. omega arith), within-yes t (v + s) s b (omega arith), within-yes t v (s + s) a c)
    go (inr a) (inr b) (inr c) =
        omega (arith, within_no t v s (λ h g. omega arith), within_no t (v + s) s (λ h g. omega arith), within_no t v (s + s) (λ h g. omega arith))

pub octants_hold : (s : ℕ) (p q : Place) → sum (λ r. holds s r q) (octants s p) ≡ holds (s + s) p q
unfolding holds
octants_hold s p q =
    rw (← halved q.x p.x s, ← halved q.y p.y s, ← halved q.z p.z s)
    (eight (bit (within q.x p.x s)) (bit (within q.x (p.x + s) s)) (bit (within q.y p.y s))
    (bit (within q.y (p.y + s) s)) (bit (within q.z p.z s)) (bit (within q.z (p.z + s) s)))
  where
    eight : (x x' y y' z z' : ℕ) →
        x * (y * z) + (x' * (y * z) + (x * (y' * z) + (x' * (y' * z) + (x * (y * z') + (x' * (y * z') + (x * (y' * z') + (x' * (y' * z') + 0)))))))
        ≡ (x + x') * ((y + y') * (z + z'))
    eight x x' y y' z z' = omega arith

pub holds-one : (s : ℕ) (p q : Place) → holds s p q ≤ 1
unfolding holds
holds-one s p q = go (within q.x p.x s) (within q.y p.y s) (within q.z p.z s)
  where
    go : (a b c : Bool) → bit a * (bit b * bit c) ≤ 1
    go true true true = omega arith
    go true true false = omega arith
    go true false c = omega arith
    go false b c = omega arith

-- the place is in the cube, its upper sides left out
abbrev pub Holds : ℕ → Place → Place → Type 0
Holds s p q = (a : Axis) → (along a p ≤ along a q) × (along a q < along a p + s)

pub →holds : (s : ℕ) (p q : Place) → Holds s p q → holds s p q ≡ 1
unfolding holds
→holds s p q h =
    rw (within-yes q.x p.x s (h X).0 (h X).1, within-yes q.y p.y s (h Y).0 (h Y).1, within-yes q.z p.z s (h Z).0 (h Z).1) refl

pub holds→ : (s : ℕ) (p q : Place) → 1 ≤ holds s p q → Holds s p q
unfolding holds
holds→ s p q h =
    every_axis (λ a. (along a p ≤ along a q) × (along a q < along a p + s)) X
    (interval q.x p.x three.0) (interval q.y p.y three.1) (interval q.z p.z three.2)
  where
    interval : (t v : ℕ) → T (within t v s) → (v ≤ t) × (t < v + s)
    interval t v w = let u = and→ (leb v t) (ltb t (v + s)) w in (leb→le v t u.0, ltb→lt t (v + s) u.1)

    go : (a b c : Bool) → 1 ≤ bit a * (bit b * bit c) → T a × T b × T c
    go true true true h = (tt, tt, tt)
    go true true false h = absurd (omega arith)
    go true false c h = absurd (omega arith)
    go false b c h = absurd (omega arith)

    three : T (within q.x p.x s) × T (within q.y p.y s) × T (within q.z p.z s)
    three = go (within q.x p.x s) (within q.y p.y s) (within q.z p.z s) h
