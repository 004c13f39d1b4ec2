-- Places: facts for any axis.
use Prim.Native.Nat.{ℕ, ◌+◌, ◌-◌, ◌≤◌}
use mathlib.Core.Path.{◌≡◌, refl, sym, ap, ◌∙◌}
use mathlib.Core.Logic.{◌⊎◌, inl, inr}
use mathlib.Core.List.{List}
use mathlib.Core.Bool.{◌&&◌}
use native.Mathlib.Omega.{arith}
use lib.Dec.{T, eqb, eqb→eq, eqb_refl}
use Rattle.base.specs.Lists.{collect}
use Rattle.base.specs.Grid.{Place, Axis, X, Y, Z, axes, next, along, put, move, back, same, pair, axis_number}
use Rattle.base.proofs.Tests.{and→, →and}
use Rattle.base.proofs.Lists.{In}
use Rattle.base.proofs.Sums.{times}

-- what holds of an axis and the two that follow it holds of every axis
pub every_axis : (P : Axis → Type 0) (a : Axis) → P a → P (next a) → P (next (next a)) → (b : Axis) → P b
every_axis P X u v w X = u
every_axis P X u v w Y = v
every_axis P X u v w Z = w
every_axis P Y u v w X = w
every_axis P Y u v w Y = u
every_axis P Y u v w Z = v
every_axis P Z u v w X = v
every_axis P Z u v w Y = w
every_axis P Z u v w Z = u

-- places with the same coordinates
pub place_equal : (p q : Place) → ((a : Axis) → along a p ≡ along a q) → p ≡ q
place_equal p q h = λ i. record { x = h X i; y = h Y i; z = h Z i }

pub same→ : (p q : Place) → T (same p q) → p ≡ q
same→ p q t =
    let u = and→ (eqb p.x q.x) (eqb p.y q.y && eqb p.z q.z) t in
    let v = and→ (eqb p.y q.y) (eqb p.z q.z) u.1 in
    let h : (a : Axis) → along a p ≡ along a q =
    every_axis (λ a. along a p ≡ along a q) X (eqb→eq p.x q.x u.0) (eqb→eq p.y q.y v.0) (eqb→eq p.z q.z v.1) in
    place_equal p q h

pub same_refl : (p : Place) → T (same p p)
same_refl p =
    →and (eqb p.x p.x) (eqb p.y p.y && eqb p.z p.z) (eqb_refl p.x)
    (→and (eqb p.y p.y) (eqb p.z p.z) (eqb_refl p.y) (eqb_refl p.z))

pub axis_equal : (a b : Axis) → T (eqb (axis_number a) (axis_number b)) → a ≡ b
axis_equal X X t = refl
axis_equal X Y t = absurd t
axis_equal X Z t = absurd t
axis_equal Y X t = absurd t
axis_equal Y Y t = refl
axis_equal Y Z t = absurd t
axis_equal Z X t = absurd t
axis_equal Z Y t = absurd t
axis_equal Z Z t = refl

pub along-put : (a : Axis) (v : ℕ) (p : Place) → along a (put a v p) ≡ v
along-put X v p = refl
along-put Y v p = refl
along-put Z v p = refl

pub put_next : (a : Axis) (v : ℕ) (p : Place) → along a (put (next a) v p) ≡ along a p
put_next X v p = refl
put_next Y v p = refl
put_next Z v p = refl

pub put_last : (a : Axis) (v : ℕ) (p : Place) → along a (put (next (next a)) v p) ≡ along a p
put_last X v p = refl
put_last Y v p = refl
put_last Z v p = refl

pub put-before : (a : Axis) (v : ℕ) (p : Place) → along (next (next a)) (put (next a) v p) ≡ along (next (next a)) p
put-before X v p = refl
put-before Y v p = refl
put-before Z v p = refl

-- what holds of two new coordinates on an axis, and of the others of two places
pub put_both : (R : Axis → ℕ → ℕ → Type 0) (a : Axis) (v w : ℕ) (p q : Place) →
    R a v w → ((b : Axis) → R b (along b p) (along b q)) → (b : Axis) → R b (along b (put a v p)) (along b (put a w q))
put_both R X v w p q h k X = h
put_both R X v w p q h k Y = k Y
put_both R X v w p q h k Z = k Z
put_both R Y v w p q h k X = k X
put_both R Y v w p q h k Y = h
put_both R Y v w p q h k Z = k Z
put_both R Z v w p q h k X = k X
put_both R Z v w p q h k Y = k Y
put_both R Z v w p q h k Z = h

-- what holds of a new coordinate, and of the others of the place
pub put_one : (P : Axis → ℕ → Type 0) (a : Axis) (v : ℕ) (p : Place) → P a v → ((b : Axis) → P b (along b p)) → (b : Axis) → P b (along b (put a v p))
put_one P a v p h k = put_both (λ b m n. P b m) a v v p p h k

pub put-put : (a : Axis) (v w : ℕ) (p : Place) → put a v (put a w p) ≡ put a v p
put-put X v w p = refl
put-put Y v w p = refl
put-put Z v w p = refl

pub put_along : (a : Axis) (p : Place) → put a (along a p) p ≡ p
put_along X p = refl
put_along Y p = refl
put_along Z p = refl

-- a place moved up, and down again
pub back-move : (a : Axis) (d : ℕ) (p : Place) → back a d (move a d p) ≡ p
back-move a d p =
    let e = along-put a (along a p + d) p in
    let start : along a (move a d p) - d ≡ along a p = omega arith in
    put-put a (along a (move a d p) - d) (along a p + d) p ∙ ap (λ n. put a n p) start ∙ put_along a p

pub each-axis : (a : Axis) → In a axes
each-axis X = inl refl
each-axis Y = inr (inl refl)
each-axis Z = inr (inr (inl refl))

pub axis-once : (a : Axis) → times (λ b c. eqb (axis_number b) (axis_number c)) a axes ≤ 1
axis-once X = omega arith
axis-once Y = omega arith
axis-once Z = omega arith

-- ---- the four corners of a square across an axis

-- the coordinates on an axis and the two that follow it
abbrev pub Coordinates : Axis → Place → ℕ → ℕ → ℕ → Type 0
Coordinates a p u v w = (along a p ≡ u) × (along (next a) p ≡ v) × (along (next (next a)) p ≡ w)

same-coordinates : (a : Axis) (p q : Place) {u v w : ℕ} → Coordinates a p u v w → Coordinates a q u v w → p ≡ q
same-coordinates a p q h k = place_equal p q (every_axis (λ b. along b p ≡ along b q) a (h.0 ∙ sym k.0) (h.1 ∙ sym k.1) (h.2 ∙ sym k.2))

abbrev pub square : Axis → ℕ → Place → List Place
square a s p = collect (pair (next a) s) (pair (next (next a)) s p)

module _ (a : Axis) (s : ℕ) (p : Place) where
  u : ℕ
  u = along a p

  v : ℕ
  v = along (next a) p

  w : ℕ
  w = along (next (next a)) p

  up : Place
  up = move (next (next a)) s p

  right_at : Coordinates a (move (next a) s p) u (v + s) w
  unfolding u v w
  right_at = (put_next a (v + s) p, along-put (next a) (v + s) p, put-before a (v + s) p)

  up_at : Coordinates a up u v (w + s)
  unfolding u v w up
  up_at = (put_last a (w + s) p, put_next (next a) (w + s) p, along-put (next (next a)) (w + s) p)

  far_at : Coordinates a (move (next a) s up) u (v + s) (w + s)
  far_at = (
    put_next a (along (next a) up + s) up ∙ up_at.0,
    along-put (next a) (along (next a) up + s) up ∙ ap (λ n. n + s) up_at.1,
    put-before a (along (next a) up + s) up ∙ up_at.2,
  )

  -- a corner of the cube of size s at p that lies in its lower side on the axis
  pub →square : (q : Place) → along a q ≡ along a p → (along (next a) q ≡ along (next a) p) ⊎ (along (next a) q ≡ along (next a) p + s) →
      (along (next (next a)) q ≡ along (next (next a)) p) ⊎ (along (next (next a)) q ≡ along (next (next a)) p + s) → In q (square a s p)
  unfolding u v w up
  →square q h (inl f) (inl g) = inl (same-coordinates a q p (h, f, g) (refl, refl, refl))
  →square q h (inr f) (inl g) = inr (inl (same-coordinates a q (move (next a) s p) (h, f, g) right_at))
  →square q h (inl f) (inr g) = inr (inr (inl (same-coordinates a q up (h, f, g) up_at)))
  →square q h (inr f) (inr g) = inr (inr (inr (inl (same-coordinates a q (move (next a) s up) (h, f, g) far_at))))
