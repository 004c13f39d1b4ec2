-- The sum over the triangles of a slice, one triangle after the other, and how far from zero it is.
-- Assumes nothing.
use Rattle.std.proofs.Common.{◌≡◌, ℕ, zero, suc, ◌+◌, ◌*◌, ◌^◌, ◌<◌, ◌≤◌, not, T, List, [], ◌∷◌, ◌++◌, length, get_or, drop, ℤ, ◌+ℤ◌, nat_abs, sym, refl, ap, ◌∙◌, subst, inl, inr, add-one, arith, lit<, get_or-drop, w64, SFits, to_z, of_z}
use lib.IntN.{+ℤ_idl, +ℤ_idr, +ℤ_assoc}
use lib.Ieee.{Float}
use Rattle.base.specs.Grid.{Place}
use Rattle.base.proofs.Lists.{In}
use Rattle.rules.specs.Steps.{Triangle}
use Rattle.rules.specs.Closing.{triangles_in}
use Rattle.rules.specs.Water.{offset, sixfold_of, sixfold, beyond_box}
use Rattle.water.specs.Corners.{Placed, triangle_at, Summable}
use Rattle.water.proofs.Signed.{size-add, fits, back}
use Rattle.water.proofs.Sizes.{determinant-size}
use Rattle.water.proofs.Down.{offset_near}

-- one triangle more
sixfold-more : (r : Place) (points : List Float) (ts : List Triangle) (t : Triangle)
    → sixfold r points (ts ++ t ∷ []) ≡ sixfold r points ts +ℤ sixfold_of r points t
sixfold-more r points [] t = +ℤ_idr (sixfold_of r points t) ∙ sym (+ℤ_idl (sixfold_of r points t))
sixfold-more r points (x ∷ ts) t =
    ap (λ (z : ℤ). sixfold_of r points x +ℤ z) (sixfold-more r points ts t)
    ∙ sym (+ℤ_assoc (sixfold_of r points x) (sixfold r points ts) (sixfold_of r points t))

-- the triangles of a slice, by their number
pub later : (triangles : List ℕ) (k : ℕ) → triangle_at (drop 3 triangles) (3 * k) ≡ triangle_at triangles (3 * suc k)
later triangles k =
    let at : (i j : ℕ) → 3 + i ≡ j → get_or (drop 3 triangles) i 0 ≡ get_or triangles j 0 =
    λ i j e. get_or-drop 3 triangles i 0 ∙ ap (λ (n : ℕ). get_or triangles n 0) e in
    (λ i. (at (3 * k) (3 * suc k) (omega arith) i, at (3 * k + 1) (3 * suc k + 1) (omega arith) i, at (3 * k + 2) (3 * suc k + 2) (omega arith) i))

in_more : (k : ℕ) (triangles : List ℕ) → triangles_in (suc k) triangles ≡ triangles_in k triangles ++ triangle_at triangles (3 * k) ∷ []
in_more zero triangles = refl
in_more (suc k) triangles =
    ap (λ (l : List Triangle). (get_or triangles 0 0, get_or triangles 1 0, get_or triangles 2 0) ∷ l)
    (in_more k (drop 3 triangles) ∙ ap (λ (t : Triangle). triangles_in k (drop 3 triangles) ++ t ∷ []) (later triangles k))

next-sum : (r : Place) (points : List Float) (triangles : List ℕ) (k : ℕ)
    → sixfold r points (triangles_in (suc k) triangles) ≡ sixfold r points (triangles_in k triangles) +ℤ sixfold_of r points (triangle_at triangles (3 * k))
next-sum r points triangles k = ap (sixfold r points) (in_more k triangles) ∙ sixfold-more r points (triangles_in k triangles) (triangle_at triangles (3 * k))

-- ---- size

-- a triangle whose points lie in the box
pub triangle_size : (r : Place) (points : List Float) → T (not (beyond_box r)) → (a b c : ℕ) → Placed points a → Placed points b → Placed points c
    → nat_abs (sixfold_of r points (a, b, c)) ≤ 6 * 2 ^ 42
unfolding sixfold_of
triangle_size r points box a b c pa pb pc =
    determinant-size (offset r points a) (offset r points b) (offset r points c) (offset_near r points a box pa) (offset_near r points b box pb)
    (offset_near r points c box pc)

-- a sum over triangles each of which is small
pub sixfold-size : (r : Place) (points : List Float) (b : ℕ) (ts : List Triangle) → ((t : Triangle) → In t ts → nat_abs (sixfold_of r points t) ≤ b)
    → nat_abs (sixfold r points ts) ≤ length ts * b
sixfold-size r points b [] small = omega arith
sixfold-size r points b (t ∷ ts) small =
    let rest = sixfold-size r points b ts (λ u i. small u (inr i)) in
    let both = size-add (sixfold_of r points t) (sixfold r points ts) b (length ts * b) (small t (inl refl)) rest in
    omega (arith, both)

-- ---- one turn of the loop over a slice: the sum over k triangles, total, and the next triangle's determinant z

module _ (r : Place) (points : List Float) (triangles : List ℕ) (box : T (not (beyond_box r))) (m k : ℕ) (total z : ℤ) (all : Summable points triangles m)
    (less : k < m) (is : total ≡ sixfold r points (triangles_in k triangles))
    (small : nat_abs (sixfold r points (triangles_in k triangles)) ≤ k * (6 * 2 ^ 42)) (one : z ≡ sixfold_of r points (triangle_at triangles (3 * k))) where
  abbrev passed : ℤ
  passed = sixfold r points (triangles_in k triangles)

  abbrev here : Triangle
  here = triangle_at triangles (3 * k)

  one-small : nat_abs (sixfold_of r points here) ≤ 6 * 2 ^ 42
  one-small =
      let d = all.drawn k less in
      triangle_size r points box here.0 here.1 here.2 d.first d.second d.third

  room : k * (6 * 2 ^ 42) + 6 * 2 ^ 42 < 2 ^ 63
  room = omega (arith, all.few)

  next-is : sixfold r points (triangles_in (k + 1) triangles) ≡ passed +ℤ sixfold_of r points here
  next-is = rw (add-one k) (next-sum r points triangles k)

  next_small : nat_abs (sixfold r points (triangles_in (k + 1) triangles)) ≤ (k + 1) * (6 * 2 ^ 42)
  next_small =
      let both = size-add passed (sixfold_of r points here) (k * (6 * 2 ^ 42)) (6 * 2 ^ 42) small one-small in
      subst (λ (y : ℤ). nat_abs y ≤ (k + 1) * (6 * 2 ^ 42)) (sym next-is) (omega (arith, both))

  -- the machine's sum fits, is that over one triangle more, and small enough
  pub turn : let next = total +ℤ to_z w64 (of_z w64 z) in
      let more = sixfold r points (triangles_in (k + 1) triangles) in
      SFits w64 next × (next ≡ more) × (nat_abs more ≤ (k + 1) * (6 * 2 ^ 42))
  turn =
      let read : to_z w64 (of_z w64 z) ≡ sixfold_of r points here = rw one (back (sixfold_of r points here) (6 * 2 ^ 42) one-small (lit< tt)) in
      let both = size-add passed (sixfold_of r points here) (k * (6 * 2 ^ 42)) (6 * 2 ^ 42) small one-small in
      rw (is, read) (fits (passed +ℤ sixfold_of r points here) (k * (6 * 2 ^ 42) + 6 * 2 ^ 42) both room, sym next-is, next_small)
