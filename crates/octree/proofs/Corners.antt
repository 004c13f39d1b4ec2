-- The corner at a place: it has that place, and at a listed place it is one of the table.
-- Assumes nothing.
use mathlib.Core.Path.{◌≡◌, refl, sym}
use mathlib.Core.Logic.{inl, inr}
use mathlib.Core.Bool.{Bool, true, false, ◌||◌, cond}
use mathlib.Core.List.{List, [], ◌∷◌, map}
use lib.Dec.{T}
use lib.IntN.{pos}
use lib.Ieee.{fin}
use Rattle.base.specs.Lists.{any, first}
use Rattle.base.specs.Grid.{Place, same}
use Rattle.base.proofs.Lists.{In}
use Rattle.base.proofs.Places.{same→}
use Rattle.rules.specs.Survey.{place_of, corner_at}
use Rattle.rules.specs.declared.Corner.{Corner}

first-place : (p : Place) (d : Corner) (cs : List Corner) → place_of d ≡ p → place_of (first (λ c. same p (place_of c)) d cs) ≡ p
first-place p d [] h = h
first-place p d (c ∷ cs) h = go (same p (place_of c)) (same→ p (place_of c)) (first-place p d cs h)
  where
    go : (b : Bool) → (T b → p ≡ place_of c) → place_of (first (λ c. same p (place_of c)) d cs) ≡ p
        → place_of (cond b c (first (λ c. same p (place_of c)) d cs)) ≡ p
    go true e r = sym (e tt)
    go false e r = r

-- the corner at a place is the one there, or one made for it: in either case it has that place
pub corner-there : (corners : List Corner) (p : Place) → place_of (corner_at corners p) ≡ p
unfolding corner_at
corner-there corners p = first-place p (record { x = p.x; y = p.y; z = p.z; sounding = fin false 0 (pos 0) }) corners refl

-- what holds of every corner of the table holds of the one at a listed place
pub at_listed : (P : Corner → Type 0) (cs : List Corner) (q : Place) → ((c : Corner) → In c cs → P c) → T (any (same q) (map place_of cs)) → P (corner_at cs q)
unfolding corner_at
at_listed P cs q h t = go cs h t
  where
    d : Corner
    d = record { x = q.x; y = q.y; z = q.z; sounding = fin false 0 (pos 0) }

    go : (cs : List Corner) → ((c : Corner) → In c cs → P c) → T (any (same q) (map place_of cs)) → P (first (λ c. same q (place_of c)) d cs)
    go [] h t = absurd t
    go (c ∷ cs) h t = pick (same q (place_of c)) t (h c (inl refl)) (go cs (λ x i. h x (inr i)))
      where
        pick : (b : Bool) → T (b || any (same q) (map place_of cs)) → P c → (T (any (same q) (map place_of cs)) → P (first (λ c. same q (place_of c)) d cs))
            → P (cond b c (first (λ c. same q (place_of c)) d cs))
        pick true t u r = u
        pick false t u r = r t
