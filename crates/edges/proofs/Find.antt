-- Corner records by key: each record is found by its own key, a listed place is found, and moves along an axis in terms of keys.
use Prim.Native.Nat.{ℕ, zero, suc, ◌+◌, ◌-◌, ◌*◌, ◌^◌, ◌≤◌, ◌<◌}
use mathlib.Core.Path.{◌≡◌, refl, sym, ap, ◌∙◌}
use mathlib.Core.Bool.{true}
use mathlib.Core.List.{List}
use native.Mathlib.Nat.{mul-le-mul}
use native.Mathlib.Omega.{arith}
use lib.Dec.{T}
use Rattle.base.specs.Lists.{any}
use Rattle.base.specs.Grid.{Place, origin, Axis, X, Y, Z, along, axis_of, move, back, same}
use Rattle.base.proofs.Lists.{position_of}
use Rattle.base.proofs.Places.{same→}
use Rattle.rules.specs.Survey.{record_count}
use Rattle.cells.proofs.Octants.{size_fits}
use Rattle.rules.specs.Outputs.{rising}
use Rattle.records.specs.Keys.{key_of, places_of, record_at}
use Rattle.records.proofs.Keys.{Bytes, get_place, length-places}
use Rattle.records.proofs.Search.{key_at, keys_rise, is_at_lem}
use Rattle.edges.specs.Tables.{place_at}
use Rattle.edges.specs.Searching.{key_unit}

pub key-move : (a : Axis) (d : ℕ) (p : Place) → key_of (move a d p) ≡ key_of p + d * key_unit a
unfolding key_of
key-move X d p = omega arith
key-move Y d p = omega arith
key-move Z d p = omega arith

pub key_back : (a : Axis) (d : ℕ) (p : Place) → d ≤ along a p → key_of (back a d p) ≡ key_of p - d * key_unit a
unfolding key_of
key_back X d p h = omega arith
key_back Y d p h = omega arith
key_back Z d p h = omega arith

-- a step of an edge's length, as a difference of keys
pub step_fits : (l u : ℕ) → l ≤ 10 → u ≤ 4294967296 → 2 ^ l * u ≤ 4398046511104
step_fits l u h g = mul-le-mul (size_fits l h) g

-- an axis that is neither x nor y
pub axis-z : (n : ℕ) → (n ≡ 0 → ⊥) → (n ≡ 1 → ⊥) → axis_of n ≡ Z
axis-z zero f g = absurd (f refl)
axis-z (suc zero) f g = absurd (g refl)
axis-z (suc (suc n)) f g = refl

module _ (t : List ℕ) (b : Bytes t) (up : rising (places_of t) ≡ true) where
  pub key_at_lem : (k : ℕ) → k < record_count t → key_of (place_at (places_of t) k) ≡ key_at t k
  key_at_lem k h = ap key_of (get_place t k h)

  -- a record is found by its own key
  pub found_self : (k : ℕ) → k < record_count t → record_at t (key_at t k) ≡ k
  found_self k h = sym (is_at_lem t (key_at t k) k h refl (λ j l. keys_rise t b up j k l h))

  -- records are at different places
  pub one-record : (j k : ℕ) → j < record_count t → k < record_count t → place_at (places_of t) j ≡ place_at (places_of t) k → j ≡ k
  one-record j k g h e =
      sym (found_self j g) ∙ ap (record_at t) (sym (key_at_lem j g) ∙ ap key_of e ∙ key_at_lem k h) ∙ found_self k h

  -- a listed place is found by its key
  pub found : (p : Place) → T (any (same p) (places_of t)) → (record_at t (key_of p) < record_count t) × (place_at (places_of t) (record_at t (key_of p)) ≡ p)
  found p u =
      let r = position_of (same p) origin (places_of t) 0 u in
      let k = r.0 in
      let l : k < record_count t = omega (arith, r.2, length-places t) in
      let e : p ≡ place_at (places_of t) k = same→ p (place_at (places_of t) k) r.3 in
      let f : record_at t (key_of p) ≡ k = ap (record_at t) (ap key_of e ∙ key_at_lem k l) ∙ found_self k l in
      (omega arith, ap (place_at (places_of t)) f ∙ sym e)
