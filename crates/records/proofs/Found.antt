-- What a look-up by key finds: the record at the place, which is the corner that the rules take there.
use Prim.Native.Nat.{ℕ, suc, ◌<◌}
use mathlib.Core.Path.{◌≡◌, refl, sym, ap, ◌∙◌}
use mathlib.Core.Bool.{Bool, false}
use mathlib.Core.List.{List, [], ◌∷◌, map}
use native.Mathlib.Omega.{arith}
use lib.Dec.{eqb, T}
use lib.ListN.{get_or}
use lib.IntN.{pos}
use lib.Ieee.{fin}
use Rattle.base.specs.Lists.{any, position}
use Rattle.base.specs.Grid.{Place, same}
use Rattle.base.proofs.Below.{position-same, first-position, any-position, position-any}
use Rattle.rules.specs.Survey.{record_count, corner_record, corners_of, place_of, corner_at}
use Rattle.rules.specs.declared.Corner.{Corner}
use Rattle.records.specs.Keys.{key_of, places_of, record_at, Short}
use Rattle.records.proofs.Keys.{Bytes, nowhere, same_key, record_short, get_corner, get_place, length-places}

position-map : (f : Place → Bool) (l : List Corner) (n : ℕ) → position f n (map place_of l) ≡ position (λ c. f (place_of c)) n l
position-map f [] n = refl
position-map f (x ∷ l) n = rw (position-map f l (suc n))

-- what the rules take where there is no record
abbrev missing : Place → Corner
missing p = record { x = p.x; y = p.y; z = p.z; sounding = fin false 0 (pos 0) }

module _ (t : List ℕ) (b : Bytes t) (p : Place) (fits : Short p) where
  -- the look-up by a place's key is the look-up by the place
  pub record_at_place : record_at t (key_of p) ≡ position (same p) 0 (places_of t)
  unfolding record_at
  record_at_place =
      position-same (λ q. eqb (key_of p) (key_of q)) (same p) (place_of nowhere) (places_of t) 0
      (λ j l. let h : j < record_count t = rw (length-places t) at l in
      rw (get_place t j h) (sym (same_key p (place_of (corner_record t j)) fits (record_short t b j h))))

  -- it finds the corner that the rules take at the place
  pub corner-found : record_at t (key_of p) < record_count t → corner_at (corners_of t) p ≡ corner_record t (record_at t (key_of p))
  unfolding corner_at
  corner-found h =
      first-position (λ c. same p (place_of c)) (missing p) (corners_of t)
      ∙ ap (λ k. get_or (corners_of t) k (missing p)) (sym (record_at_place ∙ position-map (same p) (corners_of t) 0))
      ∙ get_corner t (record_at t (key_of p)) (missing p) h

  -- a listed place is found, and what is found is listed
  pub listed_found : T (any (same p) (places_of t)) → record_at t (key_of p) < record_count t
  listed_found s = rw record_at_place (omega (arith, position-any (same p) (places_of t) 0 s, length-places t))

  pub found-listed : record_at t (key_of p) < record_count t → T (any (same p) (places_of t))
  found-listed h = any-position (same p) (places_of t) 0 (omega (arith, record_at_place, length-places t))
