-- The places of a corner table whose records rise: which places are listed, and which record is at a place.
use Prim.Native.Nat.{ℕ, ◌<◌}
use mathlib.Core.Path.{◌≡◌, refl, ap, ◌∙◌, subst}
use mathlib.Core.Bool.{true}
use mathlib.Core.List.{List}
use native.Mathlib.Omega.{arith}
use lib.Dec.{T, eqb, eqb→eq, ltb, lt→ltb, ltb→lt}
use lib.ListN.{get_or}
use Rattle.base.specs.Lists.{any}
use Rattle.base.specs.Grid.{Place, same}
use Rattle.base.proofs.Tests.{tests_equal, eq→eqb}
use Rattle.base.proofs.Lists.{position_of}
use Rattle.base.proofs.Places.{same→, same_refl}
use Rattle.rules.specs.Survey.{record_count, corner_record, place_of}
use Rattle.rules.specs.Outputs.{rising}
use Rattle.records.specs.Keys.{key_of, places_of, record_at, Short}
use Rattle.records.proofs.Keys.{Bytes, nowhere, get_place}
use Rattle.records.proofs.Search.{key_at, keys_rise, is_at_lem}
use Rattle.records.proofs.Found.{record_at_place, listed_found, found-listed}

module _ (t : List ℕ) (b : Bytes t) where
  -- a place is listed where the look-up finds a record
  pub listed-is : (p : Place) → Short p → any (same p) (places_of t) ≡ ltb (record_at t (key_of p)) (record_count t)
  listed-is p s =
      tests_equal (any (same p) (places_of t)) (ltb (record_at t (key_of p)) (record_count t))
      (λ l. lt→ltb (record_at t (key_of p)) (record_count t) (listed_found t b p s l))
      (λ f. found-listed t b p s (ltb→lt (record_at t (key_of p)) (record_count t) f))

  module _ (up : rising (places_of t) ≡ true) where
    -- the look-up by the key of a record finds that record
    own_record : (k : ℕ) → k < record_count t → k ≡ record_at t (key_at t k)
    own_record k h = is_at_lem t (key_at t k) k h refl (λ j l. keys_rise t b up j k l h)

    -- record k is at a place where the look-up finds record k
    pub record_is : (k : ℕ) (p : Place) → Short p → k < record_count t → same (get_or (places_of t) k (place_of nowhere)) p ≡ eqb k (record_at t (key_of p))
    record_is k p s h = rw (get_place t k h) (tests_equal (same here p) (eqb k (record_at t (key_of p))) forth back)
      where
        here : Place
        here = place_of (corner_record t k)

        forth : T (same here p) → T (eqb k (record_at t (key_of p)))
        forth q = eq→eqb k (record_at t (key_of p)) (own_record k h ∙ ap (λ z. record_at t (key_of z)) (same→ here p q))

        back : T (eqb k (record_at t (key_of p))) → T (same here p)
        back q =
            let e = eqb→eq k (record_at t (key_of p)) q in
            let l = found-listed t b p s (omega arith) in
            let r = position_of (same p) (place_of nowhere) (places_of t) 0 l in
            let j : r.0 ≡ k = omega (arith, r.1, record_at_place t b p s) in
            let z : p ≡ here = same→ p (get_or (places_of t) r.0 (place_of nowhere)) r.3 ∙ ap (λ m. get_or (places_of t) m (place_of nowhere)) j
            ∙ get_place t k h in
            subst (λ w. T (same w p)) z (same_refl p)
