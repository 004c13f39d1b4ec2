-- The record in force keeps its corner and its size; the corner table as amended has its records, and the places and the length of the table as it was.
use Prim.Native.Nat.{ℕ, ◌+◌, ◌*◌, ◌≤◌, ◌<◌}
use mathlib.Core.Path.{◌≡◌, refl, sym, ap, ◌∙◌}
use mathlib.Core.Logic.{inl, inr}
use mathlib.Core.Bool.{Bool, true, false, not, cond}
use mathlib.Core.List.{List, [], ◌∷◌, ◌++◌, map}
use native.Mathlib.Omega.{arith}
use lib.Dec.{ltb}
use lib.ListN.{length}
use Rattle.base.specs.Lists.{collect, count}
use Rattle.base.specs.Grid.{Place, same}
use Rattle.base.proofs.Tests.{and→, →true}
use Rattle.base.proofs.Lists.{In, in_map, in_count}
use Rattle.base.proofs.Places.{same→}
use Rattle.rules.specs.Survey.{record_size, record_count, record_bytes, corner_record, corners_of, place_of}
use Rattle.rules.specs.Resounding.{records_of, place_in, day_in, overrules, in_force, amended}
use Rattle.rules.specs.declared.Corner.{Corner}
use Rattle.records.specs.Keys.{places_of}
use Rattle.amendments.proofs.Records.{record-length, place-alone, made_length, made_record, collect-map, map_same}

-- of the record that held so far and an amendment, the one that holds
abbrev pub holding : List ℕ → List ℕ → List ℕ
holding r a = cond (overrules a r) a r

-- what all candidates have the one in force has
pub in_force_has : (P : List ℕ → Type 0) (r : List ℕ) (rs : List (List ℕ)) → P r → ((a : List ℕ) → In a rs → P a) → P (in_force r rs)
unfolding in_force
in_force_has P r [] p q = p
in_force_has P r (a ∷ rs) p q = in_force_has P (holding r a) rs (go (overrules a r)) (λ b i. q b (inr i))
  where
    go : (b : Bool) → P (cond b a r)
    go true = q a (inl refl)
    go false = p

-- an amendment that holds is at the same corner
pub in_force_place : (r : List ℕ) (rs : List (List ℕ)) → place_in (in_force r rs) ≡ place_in r
unfolding in_force
in_force_place r [] = refl
in_force_place r (a ∷ rs) = in_force_place (holding r a) rs ∙ go (overrules a r) refl
  where
    go : (b : Bool) → overrules a r ≡ b → place_in (cond b a r) ≡ place_in r
    go true e = sym (same→ (place_in r) (place_in a) (and→ (same (place_in r) (place_in a)) (not (ltb (day_in a) (day_in r))) (→true e)).0)
    go false e = refl

-- one amendment more
pub in_force_more : (r : List ℕ) (rs : List (List ℕ)) (a : List ℕ) → in_force r (rs ++ a ∷ []) ≡ holding (in_force r rs) a
unfolding in_force
in_force_more r [] a = refl
in_force_more r (b ∷ rs) a = in_force_more (holding r b) rs a

-- ---- the corner table as amended

-- each amendment has the size of a record
amendment_length : (ta : List ℕ) (a : List ℕ) → In a (records_of ta) → length a ≡ record_size
amendment_length ta a i =
    let (k, j, e) = in_map (record_bytes ta) (count 0 (record_count ta)) a i in
    let l = in_count (record_count ta) 0 k j in
    ap length e ∙ record-length ta k (omega (arith, l.1))

module _ (tk ta : List ℕ) where
  abbrev pub in_force_at : ℕ → List ℕ
  in_force_at k = in_force (record_bytes tk k) (records_of ta)

  pub amended-is : amended tk ta ≡ collect in_force_at (count 0 (record_count tk))
  unfolding amended
  amended-is = collect-map (λ r. in_force r (records_of ta)) (record_bytes tk) (count 0 (record_count tk))

  each-length : (j : ℕ) → 0 ≤ j → j < 0 + record_count tk → length (in_force_at j) ≡ record_size
  each-length j l h =
      in_force_has (λ r. length r ≡ record_size) (record_bytes tk j) (records_of ta) (record-length tk j (omega arith)) (amendment_length ta)

  pub amended-length : length (amended tk ta) ≡ record_size * record_count tk
  amended-length = ap length amended-is ∙ made_length in_force_at (record_count tk) 0 each-length

  pub amended-count : record_count (amended tk ta) ≡ record_count tk
  amended-count = omega (arith, amended-length)

  pub amended-record : (k : ℕ) → k < record_count tk → record_bytes (amended tk ta) k ≡ in_force_at k
  amended-record k h =
      ap (λ (t : List ℕ). record_bytes t k) amended-is
      ∙ made_record in_force_at (record_count tk) 0 k each-length h
      ∙ ap in_force_at (let e : 0 + k ≡ k = omega arith in e)

  -- the corners stay where they are
  pub amended-places : places_of (amended tk ta) ≡ places_of tk
  unfolding corners_of
  amended-places =
      ap (λ n. map place_of (map (corner_record (amended tk ta)) (count 0 n))) amended-count
      ∙ map-map (corner_record (amended tk ta)) (count 0 (record_count tk))
      ∙ map_same (λ k. place_of (corner_record (amended tk ta) k)) (λ k. place_of (corner_record tk k)) (record_count tk) 0
      (λ k l h. sym (place-alone (amended tk ta) k) ∙ ap place_in (amended-record k (omega arith)) ∙ in_force_place (record_bytes tk k) (records_of ta)
      ∙ place-alone tk k)
      ∙ sym (map-map (corner_record tk) (count 0 (record_count tk)))
    where
      map-map : (f : ℕ → Corner) (l : List ℕ) → map place_of (map f l) ≡ map (λ k. place_of (f k)) l
      map-map f [] = refl
      map-map f (x ∷ l) = ap (λ (r : List Place). place_of (f x) ∷ r) (map-map f l)
