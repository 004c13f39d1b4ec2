-- Tables filled from the front, entry by entry; and the wetness of a corner record.
use Prim.Native.Nat.{ℕ, ◌+◌, ◌<◌}
use mathlib.Core.Path.{◌≡◌, refl, sym, ap, ◌∙◌}
use mathlib.Core.Bool.{Bool, true, false}
use mathlib.Core.List.{List}
use native.Mathlib.Decide.{ℕ_discrete}
use native.Mathlib.Omega.{arith}
use lib.Ieee.{Float}
use mir.Val.{bool_byte}
use lib.ListN.{length, get_or, set}
use lib.Seq.{get_or-set_same, get_or-set_other}
use Rattle.base.specs.Lists.{bit}
use Rattle.rules.specs.Survey.{record_count, corner_record, corners_of, place_of, wet, wet_at}
use Rattle.rules.specs.Outputs.{rising}
use Rattle.records.specs.Keys.{key_of, places_of, record_at}
use Rattle.records.proofs.Keys.{Bytes, record_short, get_place}
use Rattle.records.proofs.Found.{corner-found}
use Rattle.edges.specs.Tables.{place_at, Wets}
use Rattle.edges.proofs.Find.{found_self}

-- one more entry
pub filled_more : (f : ℕ → ℕ) (t : List ℕ) (k v : ℕ) → k < length t → ((j : ℕ) → j < k → get_or t j 0 ≡ f j) → v ≡ f k →
    (j : ℕ) → j < k + 1 → get_or (set t k v) j 0 ≡ f j
filled_more f t k v h g e j l = go (ℕ_discrete j k)
  where
    go : Dec (j ≡ k) → get_or (set t k v) j 0 ≡ f j
    go (yes q) = rw q (get_or-set_same t k v 0 h ∙ e)
    go (no q) = get_or-set_other t k j v 0 q ∙ g j (omega arith)

module _ (t : List ℕ) (b : Bytes t) (up : rising (places_of t) ≡ true) (clearance : Float) where
  -- a record's place is wet just if the record is
  pub wet-record : (k : ℕ) → k < record_count t → wet_at (corners_of t) clearance (place_at (places_of t) k) ≡ wet clearance (corner_record t k)
  unfolding wet_at
  wet-record k h =
      let p = place_of (corner_record t k) in
      let e : record_at t (key_of p) ≡ k = found_self t b up k h in
      ap (wet_at (corners_of t) clearance) (get_place t k h) ∙
      ap (wet clearance) (corner-found t b p (record_short t b k h) (omega arith) ∙ ap (corner_record t) e)

  pub wets_done : (wets : List ℕ) → length wets ≡ 4872 → ((k : ℕ) → k < record_count t → get_or wets k 0 ≡ bit (wet clearance (corner_record t k))) →
      Wets t clearance wets
  wets_done wets size f = record { size = size; entry = λ k h. f k h ∙ ap bit (sym (wet-record k h)) }

-- the byte of a truth value
pub byte-bit : (b : Bool) → bool_byte b ≡ bit b
byte-bit true = refl
byte-bit false = refl
