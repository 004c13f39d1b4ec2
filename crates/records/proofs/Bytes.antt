-- The bytes of a table: a number of two or four of them, and a corner record by its parts.
use mathlib.Core.Path.{◌≡◌, refl, ap, sym, ◌∙◌}
use mathlib.Core.List.{List, [], ◌∷◌}
use Prim.Native.Nat.{ℕ, zero, suc, ◌+◌, ◌*◌, ◌≤◌, ◌<◌}
use native.Mathlib.Nat.{add-zero}
use lib.Dec.{lit≤}
use native.Mathlib.Numerals.{add-one}
use native.Mathlib.Omega.{arith}
use lib.ListN.{length, get_or, take, drop}
use lib.Seq.{drop-cons, take-take, drop-drop}
use lib.Ieee.{Float, binary32, of_bits}
use Rattle.base.specs.Lists.{little, bytes}
use Rattle.rules.specs.Survey.{record_size, record_bytes, corner_record}
use Rattle.rules.specs.declared.Corner.{Corner}

-- the first of some bytes, and those after it
one_more : (t : List ℕ) (at n : ℕ) → at < length t → bytes t at (suc n) ≡ get_or t at 0 ∷ bytes t (suc at) n
one_more t at n h = rw (drop-cons t at 0 h)

pub little-two : (t : List ℕ) (at : ℕ) → at + 2 ≤ length t → little (bytes t at 2) ≡ get_or t at 0 + 256 * get_or t (at + 1) 0
little-two t at h =
    rw (one_more t at 1 (omega arith), one_more t (suc at) 0 (omega arith), add-one) (omega arith)

part_of : {A : Type 0} (l : List A) (i n m : ℕ) → i + n ≤ m → take n (drop i (take m l)) ≡ take n (drop i l)
part_of l zero n m h = take-take n m l (omega arith)
part_of l (suc i) n zero h = absurd (omega arith)
part_of [] (suc i) n (suc m) h = refl
part_of (x ∷ l) (suc i) n (suc m) h = part_of l i n m (omega arith)

-- a part of a record is a part of the table
pub part : (t : List ℕ) (at m i n : ℕ) → i + n ≤ m → bytes (bytes t at m) i n ≡ bytes t (at + i) n
part t at m i n h = part_of (drop at t) i n m h ∙ ap (take n) (drop-drop i at t)

-- a corner record, from its numbers as they stand in the table
pub corner-is : (t : List ℕ) (k : ℕ) {x y z : ℕ} {v : Float} → x ≡ little (bytes t (record_size * k) 2) → y ≡ little (bytes t (record_size * k + 2) 2)
    → z ≡ little (bytes t (record_size * k + 4) 2) → v ≡ of_bits binary32 (little (bytes t (record_size * k + 6) 4))
    → ◌≡◌ {A = Corner} (record { x = x; y = y; z = z; sounding = v }) (corner_record t k)
unfolding corner_record
corner-is t k ex ey ez ev =
    let from : (i n : ℕ) → i + n ≤ record_size → little (bytes t (record_size * k + i) n)
    ≡ little (bytes (record_bytes t k) i n) = λ i n h. ap little (sym (part t (record_size * k) record_size i n h)) in
    let low : little (bytes t (record_size * k) 2) ≡ little (bytes (record_bytes t k) 0 2) = ap (λ j. little (bytes t j 2)) (sym (add-zero (record_size * k)))
    ∙ from 0 2 (lit≤ tt) in
    λ i. record {
      x = (ex ∙ low) i;
      y = (ey ∙ from 2 2 (lit≤ tt)) i;
      z = (ez ∙ from 4 2 (lit≤ tt)) i;
      sounding = (ev ∙ ap (of_bits binary32) (from 6 4 (lit≤ tt))) i;
    }
