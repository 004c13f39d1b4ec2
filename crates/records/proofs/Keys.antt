-- Keys in order: the order by one key is the order by z, then y, then x; and what a strict rise gives a search.
use Prim.Native.Nat.{ℕ, ◌+◌, ◌*◌, ◌≤◌, ◌<◌}
use mathlib.Core.Path.{◌≡◌, sym, ap, ◌∙◌}
use mathlib.Core.List.{List}
use native.Mathlib.Decide.{ℕ_discrete, dec_lt}
use native.Mathlib.Omega.{arith}
use lib.Dec.{eqb, ltb, lit≤}
use lib.Ieee.{nan}
use mir.Val.{Fits}
use mir.Syntax.{w8}
use lib.ListN.{length, get_or, length-map, get_or-map}
use borrow.Author.Tests.{lt-ltb, le-ltb, eq-eqb, ne_eqb}
use Rattle.base.specs.Lists.{little, bytes}
use Rattle.base.specs.Grid.{Place, same}
use Rattle.base.proofs.Below.{get_table, length-table}
use Rattle.rules.specs.Survey.{record_size, record_count, record_bytes, corner_record, corners_of, place_of}
use Rattle.rules.specs.Outputs.{before}
use Rattle.rules.specs.declared.Corner.{Corner}
use Rattle.records.specs.Keys.{key_of, places_of, Short}
use Rattle.records.proofs.Bytes.{part, little-two}

module _ (p q : Place) (hp : Short p) (hq : Short q) where
  -- the order of records is the order of keys
  pub before-key : before p q ≡ ltb (key_of p) (key_of q)
  unfolding key_of
  before-key = by-z (dec_lt p.z q.z) (dec_lt q.z p.z)
    where
      key_p : ℕ
      key_p = p.x + 65536 * p.y + 4294967296 * p.z

      key_q : ℕ
      key_q = q.x + 65536 * q.y + 4294967296 * q.z

      by-x : p.z ≡ q.z → p.y ≡ q.y → Dec (p.x < q.x) → before p q ≡ ltb key_p key_q
      by-x ez ey (yes l) =
          rw (le-ltb p.z q.z (omega arith), eq-eqb p.z q.z ez, le-ltb p.y q.y (omega arith), eq-eqb p.y q.y ey, lt-ltb p.x q.x l)
          (sym (lt-ltb key_p key_q (omega arith)))
      by-x ez ey (no l) =
          rw (
            le-ltb p.z q.z (omega arith),
            eq-eqb p.z q.z ez,
            le-ltb p.y q.y (omega arith),
            eq-eqb p.y q.y ey,
            le-ltb
                p.x q.x (omega arith),
          )
          (sym (le-ltb key_p key_q (omega arith)))

      by-y : p.z ≡ q.z → Dec (p.y < q.y) → Dec (q.y < p.y) → before p q ≡ ltb key_p key_q
      by-y ez (yes l) g =
          rw (le-ltb p.z q.z (omega arith), eq-eqb p.z q.z ez, lt-ltb p.y q.y l) (sym (lt-ltb key_p key_q (omega arith)))
      by-y ez (no l) (yes g) =
          rw (le-ltb p.z q.z (omega arith), eq-eqb p.z q.z ez, le-ltb p.y q.y (omega arith), ne_eqb p.y q.y (λ e. omega arith))
          (sym (le-ltb key_p key_q (omega arith)))
      by-y ez (no l) (no g) = by-x ez (omega arith) (dec_lt p.x q.x)

      by-z : Dec (p.z < q.z) → Dec (q.z < p.z) → before p q ≡ ltb key_p key_q
      by-z (yes l) g = rw (lt-ltb p.z q.z l) (sym (lt-ltb key_p key_q (omega arith)))
      by-z (no l) (yes g) =
          rw (le-ltb p.z q.z (omega arith), ne_eqb p.z q.z (λ e. omega arith)) (sym (le-ltb key_p key_q (omega arith)))
      by-z (no l) (no g) = by-y (omega arith) (dec_lt p.y q.y) (dec_lt q.y p.y)

  -- places with the same key are the same
  pub same_key : same p q ≡ eqb (key_of p) (key_of q)
  unfolding key_of
  same_key = by-x (ℕ_discrete p.x q.x)
    where
      key_p : ℕ
      key_p = p.x + 65536 * p.y + 4294967296 * p.z

      key_q : ℕ
      key_q = q.x + 65536 * q.y + 4294967296 * q.z

      by-z : p.x ≡ q.x → p.y ≡ q.y → Dec (p.z ≡ q.z) → same p q ≡ eqb key_p key_q
      by-z ex ey (yes e) =
          rw (eq-eqb p.x q.x ex, eq-eqb p.y q.y ey, eq-eqb p.z q.z e) (sym (eq-eqb key_p key_q (omega arith)))
      by-z ex ey (no e) =
          rw (eq-eqb p.x q.x ex, eq-eqb p.y q.y ey, ne_eqb p.z q.z e) (sym (ne_eqb key_p key_q (λ k. e (omega arith))))

      by-y : p.x ≡ q.x → Dec (p.y ≡ q.y) → same p q ≡ eqb key_p key_q
      by-y ex (yes e) = by-z ex e (ℕ_discrete p.z q.z)
      by-y ex (no e) = rw (eq-eqb p.x q.x ex, ne_eqb p.y q.y e) (sym (ne_eqb key_p key_q (differ (dec_lt p.z q.z) (dec_lt q.z p.z))))
        where
          differ : Dec (p.z < q.z) → Dec (q.z < p.z) → key_p ≡ key_q → ⊥
          differ (yes l) g k = omega arith
          differ (no l) (yes g) k = omega arith
          differ (no l) (no g) k = e (omega arith)

      by-x : Dec (p.x ≡ q.x) → same p q ≡ eqb key_p key_q
      by-x (yes e) = by-y e (ℕ_discrete p.y q.y)
      by-x (no e) = rw (ne_eqb p.x q.x e) (sym (ne_eqb key_p key_q (λ k. e (omega arith))))

-- every element of a table is a byte, as it is of a lent one
abbrev pub Bytes : List ℕ → Type 0
Bytes t = (i : ℕ) → Fits w8 (get_or t i 0)

-- ---- the places of a corner table

-- record k is inside the table
pub inside : (t : List ℕ) (k : ℕ) → k < record_count t → record_size * k + record_size ≤ length t
inside t k h = omega arith

pub length-corners : (t : List ℕ) → length (corners_of t) ≡ record_count t
unfolding corners_of
length-corners t = length-table (corner_record t) (record_count t)

pub get_corner : (t : List ℕ) (k : ℕ) (d : Corner) → k < record_count t → get_or (corners_of t) k d ≡ corner_record t k
unfolding corners_of
get_corner t k d h = get_table (corner_record t) d (record_count t) k h

pub length-places : (t : List ℕ) → length (places_of t) ≡ record_count t
length-places t = length-map (corners_of t) place_of ∙ length-corners t

-- the place that stands for one beyond the end
abbrev pub nowhere : Corner
nowhere = record { x = 0; y = 0; z = 0; sounding = nan }

pub get_place : (t : List ℕ) (k : ℕ) → k < record_count t → get_or (places_of t) k (place_of nowhere) ≡ place_of (corner_record t k)
get_place t k h = get_or-map place_of (corners_of t) k nowhere ∙ ap place_of (get_corner t k nowhere h)

-- a number of two bytes fits 16 bits
two-fit : (t : List ℕ) → Bytes t → (at : ℕ) → at + 2 ≤ length t → little (bytes t at 2) < 65536
two-fit t b at h = rw (little-two t at h) (omega (arith, (b at).fits, (b (at + 1)).fits))

module _ (t : List ℕ) (b : Bytes t) where
  part-fits : (k i : ℕ) → k < record_count t → i + 2 ≤ record_size → little (bytes (record_bytes t k) i 2) < 65536
  part-fits k i h g = rw (part t (record_size * k) record_size i 2 g) (two-fit t b (record_size * k + i) (omega arith))

  pub record_short : (k : ℕ) → k < record_count t → Short (place_of (corner_record t k))
  unfolding corner_record
  record_short k h = record { x_fits = part-fits k 0 h (lit≤ tt); y_fits = part-fits k 2 h (lit≤ tt) }
