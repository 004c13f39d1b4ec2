-- A number in base ten has the digits of its tenth and its last digit; and how many bytes each text has.
-- Assumes nothing.
use Prim.Native.Nat.{ℕ, zero, suc, ◌+◌, ◌/◌, ◌%◌, ◌^◌, ◌<◌, ◌≤◌, zero-le}
use mathlib.Core.Path.{◌≡◌, refl, sym, ap, ◌∙◌}
use mathlib.Core.Bool.{Bool, true, false, cond}
use mathlib.Core.List.{List, [], ◌∷◌, ◌++◌, map}
use native.Mathlib.Omega.{arith}
use lib.ListN.{length, get_or, take, length-append, length-take}
use lib.Seq.{take-suc}
use native.Mathlib.Numerals.{add-one}
use Rattle.std.proofs.lemmas.List.{map-append, length-map}
use lib.Dec.{ltb}
use borrow.Author.Tests.{lt-ltb, le-ltb}
use Rattle.text.specs.Text.{digit, hex, decimal_in, decimal}

-- one place more changes nothing where the number has no more digits
places_enough : (k v : ℕ) → v < 10 ^ suc k → decimal_in (suc (suc k)) v ≡ decimal_in (suc k) v
unfolding decimal_in
places_enough zero v h = rw (lt-ltb v 10 (omega arith))
places_enough (suc k) v h = go (ltb v 10) (places_enough k (v / 10) (omega arith))
  where
    go : (b : Bool) → decimal_in (suc (suc k)) (v / 10) ≡ decimal_in (suc k) (v / 10)
        → cond b (digit v ∷ []) (decimal_in (suc (suc k)) (v / 10) ++ digit (v % 10) ∷ [])
        ≡ cond b (digit v ∷ []) (decimal_in (suc k) (v / 10) ++ digit (v % 10) ∷ [])
    go b e = ap (λ (l : List ℕ). cond b (digit v ∷ []) (l ++ digit (v % 10) ∷ [])) e

pub decimal-one : (v : ℕ) → v < 10 → digit v ∷ [] ≡ decimal v
unfolding decimal_in
decimal-one v h = rw (lt-ltb v 10 h)

pub decimal-more : (v : ℕ) → 10 ≤ v → v < 2 ^ 32 → decimal (v / 10) ++ digit (v % 10) ∷ [] ≡ decimal v
unfolding decimal_in
decimal-more v h l = rw (le-ltb v 10 h) (ap (λ (d : List ℕ). d ++ digit (v % 10) ∷ []) (places_enough 8 (v / 10) (omega arith)))

pub digits_length : (k v : ℕ) → length (decimal_in k v) ≤ k
unfolding decimal_in
digits_length zero v = zero-le
digits_length (suc k) v = go (ltb v 10) (digits_length k (v / 10))
  where
    go : (b : Bool) → length (decimal_in k (v / 10)) ≤ k → length (cond b (digit v ∷ []) (decimal_in k (v / 10) ++ digit (v % 10) ∷ [])) ≤ suc k
    go true h = omega arith
    go false h = rw length-append (omega arith)

-- a tenth has one digit less
pub tenth_length : (v : ℕ) → 10 ≤ v → v < 2 ^ 32 → length (decimal (v / 10)) ≤ 9
tenth_length v h l =
    let e : length (decimal (v / 10)) + 1 ≡ length (decimal v) =
    sym (length-append (decimal (v / 10)) (digit (v % 10) ∷ [])) ∙ ap length (decimal-more v h l) in
    omega (arith, digits_length 10 v)

pub hex-length : (v : ℕ) → length (hex v) ≡ 8
unfolding hex
hex-length v = refl

-- the hexadecimal digits at some places, told by their bits
abbrev pub hex_by : ℕ → List ℕ → List ℕ
hex_by v shifts = map (λ k. digit (v / 2 ^ k % 16)) shifts

abbrev pub places : List ℕ
places = 28 ∷ 24 ∷ 20 ∷ 16 ∷ 12 ∷ 8 ∷ 4 ∷ 0 ∷ []

pub hex-places : (v : ℕ) → hex_by v places ≡ hex v
unfolding hex
hex-places v =
    let last : v / 1 ≡ v = omega arith in
    ap (λ (d : ℕ).
    digit (v / 0x1000_0000 % 16) ∷ digit (v / 0x100_0000 % 16) ∷ digit (v / 0x10_0000 % 16) ∷ digit (v / 0x1_0000 % 16) ∷
    digit (v / 0x1000 % 16) ∷ digit (v / 0x100 % 16) ∷ digit (v / 0x10 % 16) ∷ digit (d % 16) ∷ []) last

-- one place more
pub hex_by-more : (v : ℕ) (shifts : List ℕ) (i : ℕ) → i < length shifts
    → hex_by v (take i shifts) ++ digit (v / 2 ^ get_or shifts i 0 % 16) ∷ [] ≡ hex_by v (take (i + 1) shifts)
hex_by-more v shifts i h =
    sym (ap (hex_by v) (rw (add-one i) (take-suc shifts i 0 h))
    ∙ map-append (λ k. digit (v / 2 ^ k % 16)) (take i shifts) (get_or shifts i 0 ∷ []))

pub hex_by-length : (v : ℕ) (shifts : List ℕ) (i : ℕ) → length (hex_by v (take i shifts)) ≤ i
hex_by-length v shifts i = rw length-map (omega (arith, length-take i shifts))
