-- Bit patterns of NaNs, and the range of a sounding.
use mathlib.Core.Path.{◌≡◌, refl, sym, ap, ◌∙◌}
use Prim.Native.Nat.{ℕ, ◌%◌, ◌≤◌, ◌<◌}
use mathlib.Core.Bool.{true, false, not, false≢true}
use lib.IntN.{pos}
use lib.Dec.{T}
use borrow.Author.Tests.{lt-ltb, le-ltb}
use lib.Ieee.{Float, nan, inf, fin, binary32, div, neg, le, is_nan, nan_bits, of_bits}
use lib.Ieee.Bits.{nan_bits_is, nan_bits_above}
use Rattle.rules.specs.Outputs.{in_range}

only_nan : (x : Float) → is_nan x ≡ true → x ≡ nan
unfolding is_nan
only_nan nan h = refl
only_nan (inf s) h = absurd (false≢true h)
only_nan (fin s m e) h = absurd (false≢true h)

zero_by_zero : div binary32 (of_bits binary32 0) (of_bits binary32 0) ≡ nan
unfolding div of_bits
zero_by_zero = refl

pub nan_made : (b : ℕ) → 0x7f80_0000 < b % 0x8000_0000 → div binary32 (of_bits binary32 0) (of_bits binary32 0) ≡ of_bits binary32 b
nan_made b h = zero_by_zero ∙ sym (only_nan (of_bits binary32 b) (sym (nan_bits_is binary32 b) ∙ nan_bits_above binary32 b
    ∙ lt-ltb 0x7f80_0000 (b % 0x8000_0000) h))

pub no_nan_bits : (b : ℕ) → b % 0x8000_0000 ≤ 0x7f80_0000 → T (not (nan_bits binary32 b))
no_nan_bits b h = rw (nan_bits_above binary32 b ∙ le-ltb 0x7f80_0000 (b % 0x8000_0000) h) tt

-- ---- the range
highest : of_bits binary32 0x4980_0000 ≡ fin false 1 (pos 20)
unfolding of_bits
highest = refl

lowest : neg (of_bits binary32 0x4980_0000) ≡ fin true 1 (pos 20)
unfolding neg of_bits
lowest = refl

pub in_range_is : (x : Float) → le (neg (of_bits binary32 0x4980_0000)) x ≡ true → le x (of_bits binary32 0x4980_0000) ≡ in_range x
unfolding le in_range
in_range_is x h = rw (highest, sym (ap (λ (y : Float). le y x) lowest) ∙ h)

pub below_range_is : (x : Float) → le (neg (of_bits binary32 0x4980_0000)) x ≡ false → le (neg (of_bits binary32 0x4980_0000)) x ≡ in_range x
unfolding in_range
below_range_is x h = h ∙ rw (sym (ap (λ (y : Float). le y x) lowest) ∙ h)
