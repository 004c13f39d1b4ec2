-- The bit pattern of a NaN, at which `to_bits` is undefined.
-- Assumes nothing.
use mathlib.Core.Path.{◌≡◌, refl}
use mathlib.Core.Bool.{true, true≢false}
use lib.Ieee.{Float, nan, inf, fin, binary32, is_nan, to_bits}

pub nan_bits : (x : Float) → true ≡ is_nan x → 0x7fc0_0000 ≡ to_bits binary32 x
unfolding is_nan to_bits
nan_bits nan h = refl
nan_bits (inf s) h = absurd (true≢false h)
nan_bits (fin s m e) h = absurd (true≢false h)
