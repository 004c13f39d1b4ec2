-- The digits of a number in base sixteen.
use Rattle.std.specs.Prelude.{ℕ, ◌/◌, ◌%◌, ◌^◌}

-- digit i, counted from the lowest
abbrev pub digit_of : ℕ → ℕ → ℕ
digit_of n i = n / 16 ^ i % 16
