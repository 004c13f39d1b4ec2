-- The number of this version of the calls.
use Rattle.std.specs.Prelude.{ℕ}

-- it goes up by 1 with every change of what a call takes, returns or refuses, and with every call that is added
abbrev pub version : ℕ
version = 3
