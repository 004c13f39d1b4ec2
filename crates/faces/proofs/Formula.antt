-- Document 02, request 5: the step in a pattern by the code's formula is the one by document 01's rule, and the first edge by which one enters too.
-- Computed tests over the sixteen patterns.
use Prim.Native.Nat.{ℕ, ◌+◌, ◌*◌, ◌-◌, ◌/◌, ◌%◌, ◌^◌, ◌<◌}
use mathlib.Core.Path.{◌≡◌, refl}
use mathlib.Core.Bool.{not, false, cond}
use lib.Dec.{eqb, ltb}
use lib.Bits.{bit_and}
use lib.Count.{count_trailing_zeros}
use Rattle.base.proofs.Alike.{alike}
use Rattle.faces.specs.Patterns.{step_from, first_entry}
use Rattle.faces.proofs.Table.{alike_rows}

-- the wet marks from corner i on
abbrev pub marks : ℕ → ℕ → ℕ
marks p i = 17 * p / 2 ^ i

-- how many corners are wet in a row, from the one after corner i on: up to the lowest digit that is 0
abbrev pub wet_to_right : ℕ → ℕ → ℕ
wet_to_right p i = count_trailing_zeros 64 (2 ^ 64 - 1 - marks p i / 2)

-- the edge to which the step that enters by edge i goes; 4 where none enters
abbrev pub formula : ℕ → ℕ → ℕ
formula p i = cond (eqb (marks p i % 4) 2) ((i + wet_to_right p i) % 4) 4

pub by-formula : (p i : ℕ) → p < 16 → i < 4 → formula p i ≡ step_from p i
unfolding count_trailing_zeros step_from
by-formula = alike_rows formula step_from refl

-- digit i is 1 where corner i is dry and the next one wet
abbrev pub entered : ℕ → ℕ
entered p = bit_and (17 * p / 2) (15 - p)

-- the lowest such digit, or 4
abbrev pub lowest : ℕ → ℕ
lowest p = cond (eqb (entered p) 0) 4 (count_trailing_zeros 64 (entered p))

pub by-lowest : (p : ℕ) → p < 16 → lowest p ≡ first_entry p
unfolding count_trailing_zeros step_from first_entry
by-lowest = alike 0 16 lowest first_entry refl

pub entry-few : (p : ℕ) → p < 16 → ltb (first_entry p) 4 ≡ not (eqb (entered p) 0)
unfolding step_from first_entry
entry-few = alike false 16 (λ p. ltb (first_entry p) 4) (λ p. not (eqb (entered p) 0)) refl
