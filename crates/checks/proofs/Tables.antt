-- Checks 1, 2 and 7 of a table, one test or one record further.
use Prim.Native.Nat.{ℕ, ◌+◌, ◌%◌, ◌≤◌, ◌<◌}
use mathlib.Core.Path.{◌≡◌, ap, ◌∙◌}
use mathlib.Core.Bool.{Bool, true, false, not}
use mathlib.Core.List.{List}
use native.Mathlib.Omega.{arith}
use lib.Dec.{ltb}
use lib.ListN.{length, drop, drop_of_length-le}
use borrow.Author.Tests.{eq-eqb, ne_eqb}
use Rattle.base.specs.Lists.{any}
use Rattle.base.proofs.Below.{any_hit, any_miss}
use Rattle.rules.specs.Survey.{record_count, corner_record, corners_of}
use Rattle.rules.specs.Outputs.{bad_table, in_range}
use Rattle.rules.specs.declared.Corner.{Corner}
use Rattle.records.proofs.Keys.{length-corners, get_corner, nowhere}

module _ (n limit : ℕ) (t : List ℕ) where
  pub empty-table : length t ≡ 0 → true ≡ bad_table n limit t
  empty-table e = rw (eq-eqb (length t) 0 e)

  pub part-table : (length t ≡ 0 → ⊥) → (length t % n ≡ 0 → ⊥) → true ≡ bad_table n limit t
  part-table e p = rw (ne_eqb (length t) 0 e, ne_eqb (length t % n) 0 p)

  pub whole-table : (length t ≡ 0 → ⊥) → length t % n ≡ 0 → ltb limit (length t) ≡ bad_table n limit t
  whole-table e p = rw (ne_eqb (length t) 0 e, eq-eqb (length t % n) 0 p)

-- ---- check 7

abbrev pub beyond : Corner → Bool
beyond k = not (in_range k.sounding)

module _ (t : List ℕ) (n : ℕ) (h : n < record_count t) where
  pub beyond-here : beyond (corner_record t n) ≡ true → any beyond (drop n (corners_of t)) ≡ true
  beyond-here e = any_hit beyond (corners_of t) n nowhere (omega (arith, length-corners t)) (ap beyond (get_corner t n nowhere h) ∙ e)

  pub not-beyond-here : beyond (corner_record t n) ≡ false → any beyond (drop (n + 1) (corners_of t)) ≡ any beyond (drop n (corners_of t))
  not-beyond-here e = any_miss beyond (corners_of t) n nowhere (omega (arith, length-corners t)) (ap beyond (get_corner t n nowhere h) ∙ e)

pub none-beyond : (t : List ℕ) (n : ℕ) → record_count t ≤ n → any beyond (drop n (corners_of t)) ≡ false
none-beyond t n h = ap (any beyond) (drop_of_length-le (corners_of t) {i = n} (omega (arith, length-corners t)))
