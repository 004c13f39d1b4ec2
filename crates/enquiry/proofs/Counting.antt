-- How many crossed slots come before a slot, counted on one axis after the other.
-- Assumes nothing.
use Prim.Native.Nat.{ℕ, zero, suc, ◌+◌, ◌-◌, ◌*◌, ◌≤◌}
use mathlib.Core.Path.{◌≡◌, refl, sym, ap, ◌∙◌}
use mathlib.Core.Bool.{Bool, true, false, cond}
use mathlib.Core.List.{List}
use native.Mathlib.Omega.{arith}
use lib.ListN.{length}
use lib.Ieee.{Float}
use Rattle.std.specs.Prelude.{count_by}
use Rattle.std.specs.List.{range_with_len}
use Rattle.std.proofs.lemmas.List.Sums.{sum_by-cons}
use Rattle.base.specs.Lists.{bit}
use Rattle.rules.specs.Survey.{record_count, Survey}
use Rattle.rules.specs.Outputs.{survey_of}
use Rattle.edges.specs.Tables.{crossed_slot, slots_below}
use Rattle.edges.proofs.Numbering.{none_between, count_next}
use Rattle.edges.proofs.Readings.{record_outside}

one : (b : Bool) → cond b 1 0 ≡ bit b
one true = refl
one false = refl

module _ (s : Survey) (i : ℕ) where
  -- the crossed ones of n slots
  counted_on : (n a : ℕ) →
      length (slots_below s (i + a)) + count_by (λ k. crossed_slot s (i + k)) (range_with_len a n) ≡ length (slots_below s (i + a + n))
  counted_on zero a =
      let end : i + a ≡ i + a + 0 = omega arith in
      omega (arith, ap (λ j. length (slots_below s j)) end)
  counted_on (suc n) a =
      let f : ℕ → ℕ = λ k. cond (crossed_slot s (i + k)) 1 0 in
      let next : i + a + 1 ≡ i + (a + 1) = omega arith in
      let end : i + (a + 1) + n ≡ i + a + suc n = omega arith in
      let here = count_next s (i + a) _ (f a) refl (one (crossed_slot s (i + a))) in
      let moved = ap (λ j. length (slots_below s j)) next in
      let ended = ap (λ j. length (slots_below s j)) end in
      omega (arith, sum_by-cons f a (range_with_len (a + 1) n), here, moved, ended, counted_on n (a + 1))

  pub counted : (n : ℕ) → length (slots_below s i) + count_by (λ k. crossed_slot s (i + k)) (range_with_len 0 n) ≡ length (slots_below s (i + n))
  counted n =
      let start : i + 0 ≡ i = omega arith in
      rw start at (counted_on n 0)

-- the whole of an axis: behind the slots of the records none is crossed
pub axis_counted : (tc tk : List ℕ) (clearance : Float) → record_count tk ≤ 4872 → (axis : ℕ) →
    let s = survey_of tc tk clearance in
    length (slots_below s (4872 * axis)) + count_by (λ k. crossed_slot s (4872 * axis + k)) (range_with_len 0 (record_count tk))
    ≡ length (slots_below s (4872 * (axis + 1)))
axis_counted tc tk clearance few axis =
    let s = survey_of tc tk clearance in
    let i = 4872 * axis + record_count tk in
    let left = 4872 - record_count tk in
    let end : i + left ≡ 4872 * (axis + 1) = omega arith in
    counted s (4872 * axis) (record_count tk)
    ∙ sym (ap length (none_between s left i (λ j h k. record_outside tc tk clearance j (omega arith))))
    ∙ ap (λ j. length (slots_below s j)) end
