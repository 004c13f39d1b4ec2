-- Check 15 by the corner table: where check 6 passes, its places are the cells' corners.
use Prim.Native.Nat.{ℕ}
use mathlib.Core.Path.{◌≡◌, sym, subst}
use mathlib.Core.Bool.{not}
use mathlib.Core.List.{List}
use lib.Dec.{T}
use Rattle.base.specs.Lists.{any, all}
use Rattle.base.specs.Grid.{Place, same}
use Rattle.base.proofs.Tests.{and→, tests_equal}
use Rattle.base.proofs.Lists.{any→in, all→in}
use Rattle.base.proofs.Places.{same→}
use Rattle.rules.specs.Survey.{Cell, cell_corners}
use Rattle.rules.specs.Outputs.{corners_right}
use Rattle.rules.specs.Resounding.{records_of, place_in, stray_amendment}
use Rattle.records.specs.Keys.{places_of}
use Rattle.amendments.specs.Amending.{unlisted}

module _ (cells : List Cell) (places : List Place) (right : T (corners_right cells places)) where
  both : T (all (λ c. all (λ p. any (same p) places) (cell_corners c)) cells) × T (all (λ p. any (λ c. any (same p) (cell_corners c)) cells) places)
  unfolding corners_right
  both = and→ (all (λ c. all (λ p. any (same p) places) (cell_corners c)) cells) (all (λ p. any (λ c. any (same p) (cell_corners c)) cells) places) right

  -- a place is some cell's corner just where a record is there
  corner-listed : (p : Place) → any (λ c. any (same p) (cell_corners c)) cells ≡ any (same p) places
  corner-listed p = tests_equal (any (λ c. any (same p) (cell_corners c)) cells) (any (same p) places) forth back
    where
      forth : T (any (λ c. any (same p) (cell_corners c)) cells) → T (any (same p) places)
      forth t =
          let (c, i, u) = any→in (λ c. any (same p) (cell_corners c)) cells t in
          let (q, j, s) = any→in (same p) (cell_corners c) u in
          let listed = all→in (λ p. any (same p) places) (cell_corners c)
          (all→in (λ c. all (λ p. any (same p) places) (cell_corners c)) cells both.0 c i) q j in
          subst (λ r. T (any (same r) places)) (sym (same→ p q s)) listed

      back : T (any (same p) places) → T (any (λ c. any (same p) (cell_corners c)) cells)
      back t =
          let (q, i, s) = any→in (same p) places t in
          subst (λ r. T (any (λ c. any (same r) (cell_corners c)) cells)) (sym (same→ p q s))
          (all→in (λ p. any (λ c. any (same p) (cell_corners c)) cells) places both.1 q i)

pub stray_is : (cells : List Cell) (tk ta : List ℕ) → T (corners_right cells (places_of tk)) → stray_amendment cells ta ≡ any (unlisted tk) (records_of ta)
unfolding stray_amendment
stray_is cells tk ta right = λ i. any (λ r. not (corner-listed cells (places_of tk) right (place_in r) i)) (records_of ta)
