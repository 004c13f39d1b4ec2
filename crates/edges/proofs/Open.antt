-- Whether a pool is open at the box, one corner record after the other.
use Prim.Native.Nat.{ℕ, ◌+◌, ◌≤◌, ◌<◌}
use mathlib.Core.Path.{◌≡◌, refl, sym, ap, ◌∙◌}
use mathlib.Core.Bool.{Bool, false, ◌&&◌, ◌||◌}
use mathlib.Core.List.{List}
use native.Mathlib.Omega.{arith}
use lib.Ieee.{Float}
use lib.ListN.{drop, drop_of_length-le}
use Rattle.base.specs.Lists.{any}
use Rattle.base.proofs.Tests.{or_or, or_none}
use Rattle.base.proofs.Below.{rest}
use Rattle.rules.specs.Survey.{record_count, corner_record, corners_of, place_of, wet}
use Rattle.rules.specs.OpenAtBox.{is_outer, open_at_box}
use Rattle.rules.specs.declared.Corner.{Corner}
use Rattle.records.proofs.Keys.{length-corners, get_corner, nowhere}

abbrev pub opening : Float → Corner → Bool
opening clearance c = is_outer (place_of c) && wet clearance c

module _ (t : List ℕ) (clearance : Float) where
  -- the pool is open at the box: by the records before k, or by those from k on
  abbrev pub OpenSoFar : ℕ → Bool → Type 0
  OpenSoFar k opened = open_at_box t clearance ≡ opened || any (opening clearance) (drop k (corners_of t))

  pub none_passed : OpenSoFar 0 false
  unfolding open_at_box
  none_passed = refl

  pub one-passed : (k : ℕ) (opened : Bool) → k < record_count t → OpenSoFar k opened → OpenSoFar (k + 1) (opened || opening clearance (corner_record t k))
  one-passed k opened h is =
      let f = opening clearance in
      let cs = drop (k + 1) (corners_of t) in
      is
      ∙ ap (λ l. opened || any f l) (rest (corners_of t) k nowhere (omega (arith, length-corners t)))
      ∙ ap (λ c. opened || (f c || any f cs)) (get_corner t k nowhere h)
      ∙ sym (or_or opened (f (corner_record t k)) (any f cs))

  pub all-passed : (k : ℕ) (opened : Bool) → record_count t ≤ k → OpenSoFar k opened → opened ≡ open_at_box t clearance
  all-passed k opened h is =
      sym (is ∙ ap (λ l. opened || any (opening clearance) l) (drop_of_length-le (corners_of t) {i = k} (omega (arith, length-corners t))) ∙ or_none opened)
