-- The two passes over the clearances: what is known before each turn.
use Prim.Native.Nat.{ℕ, ◌+◌, ◌-◌, ◌≤◌, ◌<◌}
use mathlib.Core.Path.{◌≡◌, refl, sym, ap, ◌∙◌}
use mathlib.Core.Bool.{Bool, true, false, not, cond}
use mathlib.Core.List.{List, [], ◌∷◌}
use native.Mathlib.Omega.{arith}
use lib.Ieee.{Float}
use lib.ListN.{length, get_or, take, drop, drop_of_length-le}
use Rattle.std.proofs.lemmas.List.{take_rest}
use Rattle.std.proofs.lemmas.Grind.{get_or_after_one}
use borrow.Author.Tests.{ne_eqb, le-ltb}
use Rattle.base.specs.Lists.{any}
use Rattle.base.proofs.Below.{rest, any_hit, any_miss}
use Rattle.rules.specs.Outputs.{in_range, first_of}
use Rattle.rules.specs.Convoy.{most_boats, clearance_checks}
use Rattle.convoy.specs.GreatestOf.{greater_of, greatest_after, greatest_of}

-- ---- checks 21 and 8

abbrev outside : Float → Bool
outside c = not (in_range c)

module _ (cs : List Float) where
  -- of as many as there may be, each is looked at: whether one is outside is whether one of those left is
  pub record Looked (k : ℕ) : Type 0 where
    pub some : length cs ≡ 0 → ⊥
    pub few : length cs ≤ most_boats
    pub upto : k ≤ length cs
    pub left : any outside (drop k cs) ≡ any outside cs

  number_is : (k : ℕ) → Looked k → first_of (clearance_checks cs) ≡ cond (any outside cs) 8 0
  unfolding clearance_checks
  number_is k known = rw (ne_eqb (length cs) 0 known.some, le-ltb most_boats (length cs) known.few)

  pub none_looked : (length cs ≡ 0 → ⊥) → length cs ≤ most_boats → Looked 0
  none_looked some few = record { some = some; few = few; upto = omega arith; left = refl }

  module _ (k : ℕ) (d : Float) (known : Looked k) where
    pub one_outside : k < length cs → in_range (get_or cs k d) ≡ false → 8 ≡ first_of (clearance_checks cs)
    one_outside h e = sym (number_is k known ∙ rw (← known.left, any_hit outside cs k d h (ap not e)))

    pub one_inside : k < length cs → in_range (get_or cs k d) ≡ true → Looked (k + 1)
    one_inside h e = record {
      some = known.some;
      few = known.few;
      upto = omega arith;
      left = any_miss outside cs k d h (ap not e) ∙ known.left;
    }

    pub all-inside : length cs ≤ k → 0 ≡ first_of (clearance_checks cs)
    all-inside h = sym (number_is k known ∙ ap (λ (b : Bool). cond b 8 0) (sym known.left ∙ ap (any outside) (drop_of_length-le cs h)))

-- ---- the greatest

module _ (cs : List Float) where
  -- a clearance behind the first, by its position among these
  pub behind_first : (i : ℕ) (d : Float) → get_or (take (length cs - 1) (drop 1 cs)) i d ≡ get_or cs (i + 1) d
  behind_first i d =
      ap (λ (l : List Float). get_or l i d) (take_rest cs 1) ∙ get_or_after_one cs i d
      ∙ ap (λ (j : ℕ). get_or cs j d) (let e : 1 + i ≡ i + 1 = omega arith in e)

  -- the greatest of the best so far and those left is the greatest of all
  pub record Passed (best : Float) (k : ℕ) : Type 0 where
    pub upto : k ≤ length cs
    pub best-is : greatest_after best (drop k cs) ≡ greatest_of cs

  module _ (best : Float) (k : ℕ) (d : Float) (known : Passed best k) where
    pub one-passed : k < length cs → (b : Float) → b ≡ greater_of best (get_or cs k d) → Passed b (k + 1)
    unfolding greatest_after
    one-passed h b e = record {
      upto = omega arith;
      best-is = ap (λ (x : Float). greatest_after x (drop (k + 1) cs)) e ∙ ap (greatest_after best) (sym (rest cs k d h)) ∙ known.best-is;
    }

    pub all-passed : length cs ≤ k → best ≡ greatest_of cs
    unfolding greatest_after
    all-passed h = sym (ap (greatest_after best) (drop_of_length-le cs h)) ∙ known.best-is

pub first-passed : (cs : List Float) (d : Float) → 1 ≤ length cs → Passed cs (get_or cs 0 d) 1
first-passed [] d h = absurd (omega arith)
first-passed (c ∷ cs) d h = record { upto = h; best-is = unfold greatest_of in refl }
