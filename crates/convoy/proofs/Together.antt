-- The greatest clearance: wet at all clearances together is wet at one than which none is greater; and what the code finds is such a one.
use Prim.Native.Nat.{◌≤◌}
use mathlib.Core.Path.{◌≡◌, refl, sym, subst}
use mathlib.Core.Logic.{inl, inr}
use mathlib.Core.Bool.{Bool, true, false, not, cond}
use mathlib.Core.List.{List, [], ◌∷◌}
use native.Mathlib.Omega.{arith}
use lib.Dec.{T}
use lib.Ieee.{Float, lt}
use lib.Ieee.Scale.{finite}
use lib.ListN.{length}
use Rattle.base.specs.Lists.{all}
use Rattle.base.proofs.Tests.{and→, false→, →false, tests_equal}
use Rattle.base.proofs.Lists.{In, all→in, in→all}
use Rattle.rounding.proofs.Order.{Le, lt→Lt, not_lt→Le, Le→not_lt, le-le, exceeds}
use Rattle.rules.specs.Survey.{wet}
use Rattle.rules.specs.Outputs.{in_range}
use Rattle.rules.specs.declared.Corner.{Corner}
use Rattle.places.proofs.Bound.{finite_in}
use Rattle.convoy.specs.GreatestOf.{greater_of, greatest_after, greatest_of}

-- ---- of some clearances in range, one than which none is greater

pub record Top (clearances : List Float) (c : Float) : Type 0 where
  pub ranged : T (all in_range clearances)
  pub one : In c clearances
  pub none_greater : T (all (λ d. not (lt c d)) clearances)

module _ {clearances : List Float} {c : Float} (top : Top clearances c) where
  pub top_in_range : T (in_range c)
  top_in_range = all→in in_range clearances top.ranged c top.one

  -- wet at all is wet at this one
  pub wet_together : (k : Corner) → all (λ d. wet d k) clearances ≡ wet c k
  unfolding wet
  wet_together k =
      tests_equal (all (λ d. wet d k) clearances) (wet c k) (λ t. all→in (λ d. wet d k) clearances t c top.one)
      (λ t. in→all (λ d. wet d k) clearances (λ d i. exceeds c d k.sounding (finite_in c top_in_range)
      (finite_in d (all→in in_range clearances top.ranged d i)) (false→ (lt c d) (all→in (λ e. not (lt c e)) clearances top.none_greater d i)) t))

-- ---- what the code finds

-- one of some clearances, and none of them is above it
record Found (cs : List Float) (g : Float) : Type 0 where
  one : In g cs
  all_below : (x : Float) → In x cs → Le x g

-- one more of them, which is above the first or is not
raised : (c d g : Float) (ds : List Float) → Le c d → Found (d ∷ ds) g → Found (c ∷ d ∷ ds) g
raised c d g ds l f = record { one = inr f.one; all_below = all_below }
  where
    all_below : (x : Float) → In x (c ∷ d ∷ ds) → Le x g
    all_below x (inl i) = subst (λ (z : Float). Le z g) (sym i) (le-le c d g l (f.all_below d (inl refl)))
    all_below x (inr i) = f.all_below x i

kept : (c d g : Float) (ds : List Float) → Le d c → Found (c ∷ ds) g → Found (c ∷ d ∷ ds) g
kept c d g ds l f = record { one = one f.one; all_below = all_below }
  where
    one : In g (c ∷ ds) → In g (c ∷ d ∷ ds)
    one (inl e) = inl e
    one (inr i) = inr (inr i)

    all_below : (x : Float) → In x (c ∷ d ∷ ds) → Le x g
    all_below x (inl i) = f.all_below x (inl i)
    all_below x (inr (inl i)) = subst (λ (z : Float). Le z g) (sym i) (le-le d c g l (f.all_below c (inl refl)))
    all_below x (inr (inr i)) = f.all_below x (inr i)

found : (c : Float) (ds : List Float) → T (finite c) → T (all in_range ds) → Found (c ∷ ds) (greatest_after c ds)
unfolding greatest_after greater_of
found c [] p r = record { one = inl refl; all_below = only }
  where
    only : (x : Float) → In x (c ∷ []) → Le x c
    only x (inl i) = subst (λ (z : Float). Le z c) (sym i) (omega arith)
    only x (inr i) = absurd i
found c (d ∷ ds) p r = let (x, y) = and→ (in_range d) (all in_range ds) r in go (lt c d) refl (finite_in d x) (λ b q. found b ds q y)
  where
    go : (b : Bool) → lt c d ≡ b → T (finite d) → ((x : Float) → T (finite x) → Found (x ∷ ds) (greatest_after x ds)) →
        Found (c ∷ d ∷ ds) (greatest_after (cond b d c) ds)
    go true e q rest = raised c d (greatest_after d ds) ds (let l = lt→Lt c d p q e in omega arith) (rest d q)
    go false e q rest = kept c d (greatest_after c ds) ds (not_lt→Le c d p q e) (rest c p)

-- so it is one than which none is greater
pub greatest_top : (clearances : List Float) → 1 ≤ length clearances → T (all in_range clearances) → Top clearances (greatest_of clearances)
unfolding greatest_of
greatest_top [] h r = absurd (omega arith)
greatest_top (c ∷ ds) h r =
    let (x, y) = and→ (in_range c) (all in_range ds) r in
    let f = found c ds (finite_in c x) y in
    let finite-one : (d : Float) → In d (c ∷ ds) → T (finite d) = λ d i. finite_in d (all→in in_range (c ∷ ds) r d i) in
    let g = greatest_after c ds in
    record {
      ranged = r;
      one = f.one;
      none_greater =
          in→all (λ d. not (lt g d)) (c ∷ ds) (λ d i. →false (Le→not_lt d g (finite-one d i) (finite-one g f.one) (f.all_below d i)));
    }
