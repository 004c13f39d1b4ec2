use Prim.Native.Nat.{ℕ, ◌+◌, ◌-◌, ◌*◌, ◌<◌}
use mathlib.Core.Path.{◌≡◌, ap, ◌∙◌}
use mathlib.Core.List.{map}
use native.Mathlib.Omega.{arith}
use lib.ListN.{drop}
use Rattle.base.specs.Lists.{bit}
use Rattle.rules.specs.Survey.{wet}
use Rattle.edges.proofs.Filled.{byte-bit}
use Rattle.crossings.specs.Crossings.{binary}
use Rattle.crossings.proofs.Leaves.{none_left, mask_small, mask_more}
use Rattle.crossings.proofs.wet_mask.Goals as goal
use Rattle.crossings.proofs.wet_mask.Goals.{After-from, At-loop-i}

module _ (l : At-loop-i) where
  abbrev number : ℕ → ℕ
  number i = binary (map (wet l.args.clearance) (drop i l.args.leaf.corners))

  -- the numbers are below 256
  small : (i : ℕ) → number i < 256
  small i = mask_small (wet l.args.clearance) l.args.leaf.corners l.requires i

-- one digit more
more : (c : After-from) → c.from.result + 2 * c.loop-i.mask ≡ number (goal.at.After-from c).At-loop-i (c.loop-i.i - 1)
more c =
    let q : c.loop-i.i ≡ c.loop-i.i - 1 + 1 = omega arith in
    let mark = c.from.ensures ∙ byte-bit c.is_wet.result ∙ ap bit c.is_wet.ensures in
    (λ k. mark k + 2 * ((c.loop-i.invariant ∙ ap (number (goal.at.After-from c).At-loop-i) q) k))
    ∙ mask_more (wet c.args.clearance) c.args.leaf.corners c.requires (c.loop-i.i - 1) _ (omega arith)

pub loop-i-init : goal.loop-i-init
loop-i-init c = none_left (wet c.args.clearance) c.args.leaf.corners c.requires

pub overflow_mul-mask : goal.overflow_mul-mask
overflow_mul-mask c = omega (arith, c.loop-i.invariant, small (goal.at.overflow_mul-mask c).At-loop-i c.loop-i.i)

pub overflow_add-mask : goal.overflow_add-mask
overflow_add-mask c = omega (arith, more (goal.at.overflow_add-mask c).After-from, small (goal.at.overflow_add-mask c).At-loop-i (c.loop-i.i - 1))

pub loop-i-preserved : goal.loop-i-preserved
loop-i-preserved c = more (goal.at.loop-i-preserved c).After-from

pub returns : goal.returns
returns c = let z : c.loop-i.i ≡ 0 = omega arith in c.loop-i.invariant ∙ ap (number (goal.at.returns c).At-loop-i) z
