use Prim.Native.Nat.{ℕ, ◌<◌}
use mathlib.Core.Path.{◌≡◌, sym, ap, ◌∙◌, subst}
use mathlib.Core.List.{List}
use native.Mathlib.Omega.{arith}
use lib.ListN.{length}
use Rattle.base.specs.Lists.{collect, count}
use Rattle.rules.specs.Steps.{Step}
use Rattle.trace.specs.Trace.{recorded}
use Rattle.faces.specs.Faces.{side_table_steps, leaf_table_steps, Fits}
use Rattle.faces.proofs.Recording.{begun, count_at, next_fits, recorded-next, recorded-all, leaf_parts}
use Rattle.faces.proofs.leaf_steps.Goals as goal
use Rattle.faces.proofs.leaf_steps.Goals.{At-loop-i}

abbrev steps : At-loop-i → ℕ → List Step
steps l = let a = l.args in side_table_steps a.cells.now a.across.now a.crossings.now a.n

all-steps : (l : At-loop-i) → let a = l.args in
    collect (steps l) (count 0 6) ≡ leaf_table_steps a.cells.now a.across.now a.crossings.now a.n
all-steps l = let a = l.args in leaf_parts a.cells.now a.across.now a.crossings.now a.n

pub loop-i-init : goal.loop-i-init
loop-i-init c = begun _ (count 0 6) _

pub side_steps-requires : goal.side_steps-requires
side_steps-requires c =
    let i = c.loop-i.i in
    let more : i < 6 = omega (arith, c.loop-i-test.true) in
    record {
      reaching = c.requires.reaching;
      i_bound = more;
      fits = next_fits (steps (goal.at.side_steps-requires c).At-loop-i) (count 0 6) i _ _ c.loop-i.invariant more i (count_at 6 i more)
          (subst (λ ss. Fits ss (length c.args.trace.now)) (sym (all-steps (goal.at.side_steps-requires c).At-loop-i)) c.requires.fits);
    }

pub loop-i-preserved : goal.loop-i-preserved
loop-i-preserved c =
    let i = c.loop-i.i in
    let more : i < 6 = omega (arith, c.loop-i-test.true) in
    recorded-next (steps (goal.at.loop-i-preserved c).At-loop-i) (count 0 6) i _ _ c.loop-i.invariant more i (count_at 6 i more) _ c.side_steps.ensures

pub returns : goal.returns
returns c =
    recorded-all (steps (goal.at.returns c).At-loop-i) (count 0 6) c.loop-i.i _ _ c.loop-i.invariant (λ h. omega (arith, c.loop-i-test.false))
    ∙ ap (λ ss. recorded ss c.args.trace.now) (all-steps (goal.at.returns c).At-loop-i)
