use mathlib.Core.Path.{◌≡◌, ap, ◌∙◌}
use native.Mathlib.Omega.{arith}
use Prim.Native.Nat.{◌-◌, ◌+◌}
use Rattle.graph.specs.Table.{lowest_link}
use Rattle.graph.proofs.Following.{follow_none, follow_next, follow_done}
use Rattle.graph.proofs.LinkTable.follow.Goals as goal

pub loop-i-init : goal.loop-i-init
loop-i-init c = follow_none c.requires.start_bound.0

pub loop-i-preserved : goal.loop-i-preserved
loop-i-preserved c =
    let a = c.args in
    let lower : a.n - c.loop-i.i - 1 ≡ a.n - (c.loop-i.i + 1) = omega arith in
    follow_next c.loop-i.invariant c.loop-i-test.true c.requires.n_in_bounds.0 c.lowest-k.result
    (c.lowest-k.ensures.value ∙ ap (lowest_link a.self.links.now a.back.now a.self.count c.loop-i.k) lower) c.lowest-k.ensures.upper_bound

pub returns : goal.returns
returns c = follow_done c.loop-i.invariant c.loop-i-test.false
