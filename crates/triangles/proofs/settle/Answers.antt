-- `triangles::settle` meets its contract: by whether the triangles are wanted, have room in the slice, and had room in the scratch.
use Prim.Native.Nat.{◌*◌}
use mathlib.Core.Path.{ap}
use mathlib.Core.List.{◌++◌}
use lib.ListN.{drop}
use native.Mathlib.Omega.{arith}
use Rattle.leaves.specs.Leaves.{TablesReady}
use Rattle.leaves.proofs.Records.{still}
use Rattle.triangles.proofs.Settling.{unwanted, too_short, copied, redrawn}
use Rattle.triangles.proofs.settle.Goals as goal
use Rattle.triangles.proofs.settle.Goals.{After-draw_leaves-m}

-- the tables with the trace that the first pass leaves
abbrev again : (c : After-draw_leaves-m) → let a = c.args in
    TablesReady a.tables.now a.trace.now
    → TablesReady a.tables.now c.draw_leaves-m.new.trace
again c d = still _ _ _ _ _ _ d (c.draw_leaves-m.ensures d).emptied

-- they are not wanted
pub returns-then-not-write : goal.returns-then-not-write
returns-then-not-write c =
    let a = c.args in
    λ d. unwanted d.limit _ _ _ _ _ (c.draw_leaves-m.ensures d) a.out.now a.write c.if-not-write.true

-- the slice is too short
pub returns-then-out-end : goal.returns-then-out-end
returns-then-out-end c =
    let a = c.args in
    λ d. too_short d.limit _ _ _ _ _ (c.draw_leaves-m.ensures d) a.out.now a.write c.if-not-write.false (omega arith)

-- the scratch had room
pub returns-then-end-scratch : goal.returns-then-end-scratch
returns-then-end-scratch c =
    let a = c.args in
    λ d. copied d.limit _ _ _ _ _ (c.draw_leaves-m.ensures d) a.out.now _ a.write c.if-not-write.false (omega (arith, c.if-end-scratch.true))
    (omega (arith, c.if-out-end.false))
    (ap (λ l. l ++ drop (3 * c.draw_leaves-m.result) a.out.now) c.copy_from_slice.ensures.after)

pub draw_leaves-requires : goal.draw_leaves-requires
draw_leaves-requires c = again (goal.at.draw_leaves-requires c).After-draw_leaves-m c.requires

-- it had not
pub returns : goal.returns
returns c =
    let a = c.args in
    λ d. let drew = c.draw_leaves.ensures (again (goal.at.returns c).After-draw_leaves-m d) in
    redrawn d.limit _ _ _ _ _ drew a.write c.if-not-write.false (omega (arith, c.if-out-end.false, (c.draw_leaves-m.ensures d).counted, drew.counted))
