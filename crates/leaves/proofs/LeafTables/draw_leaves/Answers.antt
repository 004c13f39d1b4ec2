use Prim.Native.Nat.{◌/◌, ◌<◌}
use mathlib.Core.Path.{◌≡◌, refl, sym, ap, ◌∙◌}
use lib.ListN.{length}
use Rattle.leaves.specs.Leaves.{TablesReady, survey, Drew}
use Rattle.leaves.proofs.Slices.{into-length}
use Rattle.leaves.proofs.Records.{still}
use Rattle.leaves.proofs.Leaves.{triangles_to, drew_none, drew_more, drew_all, count_room}
use native.Mathlib.Omega.{arith}
use Rattle.leaves.proofs.LeafTables.draw_leaves.Goals as goal
use Rattle.leaves.proofs.LeafTables.draw_leaves.Goals.{At-loop-n}

-- what was drawn before, and what the record at hand adds
abbrev drew : (l : At-loop-n) → let a = l.args in
    (d : TablesReady a.self.now a.trace.now)
    → Drew d.limit (triangles_to (survey d) l.loop-n.n) a.out.now l.loop-n.out l.loop-n.count l.loop-n.trace
drew l = l.loop-n.invariant

abbrev ready : (l : At-loop-n) → let a = l.args in TablesReady a.self.now a.trace.now
    → TablesReady a.self.now l.loop-n.trace
ready l d = still _ _ _ _ _ _ d (drew l d).emptied

pub loop-n-init : goal.loop-n-init
loop-n-init c =
    let a = c.args in
    λ d. drew_none a.self.now.cells.now d.corners d.clearance d.passed d.limit a.out.now a.trace.now d.empty

pub offset_bounds-out-at : goal.offset_bounds-out-at
offset_bounds-out-at c =
    let drawn = drew (goal.at.offset_bounds-out-at c).At-loop-n c.requires in
    let same : length c.loop-n.out ≡ length c.args.out.now = ap length drawn.wrote ∙ into-length _ c.args.out.now in
    omega (arith, c.min-at.ensures, same)

pub draw_record-count-requires : goal.draw_record-count-requires
draw_record-count-requires c =
    record {
      ready = ready (goal.at.draw_record-count-requires c).At-loop-n c.requires;
      n_in_bounds = omega arith;
    }

pub overflow_add-count : goal.overflow_add-count
overflow_add-count c =
    let d = c.requires in
    let below : c.loop-n.n < length c.args.self.now.cells.now / 4 = omega arith in
    let most = count_room c.args.self.now.cells.now d.corners d.clearance d.passed c.loop-n.n below d.limit _ _ _ _ _ _ _ _
    (drew (goal.at.overflow_add-count c).At-loop-n d) (c.draw_record-count.ensures (ready (goal.at.overflow_add-count c).At-loop-n d)) in
    omega arith

pub loop-n-preserved : goal.loop-n-preserved
loop-n-preserved c =
    let a = c.args in
    let below : c.loop-n.n < length a.self.now.cells.now / 4 = omega arith in
    let at = (goal.at.loop-n-preserved c).At-loop-n in
    λ d. drew_more a.self.now.cells.now d.corners d.clearance d.passed c.loop-n.n below d.limit _ _ _ _ _ _ _ _ (drew at d)
    (c.draw_record-count.ensures (ready at d)) _ c.min-at.ensures refl

pub shape_of-trace : goal.shape_of-trace
shape_of-trace c = let d = c.requires in (drew (goal.at.shape_of-trace c).At-loop-n d).emptied.room ∙ sym d.empty.room

pub shape_of-out : goal.shape_of-out
shape_of-out c = ap length (drew (goal.at.shape_of-out c).At-loop-n c.requires).wrote ∙ into-length _ c.args.out.now

pub returns : goal.returns
returns c =
    let a = c.args in
    let all : c.loop-n.n ≡ length a.self.now.cells.now / 4 = omega arith in
    λ d. drew_all a.self.now.cells.now d.corners d.clearance d.passed c.loop-n.n all d.limit _ _ _ _ (drew (goal.at.returns c).At-loop-n d)
