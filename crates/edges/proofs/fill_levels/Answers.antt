use Prim.Native.Nat.{◌+◌, ◌-◌, ◌/◌, ◌<◌}
use mathlib.Core.Path.{◌≡◌, sym, ap, ◌∙◌}
use native.Mathlib.Omega.{arith}
use lib.ListN.{length, drop}
use Rattle.rules.specs.Survey.{cells_of}
use Rattle.edges.specs.Tables.{edges_of}
use Rattle.edges.proofs.Notes.{levels_same}
use Rattle.edges.proofs.Surveyed.{none_left}
use Rattle.edges.proofs.fill_levels.Goals as goal

pub loop-n-init : goal.loop-n-init
loop-n-init c =
    (levels_same _ _ _ _ (sym (none_left c.args.cells.now c.args.corners.now c.requires.corners_value)) c.requires.levels)

pub note_cell-requires : goal.note_cell-requires
note_cell-requires c =
    let h : c.loop-n.n - 1 < length c.args.cells.now / 4 = omega arith in
    let q : c.loop-n.n ≡ c.loop-n.n - 1 + 1 = omega arith in
    record {
      corners_value = c.requires.corners_value;
      octants = c.requires.octants;
      n_in_bounds = (h, c.level_in-level.ensures ∙ (c.requires.laid.0.entered (c.loop-n.n - 1) h).level);
      levels = levels_same _ _ _ _ (ap (λ i. edges_of (drop i (cells_of c.args.cells.now))) q) c.loop-n.invariant;
    }

pub loop-n-preserved : goal.loop-n-preserved
loop-n-preserved c = c.note_cell.ensures

pub shape_of-slots : goal.shape_of-slots
shape_of-slots c = c.loop-n.invariant.size ∙ sym c.requires.levels.size

pub returns : goal.returns
returns c =
    let z : c.loop-n.n ≡ 0 = omega arith in
    rw z at c.loop-n.invariant
