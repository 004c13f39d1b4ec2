-- `edges::Edges::slot_point` meets its contract: the edge of a crossed slot, as the table has it.
use Prim.Native.Nat.{ℕ, ◌/◌, ◌%◌}
use mathlib.Core.Path.{sym, ap, ◌∙◌, subst}
use native.Mathlib.Omega.{arith}
use Rattle.base.specs.Grid.{axis_of}
use Rattle.rules.specs.Edges.{edge, spot_on}
use Rattle.rules.specs.Survey.{corners_of}
use Rattle.records.specs.Keys.{places_of}
use Rattle.edges.specs.Tables.{place_at, far_at, UpperEnd}
use Rattle.edges.proofs.Places.{slot-edge_read}
use Rattle.edges.proofs.PointSlots.{slot-odd-edge, slot-far_end}
use Rattle.edges.proofs.Readings.{corners, no_refusal}
use Rattle.edges.proofs.Surveyed.{edge-shallow}
use Rattle.edges.proofs.survey.Edges.slot_point.Goals as goal

pub edge_point-requires : goal.edge_point-requires
edge_point-requires c =
    let tc = c.args.self.now.survey.cells.now in
    let tk = c.args.self.now.survey.corners.now in
    let x = c.args.self.now.survey.clearance in
    let i = c.args.slot in
    let low = sym c.lowest-level.ensures in
    let o = slot-odd-edge tc tk x c.args.self.now.survey.accepted c.args.self.now.slots.now c.args.self.now.levelled i c.requires.0 c.requires.1 in
    let u = slot-far_end tc tk x c.args.self.now.survey.accepted c.args.self.now.slots.now c.args.self.now.levelled i c.requires.0 c.requires.1 in
    record {
      corners = corners tc tk x c.args.self.now.survey.accepted;
      k_bound = (
        o.inside,
        omega (arith, edge-shallow tc tk (no_refusal tc tk x c.args.self.now.survey.accepted) _ _ _ o.is_edge_lem, c.lowest-level.ensures),
        subst (UpperEnd tk (axis_of (i / 4872)) (i % 4872) c.lowest-level.result) (sym (c.from-end.ensures ∙ c.far.ensures))
            (subst (λ (l : ℕ). UpperEnd tk (axis_of (i / 4872)) (i % 4872) l (far_at c.args.self.now.slots.now i)) low u),
      );
    }

pub returns : goal.returns
returns c =
    let tk = c.args.self.now.survey.corners.now in
    let i = c.args.slot in
    c.edge_point.ensures ∙ ap (λ (l : ℕ). spot_on (corners_of tk) c.args.self.now.survey.clearance (edge (axis_of (i / 4872)) (place_at (places_of tk) (i % 4872)) l))
    c.lowest-level.ensures ∙ ap (spot_on (corners_of tk) c.args.self.now.survey.clearance) (slot-edge_read c.args.self.now.survey.cells.now tk c.args.self.now.survey.clearance c.args.self.now.survey.accepted
    c.args.self.now.slots.now c.args.self.now.levelled i c.requires.0 c.requires.1)
