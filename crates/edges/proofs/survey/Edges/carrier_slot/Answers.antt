use Prim.Native.Nat.{suc, ◌+◌, ◌-◌, ◌*◌, ◌≤◌, ◌<◌}
use mathlib.Core.Path.{◌≡◌, refl, ◌∙◌}
use native.Mathlib.Omega.{arith}
use lib.ListN.{length}
use Rattle.rules.specs.Outputs.{corner_limit}
use Rattle.edges.specs.Tables.{lowest_at}
use Rattle.edges.proofs.Descent.{lower_half, down, slot-found}
use Rattle.edges.proofs.Readings.{corners, no_refusal}
use Rattle.edges.proofs.survey.Edges.carrier_slot.Goals as goal
use Rattle.edges.proofs.survey.Edges.carrier_slot.Goals.{In-loop-level, Start}

few : (s : Start) → length s.args.self.now.survey.corners.now ≤ corner_limit
few s = (corners s.args.self.now.survey.cells.now s.args.self.now.survey.corners.now s.args.self.now.survey.clearance s.args.self.now.survey.accepted).few

pub loop-level-init : goal.loop-level-init
loop-level-init c =
    let o = c.requires.axis_bound.1 in
    (omega (arith, o.inside, few (goal.at.loop-level-init c).Start), o, refl)

-- the level at hand is not the lowest
above : (c : In-loop-level) →
    lowest_at c.args.self.now.slots.now (4872 * c.args.axis + c.loop-level.k) <
    c.loop-level.level
above c = omega (arith, c.lowest.ensures, c.loop-level-test.true)

pub upper_end-middle-requires : goal.upper_end-middle-requires
upper_end-middle-requires c =
    let tc = c.args.self.now.survey.cells.now in
    let tk = c.args.self.now.survey.corners.now in
    let x = c.args.self.now.survey.clearance in
    let g = c.requires.axis_bound.0 in
    let o = c.loop-level.invariant.1 in
    let q : c.loop-level.level ≡ suc (c.loop-level.level - 1) = omega arith in
    record {
      corners_value = no_refusal tc tk x c.args.self.now.survey.accepted;
      levelled = c.args.self.now.levelled;
      axis_bound = (
        g,
        o.inside,
        lower_half tc tk x c.args.self.now.survey.accepted c.args.self.now.slots.now c.args.self.now.levelled c.args.axis g c.loop-level.k c.loop-level.level (c.loop-level.level - 1) q o
            (above (goal.at.upper_end-middle-requires c).In-loop-level),
      );
    }

pub odd_half-k-requires : goal.odd_half-k-requires
odd_half-k-requires c =
    (omega (arith, c.requires.wets.size, c.loop-level.invariant.0), omega (arith, c.requires.wets.size, c.upper_end-middle.ensures.inside, few (goal.at.odd_half-k-requires c).Start))

pub loop-level-preserved : goal.loop-level-preserved
loop-level-preserved c =
    let q : c.loop-level.level ≡ suc (c.loop-level.level - 1) = omega arith in
    let d = down c.args.self.now.survey.cells.now c.args.self.now.survey.corners.now c.args.self.now.survey.clearance c.args.self.now.survey.accepted c.args.self.now.slots.now c.args.self.now.levelled c.args.axis
    c.requires.axis_bound.0 c.loop-level.k c.loop-level.level (c.loop-level.level - 1) q c.loop-level.invariant.1 (above (goal.at.loop-level-preserved c).In-loop-level) c.args.wets.now
    c.requires.wets c.upper_end-middle.result c.odd_half-k.result c.upper_end-middle.ensures c.odd_half-k.ensures in
    (omega (arith, d.0.inside, few (goal.at.loop-level-preserved c).Start), d.0, d.1 ∙ c.loop-level.invariant.2)

pub returns : goal.returns
returns c =
    slot-found c.args.self.now.survey.cells.now c.args.self.now.survey.corners.now c.args.self.now.survey.clearance c.args.self.now.survey.accepted c.args.self.now.slots.now c.args.self.now.levelled c.args.axis
    c.requires.axis_bound.0 c.loop-level.k c.loop-level.level c.args.start c.args.top c.loop-level.invariant.1
    (omega (arith, c.lowest.ensures)) c.loop-level.invariant.2
