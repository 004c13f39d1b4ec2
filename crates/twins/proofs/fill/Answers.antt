use Prim.Native.Nat.{◌≤◌}
use mathlib.Core.Path.{◌≡◌, ◌∙◌}
use native.Mathlib.Omega.{arith}
use lib.ListN.{length}
use Rattle.rules.specs.Steps.{twin_of}
use Rattle.edges.specs.Tables.{slots_below}
use Rattle.edges.specs.Surveyed.{surveyed}
use Rattle.edges.proofs.Filled.{filled_more}
use Rattle.edges.proofs.PointSlots.{points-few, points_slots}
use Rattle.twins.proofs.fill.Goals as goal
use Rattle.twins.proofs.fill.Goals.{Start}

module _ (s : Start) where
  few : s.args.n ≤ 14616
  few = omega (
    arith,
    points-few s.args.edges.now.survey.cells.now s.args.edges.now.survey.corners.now s.args.edges.now.survey.clearance s.args.edges.now.survey.accepted,
    s.requires.n_value.0,
  )

  count : s.args.n ≡ length (slots_below (surveyed s.args.edges.now.survey) 14616)
  count =
      s.requires.n_value.0 ∙
      points_slots s.args.edges.now.survey.cells.now s.args.edges.now.survey.corners.now s.args.edges.now.survey.clearance s.args.edges.now.survey.accepted

pub twin_of-requires : goal.twin_of-requires
twin_of-requires c =
    record {
      wets = c.requires.wets;
      numbered = c.requires.numbered;
      carriers = c.requires.carriers;
      v_in_bounds = (omega (arith, count (goal.at.twin_of-requires c).Start), omega (arith, few (goal.at.twin_of-requires c).Start));
    }

pub offset_bounds-twins-v : goal.offset_bounds-twins-v
offset_bounds-twins-v c = omega (arith, few (goal.at.offset_bounds-twins-v c).Start)

pub bounds-twins-v : goal.bounds-twins-v
bounds-twins-v c = omega (arith, few (goal.at.bounds-twins-v c).Start)

pub loop-v-preserved : goal.loop-v-preserved
loop-v-preserved c =
    filled_more (twin_of (surveyed c.args.edges.now.survey)) c.loop-v.twins c.loop-v.v c.twin_of.result
    (omega (arith, few (goal.at.loop-v-preserved c).Start)) c.loop-v.invariant c.twin_of.ensures

pub returns : goal.returns
returns c = record { size = omega arith; entry = λ v h. c.loop-v.invariant v (omega (arith, count (goal.at.returns c).Start)) }
