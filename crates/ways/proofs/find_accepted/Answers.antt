-- `ways::find_accepted` meets its contract: the tables of wet marks, slots and links, and the way over these.
use Prim.Native.Nat.{◌≤◌}
use mathlib.Core.Path.{◌≡◌, refl}
use native.Mathlib.Omega.{arith}
use Rattle.rules.specs.Survey.{record_count}
use Rattle.rules.specs.Outputs.{survey_refusal}
use Rattle.edges.proofs.Notes.{none_noted}
use Rattle.edges.proofs.Readings.{no_refusal}
use Rattle.edges.proofs.Surveyed.{rises-true, corners-few}
use Rattle.ways.proofs.find_accepted.Goals as goal
use Rattle.ways.proofs.find_accepted.Goals.{Start}

refused-not : (b : Start) → survey_refusal b.args.passed.cells.now b.args.passed.corners.now ≡ 0
refused-not b = no_refusal b.args.passed.cells.now b.args.passed.corners.now b.args.asked.clearance b.requires.accepted

few : (b : Start) → record_count b.args.passed.corners.now ≤ 4872
few b = let c = corners-few b.args.passed.cells.now b.args.passed.corners.now (refused-not b) in omega arith

pub fill_wets-requires : goal.fill_wets-requires
fill_wets-requires c =
    let a = c.args.passed in
    record {
      corners_value = rises-true a.cells.now a.corners.now (refused-not (goal.at.fill_wets-requires c).Start);
      wets_len = (refl, corners-few a.cells.now a.corners.now (refused-not (goal.at.fill_wets-requires c).Start));
    }

pub fill_levels-requires : goal.fill_levels-requires
fill_levels-requires c =
    record {
      corners_value = refused-not (goal.at.fill_levels-requires c).Start;
      octants = c.args.passed.tables.corner;
      laid = (c.args.passed.tables.cell, c.args.passed.tables.cell_room);
      levels = none_noted c.args.passed.corners.now 43848 refl (few (goal.at.fill_levels-requires c).Start);
    }
