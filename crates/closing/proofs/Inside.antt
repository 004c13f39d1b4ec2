-- Demand 3 with its exception about outer faces. It holds of pools that are open at the box too, which are not drawn.
--     closed-inside     of every lawful survey, with any wetness, any rule for faces with four odd edges, and any rule that cuts loops into triangles
--     closes_inside     of the drawing of the rules, whatever tables and clearance are accepted: not refused by 1 to 8
-- Assumes nothing.
use Prim.Native.Nat.{ℕ}
use mathlib.Core.List.{List}
use lib.Dec.{T}
use lib.ListN.{length}
use lib.Ieee.{Float}
use Rattle.rules.specs.Survey.{Survey}
use Rattle.rules.specs.Edges.{point_edges}
use Rattle.rules.specs.Steps.{Triangle, fan, triangles_by, all_triangles}
use Rattle.rules.specs.Outputs.{accepted, survey_of}
use Rattle.rules.specs.Closing.{ClosedInside}
use Rattle.octree.specs.Lawful.{Lawful}
use Rattle.octree.proofs.Accepted.{lawful}
use Rattle.octree.proofs.Points.{crossing-carries, others, alone, counted}
use Rattle.geometry.proofs.Theorem.{face_laws}
use Rattle.closing.specs.Cutting.{Closes}
use Rattle.closing.proofs.Cut.{fan_closes}
use Rattle.closing.proofs.Drawing.{balance, meets-all}

pub closed-inside : (s : Survey) → Lawful s → (cutting : List ℕ → List Triangle) → Closes cutting
    → ClosedInside s (length (point_edges s)) (triangles_by cutting s)
closed-inside s law cutting cuts = record {
  balance = balance s (face_laws s law) cutting cuts;
  carried = record {
    crossing = λ e u o. let c = crossing-carries s law e u o in (c.0, c.1, c.2, c.3, meets-all s (face_laws s law) cutting cuts c.0 c.1);
    others = others s law;
    alone = alone s law;
    counted = counted s law;
  };
}

pub closes_inside : (tc tk : List ℕ) (clearance : Float) → T (accepted tc tk clearance)
    → let s = survey_of tc tk clearance in ClosedInside s (length (point_edges s)) (all_triangles s)
unfolding all_triangles
closes_inside tc tk clearance ok = closed-inside (survey_of tc tk clearance) (lawful tc tk clearance ok) fan fan_closes
