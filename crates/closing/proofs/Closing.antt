-- Demand 3 of the request: the surface closes for every survey that is drawn, however the surveyor split the cells.
--     closes     whatever tables and clearance are drawable, the drawing of the rules is closed, without exception
--     closed     the same of every lawful survey whose corners on outer faces are dry, with any marking of its other corners as wet, any rule for faces with
--                four odd edges, and any rule that cuts loops into triangles
-- `Closed`, in rules/specs/Closing.antt, is demand 3 sentence by sentence, the first without its exception. docs/CLOSING.md tells the argument.
-- Assumes nothing.
use Prim.Native.Nat.{ℕ}
use mathlib.Core.List.{List}
use lib.Dec.{T}
use lib.ListN.{length}
use lib.Ieee.{Float}
use Rattle.rules.specs.Survey.{Survey}
use Rattle.rules.specs.Edges.{point_edges}
use Rattle.rules.specs.Steps.{Triangle, fan, triangles_by, all_triangles}
use Rattle.rules.specs.Outputs.{drawable, survey_of}
use Rattle.rules.specs.Closing.{Closed}
use Rattle.octree.specs.Lawful.{Lawful}
use Rattle.octree.proofs.Accepted.{drawable→, lawful}
use Rattle.octree.proofs.Points.{alone}
use Rattle.closing.specs.Cutting.{Closes}
use Rattle.closing.specs.Outside.{DryOutside}
use Rattle.closing.proofs.Cut.{fan_closes}
use Rattle.closing.proofs.Inside.{closed-inside}
use Rattle.closing.proofs.Outside.{dry_outside, never_outer}

pub closed : (s : Survey) → Lawful s → DryOutside s → (cutting : List ℕ → List Triangle) → Closes cutting
    → Closed s (length (point_edges s)) (triangles_by cutting s)
closed s law dry cutting cuts =
    let inside = closed-inside s law cutting cuts in
    record {
      balance = λ p q hp hq.
          let (e, on-e, _) = alone s law p hp in
          let (f, on-f, _) = alone s law q hq in
          inside.balance e f p q on-e on-f (never_outer s law dry e p on-e f);
      carried = inside.carried;
    }

pub closes : (tc tk : List ℕ) (clearance : Float) → T (drawable tc tk clearance)
    → let s = survey_of tc tk clearance in Closed s (length (point_edges s)) (all_triangles s)
unfolding all_triangles
closes tc tk clearance ok =
    closed (survey_of tc tk clearance) (lawful tc tk clearance (drawable→ tc tk clearance ok).0) (dry_outside tc tk clearance ok) fan fan_closes
