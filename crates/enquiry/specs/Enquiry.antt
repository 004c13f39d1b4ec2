-- The edge enquiry of an accepted survey, by axis, lower end and level.
use Rattle.std.specs.Prelude.{ℕ, cond, List, Float}
use Rattle.base.specs.Grid.{Place, Axis}
use Rattle.rules.specs.Survey.{corners_of}
use Rattle.rules.specs.Edges.{edge, is_edge, odd, number_of, carrier, spot_on}
use Rattle.rules.specs.WhichEnd.{wet_end}
use Rattle.rules.specs.Outputs.{survey_of, Enquired, refused, even, crossing}
use Rattle.rules.specs.declared.AskedEdge.{AskedEdge}

-- the lower end of an edge asked about
abbrev pub lower_end : AskedEdge → Place
lower_end e = record { x = e.x; y = e.y; z = e.z }

-- even, or crossing with the point's number, its place and the wet end; refusal 11 where no cell has the edge
unfoldable pub edge_answer : List ℕ → List ℕ → Float → Axis → Place → ℕ → Enquired
unfolding survey_of corners_of is_edge odd number_of carrier spot_on wet_end
edge_answer tc tk clearance a p l =
    let s = survey_of tc tk clearance in
    let e = carrier s a p l in
    let place = spot_on (corners_of tk) clearance e in
    let answer = cond (odd s.is_wet a p l) (crossing (number_of s e) place (wet_end s.is_wet (edge a p l))) even in
    cond (is_edge s.cells a p l) answer (refused 11)
