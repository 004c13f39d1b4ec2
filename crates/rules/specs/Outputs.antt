-- Document 01, "Outputs and refusals": the checks in their order, and what each call gives for every input. Of document 02, the enquiry's answer has the
-- wet end (request 1), drawing has check 12 (request 3), and check 2 is of 12-byte records (request 6). All is without amendments; with them, see
-- Resounding.antt.
use Rattle.std.specs.Prelude.{ℕ, suc, ◌+◌, ◌*◌, ◌%◌, ◌^◌, Bool, true, false, not, ◌&&◌, ◌||◌, cond, List, [], ◌∷◌, ◌++◌, map, eqb, ltb, length, drop, pos, Float, Result, Ok, Err}
use Rattle.std.specs.Float.{fin}
use Rattle.std.specs.Float.Ieee.{le}
use Rattle.base.specs.Lists.{any, all, first, collect, count}
use Rattle.base.specs.Grid.{Place, axis_of, same}
use Rattle.rules.specs.Survey.{record_size, Cell, entries, cells_of, cell_corners, corners_of, place_of, wet_at, Survey}
use Rattle.rules.specs.Edges.{CellEdge, edge, is_edge, odd, point_edges, number_of, carrier, Spot, spot_on, OnEdge}
use Rattle.rules.specs.Steps.{saddle_cut, Triangle, all_triangles}
use Rattle.rules.specs.WhichEnd.{wet_end}
use Rattle.rules.specs.OpenAtBox.{open_at_box}
use Rattle.rules.specs.declared.End.{End}
use Rattle.rules.specs.Refusals.{refusal_number}
use Rattle.rules.specs.declared.Edge.{Edge}
use Rattle.rules.specs.declared.Edge.TheVariants.{Even, Crossing}
use Rattle.rules.specs.declared.refusal.Refusal.{Refusal}
use Rattle.rules.specs.declared.Drawn.{Drawn}

-- the longest corner table, in bytes: 4,872 records
abbrev pub corner_limit : ℕ
corner_limit = 58464

-- empty, not whole records of n bytes, or over the limit
abbrev pub bad_table : ℕ → ℕ → List ℕ → Bool
bad_table n limit t = eqb (length t) 0 || (not (eqb (length t % n) 0) || ltb limit (length t))

-- The rule of entries, from record n on, k split records coming before it: an entry is 0, or 1 + 8k and greater than n; and the table has
-- 1 + 8 × (number of split records) records.
unfoldable pub entries_right : ℕ → ℕ → List ℕ → Bool
entries_right n k [] = eqb n (1 + 8 * k)
entries_right n k (e ∷ es) =
    let leaf = entries_right (suc n) k es in
    let split = eqb e (1 + 8 * k) && (ltb n e && entries_right (suc n) (suc k) es) in
    cond (eqb e 0) leaf split

-- the order of corner records: by z, then y, then x
abbrev pub before : Place → Place → Bool
before p q =
    ltb p.z q.z || (eqb p.z q.z &&
    (ltb p.y q.y || (eqb p.y q.y && ltb p.x q.x)))

-- records rise strictly
unfoldable pub rising : List Place → Bool
rising [] = true
rising (p ∷ []) = true
rising (p ∷ q ∷ r) = let t = rising (q ∷ r) in before p q && t

-- there is a record for every corner of every cell, and none else
unfoldable pub corners_right : List Cell → List Place → Bool
corners_right cells ps =
    all (λ c. all (λ p. any (same p) ps) (cell_corners c)) cells && all (λ p. any (λ c. any (same p) (cell_corners c)) cells) ps

-- finite and not beyond ±1,048,576, which is 2 ^ 20
unfoldable pub in_range : Float → Bool
unfolding le
in_range v = le (fin true 1 (pos 20)) v && le v (fin false 1 (pos 20))

-- of checks, each with its number and whether it applies, the number of the first that does, or 0
abbrev pub first_of : List (ℕ × Bool) → ℕ
first_of [] = 0
first_of (t ∷ ts) = let r = first_of ts in cond t.1 t.0 r

-- the checks of a cell table and a corner table, but for the soundings
unfoldable pub table_checks : List ℕ → List ℕ → List (ℕ × Bool)
unfolding entries_right cells_of corners_of rising corners_right
table_checks tc tk =
    let cells = cells_of tc in
    let places = map place_of (corners_of tk) in
    (1, bad_table 4 8196 tc) ∷
    (2, bad_table record_size corner_limit tk) ∷
    (3, not (entries_right 0 0 (entries tc))) ∷
    (4, any (λ c. c.split && eqb c.level 0) cells) ∷
    (5, not (rising places)) ∷
    (6, not (corners_right cells places)) ∷ []

-- the check of the soundings
abbrev pub sounding_check : List ℕ → ℕ × Bool
sounding_check tk = (7, any (λ k. not (in_range k.sounding)) (corners_of tk))

-- the checks of the survey by itself
unfoldable pub survey_checks : List ℕ → List ℕ → List (ℕ × Bool)
unfolding table_checks corners_of in_range
survey_checks tc tk = table_checks tc tk ++ sounding_check tk ∷ []

-- without amendments a check of the survey by itself gives 0 or 1 to 7
unfoldable pub survey_refusal : List ℕ → List ℕ → ℕ
unfolding survey_checks
survey_refusal tc tk = first_of (survey_checks tc tk)

-- the checks of the survey and the clearance
unfoldable pub checks : List ℕ → List ℕ → Float → List (ℕ × Bool)
unfolding survey_checks in_range
checks tc tk clearance = survey_checks tc tk ++ (8, not (in_range clearance)) ∷ []

-- accepted: check 8 and every check before it find nothing to refuse
unfoldable pub accepted : List ℕ → List ℕ → Float → Bool
unfolding checks
accepted tc tk clearance = eqb (first_of (checks tc tk clearance)) 0

-- the checks of drawing but those of the slices, which come after: 12 stands between 8 and 9
unfoldable pub drawing_checks : List ℕ → List ℕ → Float → List (ℕ × Bool)
unfolding checks open_at_box
drawing_checks tc tk clearance = checks tc tk clearance ++ (12, open_at_box tk clearance) ∷ []

-- drawable: check 12 and every check before it find nothing to refuse
unfoldable pub drawable : List ℕ → List ℕ → Float → Bool
unfolding drawing_checks
drawable tc tk clearance = eqb (first_of (drawing_checks tc tk clearance)) 0

-- the survey of two tables at a clearance, as the rules see it
unfoldable pub survey_of : List ℕ → List ℕ → Float → Survey
unfolding cells_of corners_of wet_at saddle_cut
survey_of tc tk clearance =
    let corners = corners_of tk in
    record { cells = cells_of tc; places = map place_of corners; is_wet = wet_at corners clearance; saddle = saddle_cut }

abbrev pub coordinates : Spot → List Float
coordinates s = s.x ∷ s.y ∷ s.z ∷ []

abbrev pub numbers : Triangle → List ℕ
numbers t = t.0 ∷ t.1 ∷ t.2 ∷ []

-- what a drawing writes: the places of all points, three floats each; the triangles, three numbers each
unfoldable pub point_floats : List ℕ → List ℕ → Float → List Float
unfolding corners_of survey_of point_edges spot_on
point_floats tc tk clearance = collect (λ e. coordinates (spot_on (corners_of tk) clearance e)) (point_edges (survey_of tc tk clearance))

unfoldable pub triangle_numbers : List ℕ → List ℕ → Float → List ℕ
unfolding survey_of all_triangles
triangle_numbers tc tk clearance = collect numbers (all_triangles (survey_of tc tk clearance))

-- what drawing returns, and what the two lent slices hold afterwards
pub record Drawing : Type 0 where
  pub result : Drawn
  pub points : List Float
  pub triangles : List ℕ

-- a slice with the first elements written over; those past the last are untouched
abbrev pub written : {A : Type 0} → List A → List A → List A
written new slice = new ++ drop (length new) slice

-- the checks of the slices, three elements for each point and for each triangle
abbrev pub slice_checks : List ℕ → List ℕ → Float → List Float → List ℕ → List (ℕ × Bool)
slice_checks tc tk clearance ps ts =
    let s = survey_of tc tk clearance in
    (9, ltb (length ps) (3 * length (point_edges s))) ∷ (10, ltb (length ts) (3 * length (all_triangles s))) ∷ []

-- drawing, of what the two slices hold before
unfoldable pub draw : List ℕ → List ℕ → Float → List Float → List ℕ → Drawing
unfolding drawing_checks drawable survey_of point_edges all_triangles point_floats triangle_numbers
draw tc tk clearance ps ts =
    let s = survey_of tc tk clearance in
    let n = length (point_edges s) in
    let m = length (all_triangles s) in
    let number = first_of (drawing_checks tc tk clearance ++ slice_checks tc tk clearance ps ts) in
    let new_points = written (point_floats tc tk clearance) ps in
    let new_triangles = written (triangle_numbers tc tk clearance) ts in
    record {
      result = record { number = number; points = cond (drawable tc tk clearance) n 0; triangles = cond (drawable tc tk clearance) m 0 };
      points = cond (eqb number 0) new_points ps;
      triangles = cond (eqb number 0) new_triangles ts;
    }

-- the level of an edge of this length, or 11, which no edge has
abbrev pub level_of : ℕ → ℕ
level_of length = first (λ l. eqb (2 ^ l) length) 11 (count 0 11)

-- the edge asked about, by axis, lower end and length
abbrev pub asked : ℕ → Place → ℕ → CellEdge
asked axis p length = edge (axis_of axis) p (level_of length)

-- what the enquiry answers: a refusal, which is its number alone; even; or crossing, with the point's number, its place and the wet end
pub data Enquired : Type 0 where
  refused : ℕ → Enquired
  even : Enquired
  crossing : ℕ → Spot → End → Enquired

-- the edge enquiry
unfoldable pub enquiry : List ℕ → List ℕ → Float → ℕ → Place → ℕ → Enquired
unfolding checks survey_of cells_of corners_of wet_at is_edge odd carrier number_of spot_on wet_end
enquiry tc tk clearance axis p length =
    let s = survey_of tc tk clearance in
    let a = axis_of axis in
    let l = level_of length in
    let number = first_of (checks tc tk clearance ++ (11, not (ltb axis 3 && is_edge s.cells a p l)) ∷ []) in
    let e = carrier s a p l in
    let place = spot_on (corners_of tk) clearance e in
    let answer = cond (odd s.is_wet a p l) (crossing (number_of s e) place (wet_end s.is_wet (edge a p l))) even in
    cond (eqb number 0) answer (refused number)

-- what the code's answer says: a refusal's number; else document 01's number and values, and document 02's wet end, for each case of the enum
abbrev pub answered : Result Edge Refusal → Enquired
answered (Err r) = refused (refusal_number r)
answered (Ok Even) = even
answered (Ok (Crossing n a b c end)) = crossing n (record { x = a; y = b; z = c }) end

-- the place of a crossing lies on an edge; a refusal and an even edge have no place
abbrev pub PlacedOn : CellEdge → Enquired → Type 0
PlacedOn e (refused n) = Unit {0}
PlacedOn e even = Unit {0}
PlacedOn e (crossing n place end) = OnEdge e place

-- "It never leaves the edge": the place of an answer lies on the edge asked about, and on the undivided edge that carries the point.
pub record StaysOn (s : Survey) (e : CellEdge) (answer : Enquired) : Type 0 where
  pub on_asked : PlacedOn e answer
  pub on_carrier : PlacedOn (carrier s e.axis e.low e.level) answer
