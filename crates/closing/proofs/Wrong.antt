-- The drawings of specs/Wrong.antt are not closed, so the theorem is true of none of them.
--     wrong_open        not closed on a drawable survey: a coarse leaf uses its own side; copied steps keep their direction; open ends are paired
--                       with the nearest point; a leaf is left out
--     cut_off_open      the drawing of the rules on a survey that is accepted and open at the box is not closed: without check 12 the theorem would be false
--     left-out_open     a fan without its first triangle is no lawful cutting
-- Assumes nothing.
use Prim.Native.Nat.{ℕ, ◌<◌}
use mathlib.Core.Path.{◌≡◌, refl, subst}
use mathlib.Core.Bool.{Bool, not}
use mathlib.Core.List.{List, [], ◌∷◌}
use native.Mathlib.Omega.{arith}
use lib.Dec.{eqb, T, T_not, eqb_refl}
use lib.ListN.{length, drop}
use lib.Ieee.{binary32, of_bits}
use Rattle.base.specs.Lists.{any, all, count}
use Rattle.base.proofs.Lists.{In, any→in, all→in, in_count}
use Rattle.rules.specs.Survey.{Survey}
use Rattle.rules.specs.Edges.{point_edges}
use Rattle.rules.specs.Steps.{leaf_loops, Triangle, fan, triangles_by, all_triangles}
use Rattle.rules.specs.Outputs.{accepted, drawable, survey_of}
use Rattle.rules.specs.Closing.{step, runs, Closed}
use Rattle.rules.proofs.Surveys.{place, two, minus_one, at, corner_table, leaf}
use Rattle.rules.proofs.Further.{two_pairs, one_wet}
use Rattle.octree.specs.Lawful.{Lawful}
use Rattle.octree.proofs.Accepted.{drawable→, lawful}
use Rattle.octree.proofs.Points.{counted}
use Rattle.closing.specs.Cutting.{Closes}
use Rattle.closing.specs.Wrong.{Way, drawn_by, as_ruled, wrong}

-- without the change they are the drawing of the rules
as_ruled_lem : (s : Survey) → drawn_by as_ruled s ≡ all_triangles s
unfolding drawn_by as_ruled all_triangles triangles_by leaf_loops
as_ruled_lem s = refl

-- ---- a test of a drawing

-- the triangles don't run as often from p to q as from q to p
unfoldable slit : List Triangle → ℕ → ℕ → Bool
unfolding step
slit ts p q = not (eqb (runs p q ts) (runs q p ts))

-- there is such a slit
unfoldable slits : Survey → List Triangle → Bool
unfolding point_edges slit
slits s ts = let points = count 0 (length (point_edges s)) in any (λ p. any (slit ts p) points) points

-- triangles with a slit are not closed, whatever point count they come with
slits_open : (s : Survey) → Lawful s → (n : ℕ) (ts : List Triangle) → T (slits s ts) → Closed s n ts → ⊥
unfolding slits slit
slits_open s law n ts t c =
    let points = count 0 (length (point_edges s)) in
    let p = any→in (λ p. any (slit ts p) points) points t in
    let q = any→in (slit ts p.0) points p.2 in
    let below : (v : ℕ) → In v points → v < n =
    λ v i. let h = (in_count (length (point_edges s)) 0 v i).1 in omega (arith, c.carried.counted, counted s law) in
    let there = runs p.0 q.0 ts in
    let e = c.balance p.0 q.0 (below p.0 p.1) (below q.0 q.1) in
    T_not (eqb there (runs q.0 p.0 ts)) q.2 (subst (λ (k : ℕ). T (eqb there k)) e (eqb_refl there))

-- ---- the survey with splits in records 0, 1, 15 and 23, wet at two places

abbrev pub corners : List ℕ
unfolding two_pairs
corners = corner_table two_pairs.corners (at (place 64 512 512 ∷ place 256 512 512 ∷ []) two minus_one)

unfoldable pub basin : Survey
unfolding survey_of of_bits two_pairs
basin = survey_of two_pairs.cells corners (of_bits binary32 0)

-- it is drawable
pub basin_drawable : T (drawable two_pairs.cells corners (of_bits binary32 0))
unfolding drawable of_bits two_pairs
basin_drawable = tt

basin_lawful : Lawful basin
unfolding basin
basin_lawful = lawful two_pairs.cells corners (of_bits binary32 0) (drawable→ two_pairs.cells corners (of_bits binary32 0) basin_drawable).0

slits_in : T (all (λ w. slits basin (drawn_by w basin)) wrong)
unfolding slits basin drawn_by wrong
slits_in = tt

-- none of the wrong drawings of it is closed
pub wrong_open : (w : Way) → In w wrong → (n : ℕ) → Closed basin n (drawn_by w basin) → ⊥
wrong_open w i n c = slits_open basin basin_lawful n (drawn_by w basin) (all→in (λ w. slits basin (drawn_by w basin)) wrong slits_in w i) c

-- ---- a pool cut off by the box: one leaf, only (0,0,0) wet

abbrev pub cut_off_corners : List ℕ
cut_off_corners = corner_table leaf.corners one_wet

unfoldable pub cut_off : Survey
unfolding survey_of of_bits
cut_off = survey_of leaf.cells cut_off_corners (of_bits binary32 0)

-- it is accepted, and not drawable
pub cut_off_accepted : T (accepted leaf.cells cut_off_corners (of_bits binary32 0))
unfolding accepted of_bits
cut_off_accepted = tt

pub cut_off_refused : T (not (drawable leaf.cells cut_off_corners (of_bits binary32 0)))
unfolding drawable of_bits
cut_off_refused = tt

cut_off_slits : T (slits cut_off (all_triangles cut_off))
unfolding slits cut_off all_triangles
cut_off_slits = tt

-- its surface has an open end
pub cut_off_open : (n : ℕ) → Closed cut_off n (all_triangles cut_off) → ⊥
unfolding cut_off
cut_off_open n c = slits_open cut_off (lawful leaf.cells cut_off_corners (of_bits binary32 0) cut_off_accepted) n (all_triangles cut_off) cut_off_slits c

-- ---- a rule that cuts loops

-- a fan without its first triangle: of a loop of three points nothing is left, and the loop's steps are lost
pub left-out_open : Closes (λ l. drop 1 (fan l)) → ⊥
unfolding step
left-out_open closes = let lost : ◌≡◌ {A = ℕ} 0 1 = closes (step 0 1) (0 ∷ 1 ∷ 2 ∷ []) in omega arith
