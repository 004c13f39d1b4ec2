-- The records of an accepted survey one after the other: the leaf of a record as the loops see it, how many triangles it has at most, and the
-- triangles of the first records.
--     record-leaf, record-split      the triangles of a record
--     leaf-drawn                     what drawing the loops of its trace gives
--     to_none, to_more, to_all       the triangles of no record, of one more, and of all
--     to_few                         so few that a count of 32 bits holds them
-- Assumes nothing.
use Prim.Native.Nat.{ℕ, zero, suc, ◌+◌, ◌-◌, ◌*◌, ◌/◌, ◌≤◌, ◌<◌, min}
use native.Mathlib.Omega.{arith}
use native.Mathlib.Numerals.{add-one}
use native.Mathlib.Decide.{ℕ_discrete}
use mathlib.Core.Path.{◌≡◌, refl, sym, ap, ◌∙◌}
use mathlib.Core.Bool.{Bool, true, false, not, cond}
use mathlib.Core.List.{List, [], ◌∷◌, ◌++◌, append-nil}
use lib.Dec.{T, eqb}
use lib.ListN.{length, take, drop, length-append}
use lib.Seq.{take-suc, take-length}
use lib.Ieee.{Float}
use borrow.Author.Tests.{eq-eqb, ne_eqb}
use Rattle.base.specs.Lists.{keep, collect}
use Rattle.base.specs.Grid.{origin}
use Rattle.base.proofs.Tests.{→true}
use Rattle.base.proofs.Lists.{In, in_get, keep_in, collect_append}
use Rattle.rules.specs.Survey.{Cell, cell, entry, entries, cells_of, Survey}
use Rattle.rules.specs.Edges.{point_edges}
use Rattle.rules.specs.Steps.{Triangle, fan, leaf_steps, twin_of, met, onward, leaf_loops, triangles_by, all_triangles}
use Rattle.rules.specs.Outputs.{entries_right, survey_refusal, accepted, survey_of, numbers}
use Rattle.octree.proofs.Accepted.{checked, accepted→, lawful}
use Rattle.octree.proofs.Records.{cell-count, mark_of}
use Rattle.geometry.proofs.Interface.{leaves_of, Paired, FaceLaws}
use Rattle.geometry.proofs.Laws.{meeting→}
use Rattle.geometry.proofs.Theorem.{face_laws}
use Rattle.closing.specs.Permutes.{Permutes}
use Rattle.closing.proofs.Leaf.{onward-permutes}
use Rattle.closing.proofs.Few.{loops-few, fan-few}
use Rattle.cells.specs.Laid.{cell_at}
use Rattle.edges.specs.Tables.{slots_below, Twins}
use Rattle.edges.proofs.Points.{keep_append, point-count}
use Rattle.edges.proofs.Numbering.{below_le}
use Rattle.edges.proofs.Readings.{edges_law, few-places}
use Rattle.edges.proofs.Surveyed.{cells-few}
use Rattle.trace.specs.Trace.{Traced, meets}
use Rattle.loops.specs.Loops.{Leaf, into, Drawn, Loaded, Draws}
use Rattle.loops.proofs.Slices.{length-numbers, numbers_append}
use Rattle.leaves.specs.Leaves.{record_triangles, Drew}
use Rattle.leaves.proofs.Slices.{into_nil, into_more}

-- where there are no triangles, nothing is drawn
pub drew_nothing : (limit : ℕ) (ts : List Triangle) (out t : List ℕ) → ts ≡ [] → Traced limit [] t → Drew limit ts out out 0 t
drew_nothing limit ts out t none h = record {
  counted = sym (ap length none);
  wrote = sym (ap (λ (l : List Triangle). into (collect numbers l) out) none ∙ into_nil out);
  emptied = h;
}

-- the triangles of the leaves among the first n records
unfoldable pub triangles_to : Survey → ℕ → List Triangle
unfolding leaf_loops
triangles_to s n = collect (λ c. collect fan (leaf_loops s c)) (keep (λ c. not c.split) (take n s.cells))

-- what is drawn of one record
one_kept : (drawn : Cell → List Triangle) (c : Cell) (split : Bool) → collect drawn (cond (not split) (c ∷ []) []) ≡ cond split [] (drawn c)
one_kept drawn c true = refl
one_kept drawn c false = append-nil (drawn c)

-- ---- the leaf of a record

module _ (tc tk : List ℕ) (clearance : Float) (ok : accepted tc tk clearance ≡ true) where
  abbrev s : Survey
  s = survey_of tc tk clearance

  laws : FaceLaws s
  laws = face_laws s (lawful tc tk clearance (→true ok))

  -- the points are those of the crossed slots, and there are no more of them than slots
  slot-count : length (slots_below s 14616) ≡ length (point_edges s)
  slot-count = point-count s (edges_law tc tk clearance ok) (few-places tc tk clearance ok)

  pub points-few : length (point_edges s) ≤ 14616
  points-few = omega (arith, slot-count, below_le s 14616)

  permutes : (c : Cell) → In c (leaves_of s) → Permutes (length (point_edges s)) (onward (leaf_steps s c) (twin_of s)) (met (leaf_steps s c) (length (point_edges s)))
  permutes c i = onward-permutes (twin_of s) (length (point_edges s)) (leaf_steps s c) (laws.paired c i)

  -- a leaf as the loops see it
  abbrev leaf_of : (twins : List ℕ) → Twins s twins → (c : Cell) → In c (leaves_of s) → Leaf twins
  leaf_of twins tw c i =
      let paired : Paired (twin_of s) (length (point_edges s)) (leaf_steps s c) = laws.paired c i in
      record {
        points = length (point_edges s);
        few = points-few;
        long = omega (arith, points-few, tw.size);
        steps = leaf_steps s c;
        twin = twin_of s;
        inside = λ v m. paired.within v (meeting→ (leaf_steps s c) v (→true m));
        table = λ v h. tw.entry v (omega (arith, slot-count));
        permutes = permutes c i;
      }

  unrefused : survey_refusal tc tk ≡ 0
  unrefused = (accepted→ tc tk clearance (→true ok)).0

  pub few_records : length tc / 4 ≤ 2049
  few_records = let h = cells-few tc tk unrefused in omega arith

  right : T (entries_right 0 0 (entries tc))
  right = (checked tc tk unrefused).entries_right_lem

  module _ (n : ℕ) (h : n < length tc / 4) where
    inside : n < length (cells_of tc)
    inside = omega (arith, cell-count tc right)

    split-is : (cell_at tc n).split ≡ not (eqb (entry tc n) 0)
    split-is = mark_of tc right (cell origin 10 false) n h

    -- a record with another entry than 0 has no triangles
    pub record-split : (entry tc n ≡ 0 → ⊥) → record_triangles s (cell_at tc n) ≡ []
    unfolding record_triangles
    record-split e = ap (λ (b : Bool). cond b [] (collect fan (leaf_loops s (cell_at tc n)))) (split-is ∙ ap not (ne_eqb (entry tc n) 0 e))

    module _ (e : entry tc n ≡ 0) where
      whole : (cell_at tc n).split ≡ false
      whole = split-is ∙ ap not (eq-eqb (entry tc n) 0 e)

      record-leaf : record_triangles s (cell_at tc n) ≡ collect fan (leaf_loops s (cell_at tc n))
      unfolding record_triangles
      record-leaf = ap (λ (b : Bool). cond b [] (collect fan (leaf_loops s (cell_at tc n)))) whole

      -- a record with the entry 0 is a leaf
      is_leaf : In (cell_at tc n) (leaves_of s)
      unfolding survey_of
      is_leaf =
          keep_in (λ c. not c.split) (cells_of tc) (cell_at tc n) (in_get (cells_of tc) n (cell origin 10 false) inside)
          (→true (ap not whole))

      pub met-inside : (v : ℕ) → meets (leaf_steps s (cell_at tc n)) v ≡ true → v < length (point_edges s)
      met-inside v m = (laws.paired (cell_at tc n) is_leaf).within v (meeting→ (leaf_steps s (cell_at tc n)) v (→true m))

      -- what drawing the loops of the leaf's trace asks for, and what it gives
      module _ (twins : List ℕ) (limit : ℕ) (t : List ℕ) (tw : Twins s twins) (traced : Traced limit (leaf_steps s (cell_at tc n)) t) where
        pub leaf_loaded : Loaded twins t
        leaf_loaded = record { limit = limit; leaf = leaf_of twins tw (cell_at tc n) is_leaf; traced = traced }

        pub leaf-drawn : (u before after : List ℕ) (r : ℕ) → Draws twins t before after r u → Drew limit (record_triangles s (cell_at tc n)) before after r u
        unfolding leaf_loops
        leaf-drawn u before after r draws =
            let d : Drawn limit (leaf_of twins tw (cell_at tc n) is_leaf) before after r u = draws limit (leaf_of twins tw (cell_at tc n) is_leaf) traced in
            let same : collect fan (leaf_loops s (cell_at tc n)) ≡ record_triangles s (cell_at tc n) = sym record-leaf in
            record {
              counted = d.counted ∙ ap length same;
              wrote = d.wrote ∙ ap (λ (ts : List Triangle). into (collect numbers ts) before) same;
              emptied = d.emptied;
            }

    record-few : length (record_triangles s (cell_at tc n)) ≤ 14616
    unfolding leaf_loops
    record-few = go (ℕ_discrete (entry tc n) 0)
      where
        go : Dec (entry tc n ≡ 0) → length (record_triangles s (cell_at tc n)) ≤ 14616
        go (yes e) =
            let per = permutes (cell_at tc n) (is_leaf e) in
            omega (
              arith,
              ap length (record-leaf e),
              loops-few _ (onward (leaf_steps s (cell_at tc n)) (twin_of s)) _ per fan fan-few,
              per.few,
              points-few,
            )
        go (no e) = omega (arith, ap length (record-split e))

  -- ---- the first records

  to_none : triangles_to s 0 ≡ []
  unfolding triangles_to
  to_none = refl

  to_more : (n : ℕ) → n < length tc / 4 → triangles_to s (n + 1) ≡ triangles_to s n ++ record_triangles s (cell_at tc n)
  unfolding triangles_to record_triangles survey_of
  to_more n h =
      let c = cell_at tc n in
      let drawn : Cell → List Triangle = λ c. collect fan (leaf_loops s c) in
      let leaf : Cell → Bool = λ c. not c.split in
      let more : take (n + 1) (cells_of tc) ≡ take n (cells_of tc) ++ c ∷ [] = rw (add-one n) (take-suc (cells_of tc) n (cell origin 10 false) (inside n h)) in
      ap (λ (l : List Cell). collect drawn (keep leaf l)) more
      ∙ ap (collect drawn) (keep_append leaf (take n (cells_of tc)) (c ∷ []))
      ∙ collect_append drawn (keep leaf (take n (cells_of tc))) (keep leaf (c ∷ []))
      ∙ ap (λ (l : List Triangle). collect drawn (keep leaf (take n (cells_of tc))) ++ l) (one_kept drawn c c.split)

  to_all : triangles_to s (length tc / 4) ≡ all_triangles s
  unfolding triangles_to all_triangles triangles_by survey_of
  to_all =
      ap (λ (l : List Cell). collect (λ c. collect fan (leaf_loops s c)) (keep (λ c. not c.split) l))
      (ap (λ (k : ℕ). take k (cells_of tc)) (sym (cell-count tc right)) ∙ take-length (cells_of tc))

  -- so few that they can be counted in 32 bits
  pub to_few : (n : ℕ) → n ≤ length tc / 4 → length (triangles_to s n) ≤ 14616 * n
  to_few zero h = omega (arith, ap length to_none)
  to_few (suc n) h =
      let step : length (triangles_to s (suc n)) ≡ length (triangles_to s n) + length (record_triangles s (cell_at tc n)) =
      ap (λ (k : ℕ). length (triangles_to s k)) (sym (add-one n)) ∙ ap length (to_more n h) ∙ length-append (triangles_to s n) (record_triangles s (cell_at tc n)) in
      omega (arith, step, to_few n (omega arith), record-few n h)

  -- ---- a pass over the records

  pub drew_none : (limit : ℕ) (out t : List ℕ) → Traced limit [] t → Drew limit (triangles_to s 0) out out 0 t
  drew_none limit out t h = drew_nothing limit (triangles_to s 0) out t to_none h

  module _ (n : ℕ) (h : n < length tc / 4) (limit : ℕ) (slice xs ys lent : List ℕ) (count r : ℕ) (t u : List ℕ) (d : Drew limit (triangles_to s n) slice xs count t)
      (e : Drew limit (record_triangles s (cell_at tc n)) lent ys r u) where
    counted-more : count + r ≡ length (triangles_to s (n + 1))
    counted-more =
        (λ i. d.counted i + e.counted i)
        ∙ sym (ap length (to_more n h) ∙ length-append (triangles_to s n) (record_triangles s (cell_at tc n)))

    -- the count stays far below 2 ^ 32
    pub count_room : count + r ≤ 29948184
    count_room =
        let most = to_few (n + 1) (omega arith) in
        let records = few_records in
        omega (arith, counted-more)

    -- one more record, drawn into the part of the slice from `at` on
    pub drew_more : (at : ℕ) → at ≡ min (3 * count) (length xs) → lent ≡ take (length xs - at) (drop at xs)
        → Drew limit (triangles_to s (n + 1)) slice (take at xs ++ (ys ++ drop (length xs - at) (drop at xs))) (count + r) u
    drew_more at is part =
        let front = collect numbers (triangles_to s n) in
        let new = collect numbers (record_triangles s (cell_at tc n)) in
        let size : 3 * count ≡ length front = ap (λ (k : ℕ). 3 * k) d.counted ∙ sym (length-numbers (triangles_to s n)) in
        let both : front ++ new ≡ collect numbers (triangles_to s (n + 1)) =
        sym (ap (collect numbers) (to_more n h) ∙ numbers_append (triangles_to s n) (record_triangles s (cell_at tc n))) in
        record {
          counted = counted-more;
          wrote = into_more front new slice xs ys at d.wrote (is ∙ ap (λ (k : ℕ). min k (length xs)) size) (e.wrote ∙ ap (into new) part)
              ∙ ap (λ (l : List ℕ). into l slice) both;
          emptied = e.emptied;
        }

  -- all records
  pub drew_all : (n : ℕ) → n ≡ length tc / 4 → (limit : ℕ) (slice xs : List ℕ) (count : ℕ) (t : List ℕ) → Drew limit (triangles_to s n) slice xs count t
      → Drew limit (all_triangles s) slice xs count t
  drew_all n is limit slice xs count t d =
      let all : triangles_to s n ≡ all_triangles s = ap (triangles_to s) is ∙ to_all in
      record {
        counted = d.counted ∙ ap length all;
        wrote = d.wrote ∙ ap (λ (ts : List Triangle). into (collect numbers ts) slice) all;
        emptied = d.emptied;
      }
