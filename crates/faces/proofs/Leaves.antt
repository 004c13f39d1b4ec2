-- The face steps of a leaf by the tables are those of the rules; and the tables have what `leaf_steps` asks of them.
--     leaf-steps_are      leaf_table_steps is leaf_steps
--     roomy, reaching     nothing is read outside the tables
--     fitting             nothing is written outside the trace, if the rules' steps join points that it has room for
use Prim.Native.Nat.{ℕ, ◌+◌, ◌*◌, ◌/◌, ◌%◌, ◌^◌, ◌≤◌, ◌<◌}
use mathlib.Core.Path.{◌≡◌, refl, sym, ap, ◌∙◌, subst}
use mathlib.Core.Logic.{◌⊎◌, inl, inr}
use mathlib.Core.Bool.{Bool, true, false, not, ◌&&◌, beq, cond}
use mathlib.Core.List.{List}
use native.Mathlib.Omega.{arith}
use lib.Dec.{T, eqb, eqb→eq, ltb}
use lib.ListN.{length, get_or}
use lib.Pow.{pow_pos}
use lib.Ieee.{Float}
use borrow.Author.Tests.{lt-ltb, le-ltb, ne_eqb}
use Rattle.base.specs.Lists.{any, count, position}
use Rattle.base.specs.Grid.{Place, Axis, along, move, same}
use Rattle.base.proofs.Tests.{and→, either, not_both, below, →true}
use Rattle.base.proofs.Lists.{in_get, in_count, position_of}
use Rattle.base.proofs.Below.{any-position}
use Rattle.base.proofs.Places.{same→, along-put}
use Rattle.rules.specs.Survey.{Cell, cells_of, Survey}
use Rattle.rules.specs.Steps.{Side, side_low, split_across, face_steps, leaf_steps}
use Rattle.rules.specs.Outputs.{accepted, survey_of}
use Rattle.octree.specs.Lawful.{is_cell, Octree}
use Rattle.octree.proofs.Accepted.{Checked, lawful}
use Rattle.octree.proofs.Cells.{→cell}
use Rattle.octree.proofs.Queue.{box}
use Rattle.octree.proofs.Records.{cell-count, box_first}
use Rattle.cells.specs.Laid.{cell_at}
use Rattle.trace.specs.Trace.{meets}
use Rattle.across.specs.Across.{side_number, split_beyond, Beyond}
use Rattle.crossings.specs.Crossings.{Crossings}
use Rattle.faces.specs.Faces.{row_side, row_upper, face_on, row_steps, small_table_steps, side_table_steps, leaf_table_steps, Fits, Roomy, Reaching}
use Rattle.faces.proofs.Steps.{collect-same, row_steps_are}
use Rattle.faces.proofs.Small.{turned, small_steps, whole-steps, checks_of, small_are}

-- ---- the two rows on a side

own_side : (i : ℕ) → i < 6 → (row_side i ≡ side_number i) × (row_upper i ≡ (side_number i).upper)
own_side i h =
    let e : i % 6 ≡ i = omega arith in
    (ap side_number e, ap (λ k. beq (side_number k).upper (ltb i 6)) e ∙ ap (beq (side_number i).upper) (lt-ltb i 6 h) ∙ upper (side_number i).upper)
  where
    upper : (u : Bool) → beq u true ≡ u
    upper true = refl
    upper false = refl

other_side : (i : ℕ) → i < 6 → (row_side (6 + i) ≡ side_number i) × (row_upper (6 + i) ≡ not (row_side (6 + i)).upper)
other_side i h =
    let e : (6 + i) % 6 ≡ i = omega arith in
    (ap side_number e, ap (beq (row_side (6 + i)).upper) (le-ltb (6 + i) 6 (omega arith)) ∙ lower (row_side (6 + i)).upper)
  where
    lower : (u : Bool) → beq u false ≡ not u
    lower true = refl
    lower false = refl

-- no cell lies across its own side
not_itself : (u : Bool) (a : Axis) (l : ℕ) (p : Place) → cond u (move a (2 ^ l) p) p ≡ cond u p (move a (2 ^ l) p) → ⊥
not_itself true a l p e = omega (arith, ap (along a) e, along-put a (along a p + 2 ^ l) p, pow_pos l)
not_itself false a l p e = omega (arith, ap (along a) e, along-put a (along a p + 2 ^ l) p, pow_pos l)

-- ---- the steps of a leaf

module _ (tc tk : List ℕ) (clearance : Float) (ok : accepted tc tk clearance ≡ true) where
  checks : Checked tc tk
  checks = checks_of tc tk clearance ok

  count-is : length (cells_of tc) ≡ length tc / 4
  count-is = cell-count tc checks.entries_right_lem

  tree : Octree (cells_of tc)
  unfolding survey_of
  tree = (lawful tc tk clearance (→true ok)).octree

  -- two records of level 10 are about the box
  only_box : (n : ℕ) → n < length tc / 4 → (cell_at tc n).level ≡ (cell_at tc 0).level → (cell_at tc n).low ≡ (cell_at tc 0).low
  only_box n h e =
      let first = box_first tc checks.entries_right_lem box in
      tree.only_box (cell_at tc n).low
      (subst (λ l. T (is_cell (cells_of tc) l (cell_at tc n).low)) (e ∙ ap (λ (c : Cell). c.level) first)
      (→cell (cells_of tc) (cell_at tc n) (in_get (cells_of tc) n box (omega (arith, count-is)))))
      ∙ sym (ap (λ (c : Cell). c.low) first)

  module _ (n : ℕ) (inside : n < length tc / 4) (side : Side) where
    abbrev c : Cell
    c = cell_at tc n

    abbrev beyond : Cell → Bool
    beyond = split_across side (side_low side c) c.level

    -- the record of the split cell across
    record Found (m : ℕ) : Type 0 where
      there : m < length tc / 4
      named : split_beyond (cells_of tc) side c ≡ m
      level-is : c.level ≡ (cell_at tc m).level
      low-is : side_low side c ≡ cond side.upper (cell_at tc m).low (move side.across (2 ^ c.level) (cell_at tc m).low)
      not_first : m ≡ 0 → ⊥

    found : T (any beyond (cells_of tc)) → (m : ℕ) × Found m
    unfolding split_beyond
    found t =
        let (m, at, few, t) = position_of beyond box (cells_of tc) 0 t in
        let d = cell_at tc m in
        let u = and→ d.split (eqb c.level d.level && same (side_low side c) (shown d.low)) t in
        let v = and→ (eqb c.level d.level) (same (side_low side c) (shown d.low)) u.1 in
        let level = eqb→eq c.level d.level v.0 in
        let low = same→ (side_low side c) (shown d.low) v.1 in
        let is : position beyond 0 (cells_of tc) ≡ m = omega arith in (
          m,
          record {
            there = omega (arith, count-is);
            named =
                ap (λ k. cond (ltb k (length (cells_of tc))) k 0) is ∙ ap (λ b. cond b m 0) (lt-ltb m (length (cells_of tc)) few);
            level-is = level;
            low-is = low;
            not_first = λ z.
                let here = only_box n inside (level ∙ ap (λ k. (cell_at tc k).level) z) in
                not_itself side.upper side.across c.level c.low
                (low ∙ ap shown (ap (λ k. (cell_at tc k).low) z ∙ sym here));
          },
        )
      where
        shown : Place → Place
        shown p = cond side.upper p (move side.across (2 ^ c.level) p)

    not_found : any beyond (cells_of tc) ≡ false → split_beyond (cells_of tc) side c ≡ 0
    unfolding split_beyond
    not_found e = ap (λ b. cond b (position beyond 0 (cells_of tc)) 0) (le-ltb (position beyond 0 (cells_of tc)) (length (cells_of tc)) (far (below p k)))
      where
        p : ℕ
        p = position beyond 0 (cells_of tc)

        k : ℕ
        k = length (cells_of tc)

        far : (p < k) ⊎ (k ≤ p) → k ≤ p
        far (inl l) = absurd (not_both (any-position beyond (cells_of tc) 0 (omega arith)) e)
        far (inr l) = l

    pub beyond-inside : split_beyond (cells_of tc) side c < length tc / 4
    beyond-inside = go (either (any beyond (cells_of tc)))
      where
        go : T (any beyond (cells_of tc)) ⊎ (any beyond (cells_of tc) ≡ false) → split_beyond (cells_of tc) side c < length tc / 4
        go (inl t) = let (m, f) = found t in omega (arith, f.there, f.named)
        go (inr e) = omega (arith, not_found e)

  module _ (across crossings : List ℕ) (wide : Beyond tc across) (table : Crossings (survey_of tc tk clearance) tc crossings)
      (n : ℕ) (inside : n < length tc / 4) where
    abbrev s : Survey
    s = survey_of tc tk clearance

    side_steps_are : (i : ℕ) → i < 6 → let side = side_number i in
        side_table_steps tc across crossings n i ≡ small_steps s side (side_low side (cell_at tc n)) (cell_at tc n).level
    unfolding side_table_steps survey_of
    side_steps_are i h = go (either (any (split_across side (side_low side c) c.level) (cells_of tc)))
      where
        side : Side
        side = side_number i

        c : Cell
        c = cell_at tc n

        chosen : (m : ℕ) → get_or across (6 * n + i) 0 ≡ m → side_table_steps tc across crossings n i
            ≡ cond (eqb m 0) (row_steps crossings i n) (small_table_steps tc crossings (6 + i) m)
        chosen m e = ap (λ m. cond (eqb m 0) (row_steps crossings i n) (small_table_steps tc crossings (6 + i) m)) e

        go : T (any (split_across side (side_low side c) c.level) (cells_of tc)) ⊎ (any (split_across side (side_low side c) c.level) (cells_of tc) ≡ false)
            → side_table_steps tc across crossings n i ≡ small_steps s side (side_low side c) c.level
        go (inl t) =
            let (m, f) = found n inside side t in
            let (there, away) = other_side i h in
            let d = cell_at tc m in
            chosen m (wide.entry n i inside h ∙ f.named)
            ∙ ap (λ b. cond b (row_steps crossings i n) (small_table_steps tc crossings (6 + i) m)) (ne_eqb m 0 f.not_first)
            ∙ small_are tc tk clearance ok crossings table (6 + i) away m f.there
            ∙ ap (λ u. small_steps s (row_side (6 + i)) (face_on (row_side (6 + i)) u d).low d.level) away
            ∙ ap (λ x. small_steps s x (face_on x (not x.upper) d).low d.level) there
            ∙ ap (λ l. small_steps s side (cond (not side.upper) (move side.across (2 ^ l) d.low) d.low) l) (sym f.level-is)
            ∙ ap (λ p. small_steps s side p c.level) (turned side.upper (move side.across (2 ^ c.level) d.low) d.low ∙ sym f.low-is)
        go (inr e) =
            let (here, upper) = own_side i h in
            chosen 0 (wide.entry n i inside h ∙ not_found n inside side e)
            ∙ row_steps_are tc tk clearance crossings table n inside i
            ∙ ap (λ u. face_steps s (row_side i) (face_on (row_side i) u c)) upper
            ∙ ap (λ x. face_steps s x (face_on x side.upper c)) here
            ∙ whole-steps s side (side_low side c) c.level e

    -- the steps of the tables are those of the rules
    pub leaf-steps_are : leaf_table_steps tc across crossings n ≡ leaf_steps s (cell_at tc n)
    unfolding leaf_table_steps leaf_steps small_steps
    leaf-steps_are =
        let c = cell_at tc n in
        collect-same (side_table_steps tc across crossings n) (λ i. small_steps s (side_number i) (side_low (side_number i) c) c.level) (count 0 6)
        (λ i j. side_steps_are i (let l = in_count 6 0 i j in omega arith))

    pub roomy : Roomy tc crossings
    roomy = record { entries_right_lem = checks.entries_right_lem; room = table.room }

    pub reaching : Reaching tc across n
    reaching = record {
      inside = inside;
      room = wide.room;
      named = λ i h. let few = beyond-inside n inside (side_number i) in omega (arith, wide.entry n i inside h);
    }

    pub fitting : (limit room : ℕ) → room ≡ 3 * limit + 1 → limit ≤ 14616 → ((v : ℕ) → meets (leaf_steps s (cell_at tc n)) v ≡ true → v < limit)
        → Fits (leaf_table_steps tc across crossings n) room
    fitting limit room e few within = subst (λ ss. Fits ss room) (sym leaf-steps_are) (record {
      small = omega arith;
      inside = λ v m. let h = within v m in omega arith;
    })
