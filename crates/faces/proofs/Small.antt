-- The steps in the small faces of a row, by the tables: they are those of the quarters or of the row, whatever bounds the way down; and they are those
-- of the rules, where the row's cell lies across.
use Prim.Native.Nat.{ℕ, zero, suc, pred, ◌+◌, ◌/◌, ◌^◌, ◌≤◌, ◌<◌}
use mathlib.Core.Path.{◌≡◌, refl, sym, ap, ◌∙◌}
use mathlib.Core.Logic.{inl, inr}
use mathlib.Core.Bool.{Bool, true, false, not, ◌&&◌, ◌||◌, cond}
use mathlib.Core.List.{List, [], ◌∷◌, ◌++◌, append_assoc, append-nil}
use native.Mathlib.Omega.{arith}
use lib.Dec.{T, eqb, eqb→eq}
use lib.ListN.{length, get_or}
use lib.Ieee.{Float}
use borrow.Author.Tests.{eq-eqb, ne_eqb, eqb-true, eqb-false}
use Rattle.base.specs.Lists.{any, collect}
use Rattle.base.specs.Grid.{Place, origin, Axis, X, Y, Z, move, same, octants}
use Rattle.base.proofs.Tests.{→true, →false, tests_equal, eq→eqb}
use Rattle.base.proofs.Lists.{In, in_get, collect_append}
use Rattle.rules.specs.Survey.{Cell, cell, cells_of, entry, entries, Survey}
use Rattle.rules.specs.Steps.{Side, Face, face, face_corner, Step, split_across, small_faces, face_steps}
use Rattle.rules.specs.Outputs.{entries_right, accepted, survey_of}
use Rattle.octree.specs.Lawful.{is_at, is_split}
use Rattle.octree.proofs.Accepted.{Checked, checked, accepted→, lawful}
use Rattle.octree.proofs.Halves.{move-move}
use Rattle.octree.proofs.Inside.{split_of}
use Rattle.octree.proofs.Queue.{box}
use Rattle.octree.proofs.Records.{cell-count, mark_of, split-record, split_level, SplitRecord}
use Rattle.cells.specs.Laid.{cell_at}
use Rattle.crossings.specs.Crossings.{Crossings}
use Rattle.faces.specs.Faces.{row_side, row_upper, row_corner, row_steps, quarters, small_steps_within, small_table_steps, unit}
use Rattle.faces.proofs.Rows.{row_face, numbers-few, child-face}
use Rattle.faces.proofs.Steps.{collect-same, row_steps_are}

pub quarter_few : (j : ℕ) → In j quarters → j < 4
quarter_few j (inl e) = omega arith
quarter_few j (inr (inl e)) = omega arith
quarter_few j (inr (inr (inl e))) = omega arith
quarter_few j (inr (inr (inr (inl e)))) = omega arith
quarter_few j (inr (inr (inr (inr i)))) = absurd i

-- ---- the way down

module _ (tc crossings : List ℕ) (right : T (entries_right 0 0 (entries tc))) (r : ℕ) where
  parts : (m : ℕ) → m < length tc / 4 → (entry tc m ≡ 0 → ⊥) → SplitRecord tc box m
  parts m h s = split-record tc right box m h (→false (ne_eqb (entry tc m) 0 s))

  -- records rise on the way down
  pub child-inside : (m : ℕ) → m < length tc / 4 → (entry tc m ≡ 0 → ⊥) → (j : ℕ) → j < 4
      → (m < entry tc m + row_corner r j) × (entry tc m + row_corner r j < length tc / 4)
  child-inside m h s j l =
      let p = parts m h s in
      (omega (arith, p.above), omega (arith, p.fits, (numbers-few r unit j l).0))

  -- any two bounds that are high enough give the same
  enough : (k l m : ℕ) → m < length tc / 4 → length tc / 4 ≤ m + k → length tc / 4 ≤ m + l
      → small_steps_within k tc crossings r m ≡ small_steps_within l tc crossings r m
  unfolding small_steps_within
  enough zero l m h a b = absurd (omega arith)
  enough (suc k) zero m h a b = absurd (omega arith)
  enough (suc k) (suc l) m h a b = go (eqb (entry tc m) 0) refl (enough k l)
    where
      go : (z : Bool) → eqb (entry tc m) 0 ≡ z → ((m : ℕ) → m < length tc / 4 → length tc / 4 ≤ m + k → length tc / 4 ≤ m + l
          → small_steps_within k tc crossings r m ≡ small_steps_within l tc crossings r m) →
          cond z (row_steps crossings r m) (collect (λ j. small_steps_within k tc crossings r (entry tc m + row_corner r j)) quarters)
          ≡ cond z (row_steps crossings r m) (collect (λ j. small_steps_within l tc crossings r (entry tc m + row_corner r j)) quarters)
      go true e ih = refl
      go false e ih =
          collect-same (λ j. small_steps_within k tc crossings r (entry tc m + row_corner r j))
          (λ j. small_steps_within l tc crossings r (entry tc m + row_corner r j)) quarters (λ j i.
          let (up, inside) = child-inside m h (eqb-false (entry tc m) 0 e) j (quarter_few j i) in
          ih (entry tc m + row_corner r j) inside (omega arith) (omega arith))

  module _ (m : ℕ) (h : m < length tc / 4) where
    pub small-leaf : entry tc m ≡ 0 → small_table_steps tc crossings r m ≡ row_steps crossings r m
    unfolding small_table_steps
    small-leaf z = go (length tc / 4) (omega arith)
      where
        go : (k : ℕ) → 0 < k → small_steps_within k tc crossings r m ≡ row_steps crossings r m
        go zero l = absurd (omega arith)
        go (suc k) l = unfold small_steps_within in
            ap (λ b. cond b (row_steps crossings r m) (collect (λ j. small_steps_within k tc crossings r (entry tc m + row_corner r j)) quarters))
            (eq-eqb (entry tc m) 0 z)

    pub small-split : (entry tc m ≡ 0 → ⊥)
        → small_table_steps tc crossings r m ≡ collect (λ j. small_table_steps tc crossings r (entry tc m + row_corner r j)) quarters
    unfolding small_table_steps
    small-split s = go (length tc / 4) (omega arith)
      where
        go : (k : ℕ) → length tc / 4 ≤ m + k
            → small_steps_within k tc crossings r m ≡ collect (λ j. small_steps_within (length tc / 4) tc crossings r (entry tc m + row_corner r j)) quarters
        go zero l = absurd (omega arith)
        go (suc k) l = unfold small_steps_within in
            ap (λ b. cond b (row_steps crossings r m) (collect (λ j. small_steps_within k tc crossings r (entry tc m + row_corner r j)) quarters))
            (ne_eqb (entry tc m) 0 s)
            ∙ collect-same (λ j. small_steps_within k tc crossings r (entry tc m + row_corner r j))
            (λ j. small_steps_within (length tc / 4) tc crossings r (entry tc m + row_corner r j)) quarters (λ j i.
            let (up, inside) = child-inside m h s j (quarter_few j i) in
            enough k (length tc / 4) (entry tc m + row_corner r j) inside (omega arith) (omega arith))

    -- the same by the entry as it is read
    pub small_parts : (first : ℕ) → first ≡ entry tc m → (first ≡ 0 → ⊥)
        → collect (λ j. small_table_steps tc crossings r (first + row_corner r j)) quarters ≡ small_table_steps tc crossings r m
    small_parts first e s =
        ap (λ n. collect (λ j. small_table_steps tc crossings r (n + row_corner r j)) quarters) e ∙ sym (small-split (λ z. s (e ∙ z)))

    pub part-inside : (first : ℕ) → first ≡ entry tc m → (first ≡ 0 → ⊥) → (j k : ℕ) → j < 4 → k ≡ row_corner r j
        → (m < first + k) × (first + k < length tc / 4)
    part-inside first e s j k l f = let (up, inside) = child-inside m h (λ z. s (e ∙ z)) j l in (omega arith, omega arith)

-- ---- the split cell across

eqb-add : (d m n : ℕ) → eqb (m + d) (n + d) ≡ eqb m n
eqb-add d m n = tests_equal (eqb (m + d) (n + d)) (eqb m n)
    (λ t. eq→eqb m n (let e = eqb→eq (m + d) (n + d) t in omega arith)) (λ t. eq→eqb (m + d) (n + d) (ap (λ k. k + d) (eqb→eq m n t)))

same_moved : (a : Axis) (d : ℕ) (p q : Place) → same (move a d p) (move a d q) ≡ same p q
same_moved X d p q = ap (λ b. b && (eqb p.y q.y && eqb p.z q.z)) (eqb-add d p.x q.x)
same_moved Y d p q = ap (λ b. eqb p.x q.x && (b && eqb p.z q.z)) (eqb-add d p.y q.y)
same_moved Z d p q = ap (λ b. eqb p.x q.x && (eqb p.y q.y && b)) (eqb-add d p.z q.z)

any_same : {A : Type 0} (f g : A → Bool) (xs : List A) → ((x : A) → f x ≡ g x) → any f xs ≡ any g xs
any_same f g [] h = refl
any_same f g (x ∷ xs) h = ap (λ b. b || any f xs) (h x) ∙ ap (λ b. g x || b) (any_same f g xs h)

pub turned : {A : Type 0} (u : Bool) (x y : A) → cond (not u) x y ≡ cond u y x
turned true x y = refl
turned false x y = refl

-- the cell at q shows the leaf this side of it
across-split : (cells : List Cell) (side : Side) (l : ℕ) (q : Place)
    → any (split_across side (cond side.upper q (move side.across (2 ^ l) q)) l) cells ≡ is_split cells l q
unfolding is_split
across-split cells side l q =
    any_same (split_across side (cond side.upper q (move side.across (2 ^ l) q)) l) (λ c. c.split && is_at l q c) cells
    (λ c. ap (λ b. c.split && (eqb l c.level && b)) (shown side.upper c.low))
  where
    shown : (u : Bool) (p : Place) → same (cond u q (move side.across (2 ^ l) q)) (cond u p (move side.across (2 ^ l) p)) ≡ same q p
    shown true p = refl
    shown false p = same_moved side.across (2 ^ l) q p

-- ---- the rules' small faces

-- the steps in the small faces of a face
unfoldable pub small_steps : Survey → Side → Place → ℕ → List Step
unfolding small_faces face_steps
small_steps s side p l = collect (face_steps s side) (small_faces s.cells side p l)

pub whole-steps : (s : Survey) (side : Side) (p : Place) (l : ℕ) → any (split_across side p l) s.cells ≡ false
    → face_steps s side (face p l) ≡ small_steps s side p l
unfolding small_steps
whole-steps s side p l e = sym (append-nil (face_steps s side (face p l))) ∙ sym (ap (collect (face_steps s side)) (whole l e))
  where
    whole : (l : ℕ) → any (split_across side p l) s.cells ≡ false → small_faces s.cells side p l ≡ face p l ∷ []
    whole zero e = unfold small_faces in refl
    whole (suc l) e = unfold small_faces in rw e

split_steps : (s : Survey) (side : Side) (p : Place) (l : ℕ) → any (split_across side p (suc l)) s.cells ≡ true
    → collect (λ j. small_steps s side (face_corner side (face p l) j) l) quarters ≡ small_steps s side p (suc l)
unfolding small_steps small_faces
split_steps s side p l e =
    let f = face_steps s side in
    let small : ℕ → List Face = λ j. small_faces s.cells side (face_corner side (face p l) j) l in
    sym (ap (λ b. collect f (cond b (small 0 ++ small 1 ++ small 3 ++ small 2) (face p (suc l) ∷ []))) e
    ∙ collect_append f (small 0 ++ small 1 ++ small 3) (small 2)
    ∙ ap (λ x. x ++ collect f (small 2)) (collect_append f (small 0 ++ small 1) (small 3)
    ∙ ap (λ x. x ++ collect f (small 3)) (collect_append f (small 0) (small 1)))
    ∙ grouped (collect f (small 0)) (collect f (small 1)) (collect f (small 3)) (collect f (small 2)))
  where
    grouped : (a b c d : List Step) → ((a ++ b) ++ c) ++ d ≡ a ++ (b ++ (c ++ (d ++ [])))
    grouped a b c d = simp (append_assoc, append-nil)

-- ---- the steps in the small faces of a row across

pub checks_of : (tc tk : List ℕ) (clearance : Float) → accepted tc tk clearance ≡ true → Checked tc tk
checks_of tc tk clearance ok = checked tc tk (accepted→ tc tk clearance (→true ok)).0

module _ (tc tk : List ℕ) (clearance : Float) (ok : accepted tc tk clearance ≡ true) (crossings : List ℕ)
    (table : Crossings (survey_of tc tk clearance) tc crossings) (r : ℕ) (away : row_upper r ≡ not (row_side r).upper) where
  checks : Checked tc tk
  checks = checks_of tc tk clearance ok

  split-here : (m : ℕ) → m < length tc / 4 → any (split_across (row_side r) (row_face r (cell_at tc m)).low (cell_at tc m).level)
      (survey_of tc tk clearance).cells ≡ not (eqb (entry tc m) 0)
  unfolding survey_of
  split-here m h =
      let c = cell_at tc m in
      let a = (row_side r).across in
      ap (λ p. any (split_across (row_side r) p c.level) (cells_of tc))
      (ap (λ u. cond u (move a (2 ^ c.level) c.low) c.low) away ∙ turned (row_side r).upper (move a (2 ^ c.level) c.low) c.low)
      ∙ across-split (cells_of tc) (row_side r) c.level c.low
      ∙ split_of (cells_of tc) (lawful tc tk clearance (→true ok)).octree c (in_get (cells_of tc) m box (omega (arith, cell-count tc checks.entries_right_lem)))
      ∙ mark_of tc checks.entries_right_lem box m h

  -- a child at a corner of the row shows the quarter there
  quarter_at : (m l : ℕ) → m < length tc / 4 → (entry tc m ≡ 0 → ⊥) → (cell_at tc m).level ≡ suc l → (j : ℕ) → j < 4
      → let c = cell_at tc (entry tc m + row_corner r j) in
      ((row_face r c).low ≡ face_corner (row_side r) (face (row_face r (cell_at tc m)).low l) j) × (c.level ≡ l)
  quarter_at m l h s e j g =
      let p = split-record tc checks.entries_right_lem box m h (→false (ne_eqb (entry tc m) 0 s)) in
      let few = (numbers-few r unit j g).0 in
      let low = (cell_at tc m).low in
      let a = (row_side r).across in
      let half = p.child-level (row_corner r j) few ∙ ap pred e in
      let at = p.child-low (row_corner r j) few ∙ ap (λ k. get_or (octants (2 ^ pred k) low) (row_corner r j) origin) e in (
        (λ i. (row_face r (cell (at i) (half i) false)).low) ∙ child-face r (cell low l false) j g
            ∙ ap (λ q. face_corner (row_side r) (face q l) j)
            (twice (row_upper r) a l low ∙ ap (λ k. cond (row_upper r) (move a (2 ^ k) low) low) (sym e)),
        half,
      )
    where
      twice : (u : Bool) (a : Axis) (l : ℕ) (p : Place)
          → cond u (move a (2 ^ l) (cond u (move a (2 ^ l) p) p)) (cond u (move a (2 ^ l) p) p) ≡ cond u (move a (2 ^ suc l) p) p
      twice true a l p = move-move a l p
      twice false a l p = refl

  small-within : (k m : ℕ) → m < length tc / 4 → length tc / 4 ≤ m + k
      → small_table_steps tc crossings r m ≡ small_steps (survey_of tc tk clearance) (row_side r) (row_face r (cell_at tc m)).low (cell_at tc m).level
  small-within zero m h b = absurd (omega arith)
  small-within (suc k) m h b = go (eqb (entry tc m) 0) refl (small-within k)
    where
      s : Survey
      s = survey_of tc tk clearance

      c : Cell
      c = cell_at tc m

      go : (z : Bool) → eqb (entry tc m) 0 ≡ z → ((m : ℕ) → m < length tc / 4 → length tc / 4 ≤ m + k
          → small_table_steps tc crossings r m ≡ small_steps s (row_side r) (row_face r (cell_at tc m)).low (cell_at tc m).level)
          → small_table_steps tc crossings r m ≡ small_steps s (row_side r) (row_face r c).low c.level
      go true e ih =
          small-leaf tc crossings checks.entries_right_lem r m h (eqb-true (entry tc m) 0 e) ∙ row_steps_are tc tk clearance crossings table m h r
          ∙ whole-steps s (row_side r) (row_face r c).low c.level (split-here m h ∙ ap not e)
      go false e ih =
          let split = eqb-false (entry tc m) 0 e in
          let l = pred c.level in
          let high : c.level ≡ suc l = omega (
            arith,
            split_level tc checks.entries_right_lem checks.units-whole box m h (→false e),
          ) in
          small-split tc crossings checks.entries_right_lem r m h split
          ∙ collect-same (λ j. small_table_steps tc crossings r (entry tc m + row_corner r j))
          (λ j. small_steps s (row_side r) (face_corner (row_side r) (face (row_face r c).low l) j) l) quarters (λ j i.
          let (up, inside) = child-inside tc crossings checks.entries_right_lem r m h split j (quarter_few j i) in
          let (at, half) = quarter_at m l h split high j (quarter_few j i) in
          ih (entry tc m + row_corner r j) inside (omega arith) ∙ (λ i. small_steps s (row_side r) (at i) (half i)))
          ∙ split_steps s (row_side r) (row_face r c).low l
          (ap (λ k. any (split_across (row_side r) (row_face r c).low k) s.cells) (sym high) ∙ split-here m h ∙ ap not e)
          ∙ ap (small_steps s (row_side r) (row_face r c).low) (sym high)

  pub small_are : (m : ℕ) → m < length tc / 4
      → small_table_steps tc crossings r m ≡ small_steps (survey_of tc tk clearance) (row_side r) (row_face r (cell_at tc m)).low (cell_at tc m).level
  small_are m h = small-within (length tc / 4) m h (omega arith)
