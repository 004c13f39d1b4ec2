-- The steps in a row of a record, by the table of crossings, are those of the rules in its face.
use Prim.Native.Nat.{ℕ, zero, suc, ◌+◌, ◌*◌, ◌/◌, ◌%◌, ◌^◌, ◌≤◌, ◌<◌}
use mathlib.Core.Path.{◌≡◌, refl, sym, ap, ◌∙◌, subst}
use mathlib.Core.Logic.{inl, inr}
use mathlib.Core.Bool.{Bool, true, false, not, beq, cond}
use mathlib.Core.List.{List, [], ◌∷◌, ◌++◌, map, map-append}
use native.Mathlib.Omega.{arith}
use native.Mathlib.Nat.{pow-succ', zero-div, div-div-eq-div-mul}
use lib.Dec.{T, eqb, ltb, ltb→lt}
use lib.ListN.{length, get_or, get_or-map}
use lib.Ieee.{Float}
use Rattle.base.specs.Lists.{collect, count, bit}
use Rattle.base.specs.Grid.{Place, origin, move}
use Rattle.base.proofs.Tests.{true→}
use Rattle.base.proofs.Lists.{In, get_any, in_count}
use Rattle.rules.specs.Survey.{cell_corners, Survey}
use Rattle.rules.specs.Edges.{CellEdge, odd, point_of}
use Rattle.rules.specs.Steps.{Side, Face, face_corner, face_edge, Step, saddle_cut, face_steps}
use Rattle.rules.specs.Outputs.{survey_of}
use Rattle.cells.specs.Laid.{cell_at}
use Rattle.crossings.specs.Crossings.{crossing_of, binary, wet_mask, Crossings}
use Rattle.faces.specs.Patterns.{wet_digit, step_from, pattern_of, step_to}
use Rattle.faces.specs.Faces.{row_side, row_corner, row_edge, row_pattern, edge_steps, row_steps}
use Rattle.faces.proofs.Patterns.{differ, steps-by-edge, step-odd}
use Rattle.faces.proofs.Rows.{row_face, turned_up, numbers-few, corner-is, edge-is}

-- ---- lists

pub collect-same : {A B : Type 0} (f g : A → List B) (xs : List A) → ((x : A) → In x xs → f x ≡ g x) → collect f xs ≡ collect g xs
collect-same f g [] h = refl
collect-same f g (x ∷ xs) h =
    ap (λ l. l ++ collect f xs) (h x (inl refl)) ∙ ap (λ l. g x ++ l) (collect-same f g xs (λ y i. h y (inr i)))

pub map-collect : {A B C : Type 0} (f : B → C) (g : A → List B) (xs : List A) → map f (collect g xs) ≡ collect (λ x. map f (g x)) xs
map-collect f g [] = refl
map-collect f g (x ∷ xs) = map-append f (g x) (collect g xs) ∙ ap (λ l. map f (g x) ++ l) (map-collect f g xs)

-- ---- the digits of a mask

digit-is : (bs : List Bool) (i : ℕ) → wet_digit (binary bs) i ≡ get_or bs i false
digit-is [] i = rw zero-div
digit-is (b ∷ bs) zero = let e : (bit b + 2 * binary bs) / 2 ^ 0 % 2 ≡ bit b = omega (arith, bit-few b) in ap (λ n. eqb n 1) e ∙ one b
  where
    bit-few : (b : Bool) → bit b < 2
    bit-few true = omega arith
    bit-few false = omega arith

    one : (b : Bool) → eqb (bit b) 1 ≡ b
    one true = refl
    one false = refl
digit-is (b ∷ bs) (suc i) = ap (λ n. eqb (n % 2) 1) halved ∙ digit-is bs i
  where
    low : (b : Bool) (n : ℕ) → (bit b + 2 * n) / 2 ≡ n
    low true n = omega arith
    low false n = omega arith

    halved : (bit b + 2 * binary bs) / 2 ^ suc i ≡ binary bs / 2 ^ i
    halved =
        ap (λ d. (bit b + 2 * binary bs) / d) (pow-succ' 2 i) ∙ sym (div-div-eq-div-mul (bit b + 2 * binary bs) 2 (2 ^ i))
        ∙ ap (λ n. n / 2 ^ i) (low b (binary bs))

-- a digit as a number
pub digit-bit : (mask i n k : ℕ) → n ≡ mask → k ≡ i → (n / 2 ^ k % 2 ≡ bit (wet_digit mask i)) × (n / 2 ^ k % 2 ≤ 1)
digit-bit mask i n k e f = (ap (λ n. n / 2 ^ k % 2) e ∙ ap (λ k. mask / 2 ^ k % 2) f ∙ sym (go (mask / 2 ^ i % 2) (omega arith)), omega arith)
  where
    go : (d : ℕ) → d < 2 → bit (eqb d 1) ≡ d
    go zero h = refl
    go (suc zero) h = refl
    go (suc (suc d)) h = absurd (omega arith)

-- ---- odd edges

turned_round : (a b : Bool) → not (beq a b) ≡ not (beq b a)
turned_round true true = refl
turned_round true false = refl
turned_round false true = refl
turned_round false false = refl

-- an edge of a face is odd just if the marks at its ends differ
odd_is : (is_wet : Place → Bool) (s : Side) (f : Face) (i : ℕ) →
    move s.right (2 ^ f.level) (move s.up (2 ^ f.level) f.low) ≡ move s.up (2 ^ f.level) (move s.right (2 ^ f.level) f.low) →
    let w : ℕ → Bool = λ i. is_wet (face_corner s f i) in
    let e = face_edge s f i in
    odd is_wet e.axis e.low e.level ≡ differ (w 0) (w 1) (w 2) (w 3) i
unfolding odd
odd_is is_wet s f zero t = refl
odd_is is_wet s f (suc zero) t = ap (λ q. not (beq (is_wet (face_corner s f 1)) (is_wet q))) (sym t)
odd_is is_wet s f (suc (suc zero)) t = turned_round (is_wet (face_corner s f 3)) (is_wet (face_corner s f 2))
odd_is is_wet s f (suc (suc (suc i))) t = turned_round (is_wet f.low) (is_wet (face_corner s f 3))

odd-crossing : (s : Survey) (e : CellEdge) → T (odd s.is_wet e.axis e.low e.level) → crossing_of s e ≡ point_of s e
unfolding crossing_of
odd-crossing s e t = ap (λ b. cond b (point_of s e) 65535) (true→ (odd s.is_wet e.axis e.low e.level) t)

-- ---- the steps of a row

-- a step from edge to edge, by the points of edges
abbrev pub step_of : (ℕ → ℕ) → Step → Step
step_of point t = (point t.0, point t.1)

step_same : (f g : ℕ → ℕ) (i j : ℕ) → (j < 4 → (f i ≡ g i) × (f j ≡ g j)) → map (step_of f) (step_to i j) ≡ map (step_of g) (step_to i j)
step_same f g i j h = go (ltb j 4) (λ t. h (ltb→lt j 4 t))
  where
    go : (b : Bool) → (T b → (f i ≡ g i) × (f j ≡ g j)) → map (step_of f) (cond b ((i, j) ∷ []) []) ≡ map (step_of g) (cond b ((i, j) ∷ []) [])
    go true h = let (a, b) = h tt in λ k. (a k, b k) ∷ []
    go false h = refl

module _ (tc tk : List ℕ) (clearance : Float) (crossings : List ℕ) (table : Crossings (survey_of tc tk clearance) tc crossings)
    (m : ℕ) (inside : m < length tc / 4) (r : ℕ) where
  abbrev s : Survey
  s = survey_of tc tk clearance

  abbrev here : Face
  here = row_face r (cell_at tc m)

  abbrev wet_here : ℕ → Bool
  wet_here j = s.is_wet (face_corner (row_side r) here j)

  mark-is : (j : ℕ) → j < 4 → wet_digit (get_or crossings (13 * m + 12) 0) (row_corner r j) ≡ wet_here j
  unfolding wet_mask
  mark-is j h =
      let corners = cell_corners (cell_at tc m) in
      let k = row_corner r j in
      ap (λ n. wet_digit n k) (table.wet m inside) ∙ digit-is (map s.is_wet corners) k
      ∙ get_any (map s.is_wet corners) k false (s.is_wet origin) (numbers-few r (cell_at tc m) j h).0 ∙ get_or-map s.is_wet corners k origin
      ∙ ap s.is_wet (corner-is r (cell_at tc m) j h)

  pattern_is : row_pattern crossings r m ≡ pattern_of (wet_here 0) (wet_here 1) (wet_here 2) (wet_here 3)
  unfolding row_pattern
  pattern_is = λ i. pattern_of (mark-is 0 (omega arith) i) (mark-is 1 (omega arith) i) (mark-is 2 (omega arith) i) (mark-is 3 (omega arith) i)

  point-is : (j : ℕ) → j < 4 → T (differ (wet_here 0) (wet_here 1) (wet_here 2) (wet_here 3) j)
      → get_or crossings (13 * m + row_edge r j) 0 ≡ point_of s (face_edge (row_side r) here j)
  point-is j h t =
      table.point m (row_edge r j) inside (numbers-few r (cell_at tc m) j h).1 ∙ ap (crossing_of s) (edge-is r (cell_at tc m) j h)
      ∙ odd-crossing s (face_edge (row_side r) here j)
      (subst T (sym (odd_is s.is_wet (row_side r) here j (turned_up r (cell_at tc m) here.low))) t)

  edge-steps_are : (j : ℕ) → j < 4 → let p = pattern_of (wet_here 0) (wet_here 1) (wet_here 2) (wet_here 3) in
      edge_steps crossings r m p j ≡ map (step_of (λ i. point_of s (face_edge (row_side r) here i))) (step_to j (step_from p j))
  unfolding edge_steps
  edge-steps_are j h =
      let k = step_from (pattern_of (wet_here 0) (wet_here 1) (wet_here 2) (wet_here 3)) j in
      step_same (λ i. get_or crossings (13 * m + row_edge r i) 0) (λ i. point_of s (face_edge (row_side r) here i)) j k
      (λ l. let o = step-odd (wet_here 0) (wet_here 1) (wet_here 2) (wet_here 3) j h l in (point-is j h o.0, point-is k l o.1))

  -- the steps in the row are those in the face
  pub row_steps_are : row_steps crossings r m ≡ face_steps s (row_side r) here
  unfolding row_steps face_steps survey_of saddle_cut
  row_steps_are =
      let p = pattern_of (wet_here 0) (wet_here 1) (wet_here 2) (wet_here 3) in
      let f : Step → Step = step_of (λ i. point_of s (face_edge (row_side r) here i)) in
      ap (λ q. collect (edge_steps crossings r m q) (count 0 4)) pattern_is
      ∙ collect-same (edge_steps crossings r m p) (λ j. map f (step_to j (step_from p j))) (count 0 4)
      (λ j i. edge-steps_are j (let l = in_count 4 0 j i in omega arith))
      ∙ sym (map-collect f (λ j. step_to j (step_from p j)) (count 0 4))
      ∙ sym (ap (map f) (steps-by-edge (wet_here 0) (wet_here 1) (wet_here 2) (wet_here 3)))
