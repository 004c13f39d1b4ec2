-- The edge enquiry: the level of a length, the answer from the tables, and the order of the refusals.
use Rattle.std.specs.Prelude.{Option, Some, None, MatchOption, unwrap_or, Result, Ok, Err, IsErrAnd}
use Prim.Native.Nat.{ℕ, zero, suc, ◌+◌, ◌*◌, ◌/◌, ◌%◌, ◌^◌, ◌≤◌, ◌<◌}
use mathlib.Core.Path.{◌≡◌, refl, sym, ap, ◌∙◌}
use mathlib.Core.Logic.{◌⊎◌, inl, inr}
use mathlib.Core.Bool.{Bool, true, false, not, ◌&&◌, cond}
use mathlib.Core.List.{List, [], ◌∷◌, ◌++◌}
use native.Mathlib.Decide.{ℕ_discrete}
use native.Mathlib.Omega.{arith}
use lib.Dec.{T, eqb, ltb}
use lib.Ieee.{Float}
use lib.ListN.{get_or}
use borrow.Author.Tests.{eq-eqb, ne_eqb, lt-ltb, le-ltb}
use Rattle.base.specs.Lists.{first, count, bit}
use Rattle.base.specs.Grid.{Place, Axis, X, Y, Z, along, move, axis_of}
use Rattle.base.proofs.Tests.{→true, true→, either, eq→eqb, not_both}
use Rattle.rules.specs.Survey.{cells_of, corners_of, wet_at, Survey}
use Rattle.rules.specs.Edges.{edge, is_edge, odd, number_of, carrier, Spot, spot_on}
use Rattle.rules.specs.WhichEnd.{wet_end}
use Rattle.rules.specs.Outputs.{first_of, checks, accepted, survey_of, level_of, Enquired, refused, even, crossing, enquiry, answered}
use Rattle.rules.specs.Refusals.{refusal_number}
use Rattle.rules.specs.declared.Edge.{Edge}
use Rattle.rules.specs.declared.refusal.Refusal.{Refusal}
use Rattle.rules.specs.declared.End.{End}
use Rattle.rules.specs.declared.End.TheVariants.{Lower, Upper}
use Rattle.records.specs.Keys.{key_of, places_of, Short}
use Rattle.octree.specs.Lawful.{Lawful}
use Rattle.octree.proofs.Accepted.{lawful, numbered, first_append}
use Rattle.octree.proofs.Edges.{edge→}
use Rattle.octree.proofs.Aligned.{corner-place}
use Rattle.edges.specs.Tables.{place_at, UpperEnd, Wets}
use Rattle.edges.specs.Searching.{Corners}
use Rattle.edges.specs.declared.survey.Survey.{Survey as Lent}
use Rattle.edges.proofs.Readings.{corners}
use Rattle.enquiry.specs.Enquiry.{edge_answer}

-- ---- the level of a length

-- the first level, of n from l on, whose size this is; or 11
abbrev level_from : ℕ → ℕ → ℕ → ℕ
level_from size l n = first (λ i. eqb (2 ^ i) size) 11 (count l n)

level_hit : (size l n : ℕ) → 2 ^ l ≡ size → level_from size l (suc n) ≡ l
level_hit size l n e = rw (eq-eqb (2 ^ l) size e)

level_miss : (size l n : ℕ) → (2 ^ l ≡ size → ⊥) → level_from size l (suc n) ≡ level_from size (suc l) n
level_miss size l n e = rw (ne_eqb (2 ^ l) size e)

-- none of them: 11
level_none : (size l n : ℕ) → ((k : ℕ) → l ≤ k → k < l + n → 2 ^ k ≡ size → ⊥) → level_from size l n ≡ 11
level_none size l zero none = refl
level_none size l (suc n) none =
    level_miss size l n (none l (omega arith) (omega arith)) ∙ level_none size (suc l) n (λ k h g. none k (omega arith) (omega arith))

-- one of them, and none before it
level_first : (size l n i : ℕ) → l ≤ i → i < l + n → 2 ^ i ≡ size → ((k : ℕ) → l ≤ k → k < i → 2 ^ k ≡ size → ⊥) → level_from size l n ≡ i
level_first size l zero i h g e none = absurd (omega arith)
level_first size l (suc n) i h g e none =
    go (ℕ_discrete l i) (λ q. level_first size (suc l) n i q (omega arith) e (λ k a b. none k (omega arith) b))
  where
    go : Dec (l ≡ i) → (suc l ≤ i → level_from size (suc l) n ≡ i) → level_from size l (suc n) ≡ i
    go (yes q) rest = level_hit size l n (ap (λ k. 2 ^ k) q ∙ e) ∙ q
    go (no q) rest = level_miss size l n (none l (omega arith) (omega arith)) ∙ rest (omega arith)

-- the first of the eleven levels whose size this is, if there is one
pub level_sought : (size : ℕ) (r : Option ℕ) → MatchOption r ((k : ℕ) → 0 ≤ k → k < 11 → 2 ^ k ≡ size → ⊥)
    (λ i. (0 ≤ i) × (i < 11) × (2 ^ i ≡ size) × ((k : ℕ) → 0 ≤ k → k < i → 2 ^ k ≡ size → ⊥)) → unwrap_or r 11 ≡ level_of size
level_sought size None none = sym (level_none size 0 11 (λ k h g. none k h g))
level_sought size (Some i) (h, g, e, none) = sym (level_first size 0 11 i h g e none)

pub key-is : (x y z : ℕ) → x + 65536 * y + 4294967296 * z ≡ key_of (record { x = x; y = y; z = z })
unfolding key_of
key-is x y z = refl

-- the place with a key
abbrev pub placed : ℕ → Place
placed key = record { x = key % 65536; y = key / 65536 % 65536; z = key / 4294967296 }

pub placed_short : (key : ℕ) → Short (placed key)
placed_short key = record { x_fits = omega arith; y_fits = omega arith }

pub placed-key : (key : ℕ) → key ≡ key_of (placed key)
unfolding key_of
placed-key key = omega arith

-- ---- the answer

-- a call that passes on the refusal of another call answers with it
pub answered_on : (r : Result Edge Refusal) (e : Refusal) → IsErrAnd r (λ y. y ≡ e) → answered r ≡ refused (refusal_number e)
answered_on (Ok x) e is = absurd is
answered_on (Err y) e is = ap (λ z. refused (refusal_number z)) is

-- what a look-up asks of the corner table of a survey
pub known : (s : Lent) → Corners s.corners.now
known s = corners s.cells.now s.corners.now s.clearance s.accepted

module _ (tc tk : List ℕ) (clearance : Float) (a : Axis) (p : Place) (l : ℕ) where
  abbrev s : Survey
  s = survey_of tc tk clearance

  abbrev odd_answer : Enquired
  odd_answer =
      crossing (number_of s (carrier s a p l)) (spot_on (corners_of tk) clearance (carrier s a p l)) (wet_end (wet_at (corners_of tk) clearance) (edge a p l))

  abbrev here : Enquired
  here = cond (odd (wet_at (corners_of tk) clearance) a p l) odd_answer even

  answer-is : edge_answer tc tk clearance a p l ≡ cond (is_edge (cells_of tc) a p l) here (refused 11)
  unfolding edge_answer
  answer-is = refl

  pub answer-none : is_edge (cells_of tc) a p l ≡ false → refused 11 ≡ edge_answer tc tk clearance a p l
  answer-none h = sym (answer-is ∙ ap (λ b. cond b here (refused 11)) h)

  module _ (t : T (is_edge (cells_of tc) a p l)) where
    pub found_here : here ≡ edge_answer tc tk clearance a p l
    found_here = sym (answer-is ∙ ap (λ b. cond b here (refused 11)) (true→ (is_edge (cells_of tc) a p l) t))

    pub answer-even : odd (wet_at (corners_of tk) clearance) a p l ≡ false → even ≡ edge_answer tc tk clearance a p l
    answer-even h = ap (λ b. cond b odd_answer even) (sym h) ∙ found_here

    pub answer-crossing : odd (wet_at (corners_of tk) clearance) a p l ≡ true → (n : ℕ) → n ≡ number_of (survey_of tc tk clearance)
        (carrier (survey_of tc tk clearance) a p l) →
        (q : Spot) → q ≡ spot_on (corners_of tk) clearance (carrier (survey_of tc tk clearance) a p l) →
        (end : End) → end ≡ wet_end (wet_at (corners_of tk) clearance) (edge a p l) →
        crossing n q end ≡ edge_answer tc tk clearance a p l
    answer-crossing h n e q f end g = (λ i. crossing (e i) (f i) (g i)) ∙ ap (λ b. cond b odd_answer even) (sym h) ∙ found_here

-- the wet end is read off the mark of the record at the upper end
pub wet_read : (t : List ℕ) (clearance : Float) (wets : List ℕ) → Wets t clearance wets → (a : Axis) (p : Place) (l k m : ℕ) → UpperEnd t a k l m →
    place_at (places_of t) k ≡ p → cond (eqb (get_or wets m 0) 0) Lower Upper ≡ wet_end (wet_at (corners_of t) clearance) (edge a p l)
unfolding wet_end
wet_read t clearance wets w a p l k m u e =
    ap (λ n. cond (eqb n 0) Lower Upper) (w.entry m u.inside) ∙ marked (wet_at (corners_of t) clearance (place_at (places_of t) m)) ∙
    ap (λ q. cond (wet_at (corners_of t) clearance q) Upper Lower) (u.place ∙ ap (move a (2 ^ l)) e)
  where
    marked : (b : Bool) → cond (eqb (bit b) 0) Lower Upper ≡ cond b Upper Lower
    marked true = refl
    marked false = refl

-- ---- an accepted survey

module _ (tc tk : List ℕ) (clearance : Float) (ok : accepted tc tk clearance ≡ true) where
  law : Lawful (survey_of tc tk clearance)
  law = lawful tc tk clearance (→true ok)

  -- no edge starts outside the box
  far_off : (a b : Axis) (p : Place) (l : ℕ) → 1024 < along b p → is_edge (cells_of tc) a p l ≡ false
  unfolding survey_of
  far_off a b p l h = go (either (is_edge (cells_of tc) a p l))
    where
      go : T (is_edge (cells_of tc) a p l) ⊎ (is_edge (cells_of tc) a p l ≡ false) → is_edge (cells_of tc) a p l ≡ false
      go (inl t) =
          let (q, c, e, f) = edge→ (cells_of tc) a p l t in
          absurd (omega (arith, (corner-place (cells_of tc) law.octree l q p c f b).1))
      go (inr e) = e

-- ---- the order of the refusals

module _ (tc tk : List ℕ) (clearance : Float) (axis : ℕ) (p : Place) (size : ℕ) where
  abbrev pub last : Bool
  last = not (ltb axis 3 && is_edge (cells_of tc) (axis_of axis) p (level_of size))

  abbrev found : Enquired
  found = here tc tk clearance (axis_of axis) p (level_of size)

  numbers_good : T (numbered (checks tc tk clearance))
  unfolding checks
  numbers_good = unfold checks in tt

  number_of_lem : first_of (checks tc tk clearance ++ (11, last) ∷ []) ≡ cond (eqb (first_of (checks tc tk clearance)) 0) (cond last 11 0)
      (first_of (checks tc tk clearance))
  number_of_lem = first_append (checks tc tk clearance) ((11, last) ∷ []) numbers_good

  pub enquiry-is : enquiry tc tk clearance axis p size ≡
      cond (eqb (first_of (checks tc tk clearance ++ (11, last) ∷ [])) 0) found (refused (first_of (checks tc tk clearance ++ (11, last) ∷ [])))
  unfolding enquiry
  enquiry-is = refl

  -- nothing refuses: the survey is accepted and some cell has the edge
  pub enquiry-passed : first_of (checks tc tk clearance ++ (11, last) ∷ []) ≡ 0 →
      T (accepted tc tk clearance) × T (is_edge (cells_of tc) (axis_of axis) p (level_of size))
  unfolding accepted
  enquiry-passed h = go (eqb (first_of (checks tc tk clearance)) 0) (ltb axis 3) (is_edge (cells_of tc) (axis_of axis) p (level_of size)) refl (sym number_of_lem ∙ h)
    where
      go : (u v w : Bool) → eqb (first_of (checks tc tk clearance)) 0 ≡ u → cond u (cond (not (v && w)) 11 0) (first_of (checks tc tk clearance)) ≡ 0 →
          T (eqb (first_of (checks tc tk clearance)) 0) × T w
      go true true true e z = (→true e, tt)
      go true true false e z = absurd (omega arith)
      go true false w e z = absurd (omega arith)
      go false v w e z = absurd (not_both (eq→eqb (first_of (checks tc tk clearance)) 0 z) e)

  pub enquiry-refused : (n : ℕ) → n ≡ first_of (checks tc tk clearance) → (n ≡ 0 → ⊥) → refused n ≡ enquiry tc tk clearance axis p size
  enquiry-refused n e h =
      let z : eqb (first_of (checks tc tk clearance)) 0 ≡ false = ne_eqb (first_of (checks tc tk clearance)) 0 (λ q. h (e ∙ q)) in
      let m : first_of (checks tc tk clearance ++ (11, last) ∷ []) ≡ first_of (checks tc tk clearance) =
      number_of_lem ∙ ap (λ b. cond b (cond last 11 0) (first_of (checks tc tk clearance))) z in
      ap (λ k. refused k) (e ∙ sym m) ∙
      sym (enquiry-is ∙ ap (λ b. cond b found (refused (first_of (checks tc tk clearance ++ (11, last) ∷ [])))) (ap (λ k. eqb k 0) m ∙ z))

  module _ (pass : 0 ≡ first_of (checks tc tk clearance)) where
    pub is-accepted : accepted tc tk clearance ≡ true
    unfolding accepted
    is-accepted = eq-eqb (first_of (checks tc tk clearance)) 0 (sym pass)

    number_last : first_of (checks tc tk clearance ++ (11, last) ∷ []) ≡ cond last 11 0
    number_last =
        number_of_lem ∙ ap (λ b. cond b (cond last 11 0) (first_of (checks tc tk clearance))) (eq-eqb (first_of (checks tc tk clearance)) 0 (sym pass))

    last_is : enquiry tc tk clearance axis p size ≡ cond (eqb (cond last 11 0) 0) found (refused (cond last 11 0))
    last_is = enquiry-is ∙ ap (λ k. cond (eqb k 0) found (refused k)) number_last

    last_refused : last ≡ true → refused 11 ≡ enquiry tc tk clearance axis p size
    last_refused g = sym (last_is ∙ ap (λ b. cond (eqb (cond b 11 0) 0) found (refused (cond b 11 0))) g)

    -- an axis above 2
    axis-refused : 3 ≤ axis → refused 11 ≡ enquiry tc tk clearance axis p size
    axis-refused g = last_refused (ap (λ b. not (b && is_edge (cells_of tc) (axis_of axis) p (level_of size))) (le-ltb axis 3 g))

    -- no cell has the edge
    edge-refused : axis < 3 → is_edge (cells_of tc) (axis_of axis) p (level_of size) ≡ false → refused 11 ≡ enquiry tc tk clearance axis p size
    edge-refused g f = last_refused (λ i. not (lt-ltb axis 3 g i && f i))

    outside : (b : Axis) → axis ≤ 2 → 1024 < along b p → refused 11 ≡ enquiry tc tk clearance axis p size
    outside b g o = edge-refused (omega arith) (far_off tc tk clearance is-accepted (axis_of axis) b p (level_of size) o)

    -- there is no such axis, or the edge would start outside the box
    pub nowhere-refused : (2 < axis) ⊎ ((axis ≤ 2) × (1024 < p.x)) ⊎ ((axis ≤ 2) × (p.x ≤ 1024) × (1024 < p.y))
        ⊎ ((axis ≤ 2) × (p.x ≤ 1024) × (p.y ≤ 1024) × (1024 < p.z)) → refused 11 ≡ enquiry tc tk clearance axis p size
    nowhere-refused (inl g) = axis-refused g
    nowhere-refused (inr (inl (g, o))) = outside X g o
    nowhere-refused (inr (inr (inl (g, x, o)))) = outside Y g o
    nowhere-refused (inr (inr (inr (g, x, y, o)))) = outside Z g o

    pub enquiry-answer : axis < 3 → edge_answer tc tk clearance (axis_of axis) p (level_of size) ≡ enquiry tc tk clearance axis p size
    enquiry-answer g =
        answer-is tc tk clearance (axis_of axis) p (level_of size) ∙ go (is_edge (cells_of tc) (axis_of axis) p (level_of size)) ∙
        sym (last_is ∙ ap (λ b. cond (eqb (cond (not (b && is_edge (cells_of tc) (axis_of axis) p (level_of size))) 11 0) 0) found
        (refused (cond (not (b && is_edge (cells_of tc) (axis_of axis) p (level_of size))) 11 0))) (lt-ltb axis 3 g))
      where
        go : (b : Bool) → cond b found (refused 11) ≡ cond (eqb (cond (not b) 11 0) 0) found (refused (cond (not b) 11 0))
        go true = refl
        go false = refl
