-- What the code reads from the tables, in the words of the rules; of a survey that is accepted at a clearance.
use Prim.Native.Nat.{ℕ, ◌+◌, ◌*◌, ◌/◌, ◌%◌, ◌^◌, ◌≤◌, ◌<◌}
use mathlib.Core.Path.{◌≡◌, refl, sym, ap, ◌∙◌, subst}
use mathlib.Core.Logic.{◌⊎◌, inl, inr}
use mathlib.Core.Bool.{Bool, true, false, not, beq}
use mathlib.Core.List.{List}
use native.Mathlib.Omega.{arith}
use lib.Dec.{T, eqb}
use lib.Ieee.{Float}
use lib.ListN.{length, get_or}
use borrow.Author.Tests.{lt-ltb, le-ltb}
use Rattle.base.specs.Lists.{bit}
use Rattle.base.specs.Grid.{Axis, move, axis_of}
use Rattle.base.proofs.Tests.{→true, below}
use Rattle.rules.specs.Survey.{record_count, cells_of, corners_of, wet_at, Survey}
use Rattle.rules.specs.Edges.{is_edge, odd}
use Rattle.rules.specs.Outputs.{survey_refusal, accepted, survey_of}
use Rattle.records.specs.Keys.{key_of, places_of}
use Rattle.records.proofs.Keys.{get_place, length-places}
use Rattle.records.proofs.Search.{key_at}
use Rattle.octree.proofs.Accepted.{accepted→, lawful}
use Rattle.edges.specs.Tables.{place_at, lowest_level, highest_level, crossed_slot, lowest_at, highest_at, far_at, Levelled, Wets, UpperEnd}
use Rattle.edges.specs.Searching.{key_unit, Corners}
use Rattle.edges.proofs.Find.{key-move}
use Rattle.edges.proofs.Levels.{Edged, lowest-edge}
use Rattle.edges.proofs.Lawfully.{edged}
use Rattle.edges.proofs.Surveyed.{corners_known, corners-few}

-- the key of the upper end of an edge from record k on
pub upper-key : (t : List ℕ) (k l key r : ℕ) (a : Axis) → k < record_count t → key ≡ key_at t k → r ≡ key + 2 ^ l * key_unit a →
    r ≡ key_of (move a (2 ^ l) (place_at (places_of t) k))
upper-key t k l key r a h e f =
    f ∙ ap (λ n. n + 2 ^ l * key_unit a) (e ∙ sym (ap key_of (get_place t k h))) ∙ sym (key-move a (2 ^ l) (place_at (places_of t) k))

-- ---- wetness

marks_differ : (v w : Bool) → not (eqb (bit v) (bit w)) ≡ not (beq v w)
marks_differ true true = refl
marks_differ true false = refl
marks_differ false true = refl
marks_differ false false = refl

-- an edge is odd just if the marks at its two records differ
pub odd_read : (t : List ℕ) (clearance : Float) (wets : List ℕ) → Wets t clearance wets → (a : Axis) (k m l : ℕ) → k < record_count t → UpperEnd t a k l m →
    not (eqb (get_or wets k 0) (get_or wets m 0)) ≡ odd (wet_at (corners_of t) clearance) a (place_at (places_of t) k) l
unfolding odd
odd_read t clearance wets w a k m l h u =
    (λ i. not (eqb (w.entry k h i) (w.entry m u.inside i))) ∙
    marks_differ (wet_at (corners_of t) clearance (place_at (places_of t) k)) (wet_at (corners_of t) clearance (place_at (places_of t) m)) ∙
    ap (λ p. not (beq (wet_at (corners_of t) clearance (place_at (places_of t) k)) (wet_at (corners_of t) clearance p))) u.place

-- the upper end of the edge of the lowest level at a slot, where there is one
pub far_read : (tc tk slots : List ℕ) → Levelled tc tk slots → (n k i : ℕ) → i ≡ 4872 * n + k → n < 3 → k < record_count tk →
    lowest_at slots i ≤ 10 → UpperEnd tk (axis_of n) k (lowest_at slots i) (far_at slots i)
far_read tc tk slots known n k i e g h o =
    let q = known.low n k g h in
    let r : lowest_at slots i ≡ lowest_at slots (4872 * n + k) = ap (lowest_at slots) e in
    subst (λ j. UpperEnd tk (axis_of n) k (lowest_at slots j) (far_at slots j)) (sym e)
    (subst (λ l. UpperEnd tk (axis_of n) k l (far_at slots (4872 * n + k))) (sym q) (known.far n k g h (omega (arith, q, r))))

-- ---- crossed slots

module _ (s : Survey) (i : ℕ) where
  pub slot_outside : length s.places ≤ i % 4872 → crossed_slot s i ≡ false
  unfolding crossed_slot
  slot_outside h = rw (le-ltb (i % 4872) (length s.places) h)

  module _ (h : i % 4872 < length s.places) where
    pub slot-empty : 11 ≤ lowest_level s (axis_of (i / 4872)) (place_at s.places (i % 4872)) → crossed_slot s i ≡ false
    unfolding crossed_slot
    slot-empty g = rw (lt-ltb (i % 4872) (length s.places) h, le-ltb (lowest_level s (axis_of (i / 4872)) (place_at s.places (i % 4872))) 11 g)

    pub slot-odd : lowest_level s (axis_of (i / 4872)) (place_at s.places (i % 4872)) < 11 →
        crossed_slot s i ≡
        odd s.is_wet (axis_of (i / 4872)) (place_at s.places (i % 4872)) (lowest_level s (axis_of (i / 4872)) (place_at s.places (i % 4872)))
    unfolding crossed_slot
    slot-odd g = rw (lt-ltb (i % 4872) (length s.places) h, lt-ltb (lowest_level s (axis_of (i / 4872)) (place_at s.places (i % 4872))) 11 g)

-- a slot of no record
pub record_outside : (tc tk : List ℕ) (clearance : Float) (i : ℕ) → record_count tk ≤ i % 4872 → crossed_slot (survey_of tc tk clearance) i ≡ false
unfolding survey_of
record_outside tc tk clearance i h = slot_outside (survey_of tc tk clearance) i (omega (arith, length-places tk))

pub crossed-inside : (tc tk : List ℕ) (clearance : Float) (i : ℕ) → T (crossed_slot (survey_of tc tk clearance) i) → i % 4872 < record_count tk
crossed-inside tc tk clearance i t = go (below (i % 4872) (record_count tk))
  where
    go : (i % 4872 < record_count tk) ⊎ (record_count tk ≤ i % 4872) → i % 4872 < record_count tk
    go (inl h) = h
    go (inr h) = absurd (subst T (record_outside tc tk clearance i h) t)

-- ---- an accepted survey

module _ (tc tk : List ℕ) (clearance : Float) (ok : accepted tc tk clearance ≡ true) where
  abbrev s : Survey
  s = survey_of tc tk clearance

  pub no_refusal : survey_refusal tc tk ≡ 0
  no_refusal = (accepted→ tc tk clearance (→true ok)).0

  pub corners : Corners tk
  corners = corners_known tc tk no_refusal

  pub edges_law : Edged (survey_of tc tk clearance)
  edges_law = edged s (lawful tc tk clearance (→true ok))

  pub few-places : length (survey_of tc tk clearance).places ≤ 4872
  unfolding survey_of
  few-places = omega (arith, length-places tk, corners-few tc tk no_refusal)

  -- the lowest and the highest level as the table has them
  pub lowest_read : (slots : List ℕ) → Levelled tc tk slots → (n k i : ℕ) → i ≡ 4872 * n + k → n < 3 → k < record_count tk →
      lowest_at slots i ≡ lowest_level (survey_of tc tk clearance) (axis_of n) (place_at (places_of tk) k)
  unfolding lowest_level survey_of
  lowest_read slots known n k i e g h = ap (lowest_at slots) e ∙ known.low n k g h

  pub highest_read : (slots : List ℕ) → Levelled tc tk slots → (n k i : ℕ) → i ≡ 4872 * n + k → n < 3 → k < record_count tk →
      highest_at slots i ≡ highest_level (survey_of tc tk clearance) (axis_of n) (place_at (places_of tk) k)
  unfolding highest_level survey_of
  highest_read slots known n k i e g h = ap (highest_at slots) e ∙ known.high n k g h

  -- ---- the crossed slots, as the code finds them

  module _ (slots : List ℕ) (known : Levelled tc tk slots) (i : ℕ) (h : i < 14616) where
    level-is : i % 4872 < record_count tk → lowest_at slots i ≡ lowest_level (survey_of tc tk clearance) (axis_of (i / 4872)) (place_at (places_of tk) (i % 4872))
    level-is g = lowest_read slots known (i / 4872) (i % 4872) i (omega arith) (omega arith) g

    pub empty : i % 4872 < record_count tk → 10 < lowest_at slots i → crossed_slot (survey_of tc tk clearance) i ≡ false
    unfolding survey_of
    empty g o = slot-empty s i (omega (arith, length-places tk)) (omega (arith, level-is g))

    module _ (g : i % 4872 < record_count tk) (o : lowest_at slots i ≤ 10) where
      pub low-edge : T (is_edge (cells_of tc) (axis_of (i / 4872)) (place_at (places_of tk) (i % 4872)) (lowest_at slots i))
      unfolding survey_of
      low-edge =
          subst (λ (l : ℕ). T (is_edge (cells_of tc) (axis_of (i / 4872)) (place_at (places_of tk) (i % 4872)) l)) (sym (level-is g))
          (lowest-edge s edges_law (axis_of (i / 4872)) (place_at (places_of tk) (i % 4872)) (omega (arith, level-is g)))

      pub crossed-odd : crossed_slot (survey_of tc tk clearance) i ≡
          odd (wet_at (corners_of tk) clearance) (axis_of (i / 4872)) (place_at (places_of tk) (i % 4872)) (lowest_at slots i)
      unfolding survey_of
      crossed-odd =
          slot-odd s i (omega (arith, length-places tk)) (omega (arith, level-is g)) ∙
          ap (odd (wet_at (corners_of tk) clearance) (axis_of (i / 4872)) (place_at (places_of tk) (i % 4872))) (sym (level-is g))
