-- One pass over the slots: each slot's number is how many crossed ones come before it, and each point's slot is entered as it comes.
use Prim.Native.Nat.{ℕ, zero, suc, ◌+◌, ◌*◌, ◌≤◌, ◌<◌}
use native.Mathlib.Nat.{add-zero}
use mathlib.Core.Path.{◌≡◌, refl, sym, ap, ◌∙◌, subst}
use mathlib.Core.Logic.{◌⊎◌, inl, inr}
use mathlib.Core.Bool.{Bool, true, false, cond}
use mathlib.Core.List.{List, [], ◌∷◌, ◌++◌, append-nil}
use native.Mathlib.Decide.{ℕ_discrete}
use native.Mathlib.Omega.{arith}
use lib.Dec.{T}
use lib.Ieee.{Float}
use lib.ListN.{length, get_or, set, length-set, length-append, get_or-append}
use lib.Seq.{get_or-set_same, get_or-set_other, get_or_at}
use Rattle.base.specs.Lists.{keep, count, bit}
use Rattle.base.specs.Grid.{axis_of}
use Rattle.base.proofs.Lists.{length-count}
use Rattle.base.proofs.Tests.{below}
use Rattle.rules.specs.Survey.{cells_of, Survey}
use Rattle.rules.specs.Edges.{point_edges}
use Rattle.rules.specs.Outputs.{survey_of}
use Rattle.records.specs.Keys.{places_of}
use Rattle.edges.specs.Tables.{edges_of, lowest_in, place_at, crossed_slot, slots_below, number_at, UpperEnd, Levelled, Numbered, Carriers}
use Rattle.edges.proofs.Entries.{with_number, number_size, number-here, number-other, number-low, number-high, number-far}
use Rattle.edges.proofs.Levels.{Edged}
use Rattle.edges.proofs.Points.{below_next, point-count}

-- what the tables hold when the slots below i have been passed, and n points were found
pub record NumberedBelow (tc tk : List ℕ) (clearance : Float) (slots carriers : List ℕ) (n i : ℕ) : Type 0 where
  pub levelled : Levelled tc tk slots
  pub room : length carriers ≡ 14616
  pub upto : i ≤ 14616
  pub few : n ≤ i
  pub counted : n ≡ length (slots_below (survey_of tc tk clearance) i)
  pub number : (j : ℕ) → j < i → T (crossed_slot (survey_of tc tk clearance) j) → number_at slots j ≡ length (slots_below (survey_of tc tk clearance) j)
  pub carrier : (v : ℕ) → v < n → get_or carriers v 0 ≡ get_or (slots_below (survey_of tc tk clearance) i) v 0

keep-le : {A : Type 0} (f : A → Bool) (xs : List A) → length (keep f xs) ≤ length xs
keep-le f [] = omega arith
keep-le f (x ∷ xs) = go (f x) (keep-le f xs)
  where
    go : (b : Bool) → length (keep f xs) ≤ length xs → length (cond b (x ∷ keep f xs) (keep f xs)) ≤ suc (length xs)
    go true h = omega arith
    go false h = omega arith

module _ (s : Survey) where
  pub below_le : (i : ℕ) → length (slots_below s i) ≤ i
  unfolding slots_below
  below_le i = omega (arith, keep-le (crossed_slot s) (count 0 i), length-count i 0)

  -- the count of crossed slots, one after another
  pub none_below : length (slots_below s 0) ≡ 0
  unfolding slots_below
  none_below = refl

  pub count_next : (i n m : ℕ) → n ≡ length (slots_below s i) → m ≡ bit (crossed_slot s i) → n + m ≡ length (slots_below s (i + 1))
  count_next i n m e f = (λ j. e j + f j) ∙ sym (ap length (below_next s i) ∙ go (crossed_slot s i))
    where
      go : (b : Bool) → length (slots_below s i ++ cond b (i ∷ []) []) ≡ length (slots_below s i) + bit b
      go true = length-append (slots_below s i) (i ∷ [])
      go false = length-append (slots_below s i) []

  -- slots that are not crossed add none
  pub none_between : (d i : ℕ) → ((j : ℕ) → i ≤ j → j < i + d → crossed_slot s j ≡ false) → slots_below s (i + d) ≡ slots_below s i
  none_between zero i e = rw add-zero
  none_between (suc d) i e =
      let next : i + d + 1 ≡ i + suc d = omega arith in
      sym (ap (slots_below s) next) ∙ below_next s (i + d)
      ∙ ap (λ c. slots_below s (i + d) ++ cond c ((i + d) ∷ []) []) (e (i + d) (omega arith) (omega arith)) ∙ append-nil (slots_below s (i + d))
      ∙ none_between d i (λ j a b. e j a (omega arith))

-- A number entered leaves levels and upper ends as they were.
levelled_still : (tc tk slots : List ℕ) (i n : ℕ) → Levelled tc tk slots → Levelled tc tk (with_number slots i n)
levelled_still tc tk slots i n v = record {
  size = number_size slots v.size i n;
  low = λ m k g h. number-low slots v.size i n (4872 * m + k) ∙ v.low m k g h;
  high = λ m k g h. number-high slots v.size i n (4872 * m + k) ∙ v.high m k g h;
  far = λ m k g h o. subst (UpperEnd tk (axis_of m) k (lowest_in (edges_of (cells_of tc)) (axis_of m) (place_at (places_of tk) k)))
      (sym (number-far slots v.size i n (4872 * m + k))) (v.far m k g h o);
}

-- the entry of a slot past the first i is free
more_numbers : (f : ℕ → ℕ) (has : ℕ → Type 0) (slots : List ℕ) → length slots ≡ 43848 → (i n : ℕ) → i < 14616 →
    ((j : ℕ) → j < i → has j → number_at slots j ≡ f j) → n ≡ f i → (j : ℕ) → j < i + 1 → has j → number_at (with_number slots i n) j ≡ f j
more_numbers f has slots size i n h g e j l t = go (ℕ_discrete j i)
  where
    go : Dec (j ≡ i) → number_at (with_number slots i n) j ≡ f j
    go (yes q) = rw q (number-here slots size i n h ∙ e)
    go (no q) = number-other slots size i n j q ∙ g j (omega arith) t

module _ (tc tk : List ℕ) (clearance : Float) where
  abbrev s : Survey
  s = survey_of tc tk clearance

  pub number-none : (slots carriers : List ℕ) → Levelled tc tk slots → length carriers ≡ 14616 → NumberedBelow tc tk clearance slots carriers 0 0
  unfolding slots_below
  number-none slots carriers g h = record {
    levelled = g;
    room = h;
    upto = omega arith;
    few = omega arith;
    counted = refl;
    number = λ j k t. absurd (omega arith);
    carrier = λ v k. absurd (omega arith);
  }

  -- one more slot: b says whether it is crossed
  module _ (slots carriers : List ℕ) (n i : ℕ) (was : NumberedBelow tc tk clearance slots carriers n i) (h : i < 14616) where
    -- the points found, and the slot entered behind them, which counts where it is crossed
    next_below : (b : Bool) → slots_below s (i + 1) ≡ slots_below s i ++ cond b (i ∷ []) [] → (r : ℕ) → r ≡ n + bit b →
        (r ≡ length (slots_below s (i + 1))) × ((v : ℕ) → v < r → get_or (set carriers n i) v 0 ≡ get_or (slots_below s (i + 1)) v 0)
    next_below true e r q =
        let c = was.counted in (
          rw e (q ∙ (omega (arith, length-append (slots_below s i) (i ∷ [])))),
          λ v k. rw e (go v (omega arith) (ℕ_discrete v n)),
        )
      where
        go : (v : ℕ) → v < n + 1 → Dec (v ≡ n) → get_or (set carriers n i) v 0 ≡ get_or (slots_below s i ++ i ∷ []) v 0
        go v k (yes p) =
            let z = was.room in
            let w = was.few in
            rw p (get_or-set_same carriers n i 0 (omega arith) ∙ sym (get_or_at (slots_below s i) i [] 0 n (sym was.counted)))
        go v k (no p) =
            let c = was.counted in
            get_or-set_other carriers n v i 0 p ∙ was.carrier v (omega arith) ∙ sym (get_or-append (slots_below s i) (i ∷ []) 0 v (omega arith))
    next_below false e r q =
        let d : slots_below s (i + 1) ≡ slots_below s i = e ∙ append-nil (slots_below s i) in
        let c = was.counted in (
          rw d (omega arith),
          λ v k. rw d (get_or-set_other carriers n v i 0 (λ p. omega arith) ∙ was.carrier v (omega arith)),
        )

    pub number-next : (b : Bool) → b ≡ crossed_slot (survey_of tc tk clearance) i → (r : ℕ) → r ≡ n + bit b → (slots' carriers' : List ℕ) →
        slots' ≡ with_number slots i n → carriers' ≡ set carriers n i → NumberedBelow tc tk clearance slots' carriers' r (i + 1)
    number-next b e r q slots' carriers' x f =
        let t = next_below b (below_next s i ∙ ap (λ c. slots_below s i ++ cond c (i ∷ []) []) (sym e)) r q in
        rw (x, f) record {
          levelled = levelled_still tc tk slots i n was.levelled;
          room = length-set carriers n i ∙ was.room;
          upto = omega arith;
          few = omega (arith, t.0, below_le s (i + 1));
          counted = t.0;
          number = more_numbers (λ j. length (slots_below s j)) (λ j. T (crossed_slot s j)) slots was.levelled.size i n h was.number was.counted;
          carrier = t.1;
        }

  -- slots that are not crossed, passed over
  pub pass_over : (slots carriers : List ℕ) (n d i : ℕ) → i + d ≤ 14616 →
      ((j : ℕ) → i ≤ j → j < i + d → crossed_slot (survey_of tc tk clearance) j ≡ false) →
      NumberedBelow tc tk clearance slots carriers n i → NumberedBelow tc tk clearance slots carriers n (i + d)
  pass_over slots carriers n d i h e was =
      let same = none_between s d i e in
      record {
        levelled = was.levelled;
        room = was.room;
        upto = h;
        few = omega (arith, was.few);
        counted = was.counted ∙ sym (ap length same);
        number = λ j k t. go j k t (below j i);
        carrier = λ v k. was.carrier v k ∙ sym (ap (λ l. get_or l v 0) same);
      }
    where
      go : (j : ℕ) → j < i + d → T (crossed_slot s j) → (j < i) ⊎ (i ≤ j) → number_at slots j ≡ length (slots_below s j)
      go j k t (inl l) = was.number j l t
      go j k t (inr l) = absurd (subst T (e j l k) t)

-- the last slot passed
module _ (tc tk : List ℕ) (clearance : Float) (laws : Edged (survey_of tc tk clearance)) (few : length (survey_of tc tk clearance).places ≤ 4872)
    (slots carriers : List ℕ) (n i : ℕ) (was : NumberedBelow tc tk clearance slots carriers n i) (e : i ≡ 14616) where
  pub numbers-done : Numbered tc tk clearance slots
  numbers-done = record { levelled = was.levelled; number = λ j h t. was.number j (omega arith) t }

  pub carriers_done : Carriers (survey_of tc tk clearance) carriers
  carriers_done = record {
    size = was.room;
    entry = λ v h.
        was.carrier v (omega (arith, was.counted, ap (λ j. length (slots_below (survey_of tc tk clearance) j)) e)) ∙
        ap (λ j. get_or (slots_below (survey_of tc tk clearance) j) v 0) e;
  }

  pub count-done : n ≡ length (point_edges (survey_of tc tk clearance))
  count-done = was.counted ∙ ap (λ j. length (slots_below (survey_of tc tk clearance) j)) e ∙ point-count (survey_of tc tk clearance) laws few
