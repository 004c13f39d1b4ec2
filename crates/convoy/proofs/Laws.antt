-- The laws of request 9: what the answer means, that it is the one for one boat at the greatest clearance, and that the checks come in their order.
use Prim.Native.Nat.{ℕ}
use mathlib.Core.Path.{◌≡◌, refl, sym, ap, ◌∙◌, subst}
use mathlib.Core.Bool.{Bool, true, not, cond}
use mathlib.Core.List.{List, [], ◌∷◌, ◌++◌, append_assoc}
use native.Mathlib.Omega.{arith}
use lib.Dec.{T, eqb}
use lib.Ieee.{Float, nan, lt, binary32, of_bits}
use lib.ListN.{length}
use Rattle.base.specs.Lists.{all}
use Rattle.base.proofs.Tests.{true→}
use Rattle.base.proofs.Lists.{in_get, in→any, position_of}
use Rattle.rules.specs.Survey.{record_count}
use Rattle.rules.specs.Outputs.{in_range, first_of}
use Rattle.rules.specs.Resounding.{amended}
use Rattle.rules.specs.Ways.{Graph, Way, asked_checks, Shown, shown_over, Means, PassageMeans, passage_order, NoWayExactly}
use Rattle.rules.specs.Convoy.{convoy_graph, clearance_checks, convoy_checks, convoy_amended, boat_clearance, Greatest, ConvoyMeans, AsGreatest, SomeGreatest}
use Rattle.rules.specs.Convoy.{EitherGreatest, EitherZero, OnlyWhereNone, convoy_order, ConvoyInOrder, ConvoyNoWayExactly}
use Rattle.rules.specs.declared.Passage.{Passage}
use Rattle.octree.proofs.Accepted.{first-none}
use Rattle.amendments.proofs.Laws.{survey_numbered}
use Rattle.ways.specs.Shows.{Shows, shown_by}
use Rattle.ways.proofs.Call.{passage_of}
use Rattle.ways.proofs.Laws.{skip, means, passage_means, no_way_exactly}
use Rattle.ways.proofs.Marks.{size_is}
use Rattle.ways.proofs.Outcome.{asked, corners}
use Rattle.convoy.specs.GreatestOf.{greatest_of}
use Rattle.convoy.proofs.Together.{Top, top_in_range, greatest_top}
use Rattle.convoy.proofs.Corners.{both_ways, corners-same}
use Rattle.convoy.proofs.Calls.{Call, together, alone, convoy_corners, boat_corners, own, earlier, earlier_numbered, as_one, nothing_shown}
use Rattle.convoy.proofs.Calls.{lawful_clearances}

-- the call as one value
abbrev call_of : List ℕ → List ℕ → List ℕ → List Float → ℕ → ℕ → List ℕ → List ℕ → Call
call_of tc tk ta clearances start end way work = record {
  cells = tc;
  corners = tk;
  amendments = ta;
  clearances = clearances;
  question = record { start = start; end = end; way = way; work = work };
}

-- ---- what the answer means

pub convoy_means : ConvoyMeans
unfolding ConvoyMeans convoy_amended
convoy_means tc tk ta clearances start end way work =
    let call = call_of tc tk ta clearances start end way work in
    means (convoy_corners call) (both_ways tc (amended tk ta) clearances) (earlier call) (earlier_numbered call).0 (earlier_numbered call).1 call.question

-- ---- the greatest clearance

-- that of a boat that has it is one than which none is greater
top_of : (clearances : List Float) (k : ℕ) → Greatest clearances k → Top clearances (boat_clearance clearances k)
top_of clearances k g = record {
  ranged = (lawful_clearances clearances g.lawful).1;
  one = in_get clearances k nan g.there;
  none_greater = g.none_greater;
}

pub as_greatest : AsGreatest
unfolding AsGreatest
as_greatest tc tk ta clearances k g start end way work =
    as_one (call_of tc tk ta clearances start end way work) g.lawful (boat_clearance clearances k) (top_of clearances k g)

-- what the code finds is the clearance of a boat, and no boat's is greater
pub some_greatest : SomeGreatest
unfolding SomeGreatest
some_greatest clearances pass =
    let (some, ranged) = lawful_clearances clearances pass in
    let top = greatest_top clearances some ranged in
    let found = in→any is_greatest clearances (greatest_of clearances) top.one top.none_greater in
    let (k, at, there, none_greater) = position_of is_greatest nan clearances 0 found in
    (k, record { lawful = pass; there = there; none_greater = none_greater })
  where
    is_greatest : Float → Bool
    is_greatest c = all (λ d. not (lt c d)) clearances

pub either_greatest : EitherGreatest
unfolding EitherGreatest AsGreatest
either_greatest tc tk ta clearances j k g h start end way work =
    sym (as_greatest tc tk ta clearances j g start end way work) ∙ as_greatest tc tk ta clearances k h start end way work

-- both have the greatest clearance in a convoy of the two
pub either_zero : EitherZero
unfolding EitherZero EitherGreatest of_bits clearance_checks in_range lt
either_zero tc tk ta =
    either_greatest tc tk ta (of_bits binary32 0 ∷ of_bits binary32 0x8000_0000 ∷ []) 0 1
    (record { lawful = refl; there = omega arith; none_greater = tt }) (record { lawful = refl; there = omega arith; none_greater = tt })

pub only_where_none : OnlyWhereNone
unfolding OnlyWhereNone AsGreatest PassageMeans
only_where_none tc tk ta clearances k g start end way work e =
    (passage_means tc tk ta (boat_clearance clearances k) start end way work).none
    (sym (ap (λ (s : Shown). s.result.number) (as_greatest tc tk ta clearances k g start end way work)) ∙ e)

-- ---- the order of the checks

pub convoy_in_order : ConvoyInOrder
unfolding ConvoyInOrder convoy_order convoy_amended shown_over convoy_graph
convoy_in_order tc tk ta clearances start end way work =
    let call = call_of tc tk ta clearances start end way work in
    sym (ap first_of (append_assoc (earlier call) (asked (record_count (amended tk ta)) call.question)
    ((20, eqb (corners (convoy_corners call) call.question) 0) ∷ [])))

-- where no check before 20 applies, the convoy has the corners of one boat at the greatest clearance, and its answer
pub convoy_no_way_exactly : ConvoyNoWayExactly
unfolding ConvoyNoWayExactly AsGreatest NoWayExactly SomeGreatest
convoy_no_way_exactly tc tk ta clearances start end way work pass =
    let (k, g) = some_greatest clearances own_parts.1 in
    let c = boat_clearance clearances k in
    let same = ap (λ (s : Shown). s.result.number) (as_greatest tc tk ta clearances k g start end way work) in
    let corners_are = corners-same tc (amended tk ta) clearances c (top_of clearances k g) in
    let (only, always) = no_way_exactly tc tk ta c start end way work (alone_passes c (top_in_range (top_of clearances k g))) in (
      λ e w y. only (sym same ∙ e) w (subst (λ (graph : Graph). Way graph start end w) corners_are y),
      λ none. same ∙ always (λ w y. none w (subst (λ (graph : Graph). Way graph start end w) (sym corners_are) y)),
    )
  where
    call : Call
    call = call_of tc tk ta clearances start end way work

    asks : ℕ → List (ℕ × Bool)
    asks size = asked_checks size start end (length way) (length work)

    parts : (first_of (earlier call) ≡ 0) × (first_of (asks (record_count (amended tk ta))) ≡ 0)
    parts = first-none (earlier call) (asks (record_count (amended tk ta))) (earlier_numbered call).0 (unfold convoy_order in pass)

    own_parts : (first_of (own call) ≡ 0) × (first_of (clearance_checks clearances) ≡ 0)
    own_parts = first-none (own call) (clearance_checks clearances) (survey_numbered tc tk ta) (unfold convoy_checks in parts.0)

    -- so none before 20 applies to one boat either
    alone_passes : (c : Float) → T (in_range c) → first_of (passage_order tc tk ta c start end (length way) (length work)) ≡ 0
    alone_passes c r = unfold passage_order in
        skip (own call) ((8, not (in_range c)) ∷ asks (boat_corners call c).size) (survey_numbered tc tk ta) own_parts.0
        ∙ ap (λ (b : Bool). cond (not b) 8 (first_of (asks (boat_corners call c).size))) (true→ (in_range c) r)
        ∙ ap (λ (n : ℕ). first_of (asks n)) (size_is tc (amended tk ta) c) ∙ parts.1

-- ---- what the call promises

module _ (call : Call) where
  -- the result and the slices are those of the rules, mean what the request says, and are those of one boat at the greatest clearance
  abbrev Promised : Passage → List ℕ → List ℕ → Type 0
  Promised r way work = Shows (together call) r way work
      × (Means (convoy_corners call) call.question.start call.question.end call.question.way call.question.work (shown_by r way work)
      × ((k : ℕ) → Greatest call.clearances k → Shows (alone call (boat_clearance call.clearances k)) r way work))

  -- the first of these says the others
  promised : {r : Passage} {way work : List ℕ} → Shows (together call) r way work → Promised r way work
  unfolding ConvoyMeans
  promised {r} {way} {work} s = (
    s,
    (
      subst (Means (convoy_corners call) call.question.start call.question.end call.question.way call.question.work)
          (sym (λ i. shown_by (s.result_is i) (s.way_is i) (s.work_is i)))
          (convoy_means call.cells call.corners call.amendments call.clearances call.question.start call.question.end call.question.way
          call.question.work),
      λ k g. subst (λ (d : Shown). Shows d r way work)
          (as_one call g.lawful (boat_clearance call.clearances k) (top_of call.clearances k g)) s,
    ),
  )

  -- where 21 or 8 applies
  pub refuses : (n : ℕ) → n ≡ first_of (clearance_checks call.clearances) → (n ≡ 0 → ⊥) → (r : Passage) →
      r ≡ passage_of (first_of (own call ++ (n, true) ∷ [])) 0 → Promised r call.question.way call.question.work
  refuses n is some r e = promised (nothing_shown call n is some r e)

  -- where neither does, and the way is sought at the greatest clearance
  pub finds : first_of (clearance_checks call.clearances) ≡ 0 → (c : Float) → c ≡ greatest_of call.clearances →
      {r : Passage} {way work : List ℕ} → Shows (alone call c) r way work → Promised r way work
  finds pass c e {r} {way} {work} s =
      let (some, ranged) = lawful_clearances call.clearances pass in
      promised (subst (λ (d : Shown). Shows d r way work)
      (ap (alone call) e ∙ sym (as_one call pass (greatest_of call.clearances) (greatest_top call.clearances some ranged))) s)
