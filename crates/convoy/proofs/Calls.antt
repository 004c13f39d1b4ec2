-- The ways that the call goes: refused by the survey or by 21 or 8, or what one boat is shown at the greatest clearance.
use Prim.Native.Nat.{ℕ, ◌≤◌}
use mathlib.Core.Path.{◌≡◌, refl, sym, ap, ◌∙◌}
use mathlib.Core.Logic.{inl, inr}
use mathlib.Core.Bool.{Bool, true, false, not, ◌||◌, cond}
use mathlib.Core.List.{List, [], ◌∷◌, ◌++◌, append_assoc}
use native.Mathlib.Omega.{arith}
use lib.Dec.{T, eqb, ltb}
use lib.Ieee.{Float}
use lib.ListN.{length}
use borrow.Author.Tests.{eqb-false, ne_eqb}
use Rattle.base.specs.Lists.{any, all}
use Rattle.base.proofs.Tests.{true→, eq→eqb, not_both}
use Rattle.base.proofs.Lists.{in→all}
use Rattle.rules.specs.Outputs.{in_range, first_of, table_checks, written}
use Rattle.rules.specs.Resounding.{amended, amendment_checks, check_order}
use Rattle.rules.specs.Ways.{Graph, Shown, not_shown, corner_graph, shown_over, passage, passage_amended, passage_order, PassageInOrder}
use Rattle.rules.specs.Convoy.{convoy_graph, most_boats, clearance_checks, convoy_checks, convoy_amended}
use Rattle.rules.specs.declared.Passage.{Passage}
use Rattle.octree.proofs.Accepted.{numbered, first-none, first_unlike, none_applies, none_of}
use Rattle.amendments.proofs.Laws.{survey_number, survey_numbered, after-survey}
use Rattle.ways.specs.Shows.{Shows}
use Rattle.ways.proofs.Call.{Question, shown, passage_of}
use Rattle.ways.proofs.Outcome.{numbers, corners, route, later, asked, refused-before}
use Rattle.ways.proofs.Laws.{skip, passage_in_order}
use Rattle.convoy.proofs.Together.{Top, top_in_range}
use Rattle.convoy.proofs.Corners.{corners-same}

-- ---- what is shown, by the number of the first check that applies

module _ (graph : Graph) (question : Question) where
  abbrev shown_at : ℕ → Shown
  shown_at n = record {
    result = passage_of n (cond (eqb n 0) (corners graph question) 0);
    way = cond (eqb n 0) (written (route graph question) question.way) question.way;
    work = cond (eqb n 0 || eqb n 20) (written (numbers graph question) question.work) question.work;
  }

  shown_at_lem : (before : List (ℕ × Bool)) → shown graph before question ≡ shown_at (first_of (before ++ later graph question))
  unfolding shown_over
  shown_at_lem before = refl

  -- a refusal but 20 shows nothing
  nothing_at : (n : ℕ) → (n ≡ 0 → ⊥) → (n ≡ 20 → ⊥) → not_shown n question.way question.work ≡ shown_at n
  nothing_at n z w =
      sym (λ i. record {
        result = passage_of n (cond (ne_eqb n 0 z i) (corners graph question) 0);
        way = cond (ne_eqb n 0 z i) (written (route graph question) question.way) question.way;
        work = cond (ne_eqb n 0 z i || ne_eqb n 20 w i) (written (numbers graph question) question.work) question.work;
      })

-- ---- a call as one value

pub record Call : Type 0 where
  pub cells : List ℕ
  pub corners : List ℕ
  pub amendments : List ℕ
  pub clearances : List Float
  pub question : Question

-- what is shown, and what one boat of the same survey is shown at a clearance
abbrev pub together : Call → Shown
together call =
    convoy_amended call.cells call.corners call.amendments call.clearances call.question.start call.question.end
    call.question.way call.question.work

abbrev pub alone : Call → Float → Shown
alone call c =
    passage_amended call.cells call.corners call.amendments c call.question.start call.question.end call.question.way call.question.work

-- the corners of the convoy, and those of one boat
abbrev pub convoy_corners : Call → Graph
convoy_corners call = convoy_graph call.cells (amended call.corners call.amendments) call.clearances

abbrev pub boat_corners : Call → Float → Graph
boat_corners call c = corner_graph call.cells (amended call.corners call.amendments) c

-- the checks of the survey by itself, and then 21 and 8
abbrev pub own : Call → List (ℕ × Bool)
own call = check_order call.cells call.corners call.amendments

abbrev pub earlier : Call → List (ℕ × Bool)
earlier call = convoy_checks call.cells call.corners call.amendments call.clearances

-- none has the number 0, and none 20
pub earlier_numbered : (call : Call) → T (numbered (earlier call)) × T (all (λ t. not (eqb t.0 20)) (earlier call))
unfolding convoy_checks clearance_checks check_order amendment_checks table_checks
earlier_numbered call = (tt, tt)

clearances_numbered : (clearances : List Float) → T (numbered (clearance_checks clearances))
unfolding clearance_checks
clearances_numbered clearances = tt

-- further checks that find nothing to refuse, between those of the survey by itself and those of the question
skipped : (call : Call) (graph : Graph) (ts : List (ℕ × Bool)) → T (numbered ts) → first_of ts ≡ 0 →
    first_of ((own call ++ ts) ++ later graph call.question) ≡ first_of (own call ++ later graph call.question)
skipped call graph ts u z =
    ap first_of (append_assoc (own call) ts questions) ∙ after-survey call.cells call.corners call.amendments (ts ++ questions)
    ∙ ap (λ (n : ℕ). cond (eqb first 0) n first) (skip ts questions u z) ∙ sym (after-survey call.cells call.corners call.amendments questions)
  where
    questions : List (ℕ × Bool)
    questions = later graph call.question

    first : ℕ
    first = survey_number call.cells call.corners call.amendments

-- ---- one boat

module _ (call : Call) (c : Float) where
  by_number : alone call c ≡ shown_at (boat_corners call c) call.question (alone call c).result.number
  unfolding passage_amended
  by_number = go (eqb n 0) refl
    where
      n : ℕ
      n = first_of (amendment_checks call.cells call.corners call.amendments)

      not_twenty : n ≡ 20 → ⊥
      not_twenty e =
          not_both (eq→eqb n 20 e)
          (unfold amendment_checks table_checks in first_unlike 20 (amendment_checks call.cells call.corners call.amendments) tt tt)

      plain : Shown
      plain =
          passage call.cells (amended call.corners call.amendments) c call.question.start call.question.end call.question.way
          call.question.work

      nothing : Shown
      nothing = not_shown n call.question.way call.question.work

      whole : plain ≡ shown_at (boat_corners call c) call.question plain.result.number
      whole = unfold passage shown_over in refl

      go : (b : Bool) → eqb n 0 ≡ b → cond b plain nothing ≡ shown_at (boat_corners call c) call.question (cond b plain nothing).result.number
      go true e = whole
      go false e = nothing_at (boat_corners call c) call.question n (eqb-false n 0 e) not_twenty

  -- what one boat is shown at a clearance in range
  alone-is : T (in_range c) → alone call c ≡ shown_at (boat_corners call c) call.question (first_of (own call ++ later (boat_corners call c) call.question))
  unfolding PassageInOrder passage_order
  alone-is r =
      by_number
      ∙ ap (shown_at (boat_corners call c) call.question)
      (passage_in_order call.cells call.corners call.amendments c call.question.start call.question.end call.question.way
      call.question.work
      ∙ ap first_of (append_assoc (own call) (eight ∷ asked (boat_corners call c).size call.question) last
      ∙ sym (append_assoc (own call) (eight ∷ []) (later (boat_corners call c) call.question)))
      ∙ skipped call (boat_corners call c) (eight ∷ []) tt (ap (λ (b : Bool). cond (not b) 8 0) (true→ (in_range c) r)))
    where
      eight : ℕ × Bool
      eight = (8, not (in_range c))

      last : List (ℕ × Bool)
      last = (20, eqb (corners (boat_corners call c) call.question) 0) ∷ []

-- ---- a convoy

module _ (call : Call) where
  -- where neither 21 nor 8 applies: what one boat is shown at the greatest clearance
  pub as_one : first_of (clearance_checks call.clearances) ≡ 0 → (c : Float) → Top call.clearances c → together call ≡ alone call c
  unfolding convoy_amended convoy_checks
  as_one pass c top =
      ap (λ (graph : Graph). shown graph (earlier call) call.question)
      (corners-same call.cells (amended call.corners call.amendments) call.clearances c top)
      ∙ shown_at_lem (boat_corners call c) call.question (earlier call)
      ∙ ap (shown_at (boat_corners call c) call.question)
      (skipped call (boat_corners call c) (clearance_checks call.clearances) (clearances_numbered call.clearances) pass)
      ∙ sym (alone-is call c (top_in_range top))

  -- where one of them applies, or one of the survey before it: nothing is shown
  pub nothing_shown : (n : ℕ) → n ≡ first_of (clearance_checks call.clearances) → (n ≡ 0 → ⊥) → (r : Passage) →
      r ≡ passage_of (first_of (own call ++ (n, true) ∷ [])) 0 → Shows (together call) r call.question.way call.question.work
  unfolding convoy_amended
  nothing_shown n is some =
      refused-before (convoy_corners call) (earlier call) (earlier_numbered call).0 call.question (first_of (own call ++ (n, true) ∷ [])) number
      (λ z. some (first-none (own call) ((n, true) ∷ []) (survey_numbered call.cells call.corners call.amendments) z).1)
      (λ w. not_both (eq→eqb (first_of (earlier call)) 20 (sym number ∙ w)) (first_unlike 20 (earlier call) tt (earlier_numbered call).1))
    where
      first : ℕ
      first = survey_number call.cells call.corners call.amendments

      number : first_of (own call ++ (n, true) ∷ []) ≡ first_of (earlier call)
      number = unfold convoy_checks in
          after-survey call.cells call.corners call.amendments ((n, true) ∷ []) ∙ ap (λ (m : ℕ). cond (eqb first 0) m first) is
          ∙ sym (after-survey call.cells call.corners call.amendments (clearance_checks call.clearances))

-- ---- the clearances

-- where neither 21 nor 8 applies there are some, and all are in range
pub lawful_clearances : (clearances : List Float) → first_of (clearance_checks clearances) ≡ 0 → (1 ≤ length clearances) × T (all in_range clearances)
unfolding clearance_checks
lawful_clearances [] z = absurd (omega arith)
lawful_clearances (c ∷ cs) z =
    let many : ℕ × Bool = (21, eqb (length (c ∷ cs)) 0 || ltb most_boats (length (c ∷ cs))) in
    let outside : ℕ × Bool = (8, any (λ d. not (in_range d)) (c ∷ cs)) in
    (omega arith, in→all in_range (c ∷ cs) (none_of in_range (c ∷ cs) (none_applies (many ∷ outside ∷ []) tt z outside (inr (inl refl)))))
