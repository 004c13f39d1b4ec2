-- The call step by step as it goes: refused by a check of the tables, by 7 or 8, by 18 or 19, or a way with the corner table in force.
use Prim.Native.Nat.{ℕ}
use mathlib.Core.Path.{◌≡◌, sym, ap, ◌∙◌, subst}
use mathlib.Core.Bool.{true}
use mathlib.Core.List.{List, []}
use lib.Dec.{T}
use lib.ListN.{length}
use borrow.Author.Tests.{eq-eqb}
use Rattle.base.proofs.Tests.{eq→eqb, not_both}
use Rattle.rules.specs.Outputs.{first_of, table_checks, survey_checks, checks, accepted}
use Rattle.rules.specs.Resounding.{amended, amendment_checks}
use Rattle.rules.specs.Ways.{Shown, not_shown, passage, passage_amended}
use Rattle.rules.specs.declared.Passage.{Passage}
use Rattle.octree.proofs.Accepted.{numbered, first_unlike}
use Rattle.amendments.proofs.Calls.{refused-by-tables, refused-by_amendments, called, none-amended}
use Rattle.ways.specs.Shows.{Shows}
use Rattle.ways.proofs.Call.{Call, passage_of, shown, count, graph_of, earlier, over, within, answer, answer_amended}
use Rattle.ways.proofs.Checks.{not_twenty}
use Rattle.ways.proofs.Marks.{size_is}
use Rattle.ways.proofs.Outcome.{asked, refused-before, refused-after, passed-before}

-- ---- without amendments

module _ (call : Call) where
  no_zero : T (numbered (earlier call))
  unfolding checks survey_checks table_checks
  no_zero = tt

  not_20 : first_of (earlier call) ≡ 20 → ⊥
  unfolding checks survey_checks table_checks
  not_20 e = not_both (eq→eqb (first_of (earlier call)) 20 e) (first_unlike 20 (earlier call) tt tt)

  -- refused by one of checks 1 to 8
  pub refused-first : (n : ℕ) → n ≡ first_of (earlier call) → (n ≡ 0 → ⊥) → (r : Passage) → r ≡ passage_of n 0 →
      Shows (answer call) r call.question.way call.question.work
  unfolding passage
  refused-first n e z = refused-before (graph_of call) (earlier call) no_zero call.question n e z (λ w. not_20 (sym e ∙ w))

  module _ (pass : first_of (earlier call) ≡ 0) where
    pub accepted-is : accepted call.cells call.corners call.clearance ≡ true
    unfolding accepted
    accepted-is = eq-eqb (first_of (earlier call)) 0 pass

    -- by 18 or 19
    pub refused_slices : (n : ℕ) → n ≡ first_of (asked (count call) call.question) → (n ≡ 0 → ⊥) → (r : Passage) → r ≡ passage_of n 0 →
        Shows (answer call) r call.question.way call.question.work
    unfolding passage
    refused_slices n e z =
        refused-after (graph_of call) (earlier call) no_zero call.question pass n
        (subst (λ (s : ℕ). n ≡ first_of (asked s call.question)) (sym (size_is call.cells call.corners call.clearance)) e) z
        (λ w. not_twenty (count call) call.question.start call.question.end (length call.question.way) (length call.question.work) (sym e ∙ w))

    -- or a way
    pub way-found : {r : Passage} {way work : List ℕ} → Shows (shown (graph_of call) [] call.question) r way work → Shows (answer call) r way work
    unfolding passage
    way-found {r} {way} {work} s =
        subst (λ (d : Shown). Shows d r way work) (sym (passed-before (graph_of call) (earlier call) no_zero call.question pass)) s

-- ---- as amended

module _ (call : Call) (amendments : List ℕ) where
  abbrev refusal : ℕ → Shown
  refusal n = not_shown n call.question.way call.question.work

  -- a refusal shows nothing
  nothing : (n : ℕ) → answer_amended call amendments ≡ refusal n → (r : Passage) → r ≡ passage_of n 0 →
      Shows (answer_amended call amendments) r call.question.way call.question.work
  nothing n e r is = record {
    result_is = is ∙ sym (ap (λ (d : Shown). d.result) e);
    way_is = sym (ap (λ (d : Shown). d.way) e);
    work_is = sym (ap (λ (d : Shown). d.work) e);
  }

  pub by-tables : (n : ℕ) → n ≡ first_of (table_checks call.cells call.corners) → (n ≡ 0 → ⊥) → (r : Passage) → r ≡ passage_of n 0 →
      Shows (answer_amended call amendments) r call.question.way call.question.work
  by-tables n is some =
      nothing n (unfold passage_amended in refused-by-tables call.cells call.corners amendments refusal (λ t. answer (within call t)) n is some)

  pub by_amendments : (n : ℕ) → n ≡ first_of (amendment_checks call.cells call.corners amendments) → (n ≡ 0 → ⊥) →
      (r : Passage) → r ≡ passage_of n 0 → Shows (answer_amended call amendments) r call.question.way call.question.work
  by_amendments n is some =
      nothing n (unfold passage_amended in refused-by_amendments call.cells call.corners amendments refusal (λ t. answer (within call t)) n is some)

  module _ {r : Passage} {way work : List ℕ} where
    -- a survey that is read is the one that was lent
    pub as_lent : {cells corners : List ℕ} → cells ≡ call.cells → corners ≡ call.corners →
        Shows (answer_amended (over call cells corners) amendments) r way work → Shows (answer_amended call amendments) r way work
    as_lent f e s = subst (λ (d : Shown). Shows d r way work) (λ i. answer_amended (over call (f i) (e i)) amendments) s

    pub in_force : first_of (amendment_checks call.cells call.corners amendments) ≡ 0 →
        {cells table : List ℕ} → cells ≡ call.cells → table ≡ amended call.corners amendments →
        Shows (answer (over call cells table)) r way work → Shows (answer_amended call amendments) r way work
    in_force pass f e s =
        let is : answer_amended call amendments ≡ answer (within call (amended call.corners amendments)) =
        unfold passage_amended in called call.cells call.corners amendments refusal (λ t. answer (within call t)) pass in
        subst (λ (d : Shown). Shows d r way work) ((λ i. answer (over call (f i) (e i))) ∙ sym is) s

    pub without : amendments ≡ [] → first_of (table_checks call.cells call.corners) ≡ 0 →
        {cells corners : List ℕ} → cells ≡ call.cells → corners ≡ call.corners →
        Shows (answer (over call cells corners)) r way work → Shows (answer_amended call amendments) r way work
    without none pass f e s =
        let is : answer_amended call [] ≡ answer call =
        unfold passage_amended in none-amended call.cells call.corners refusal (λ t. answer (within call t)) pass in
        subst (λ (d : Shown). Shows d r way work) ((λ i. answer (over call (f i) (e i))) ∙ sym (ap (answer_amended call) none ∙ is)) s
