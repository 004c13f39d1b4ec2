-- What is shown over a graph, by whether the end can be reached; and by the first check that applies.
use Prim.Native.Nat.{ℕ, zero, suc, ◌≤◌}
use mathlib.Core.Path.{◌≡◌, refl, sym, ap, ◌∙◌}
use mathlib.Core.Bool.{Bool, false, ◌||◌, cond}
use mathlib.Core.List.{List, [], ◌∷◌, ◌++◌}
use native.Mathlib.Omega.{arith}
use lib.Dec.{T, eqb}
use lib.ListN.{length, get_or, drop, replicate, get_or-append}
use borrow.Author.Tests.{lt-ltb, le-ltb, eq-eqb, ne_eqb}
use Rattle.base.proofs.Slices.{zeros}
use Rattle.rules.specs.Outputs.{first_of, written}
use Rattle.octree.proofs.Accepted.{numbered, first_append}
use Rattle.rules.specs.Ways.{Graph, passable, BothWays, fewest_steps, way_of, asked_checks, way_checks, shown_over}
use Rattle.rules.specs.declared.Passage.{Passage}
use Rattle.graph.specs.Table.{graph_in, Links, followed}
use Rattle.graph.proofs.Walks.{walk_last}
use Rattle.graph.proofs.Steps.{stepped}
use Rattle.graph.proofs.Few.{steps-few}
use Rattle.graph.proofs.Ways.{way-length}
use Rattle.graph.proofs.Transfer.{steps_of, steps_dry, way_of_lem, as_many}
use Rattle.ways.specs.Shows.{Shows}
use Rattle.ways.proofs.Call.{Question, Fits, shown, passage_of}

-- the ranks from the start, that of the end, and the way
abbrev pub numbers : Graph → Question → List ℕ
numbers graph question = fewest_steps graph question.start

abbrev pub corners : Graph → Question → ℕ
corners graph question = get_or (numbers graph question) question.end 0

abbrev pub route : Graph → Question → List ℕ
route graph question = way_of graph question.start question.end

-- checks 18 to 20, and 20 alone
abbrev pub later : Graph → Question → List (ℕ × Bool)
later graph question = way_checks graph question.start question.end question.way question.work

abbrev last : Graph → Question → List (ℕ × Bool)
last graph question = (20, eqb (corners graph question) 0) ∷ []

-- checks 18 and 19, of so many corners
abbrev pub asked : ℕ → Question → List (ℕ × Bool)
asked size question = asked_checks size question.start question.end (length question.way) (length question.work)

-- ---- where neither 18 nor 19 applies

module _ (graph : Graph) {question : Question} (fits : Fits graph.size question) where
  number_is : first_of (later graph question) ≡ cond (eqb (corners graph question) 0) 20 0
  number_is =
      rw (
        lt-ltb question.start graph.size fits.is_start,
        lt-ltb question.end graph.size fits.is_end,
        le-ltb (length question.way) graph.size fits.way-fits,
        le-ltb (length question.work) graph.size fits.work-fits,
      )

  work_is : (work : List ℕ) → work ≡ numbers graph question ++ drop graph.size question.work → work ≡ written (numbers graph question) question.work
  work_is work e = e ∙ ap (λ (n : ℕ). numbers graph question ++ drop n question.work) (sym (stepped graph question.start).sized)

  none_shown : corners graph question ≡ 0 → (r : Passage) → r ≡ passage_of 20 0 →
      (work : List ℕ) → work ≡ numbers graph question ++ drop graph.size question.work → Shows (shown graph [] question) r question.way work
  unfolding shown_over
  none_shown z r is work e =
      let n : first_of (later graph question) ≡ 20 = number_is ∙ ap (λ (b : Bool). cond b 20 0) (eq-eqb (corners graph question) 0 z) in
      record {
        result_is = is ∙ (λ i. passage_of (sym n i) (sym (ap (λ (m : ℕ). cond (eqb m 0) (corners graph question) 0) n) i));
        way_is = sym (ap (λ (m : ℕ). cond (eqb m 0) (written (route graph question) question.way) question.way) n);
        work_is = work_is work e ∙ sym (ap (λ (m : ℕ). cond (eqb m 0 || eqb m 20) (written (numbers graph question) question.work) question.work) n);
      }

  way_shown : (m : ℕ) → corners graph question ≡ m → (m ≡ 0 → ⊥) → length (route graph question) ≡ m →
      (way work : List ℕ) → way ≡ route graph question ++ drop m question.way → work ≡ numbers graph question ++ drop graph.size question.work →
      Shows (shown graph [] question) (passage_of 0 m) way work
  unfolding shown_over
  way_shown m z some l way work d e =
      let n : first_of (later graph question) ≡ 0 =
      number_is ∙ ap (λ (b : Bool). cond b 20 0) (ne_eqb (corners graph question) 0 (λ y. some (sym z ∙ y))) in
      record {
        result_is = λ i. passage_of (sym n i) ((sym z ∙ sym (ap (λ (k : ℕ). cond (eqb k 0) (corners graph question) 0) n)) i);
        way_is =
            d ∙ ap (λ (k : ℕ). route graph question ++ drop k question.way) (sym l)
            ∙ sym (ap (λ (k : ℕ). cond (eqb k 0) (written (route graph question) question.way) question.way) n);
        work_is = work_is work e ∙ sym (ap (λ (k : ℕ). cond (eqb k 0 || eqb k 20) (written (numbers graph question) question.work) question.work) n);
      }

-- ---- what the code finds, by the table of links

-- a search can begin: there is room, and the table has the links of the graph
pub record Ready (graph : Graph) (question : Question) (links : List ℕ) : Type 0 where
  pub fits : Fits graph.size question
  pub linked : Links graph links
  pub both : BothWays graph

module _ {graph : Graph} {question : Question} {links : List ℕ} (ready : Ready graph question links) where
  -- from a dry start all are cleared
  pub dry_shown : passable graph question.start ≡ false → (r : Passage) → r ≡ passage_of 20 0 →
      (work : List ℕ) → work ≡ replicate graph.size 0 ++ drop graph.size question.work → Shows (shown graph [] question) r question.way work
  dry_shown dry r is work e =
      let s = steps_dry graph question.start dry in
      none_shown graph ready.fits (ap (λ (l : List ℕ). get_or l question.end 0) s ∙ zeros graph.size question.end) r is work
      (e ∙ ap (λ (l : List ℕ). l ++ drop graph.size question.work) (sym s))

  module _ (wet : T (passable graph question.start)) (work : List ℕ)
      (e : work ≡ fewest_steps (graph_in links graph.size) question.start ++ drop graph.size question.work) where
    -- the rank of the end, as the code finds it
    abbrev found : ℕ
    found = get_or work question.end 0

    work-found : work ≡ numbers graph question ++ drop graph.size question.work
    work-found = e ∙ ap (λ (l : List ℕ). l ++ drop graph.size question.work) (steps_of graph links ready.linked question.start wet)

    found-is : found ≡ corners graph question
    found-is =
        ap (λ (l : List ℕ). get_or l question.end 0) work-found
        ∙ get_or-append (numbers graph question) (drop graph.size question.work) 0 question.end
        (let s = (stepped graph question.start).sized in let h = ready.fits.is_end in omega arith)

    pub reached-none : get_or work question.end 0 ≡ 0 → (r : Passage) → r ≡ passage_of 20 0 → Shows (shown graph [] question) r question.way work
    reached-none z r is = none_shown graph ready.fits (sym found-is ∙ z) r is work work-found

    -- the end is wet if it is reached
    end_wet : (found ≡ 0 → ⊥) → T (passable graph question.end)
    end_wet some = go found refl
      where
        go : (m : ℕ) → found ≡ m → T (passable graph question.end)
        go zero z = absurd (some z)
        go (suc m) z = walk_last graph m question.start question.end ((stepped graph question.start).there question.end m (sym found-is ∙ z))

    pub few-corners_on_way : get_or work question.end 0 ≤ graph.size
    few-corners_on_way = let a = found-is in let b = steps-few graph question.start question.end in omega arith

    pub reached-some : (some : get_or work question.end 0 ≡ 0 → ⊥) → (way : List ℕ) →
        way ≡ followed links (fewest_steps (graph_in links graph.size) question.end) graph.size (get_or work question.end 0) question.start
        ++ drop (get_or work question.end 0) question.way →
        Shows (shown graph [] question) (passage_of 0 (get_or work question.end 0)) way work
    reached-some some way d =
        way_shown graph ready.fits found (sym found-is) some (length-is found refl) way work
        (d ∙ ap (λ (l : List ℕ). l ++ drop found question.way) (way_is found refl)) work-found
      where
        as_far : (m : ℕ) → found ≡ m → get_or (fewest_steps graph question.end) question.start 0 ≡ m
        as_far m z = as_many graph ready.both question.start question.end ∙ sym found-is ∙ z

        way_is : (m : ℕ) → found ≡ m →
            followed links (fewest_steps (graph_in links graph.size) question.end) graph.size found question.start ≡ route graph question
        way_is zero z = absurd (some z)
        way_is (suc m) z =
            (λ i. followed links (steps_of graph links ready.linked question.end (end_wet some) i) graph.size (z i) question.start)
            ∙ way_of_lem graph links ready.linked ready.both question.start question.end m (as_far (suc m) z)

        length-is : (m : ℕ) → found ≡ m → length (route graph question) ≡ found
        length-is zero z = absurd (some z)
        length-is (suc m) z = way-length graph ready.both question.start question.end m (as_far (suc m) z) ∙ sym z

-- ---- the checks that come first

module _ (graph : Graph) (before : List (ℕ × Bool)) (no_zero : T (numbered before)) (question : Question) where
  -- the number that all checks give, by what those that come first give
  number_by : (n : ℕ) → first_of before ≡ n → first_of (before ++ later graph question) ≡ cond (eqb n 0) (first_of (later graph question)) n
  number_by n e = first_append before (later graph question) no_zero ∙ ap (λ (k : ℕ). cond (eqb k 0) (first_of (later graph question)) k) e

  -- where one of all checks but 20 applies
  refused-by : (n : ℕ) → first_of (before ++ later graph question) ≡ n → (n ≡ 0 → ⊥) → (n ≡ 20 → ⊥) → (r : Passage) → r ≡ passage_of n 0 →
      Shows (shown graph before question) r question.way question.work
  unfolding shown_over
  refused-by n m z w r is =
      let f : eqb (first_of (before ++ later graph question)) 0 ≡ false = ap (λ (k : ℕ). eqb k 0) m ∙ ne_eqb n 0 z in
      let g : eqb (first_of (before ++ later graph question)) 20 ≡ false = ap (λ (k : ℕ). eqb k 20) m ∙ ne_eqb n 20 w in
      record {
        result_is = is ∙ (λ i. passage_of (sym m i) (sym (ap (λ (b : Bool). cond b (corners graph question) 0) f) i));
        way_is = sym (ap (λ (b : Bool). cond b (written (route graph question) question.way) question.way) f);
        work_is = λ i. cond (sym f i || sym g i) (written (numbers graph question) question.work) question.work;
      }

  -- where one of them applies
  pub refused-before : (n : ℕ) → n ≡ first_of before → (n ≡ 0 → ⊥) → (n ≡ 20 → ⊥) → (r : Passage) → r ≡ passage_of n 0 →
      Shows (shown graph before question) r question.way question.work
  refused-before n e z w = refused-by n (number_by n (sym e) ∙ ap (λ (b : Bool). cond b (first_of (later graph question)) n) (ne_eqb n 0 z)) z w

  -- where none does
  pub passed-before : first_of before ≡ 0 → shown graph before question ≡ shown graph [] question
  unfolding shown_over
  passed-before e =
      let m : first_of (before ++ later graph question) ≡ first_of (later graph question) = number_by 0 e in
      λ i. record {
        result = record { number = m i; corners = cond (eqb (m i) 0) (corners graph question) 0 };
        way = cond (eqb (m i) 0) (written (route graph question) question.way) question.way;
        work = cond (eqb (m i) 0 || eqb (m i) 20) (written (numbers graph question) question.work) question.work;
      }

  -- where none of them does, but 18 or 19
  pub refused-after : first_of before ≡ 0 → (n : ℕ) → n ≡ first_of (asked graph.size question) → (n ≡ 0 → ⊥) → (n ≡ 20 → ⊥) →
      (r : Passage) → r ≡ passage_of n 0 → Shows (shown graph before question) r question.way question.work
  refused-after pass n e z w =
      refused-by n
      (number_by 0 pass ∙ first_append (asked graph.size question) (last graph question) tt
      ∙ ap (λ (k : ℕ). cond (eqb k 0) (first_of (last graph question)) k) (sym e)
      ∙ ap (λ (b : Bool). cond b (first_of (last graph question)) n) (ne_eqb n 0 z)) z w
