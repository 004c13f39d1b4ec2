-- What request 8 says of the call: the way shown is the best, none is reported exactly where there is none, the ranks are exact, nothing else is touched; and
-- the checks come in their order.
use Prim.Native.Nat.{ℕ, zero, suc}
use mathlib.Core.Path.{◌≡◌, refl, sym, ap, ◌∙◌, subst}
use mathlib.Core.Logic.{◌⊎◌, inl, inr}
use mathlib.Core.Bool.{Bool, true, false, not, ◌||◌, cond}
use mathlib.Core.List.{List, [], ◌∷◌, ◌++◌, append_assoc}
use native.Mathlib.Omega.{arith}
use lib.Dec.{T, T_not, eqb, eqb→eq}
use lib.ListN.{length, get_or, take, drop}
use lib.Seq.{take_at, drop_at}
use borrow.Author.Tests.{eq-eqb, eqb-true, eqb-false, ne_eqb}
use Rattle.base.specs.Lists.{all}
use Rattle.base.proofs.Tests.{and→, eq→eqb, not_both, false→}
use Rattle.base.proofs.Lists.{In, in_append}
use Rattle.rules.specs.Outputs.{in_range, first_of, table_checks, sounding_check, survey_checks, checks, written}
use Rattle.rules.specs.Resounding.{amended, amendment_checks, check_order}
use Rattle.rules.specs.Ways.{Graph, passable, Way, Best, ExactSteps, BothWays, fewest_steps, asked_checks, way_checks, not_shown, corner_graph, shown_over}
use Rattle.rules.specs.Ways.{passage, passage_amended, StepsExact, JoinedBothWays, BestShown, Means, PassageMeans, passage_order, PassageInOrder, NoWayExactly}
use Rattle.octree.proofs.Accepted.{numbered, first_append, first-none, first_unlike, none_applies}
use Rattle.amendments.proofs.Calls.{tables_pass, amended_pass}
use Rattle.graph.proofs.Steps.{stepped, steps-exact}
use Rattle.graph.proofs.Ways.{best_shown, way-length}
use Rattle.graph.proofs.Transfer.{as_many, steps_dry}
use Rattle.rules.specs.declared.Passage.{Passage}
use Rattle.ways.specs.Shows.{Shows, shown_by}
use Rattle.ways.proofs.Call.{Question, shown, Call, graph_of, within, answer_amended}
use Rattle.ways.proofs.Checks.{or_true}
use Rattle.ways.proofs.Joined.{joined_both_ways}
use Rattle.ways.proofs.Outcome.{numbers, corners, route, later}

-- ---- which check gave a number

-- some check has the number that is given, and applies
applies : (ts : List (ℕ × Bool)) (n : ℕ) → (n ≡ 0 → ⊥) → first_of ts ≡ n → (b : Bool) × In (n, b) ts × T b
applies [] n z e = absurd (z (sym e))
applies ((k, b) ∷ ts) n z e = go b e (applies ts n z)
  where
    go : (b : Bool) → cond b k (first_of ts) ≡ n → (first_of ts ≡ n → (b : Bool) × In (n, b) ts × T b) → (c : Bool) × In (n, c) ((k, b) ∷ ts) × T c
    go true e r = (true, inl (λ i. (sym e i, true)), tt)
    go false e r = let (c, i, t) = r e in (c, inr i, t)

not_listed : (ts : List (ℕ × Bool)) (n : ℕ) (b : Bool) → T (all (λ t. not (eqb t.0 n)) ts) → In (n, b) ts → ⊥
not_listed [] n b u i = i
not_listed (t ∷ ts) n b u (inl e) =
    T_not (eqb t.0 n) (and→ (not (eqb t.0 n)) (all (λ t. not (eqb t.0 n)) ts) u).0 (eq→eqb t.0 n (sym (ap (λ (x : ℕ × Bool). x.0) e)))
not_listed (t ∷ ts) n b u (inr i) = not_listed ts n b (and→ (not (eqb t.0 n)) (all (λ t. not (eqb t.0 n)) ts) u).1 i

-- ---- what is shown

-- no check in a list has the number 20
abbrev NoTwenty : List (ℕ × Bool) → Type 0
NoTwenty ts = T (all (λ t. not (eqb t.0 20)) ts)

module _ (graph : Graph) (both : BothWays graph) (before : List (ℕ × Bool)) (no_zero : T (numbered before)) (no-twenty : NoTwenty before)
    (question : Question) where
  abbrev number : ℕ
  number = first_of (before ++ later graph question)

  -- what the slices hold then
  abbrev new_way : List ℕ
  new_way = written (route graph question) question.way

  abbrev new_work : List ℕ
  new_work = written (numbers graph question) question.work

  numbers-size : length (numbers graph question) ≡ graph.size
  numbers-size = (stepped graph question.start).sized

  front_work : take graph.size new_work ≡ numbers graph question
  front_work = take_at (numbers graph question) (drop (length (numbers graph question)) question.work) graph.size numbers-size

  rest-work : drop graph.size new_work ≡ drop graph.size question.work
  rest-work =
      drop_at (numbers graph question) (drop (length (numbers graph question)) question.work) graph.size numbers-size
      ∙ ap (λ (n : ℕ). drop n question.work) numbers-size

  -- where there is no refusal, the end is reached
  reached : number ≡ 0 → eqb (corners graph question) 0 ≡ false
  reached z =
      none_applies (later graph question) tt (first-none before (later graph question) no_zero z).1 (20, eqb (corners graph question) 0) (inr (inr (inl refl)))

  way-size : (m : ℕ) → corners graph question ≡ m → eqb m 0 ≡ false → length (route graph question) ≡ m
  way-size zero e z = absurd (eqb-false 0 0 z refl)
  way-size (suc m) e z = way-length graph both question.start question.end m (as_many graph both question.start question.end ∙ e)

  is-best : (m : ℕ) → corners graph question ≡ m → eqb m 0 ≡ false → Best graph question.start question.end (route graph question)
  unfolding BestShown StepsExact
  is-best zero e z = absurd (eqb-false 0 0 z refl)
  is-best (suc m) e z =
      let (w, y, l) = (steps-exact graph question.start).there question.end m e in
      best_shown graph both question.start question.end w y

  -- where 20 is given, it is not
  unreached : number ≡ 20 → corners graph question ≡ 0
  unreached e =
      let (b, i, t) = applies (before ++ later graph question) 20 (λ z. omega arith) e in
      go b t (in_append (20, b) before (later graph question) i)
    where
      go : (b : Bool) → T b → In (20, b) before ⊎ In (20, b) (later graph question) → corners graph question ≡ 0
      go b t (inl i) = absurd (not_listed before 20 b no-twenty i)
      go b t (inr (inl q)) = let z = ap (λ (x : ℕ × Bool). x.0) q in absurd (omega arith)
      go b t (inr (inr (inl q))) = let z = ap (λ (x : ℕ × Bool). x.0) q in absurd (omega arith)
      go b t (inr (inr (inr (inl q)))) = eqb→eq (corners graph question) 0 (subst T (ap (λ (x : ℕ × Bool). x.1) q) t)
      go b t (inr (inr (inr (inr q)))) = absurd q

  pub means : Means graph question.start question.end question.way question.work (shown graph before question)
  unfolding shown_over StepsExact
  means = record {
    best = λ z. subst (λ (w : List ℕ). Best graph question.start question.end w) (sym (taken z)) (is-best (corners graph question) refl (reached z));
    counted = λ z.
        ap length (taken z) ∙ way-size (corners graph question) refl (reached z) ∙ sym (ap (λ (b : Bool). count_of b) (eq-eqb number 0 z));
    uncounted = λ z. ap (λ (b : Bool). count_of b) (ne_eqb number 0 z);
    none = λ e w y. let a = ((steps-exact graph question.start).none_shorter question.end w y).0 in let b = unreached e in omega arith;
    exact = λ o. subst (λ (l : List ℕ). ExactSteps graph question.start l) (sym (front o)) (steps-exact graph question.start);
    all_dry = λ e d. front (inr e) ∙ steps_dry graph question.start (false→ (passable graph question.start) d);
    way_kept = way-rest (eqb number 0) refl;
    work_kept = work-rest (eqb number 0 || eqb number 20);
    untouched = λ z w. (ap way-slice (ne_eqb number 0 z), λ i. cond (ne_eqb number 0 z i || ne_eqb number 20 w i) new_work question.work);
  }
    where
      -- the count that is returned, and the way slice, by whether there is a way
      count_of : Bool → ℕ
      count_of b = cond b (corners graph question) 0

      way-slice : Bool → List ℕ
      way-slice b = cond b new_way question.way

      taken : number ≡ 0 → take (count_of (eqb number 0)) (way-slice (eqb number 0)) ≡ route graph question
      taken z =
          ap (λ (b : Bool). take (count_of b) (way-slice b)) (eq-eqb number 0 z)
          ∙ take_at (route graph question) (drop (length (route graph question)) question.way) (corners graph question)
          (way-size (corners graph question) refl (reached z))

      front : (number ≡ 0) ⊎ (number ≡ 20) → take graph.size (cond (eqb number 0 || eqb number 20) new_work question.work) ≡ numbers graph question
      front o = ap (λ (b : Bool). take graph.size (cond b new_work question.work)) (written_then o) ∙ front_work
        where
          written_then : (number ≡ 0) ⊎ (number ≡ 20) → (eqb number 0 || eqb number 20) ≡ true
          written_then (inl z) = λ i. eq-eqb number 0 z i || eqb number 20
          written_then (inr z) = (λ i. eqb number 0 || eq-eqb number 20 z i) ∙ or_true (eqb number 0)

      way-rest : (b : Bool) → eqb number 0 ≡ b → drop (count_of (eqb number 0)) (way-slice (eqb number 0)) ≡ drop (count_of (eqb number 0)) question.way
      way-rest false e = ap (λ (b : Bool). drop (count_of b) (way-slice b)) e ∙ sym (ap (λ (b : Bool). drop (count_of b) question.way) e)
      way-rest true e =
          let l = way-size (corners graph question) refl (reached (eqb-true number 0 e)) in
          ap (λ (b : Bool). drop (count_of b) (way-slice b)) e
          ∙ drop_at (route graph question) (drop (length (route graph question)) question.way) (corners graph question) l ∙ ap (λ (m : ℕ). drop m question.way) l
          ∙ sym (ap (λ (b : Bool). drop (count_of b) question.way) e)

      work-rest : (b : Bool) → drop graph.size (cond b new_work question.work) ≡ drop graph.size question.work
      work-rest true = rest-work
      work-rest false = refl

-- of a refusal there is nothing to say but that it touches nothing
nothing_means : (graph : Graph) (start end : ℕ) (way work : List ℕ) (n : ℕ) → (n ≡ 0 → ⊥) → (n ≡ 20 → ⊥) → Means graph start end way work (not_shown n way work)
nothing_means graph start end way work n z w = record {
  best = λ e. absurd (z e);
  counted = λ e. absurd (z e);
  uncounted = λ e. refl;
  none = λ e. absurd (w e);
  exact = λ o. absurd (neither o);
  all_dry = λ e. absurd (w e);
  way_kept = refl;
  work_kept = refl;
  untouched = λ e f. (refl, refl);
}
  where
    neither : (n ≡ 0) ⊎ (n ≡ 20) → ⊥
    neither (inl e) = z e
    neither (inr e) = w e

pub passage_means : PassageMeans
unfolding PassageMeans passage_amended passage JoinedBothWays
passage_means tc tk ta clearance start end way work = go (eqb (first_of (amendment_checks tc tk ta)) 0) refl
  where
    listed : T (numbered (checks tc (amended tk ta) clearance)) × NoTwenty (checks tc (amended tk ta) clearance)
    listed = unfold checks survey_checks table_checks in (tt, tt)

    not_twenty : first_of (amendment_checks tc tk ta) ≡ 20 → ⊥
    not_twenty e =
        not_both (eq→eqb (first_of (amendment_checks tc tk ta)) 20 e) (unfold amendment_checks table_checks in first_unlike 20 (amendment_checks tc tk ta) tt tt)

    go : (b : Bool) → eqb (first_of (amendment_checks tc tk ta)) 0 ≡ b → Means (corner_graph tc (amended tk ta) clearance) start end way work
        (cond b (passage tc (amended tk ta) clearance start end way work) (not_shown (first_of (amendment_checks tc tk ta)) way work))
    go true e =
        means (corner_graph tc (amended tk ta) clearance) (joined_both_ways tc (amended tk ta) clearance) (checks tc (amended tk ta) clearance)
        listed.0 listed.1
        (record { start = start; end = end; way = way; work = work })
    go false e =
        nothing_means (corner_graph tc (amended tk ta) clearance) start end way work (first_of (amendment_checks tc tk ta))
        (eqb-false (first_of (amendment_checks tc tk ta)) 0 e) not_twenty

-- ---- the order of the checks

-- of checks that find nothing to refuse, those that follow decide
pub skip : (ts us : List (ℕ × Bool)) → T (numbered ts) → first_of ts ≡ 0 → first_of (ts ++ us) ≡ first_of us
skip ts us u z = first_append ts us u ∙ ap (λ (n : ℕ). cond (eqb n 0) (first_of us) n) z

pub passage_in_order : PassageInOrder
unfolding PassageInOrder passage_order passage_amended passage shown_over check_order checks survey_checks
passage_in_order tc tk ta clearance start end way work = go (eqb (first_of (amendment_checks tc tk ta)) 0) refl
  where
    asked : List (ℕ × Bool)
    asked = asked_checks (corner_graph tc (amended tk ta) clearance).size start end (length way) (length work)

    last : List (ℕ × Bool)
    last = (20, eqb (get_or (fewest_steps (corner_graph tc (amended tk ta) clearance) start) end 0) 0) ∷ []

    -- all that comes after the amendments' checks
    later : List (ℕ × Bool)
    later = sounding_check (amended tk ta) ∷ (8, not (in_range clearance)) ∷ way_checks (corner_graph tc (amended tk ta) clearance) start end way work

    amendments_numbered : T (numbered (amendment_checks tc tk ta))
    amendments_numbered = unfold amendment_checks table_checks in tt

    tables_numbered : T (numbered (table_checks tc (amended tk ta)))
    tables_numbered = unfold table_checks in tt

    right : first_of (((amendment_checks tc tk ta ++ sounding_check (amended tk ta) ∷ []) ++ (8, not (in_range clearance)) ∷ asked) ++ last)
        ≡ cond (eqb (first_of (amendment_checks tc tk ta)) 0) (first_of later) (first_of (amendment_checks tc tk ta))
    right =
        ap first_of (append_assoc (amendment_checks tc tk ta ++ sounding_check (amended tk ta) ∷ []) ((8, not (in_range clearance)) ∷ asked) last
        ∙ append_assoc (amendment_checks tc tk ta) (sounding_check (amended tk ta) ∷ []) ((8, not (in_range clearance)) ∷ asked ++ last))
        ∙ first_append (amendment_checks tc tk ta) later amendments_numbered

    left : first_of (amendment_checks tc tk ta) ≡ 0 →
        first_of (((table_checks tc (amended tk ta) ++ sounding_check (amended tk ta) ∷ []) ++ (8, not (in_range clearance)) ∷ [])
        ++ way_checks (corner_graph tc (amended tk ta) clearance) start end way work) ≡ first_of later
    left z =
        ap first_of (append_assoc (table_checks tc (amended tk ta) ++ sounding_check (amended tk ta) ∷ []) ((8, not (in_range clearance)) ∷ [])
        (way_checks (corner_graph tc (amended tk ta) clearance) start end way work)
        ∙ append_assoc (table_checks tc (amended tk ta)) (sounding_check (amended tk ta) ∷ [])
        ((8, not (in_range clearance)) ∷ way_checks (corner_graph tc (amended tk ta) clearance) start end way work))
        ∙ skip (table_checks tc (amended tk ta)) later tables_numbered (amended_pass tc tk ta (amended tk ta) (tables_pass tc tk ta z) refl)

    go : (b : Bool) → eqb (first_of (amendment_checks tc tk ta)) 0 ≡ b →
        (cond b (passage tc (amended tk ta) clearance start end way work) (not_shown (first_of (amendment_checks tc tk ta)) way work)).result.number
        ≡ first_of (((amendment_checks tc tk ta ++ sounding_check (amended tk ta) ∷ []) ++ (8, not (in_range clearance)) ∷ asked) ++ last)
    go true e =
        left (eqb-true (first_of (amendment_checks tc tk ta)) 0 e)
        ∙ sym (right ∙ ap (λ (b : Bool). cond b (first_of later) (first_of (amendment_checks tc tk ta))) e)
    go false e = sym (right ∙ ap (λ (b : Bool). cond b (first_of later) (first_of (amendment_checks tc tk ta))) e)

-- ---- no way

pub no_way_exactly : NoWayExactly
unfolding NoWayExactly PassageInOrder PassageMeans StepsExact
no_way_exactly tc tk ta clearance start end way work pass = (
  (passage_means tc tk ta clearance start end way work).none,
  λ none. number_is ∙ ap (λ (b : Bool). cond b 20 0) (unreachable none),
)
  where
    graph : Graph
    graph = corner_graph tc (amended tk ta) clearance

    reach : ℕ
    reach = get_or (fewest_steps graph start) end 0

    all_numbered : T (numbered (passage_order tc tk ta clearance start end (length way) (length work)))
    all_numbered = unfold passage_order check_order amendment_checks table_checks in tt

    number_is : (passage_amended tc tk ta clearance start end way work).result.number ≡ cond (eqb reach 0) 20 0
    number_is =
        passage_in_order tc tk ta clearance start end way work
        ∙ skip (passage_order tc tk ta clearance start end (length way) (length work)) ((20, eqb reach 0) ∷ []) all_numbered pass

    -- a rank would tell of a way
    unreachable : ((w : List ℕ) → Way graph start end w → ⊥) → eqb reach 0 ≡ true
    unreachable none = eq-eqb reach 0 (zero-steps reach refl)
      where
        zero-steps : (m : ℕ) → reach ≡ m → reach ≡ 0
        zero-steps zero e = e
        zero-steps (suc m) e = let (w, y, l) = (steps-exact graph start).there end m e in absurd (none w y)

-- ---- what the call promises

-- the result and the slices that are those of the rules mean what the request says
pub promised : (call : Call) (amendments : List ℕ) {r : Passage} {way work : List ℕ} → Shows (answer_amended call amendments) r way work →
    Shows (answer_amended call amendments) r way work
    × Means (graph_of (within call (amended call.corners amendments))) call.question.start call.question.end call.question.way call.question.work
    (shown_by r way work)
unfolding PassageMeans
promised call amendments s = (
  s,
  subst
      (Means (graph_of (within call (amended call.corners amendments))) call.question.start call.question.end call.question.way call.question.work)
      (sym (λ i. shown_by (s.result_is i) (s.way_is i) (s.work_is i)))
      (passage_means call.cells call.corners amendments call.clearance call.question.start call.question.end call.question.way
      call.question.work),
)
