-- What the code finds by its tables: the laws of Outcome.antt, in the words of the corner table.
use Prim.Native.Nat.{ℕ, ◌≤◌}
use mathlib.Core.Path.{◌≡◌, sym, subst}
use mathlib.Core.List.{List, [], ◌++◌}
use native.Mathlib.Omega.{arith}
use lib.Dec.{T}
use lib.ListN.{get_or, drop, replicate}
use Rattle.rules.specs.Ways.{passable, fewest_steps, JoinedBothWays}
use Rattle.rules.specs.declared.Passage.{Passage}
use Rattle.edges.specs.Tables.{Wets}
use Rattle.graph.specs.Table.{graph_in, Links, followed}
use Rattle.ways.specs.Shows.{Shows}
use Rattle.ways.proofs.Call.{Fits, shown, passage_of, Call, count, graph_of}
use Rattle.ways.proofs.Joined.{joined_both_ways}
use Rattle.ways.proofs.Marks.{size_is, mark_passes, no_mark_dry}
use Rattle.ways.proofs.Outcome.{Ready, dry_shown, reached-none, few-corners_on_way, reached-some}

-- the tables are filled, which corners are wet and the links between them, and neither 18 nor 19 applies
pub record WithLinks (call : Call) (wets links : List ℕ) : Type 0 where
  pub marks : Wets call.corners call.clearance wets
  pub linked : Links (graph_of call) links
  pub fits : Fits (count call) call.question

-- the start is wet, and the work slice has the ranks from it
pub record Ranked (call : Call) (wets links work : List ℕ) : Type 0 where
  pub with_links : WithLinks call wets links
  pub wet : get_or wets call.question.start 0 ≡ 1
  pub numbers : work ≡ fewest_steps (graph_in links (count call)) call.question.start ++ drop (count call) call.question.work

module _ {call : Call} {wets links : List ℕ} (with_links : WithLinks call wets links) where
  -- as many corners as records
  sized : (graph_of call).size ≡ count call
  sized = size_is call.cells call.corners call.clearance

  ready : Ready (graph_of call) call.question links
  unfolding JoinedBothWays
  ready = record {
    fits = subst (λ (n : ℕ). Fits n call.question) (sym sized) with_links.fits;
    linked = with_links.linked;
    both = joined_both_ways call.cells call.corners call.clearance;
  }

  pub found_dry : (get_or wets call.question.start 0 ≡ 1 → ⊥) → (r : Passage) → r ≡ passage_of 20 0 →
      (work : List ℕ) → work ≡ replicate (count call) 0 ++ drop (count call) call.question.work →
      Shows (shown (graph_of call) [] call.question) r call.question.way work
  found_dry d r is work e =
      dry_shown ready (no_mark_dry call.cells call.corners call.clearance wets with_links.marks call.question.start d) r is work
      (subst (λ (n : ℕ). work ≡ replicate n 0 ++ drop n call.question.work) (sym sized) e)

module _ {call : Call} {wets links work : List ℕ} (ranked : Ranked call wets links work) where
  ready_now : Ready (graph_of call) call.question links
  ready_now = ready ranked.with_links

  passes : T (passable (graph_of call) call.question.start)
  passes =
      mark_passes call.cells call.corners call.clearance wets ranked.with_links.marks call.question.start ranked.with_links.fits.is_start
      ranked.wet

  found : work ≡ fewest_steps (graph_in links (graph_of call).size) call.question.start ++ drop (graph_of call).size call.question.work
  found =
      subst (λ (n : ℕ). work ≡ fewest_steps (graph_in links n) call.question.start ++ drop n call.question.work) (sym (sized ranked.with_links))
      ranked.numbers

  pub found_none : get_or work call.question.end 0 ≡ 0 → (r : Passage) → r ≡ passage_of 20 0 →
      Shows (shown (graph_of call) [] call.question) r call.question.way work
  found_none = reached-none ready_now passes work found

  pub found-few : get_or work call.question.end 0 ≤ count call
  found-few = let a = few-corners_on_way ready_now passes work found in let b = sized ranked.with_links in omega arith

  pub found_some : (some : get_or work call.question.end 0 ≡ 0 → ⊥) (way : List ℕ) →
      way ≡ followed links (fewest_steps (graph_in links (count call)) call.question.end) (count call)
      (get_or work call.question.end 0) call.question.start ++ drop (get_or work call.question.end 0) call.question.way →
      Shows (shown (graph_of call) [] call.question) (passage_of 0 (get_or work call.question.end 0)) way work
  found_some some way d =
      reached-some ready_now passes work found some way
      (subst (λ (n : ℕ). way ≡ followed links (fewest_steps (graph_in links n) call.question.end) n (get_or work call.question.end 0) call.question.start
      ++ drop (get_or work call.question.end 0) call.question.way) (sym (sized ranked.with_links)) d)
