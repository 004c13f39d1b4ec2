-- `ways::show` meets its contract: a dry start, an end that is not reached, or a way.
use Prim.Native.Nat.{ℕ, ◌≤◌}
use mathlib.Core.Path.{refl, ap, ◌∙◌}
use mathlib.Core.List.{List, ◌++◌}
use native.Mathlib.Omega.{arith}
use lib.ListN.{drop}
use Rattle.rules.specs.Ways.{fewest_steps}
use Rattle.edges.proofs.Readings.{no_refusal}
use Rattle.edges.proofs.Surveyed.{corners-few}
use Rattle.graph.specs.Table.{graph_in, followed}
use Rattle.ways.proofs.Call.{Call, count}
use Rattle.ways.proofs.Found.{WithLinks, Ranked, found_dry, found_none, found-few, found_some}
use Rattle.ways.proofs.show.Goals as goal
use Rattle.ways.proofs.show.Goals.{After-rank_corners, Start}

-- the call, its tables, and why they are right
abbrev call : Start → Call
call s =
    let survey = s.args.survey.now in
    record {
      cells = survey.cells.now;
      corners = survey.corners.now;
      clearance = survey.clearance;
      question = record { start = s.args.start; end = s.args.end; way = s.args.way.now; work = s.args.work.now };
    }

with_links : (s : Start) → WithLinks (call s) s.args.wets.now s.args.links.now
with_links s = record {
  marks = s.requires.wets;
  linked = s.requires.links;
  fits = record {
    is_start = s.requires.ends.0;
    is_end = s.requires.ends.1;
    way-fits = s.requires.room.0;
    work-fits = s.requires.room.1;
  };
}

few : (s : Start) → count (call s) ≤ 4872
few s =
    let c = corners-few (call s).cells (call s).corners (no_refusal (call s).cells (call s).corners (call s).clearance s.args.survey.now.accepted) in
    omega arith

-- the way slice with a way of n corners
abbrev onwards : Start → ℕ → List ℕ
onwards s n =
    followed s.args.links.now (fewest_steps (graph_in s.args.links.now (count (call s))) s.args.end) (count (call s)) n
    s.args.start
    ++ drop n s.args.way.now

ranked : (x : After-rank_corners) →
    Ranked (call (goal.at.After-rank_corners x).Start) x.args.wets.now x.args.links.now x.rank_corners.new.ranks
ranked x = record { with_links = with_links (goal.at.After-rank_corners x).Start; wet = x.if-wets-start-ne1.false; numbers = x.rank_corners.ensures }

pub bounds-wets-start : goal.bounds-wets-start
bounds-wets-start c = omega (arith, few (goal.at.bounds-wets-start c).Start, c.requires.wets.size, c.requires.ends.0)

pub returns-then-wets-start-ne1 : goal.returns-then-wets-start-ne1
returns-then-wets-start-ne1 c =
    found_dry (with_links (goal.at.returns-then-wets-start-ne1 c).Start) c.if-wets-start-ne1.true _ refl _ c.clear.ensures

pub rank_corners-requires : goal.rank_corners-requires
rank_corners-requires c =
    let h = with_links (goal.at.rank_corners-requires c).Start in
    (h.linked.room, h.linked.within, few (goal.at.rank_corners-requires c).Start, h.fits.is_start, h.fits.work-fits)

pub returns-then-n-eq0 : goal.returns-then-n-eq0
returns-then-n-eq0 c =
    found_none (ranked (goal.at.returns-then-n-eq0 c).After-rank_corners) c.if-n-eq0.true _ refl

pub write_way-requires : goal.write_way-requires
write_way-requires c =
    let h = with_links (goal.at.write_way-requires c).Start in
    let n = found-few (ranked (goal.at.write_way-requires c).After-rank_corners) in
    record {
      links_len = (h.linked.room, h.linked.within, few (goal.at.write_way-requires c).Start, h.fits.is_start, h.fits.is_end);
      n_in_bounds = (omega (arith, n, c.from.ensures, h.fits.way-fits), omega (arith, n, c.from.ensures, few (goal.at.write_way-requires c).Start));
    }

pub returns : goal.returns
returns c =
    rw c.from-2.ensures (found_some (ranked (goal.at.returns c).After-rank_corners) c.if-n-eq0.false _
    (c.write_way.ensures ∙ ap (onwards (goal.at.returns c).Start) c.from.ensures))
