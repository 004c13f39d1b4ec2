use Prim.Native.Nat.{ℕ, ◌+◌, ◌*◌, ◌≤◌, ◌<◌}
use mathlib.Core.Path.{◌≡◌, refl, sym, subst}
use mathlib.Core.List.{List}
use native.Mathlib.Omega.{arith}
use Rattle.rules.specs.Survey.{record_count}
use Rattle.edges.proofs.Lent.{corner_bytes}
use Rattle.ways.specs.Linked.{linked_at}
use Rattle.ways.proofs.Linking.{link_start}
use Rattle.ways.proofs.Joined.{lowest_from, far_from, Step, Filled, linked}
use Rattle.ways.proofs.Slots.{Linked, few-corners, far-inside, slot_linked}
use Rattle.ways.proofs.fill_links.Goals as goal
use Rattle.ways.proofs.fill_links.Goals.{After-link, After-link-in-loop-k, After-link-in-loop-k-2, At-loop-k, Start}

-- the links that are in, of a table
abbrev LinkedAt : At-loop-k → List ℕ → ℕ → Type 0
LinkedAt l = Linked l.args.edges.now.survey.corners.now l.args.wets.now l.args.edges.now.slots.now

module _ (s : Start) where
  abbrev FilledAt : Type 0
  FilledAt =
      let edges = s.args.edges.now in
      Filled edges.survey.cells.now edges.survey.corners.now edges.survey.clearance edges.slots.now s.args.wets.now

  filled_at : FilledAt
  filled_at =
      let edges = s.args.edges.now in
      record { ok = edges.survey.accepted; bytes = corner_bytes edges.survey; levelled = edges.levelled; marks = s.requires.wets }

module _ (l : At-loop-k) where
  filled : FilledAt (goal.at.At-loop-k l).Start
  filled = filled_at (goal.at.At-loop-k l).Start

  few : record_count l.args.edges.now.survey.corners.now ≤ 4872
  few = few-corners filled

  module _ (h : l.loop-k.k < record_count l.args.edges.now.survey.corners.now) (n : ℕ) (g : n < 3) where
    far-few : lowest_from l.args.edges.now.slots.now n l.loop-k.k ≤ 10 → far_from l.args.edges.now.slots.now n l.loop-k.k < 4872
    far-few o = let a = far-inside filled n l.loop-k.k g h o in omega (arith, few)

    more : (x : ℕ) → x ≡ 3 * l.loop-k.k + n → {t : List ℕ} → LinkedAt l t x →
        {new : List ℕ} → new ≡ linked_at l.args.wets.now l.args.edges.now.slots.now n l.loop-k.k t → LinkedAt l new (x + 1)
    more x e {t} known {new} is = slot_linked filled n l.loop-k.k x g h e t known new is

first : (r : After-link) → LinkedAt (goal.at.After-link r).At-loop-k r.link.new.links (3 * r.loop-k.k + 1)
first r =
    more (goal.at.After-link r).At-loop-k (omega arith) 0 (omega arith) (3 * r.loop-k.k) (omega arith) r.loop-k.invariant r.link.ensures

second : (r : After-link-in-loop-k) →
    LinkedAt (goal.at.After-link-in-loop-k r).At-loop-k r.link-in-loop-k.new.links (3 * r.loop-k.k + 1 + 1)
second r =
    more (goal.at.After-link-in-loop-k r).At-loop-k (omega arith) 1 (omega arith) (3 * r.loop-k.k + 1) refl
    (first (goal.at.After-link-in-loop-k r).After-link) r.link-in-loop-k.ensures

third : (r : After-link-in-loop-k-2) →
    LinkedAt (goal.at.After-link-in-loop-k-2 r).At-loop-k r.link-in-loop-k-2.new.links (3 * r.loop-k.k + 1 + 1 + 1)
third r =
    more (goal.at.After-link-in-loop-k-2 r).At-loop-k (omega arith) 2 (omega arith) (3 * r.loop-k.k + 1 + 1) (omega arith)
    (second (goal.at.After-link-in-loop-k-2 r).After-link-in-loop-k) r.link-in-loop-k-2.ensures

pub loop-k-init : goal.loop-k-init
loop-k-init c =
    let edges = c.args.edges.now in
    let few = few-corners (filled_at (goal.at.loop-k-init c).Start) in
    subst (λ (t : List ℕ). Linked edges.survey.corners.now c.args.wets.now edges.slots.now t 0) (sym c.requires.none_linked)
    (link_start (record_count edges.survey.corners.now) (Step edges.survey.corners.now c.args.wets.now edges.slots.now) few 29232 refl)

pub link-requires : goal.link-requires
link-requires c =
    let h : c.loop-k.k < record_count c.args.edges.now.survey.corners.now = omega arith in
    record {
      slots_len = (
        c.args.edges.now.levelled.size,
        omega arith,
        omega (arith, few (goal.at.link-requires c).At-loop-k),
        c.requires.wets.size,
        c.loop-k.invariant.room,
      );
      k_bound = far-few (goal.at.link-requires c).At-loop-k h 0 (omega arith);
    }

pub link-requires-in-loop-k : goal.link-requires-in-loop-k
link-requires-in-loop-k c =
    let h : c.loop-k.k < record_count c.args.edges.now.survey.corners.now = omega arith in
    record {
      slots_len = (
        c.args.edges.now.levelled.size,
        omega arith,
        omega (arith, few (goal.at.link-requires-in-loop-k c).At-loop-k),
        c.requires.wets.size,
        (first (goal.at.link-requires-in-loop-k c).After-link).room,
      );
      k_bound = far-few (goal.at.link-requires-in-loop-k c).At-loop-k h 1 (omega arith);
    }

pub link-requires-in-loop-k-2 : goal.link-requires-in-loop-k-2
link-requires-in-loop-k-2 c =
    let h : c.loop-k.k < record_count c.args.edges.now.survey.corners.now = omega arith in
    record {
      slots_len = (
        c.args.edges.now.levelled.size,
        omega arith,
        omega (arith, few (goal.at.link-requires-in-loop-k-2 c).At-loop-k),
        c.requires.wets.size,
        (second (goal.at.link-requires-in-loop-k-2 c).After-link-in-loop-k).room,
      );
      k_bound = far-few (goal.at.link-requires-in-loop-k-2 c).At-loop-k h 2 (omega arith);
    }

pub loop-k-preserved : goal.loop-k-preserved
loop-k-preserved c =
    let e : 3 * c.loop-k.k + 1 + 1 + 1 ≡ 3 * (c.loop-k.k + 1) = omega arith in
    subst (LinkedAt (goal.at.loop-k-preserved c).At-loop-k c.link-in-loop-k-2.new.links) e (third (goal.at.loop-k-preserved c).After-link-in-loop-k-2)

pub returns : goal.returns
returns c = linked (filled (goal.at.returns c).At-loop-k) c.loop-k.links (3 * c.loop-k.k) (omega arith) c.loop-k.invariant
