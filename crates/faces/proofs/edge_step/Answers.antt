-- `faces::edge_step` meets its contract: `step_from` says where the step goes, if there is one.
use Prim.Native.Nat.{ℕ, ◌+◌, ◌*◌}
use mathlib.Core.Path.{ap, ◌∙◌}
use lib.ListN.{length, get_or}
use borrow.Author.Rules.{rules}
use Rattle.trace.specs.Trace.{recorded}
use Rattle.faces.proofs.Recording.{none_enters, one_enters, one-fits}
use Rattle.faces.proofs.edge_step.Goals as goal
use Rattle.faces.proofs.edge_step.Goals.{Start}

-- the point of an edge, found by the edge's number
abbrev point : Start → ℕ → ℕ
point s k = get_or s.args.crossings.now (13 * s.args.m + k) 0

pub returns-then-k-ge4 : goal.returns-then-k-ge4
returns-then-k-ge4 c =
    let a = c.args in
    none_enters a.crossings.now a.row a.m a.pattern a.j c.from-k.result (c.from-k.ensures ∙ c.step_from.ensures) _ c.if-k-ge4.true

pub record_step-requires : goal.record_step-requires
record_step-requires c =
    let a = c.args in
    let room = one-fits a.crossings.now a.row a.m a.pattern a.j c.from-k.result (c.from-k.ensures ∙ c.step_from.ensures)
    (point (goal.at.record_step-requires c).Start c.row_edge.result) (point (goal.at.record_step-requires c).Start c.row_edge-2.result) c.if-k-ge4.false
    (ap (point (goal.at.record_step-requires c).Start) c.row_edge.ensures.0) (ap (point (goal.at.record_step-requires c).Start) c.row_edge-2.ensures.0) (length a.trace.now) c.requires.fits in
    search rules

pub returns : goal.returns
returns c =
    let a = c.args in
    c.record_step.ensures
    ∙ ap (λ ss. recorded ss a.trace.now)
    (one_enters a.crossings.now a.row a.m a.pattern a.j c.from-k.result (c.from-k.ensures ∙ c.step_from.ensures)
    (point (goal.at.returns c).Start c.row_edge.result) (point (goal.at.returns c).Start c.row_edge-2.result) c.if-k-ge4.false
    (ap (point (goal.at.returns c).Start) c.row_edge.ensures.0) (ap (point (goal.at.returns c).Start) c.row_edge-2.ensures.0))
