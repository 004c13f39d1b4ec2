-- `faces::row_steps` meets its contract: of the sixteen patterns it is known by which edges steps enter, none, one or two.
use Prim.Native.Nat.{ℕ, ◌+◌, ◌<◌}
use mathlib.Core.Path.{◌≡◌, sym, ap, ◌∙◌, subst}
use mathlib.Core.List.{List, [], ◌∷◌}
use lib.ListN.{length}
use Rattle.base.specs.Lists.{collect}
use Rattle.base.proofs.Lists.{In}
use Rattle.rules.specs.Steps.{Step}
use Rattle.trace.specs.Trace.{recorded}
use Rattle.trace.proofs.Laws.{length-recorded}
use Rattle.faces.specs.Faces.{row_pattern, edge_steps, row_steps, Fits}
use Rattle.faces.proofs.Patterns.{entering, entering_few, none_entering, one_entering, two_entering, first_enters, second_enters}
use Rattle.faces.proofs.Recording.{row_parts, part-fits, recorded-one, recorded-two}
use Rattle.faces.proofs.row_steps.Goals as goal

module _ (crossings trace : List ℕ) (r m p : ℕ) (e : (p ≡ row_pattern crossings r m) × (p < 16)) where
  -- the step that enters by an edge
  abbrev steps : ℕ → List Step
  steps = edge_steps crossings r m p

  all-steps : collect steps (entering p) ≡ row_steps crossings r m
  all-steps = row_parts crossings r m p e.0 e.1

  -- the steps by these edges are all
  all-recorded : (js : List ℕ) → js ≡ entering p → recorded (collect steps js) trace ≡ recorded (row_steps crossings r m) trace
  all-recorded js i = ap (λ js. recorded (collect steps js) trace) i ∙ ap (λ ss. recorded ss trace) all-steps

  -- what `edge_step` requires of such an edge
  edge_fits : (j : ℕ) → In j (entering p) → Fits (row_steps crossings r m) (length trace) → (j < 4) × Fits (steps j) (length trace)
  edge_fits j i f = (
    entering_few p e.1 j i,
    part-fits steps (entering p) j (length trace) i (subst (λ ss. Fits ss (length trace)) (sym all-steps) f),
  )

pub returns-in_default : goal.returns-in_default
returns-in_default c =
    let a = c.args in
    let p = c.row_pattern-pattern in
    all-recorded a.crossings.now a.trace.now a.row a.m p.result p.ensures [] (none_entering p.result c.in_default.ensures)

pub edge_step-requires-clause-fits : goal.edge_step-requires-clause-fits
edge_step-requires-clause-fits c =
    let a = c.args in
    let p = c.row_pattern-pattern in
    let j = c.in-Some in
    (edge_fits a.crossings.now a.trace.now a.row a.m p.result p.ensures j.j (first_enters p.result j.j j.ensures.0 j.ensures.1) c.requires.fits).1

pub edge_step-requires-then-pattern-eq0 : goal.edge_step-requires-then-pattern-eq0
edge_step-requires-then-pattern-eq0 c =
    let a = c.args in
    let p = c.row_pattern-pattern in
    let j = c.in-Some in
    let second = second_enters p.result j.j j.ensures.0 j.ensures.1 c.if-pattern-eq0.true in
    let (few, fits) = edge_fits a.crossings.now a.trace.now a.row a.m p.result p.ensures (j.j + 2) second c.requires.fits in
    let same = ap length c.edge_step.ensures ∙ length-recorded (edge_steps a.crossings.now a.row a.m p.result j.j) a.trace.now in
    record {
      row_bound = c.requires.row_bound;
      pattern_bound = (p.ensures.1, few);
      fits = subst (Fits (edge_steps a.crossings.now a.row a.m p.result (j.j + 2))) (sym same) fits;
    }

pub returns-then-pattern-eq0 : goal.returns-then-pattern-eq0
returns-then-pattern-eq0 c =
    let a = c.args in
    let p = c.row_pattern-pattern in
    let j = c.in-Some in
    c.edge_step-then-pattern-eq0.ensures
    ∙ ap (recorded (edge_steps a.crossings.now a.row a.m p.result (j.j + 2))) c.edge_step.ensures
    ∙ recorded-two (edge_steps a.crossings.now a.row a.m p.result) a.trace.now j.j (j.j + 2)
    ∙ all-recorded a.crossings.now a.trace.now a.row a.m p.result p.ensures (j.j ∷ (j.j + 2) ∷ [])
    (two_entering p.result j.j j.ensures.0 j.ensures.1 c.if-pattern-eq0.true)

pub returns-else-pattern-eq0 : goal.returns-else-pattern-eq0
returns-else-pattern-eq0 c =
    let a = c.args in
    let p = c.row_pattern-pattern in
    let j = c.in-Some in
    c.edge_step.ensures ∙ recorded-one (edge_steps a.crossings.now a.row a.m p.result) a.trace.now j.j
    ∙ all-recorded a.crossings.now a.trace.now a.row a.m p.result p.ensures (j.j ∷ [])
    (one_entering p.result j.j j.ensures.0 j.ensures.1 c.if-pattern-eq0.false)
