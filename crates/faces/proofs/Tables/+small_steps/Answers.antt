use Prim.Native.Nat.{ℕ, ◌+◌}
use mathlib.Core.Path.{◌≡◌, sym, ap, ◌∙◌, subst}
use mathlib.Core.List.{List}
use native.Mathlib.Omega.{arith}
use lib.ListN.{length}
use Rattle.base.specs.Lists.{collect}
use Rattle.rules.specs.Steps.{Step}
use Rattle.trace.specs.Trace.{recorded}
use Rattle.faces.specs.Faces.{row_corner, row_steps, quarters, small_table_steps, Fits}
use Rattle.faces.proofs.Small.{small-leaf, small_parts, part-inside}
use Rattle.faces.proofs.Recording.{next_fits, recorded-next, recorded-all}
use Rattle.faces.proofs.Tables.+small_steps.Goals as goal
use Rattle.faces.proofs.Tables.+small_steps.Goals.{Else-first-eq0, Then-first-eq0}

-- a leaf's small face is its own
whole : (t : ℕ) → (c : Then-first-eq0 t) → let a = c.args in
    small_table_steps a.self.cells.now a.self.crossings.now a.row a.m ≡ row_steps a.self.crossings.now a.row a.m
whole t c =
    let a = c.args in
    small-leaf a.self.cells.now a.self.crossings.now c.args.self.roomy.entries_right_lem a.row a.m c.requires.row_bound.1
    (sym c.cell_entry-first.ensures ∙ c.if-first-eq0.true)

abbrev steps : (t : ℕ) → Else-first-eq0 t → ℕ → List Step
steps t c j =
    let a = c.args in
    small_table_steps a.self.cells.now a.self.crossings.now a.row (c.cell_entry-first.result + row_corner a.row j)

all-steps : (t : ℕ) → (c : Else-first-eq0 t) → let a = c.args in
    collect (steps t c) quarters ≡ small_table_steps a.self.cells.now a.self.crossings.now a.row a.m
all-steps t c =
    let a = c.args in
    small_parts a.self.cells.now a.self.crossings.now c.args.self.roomy.entries_right_lem a.row a.m c.requires.row_bound.1
    c.cell_entry-first.result c.cell_entry-first.ensures c.if-first-eq0.false

pub row_steps-requires : goal.row_steps-requires
row_steps-requires t c =
    record {
      row_bound = (c.requires.row_bound.0, omega (arith, c.args.self.roomy.room, c.requires.row_bound.1));
      fits = subst (λ ss. Fits ss (length c.args.trace.now)) (whole t (goal.at.row_steps-requires t c).Then-first-eq0) c.requires.fits;
    }

pub returns-then-first-eq0 : goal.returns-then-first-eq0
returns-then-first-eq0 t c =
    c.row_steps.ensures ∙ ap (λ ss. recorded ss c.args.trace.now) (sym (whole t (goal.at.returns-then-first-eq0 t c).Then-first-eq0))

pub small_steps-requires : goal.small_steps-requires
small_steps-requires t c =
    let a = c.args in
    let k = c.row_corner in
    let (up, inside) = part-inside a.self.cells.now a.self.crossings.now c.args.self.roomy.entries_right_lem a.row a.m c.requires.row_bound.1
    c.cell_entry-first.result c.cell_entry-first.ensures c.if-first-eq0.false c.quarter.result k.result c.quarter.ensures.1 k.ensures.0 in (
      omega (arith, up, inside),
      (
        (c.requires.row_bound.0, inside),
        subst (λ k. Fits (small_table_steps a.self.cells.now a.self.crossings.now a.row (c.cell_entry-first.result + k)) (length c.loop-i.trace))
            (sym k.ensures.0)
            (next_fits (steps t (goal.at.small_steps-requires t c).Else-first-eq0) quarters c.loop-i.i _ _ c.loop-i.invariant (omega (arith, c.loop-i-test.true)) c.quarter.result
            c.quarter.ensures.0
            (subst (λ ss. Fits ss (length a.trace.now)) (sym (all-steps t (goal.at.small_steps-requires t c).Else-first-eq0)) c.requires.fits)),
      ),
    )

pub loop-i-preserved : goal.loop-i-preserved
loop-i-preserved t c =
    let a = c.args in
    recorded-next (steps t (goal.at.loop-i-preserved t c).Else-first-eq0) quarters c.loop-i.i _ _ c.loop-i.invariant (omega (arith, c.loop-i-test.true)) c.quarter.result
    c.quarter.ensures.0 _
    (c.small_steps.ensures
    ∙ ap (λ k. recorded (small_table_steps a.self.cells.now a.self.crossings.now a.row (c.cell_entry-first.result + k)) c.loop-i.trace)
    c.row_corner.ensures.0)

pub returns : goal.returns
returns t c =
    recorded-all (steps t (goal.at.returns t c).Else-first-eq0) quarters c.loop-i.i _ _ c.loop-i.invariant (λ h. omega (arith, c.loop-i-test.false))
    ∙ ap (λ ss. recorded ss c.args.trace.now) (all-steps t (goal.at.returns t c).Else-first-eq0)
