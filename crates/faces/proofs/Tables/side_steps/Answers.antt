-- `faces::Tables::side_steps` meets its contract: the table of cells across tells the own side from the split cell across.
use Prim.Native.Nat.{◌+◌}
use mathlib.Core.Path.{◌≡◌, sym, ap, ◌∙◌, subst}
use native.Mathlib.Omega.{arith}
use lib.ListN.{length}
use Rattle.trace.specs.Trace.{recorded}
use Rattle.faces.specs.Faces.{row_steps, small_table_steps, side_table_steps, Fits}
use Rattle.faces.proofs.Recording.{own_steps, steps-across}
use Rattle.faces.proofs.Tables.side_steps.Goals as goal
use Rattle.faces.proofs.Tables.side_steps.Goals.{Else-beyond-eq0, Then-beyond-eq0}

-- the own side's steps are those of the side
own : (c : Then-beyond-eq0) → let a = c.args in
    row_steps a.self.crossings.now a.i a.n ≡ side_table_steps a.self.cells.now a.across.now a.self.crossings.now a.n a.i
own c =
    let a = c.args in
    own_steps a.self.cells.now a.across.now a.self.crossings.now a.n a.i c.from-beyond.result c.from-beyond.ensures c.if-beyond-eq0.true

pub row_steps-requires : goal.row_steps-requires
row_steps-requires c =
    record {
      row_bound = (omega (arith, c.requires.i_bound), omega (arith, c.args.self.roomy.room, c.requires.reaching.inside));
      fits = subst (λ ss. Fits ss (length c.args.trace.now)) (sym (own (goal.at.row_steps-requires c).Then-beyond-eq0)) c.requires.fits;
    }

pub returns-then-beyond-eq0 : goal.returns-then-beyond-eq0
returns-then-beyond-eq0 c =
    c.row_steps.ensures ∙ ap (λ ss. recorded ss c.args.trace.now) (own (goal.at.returns-then-beyond-eq0 c).Then-beyond-eq0)

-- so are those of the split cell across
beyond : (c : Else-beyond-eq0) → let a = c.args in
    small_table_steps a.self.cells.now a.self.crossings.now (6 + a.i) c.from-beyond.result
    ≡ side_table_steps a.self.cells.now a.across.now a.self.crossings.now a.n a.i
beyond c =
    let a = c.args in
    steps-across a.self.cells.now a.across.now a.self.crossings.now a.n a.i c.from-beyond.result c.from-beyond.ensures c.if-beyond-eq0.false

pub small_steps-requires : goal.small_steps-requires
small_steps-requires c =
    record {
      row_bound = (omega (arith, c.requires.i_bound), omega (arith, c.requires.reaching.named c.args.i c.requires.i_bound, c.from-beyond.ensures));
      fits = subst (λ ss. Fits ss (length c.args.trace.now)) (sym (beyond (goal.at.small_steps-requires c).Else-beyond-eq0)) c.requires.fits;
    }

pub returns : goal.returns
returns c =
    c.small_steps.ensures ∙ ap (λ ss. recorded ss c.args.trace.now) (beyond (goal.at.returns c).Else-beyond-eq0)
