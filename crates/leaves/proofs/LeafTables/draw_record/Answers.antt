-- `leaves::LeafTables::draw_record` meets its contract: a split record has no triangles; a leaf's face steps become the trace, whose loops are drawn.
use mathlib.Core.Path.{◌≡◌, sym, ◌∙◌}
use Rattle.rules.specs.Survey.{entry}
use Rattle.leaves.proofs.Records.{split-drawn, steps-asked, loops-asked, loops-drawn}
use Rattle.leaves.proofs.LeafTables.draw_record.Goals as goal
use Rattle.leaves.proofs.LeafTables.draw_record.Goals.{Else-cell_entry-ne0}

-- the record is a leaf
is_leaf : (c : Else-cell_entry-ne0) → let a = c.args in entry a.self.now.cells.now a.n ≡ 0
is_leaf c = sym c.cell_entry.ensures ∙ c.if-cell_entry-ne0.false

-- the record is split
pub returns-then-cell_entry-ne0 : goal.returns-then-cell_entry-ne0
returns-then-cell_entry-ne0 c =
    let a = c.args in
    λ d. split-drawn _ _ _ _ _ d a.n c.requires.n_in_bounds a.out.now
    (λ e. c.if-cell_entry-ne0.true (c.cell_entry.ensures ∙ e))

pub leaf_steps-requires : goal.leaf_steps-requires
leaf_steps-requires c =
    let both = steps-asked _ _ _ _ _ c.requires.ready c.args.n c.requires.n_in_bounds (is_leaf (goal.at.leaf_steps-requires c).Else-cell_entry-ne0) in
    record { roomy = both.0; reaching = both.1.0; fits = both.1.1 }

pub draw_loops-requires : goal.draw_loops-requires
draw_loops-requires c =
    loops-asked _ _ _ _ _ c.requires.ready c.args.n c.requires.n_in_bounds (is_leaf (goal.at.draw_loops-requires c).Else-cell_entry-ne0) _
    c.leaf_steps.ensures

-- the leaf is drawn
pub returns : goal.returns
returns c =
    let a = c.args in
    λ d. loops-drawn _ _ _ _ _ d a.n c.requires.n_in_bounds (is_leaf (goal.at.returns c).Else-cell_entry-ne0) _
    c.leaf_steps.ensures _ a.out.now _ _ c.draw_loops.ensures
