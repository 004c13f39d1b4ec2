-- `faces::leaf_steps` meets its contract. The loop's invariant: the steps on the sides before the one at hand are recorded. The measure is how many sides
-- are to come.
use Rattle.base.specs.Lists.{count}
use Rattle.faces.specs.Faces.{side_table_steps}
use Rattle.faces.proofs.Recording.{Recording}
use Rattle.faces.proofs.leaf_steps.Given as goal

abbrev pub invariant-loop-i : goal.invariant-loop-i
invariant-loop-i l = Recording (side_table_steps l.cells l.across l.crossings l.n) (count 0 6) l.i l.initial.trace l.trace
