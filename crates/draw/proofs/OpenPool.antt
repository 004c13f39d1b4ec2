-- Document 01's one leaf with a wet corner, which is open at the box (document 02, request 3): what the drawing program prints.
-- Assumes nothing.
use mathlib.Core.Path.{◌≡◌, refl}
use mathlib.Core.List.{[], ◌∷◌}
use Rattle.rules.proofs.Surveys.{corner_table, leaf}
use Rattle.rules.proofs.Further.{one_wet}
use Rattle.text.specs.Text.{refusal, decimal_in}
use Rattle.text.proofs.Examples.{lines}
use Rattle.draw.specs.Printed.{clearance_of, printed}
use Rattle.draw.proofs.Twin.{clearance}

-- by computation
pub open_pool : printed leaf.cells (corner_table leaf.corners one_wet) [] (clearance_of clearance) ≡ lines ("refused 12" ∷ [])
unfolding printed clearance_of refusal decimal_in
open_pool = refl
