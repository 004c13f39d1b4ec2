-- Document 02, request 1, "Which end is wet": "A crossing answer shall also tell whether the upper or the lower end of the edge asked about is wet."
-- What follows from four such answers is in StepByAnswers.antt.
use Rattle.std.specs.Prelude.{ℕ, Bool, cond}
use Rattle.base.specs.Grid.{Place}
use Rattle.rules.specs.Edges.{CellEdge, upper_end}
use Rattle.rules.specs.declared.End.{End}
use Rattle.rules.specs.declared.End.TheVariants.{Lower, Upper}

-- the wet end of an odd edge
unfoldable pub wet_end : (Place → Bool) → CellEdge → End
wet_end is_wet e = cond (is_wet (upper_end e)) Upper Lower

-- an end by the number that a reply in C has for it
abbrev pub end_number : End → ℕ
end_number Lower = 1
end_number Upper = 2
