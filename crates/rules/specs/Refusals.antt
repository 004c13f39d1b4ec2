-- Document 01, "Outputs and refusals", and document 02: the number of each refusal, and what a call that may refuse says by a number.
use Rattle.std.specs.Prelude.{ℕ, Result, Ok, Err}
use Rattle.rules.specs.declared.refusal.Refusal.{Refusal}
use Rattle.rules.specs.declared.refusal.Refusal.TheVariants.{CellTable, CornerTable, CellEntry, TooDeep, CornerOrder, CornerSet, Sounding, Clearance}
use Rattle.rules.specs.declared.refusal.Refusal.TheVariants.{PointSlice, TriangleSlice, NoEdge, OpenAtBox, Reference, AmendmentTable, AmendmentPlace}
use Rattle.rules.specs.declared.refusal.Refusal.TheVariants.{Calendar, Minute, WayEnd, WaySlice, NoWay, Convoy}

-- the number of a refusal
abbrev pub refusal_number : Refusal → ℕ
refusal_number CellTable = 1
refusal_number CornerTable = 2
refusal_number CellEntry = 3
refusal_number TooDeep = 4
refusal_number CornerOrder = 5
refusal_number CornerSet = 6
refusal_number Sounding = 7
refusal_number Clearance = 8
refusal_number PointSlice = 9
refusal_number TriangleSlice = 10
refusal_number NoEdge = 11
refusal_number OpenAtBox = 12
refusal_number Reference = 13
refusal_number AmendmentTable = 14
refusal_number AmendmentPlace = 15
refusal_number Calendar = 16
refusal_number Minute = 17
refusal_number WayEnd = 18
refusal_number WaySlice = 19
refusal_number NoWay = 20
refusal_number Convoy = 21

-- the number that a call returns: 0 where it refuses nothing, else that of its refusal
abbrev pub outcome : {A : Type 0} → Result A Refusal → ℕ
outcome (Ok x) = 0
outcome (Err r) = refusal_number r
