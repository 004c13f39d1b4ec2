-- A call as one value, so that a law of it names it once: from which corner to which, with which slices, in which survey and at which clearance.
use Prim.Native.Nat.{ℕ, ◌≤◌, ◌<◌}
use mathlib.Core.Bool.{Bool}
use mathlib.Core.List.{List}
use lib.ListN.{length}
use lib.Ieee.{Float}
use Rattle.rules.specs.Survey.{record_count}
use Rattle.rules.specs.Outputs.{checks}
use Rattle.rules.specs.Ways.{Graph, Shown, corner_graph, shown_over, passage, passage_amended}
use Rattle.rules.specs.declared.Passage.{Passage}
use Rattle.ways.specs.declared.Asked.{Asked}

-- two corners, and what the two slices hold before
pub record Question : Type 0 where
  pub start : ℕ
  pub end : ℕ
  pub way : List ℕ
  pub work : List ℕ

-- neither 18 nor 19 applies to it, of so many corners
pub record Fits (size : ℕ) (question : Question) : Type 0 where
  pub is_start : question.start < size
  pub is_end : question.end < size
  pub way-fits : size ≤ length question.way
  pub work-fits : size ≤ length question.work

-- what is shown of it, after the checks that come first
abbrev pub shown : Graph → List (ℕ × Bool) → Question → Shown
shown graph before question = shown_over graph before question.start question.end question.way question.work

-- the result of a refusal, where nothing is counted, and of a way
abbrev pub passage_of : ℕ → ℕ → Passage
passage_of n c = record { number = n; corners = c }

pub record Call : Type 0 where
  pub cells : List ℕ
  pub corners : List ℕ
  pub clearance : Float
  pub question : Question

-- the call that is made of what the code is lent and asked
abbrev pub call_of : List ℕ → List ℕ → Asked → List ℕ → List ℕ → Call
call_of cells corners asked way work = record {
  cells = cells;
  corners = corners;
  clearance = asked.clearance;
  question = record { start = asked.start; end = asked.end; way = way; work = work };
}

-- how many corners there are, and these as a graph
abbrev pub count : Call → ℕ
count call = record_count call.corners

abbrev pub graph_of : Call → Graph
graph_of call = corner_graph call.cells call.corners call.clearance

-- checks 1 to 8
abbrev pub earlier : Call → List (ℕ × Bool)
earlier call = checks call.cells call.corners call.clearance

abbrev pub answer : Call → Shown
answer call = passage call.cells call.corners call.clearance call.question.start call.question.end call.question.way call.question.work

-- the same call in another survey, and in another corner table
abbrev pub over : Call → List ℕ → List ℕ → Call
over call cells corners = record { cells = cells; corners = corners; clearance = call.clearance; question = call.question }

abbrev pub within : Call → List ℕ → Call
within call table = over call call.cells table

abbrev pub answer_amended : Call → List ℕ → Shown
answer_amended call amendments =
    passage_amended call.cells call.corners amendments call.clearance call.question.start call.question.end call.question.way call.question.work
