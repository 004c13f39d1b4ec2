-- A pass over the leaves by record number: the tables that it reads, and what it leaves behind.
-- Assumes nothing: these are definitions.
use Rattle.std.specs.Prelude.{ℕ, ◌≤◌, ◌≡◌, true, cond, List, [], length, Float}
use Rattle.base.specs.Lists.{collect}
use Rattle.rules.specs.Survey.{Cell, Survey}
use Rattle.rules.specs.Edges.{point_edges}
use Rattle.rules.specs.Steps.{Triangle, fan, leaf_loops}
use Rattle.rules.specs.Outputs.{accepted, survey_of, numbers}
use Rattle.across.specs.Across.{Beyond}
use Rattle.crossings.specs.Crossings.{Crossings}
use Rattle.edges.specs.Tables.{Twins}
use Rattle.trace.specs.Trace.{Traced}
use Rattle.loops.specs.Loops.{into}
use Rattle.leaves.specs.declared.LeafTables.{LeafTables}

-- The tables of an accepted survey with this cell table, and an empty trace with room for its points. The corner table and the clearance are nowhere
-- in the code of a pass: what they say stands in the tables.
pub record Ready (tc across crossings twins trace : List ℕ) : Type 0 where
  pub corners : List ℕ
  pub clearance : Float
  pub passed : accepted tc corners clearance ≡ true
  pub beyond : Beyond tc across
  pub crossed : Crossings (survey_of tc corners clearance) tc crossings
  pub twin : Twins (survey_of tc corners clearance) twins
  pub limit : ℕ
  pub reach : length (point_edges (survey_of tc corners clearance)) ≤ limit
  pub empty : Traced limit [] trace

-- the same of the tables as one
abbrev pub TablesReady : LeafTables → List ℕ → Type 0
TablesReady t trace = Ready t.cells.now t.across.now t.crossings.now t.twins.now trace

-- the survey that they are of
abbrev pub survey : {tc across crossings twins trace : List ℕ} → Ready tc across crossings twins trace → Survey
survey {tc} r = survey_of tc r.corners r.clearance

-- the triangles of a record: those of its loops if it is a leaf, else none
unfoldable pub record_triangles : Survey → Cell → List Triangle
unfolding leaf_loops
record_triangles s c = cond c.split [] (collect fan (leaf_loops s c))

-- Triangles are drawn: how many they are, their numbers in the lent slice as far as it goes, and the trace is empty again.
pub record Drew (limit : ℕ) (ts : List Triangle) (before after : List ℕ) (r : ℕ) (trace : List ℕ) : Type 0 where
  pub counted : r ≡ length ts
  pub wrote : after ≡ into (collect numbers ts) before
  pub emptied : Traced limit [] trace
