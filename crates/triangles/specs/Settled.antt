-- The tables that all triangles are drawn from, and what is done with them.
-- Assumes nothing: these are definitions.
use Rattle.std.specs.Prelude.{ℕ, ◌*◌, ◌≡◌, Bool, true, ◌&&◌, cond, List, leb, length, Float}
use Rattle.base.specs.Lists.{collect}
use Rattle.rules.specs.Edges.{point_edges}
use Rattle.rules.specs.Steps.{Triangle}
use Rattle.rules.specs.Outputs.{accepted, survey_of, numbers, written}
use Rattle.edges.specs.Tables.{Twins}
use Rattle.across.specs.Across.{Beyond}
use Rattle.crossings.specs.Crossings.{Crossings}
use Rattle.leaves.specs.declared.LeafTables.{LeafTables}

-- The tables that the leaves are drawn from, of an accepted survey with this cell table and n points. The corner table and the clearance are nowhere in
-- the code that draws the leaves.
pub record Known (tc across crossings twins : List ℕ) (n : ℕ) : Type 0 where
  pub corners : List ℕ
  pub clearance : Float
  pub passed : accepted tc corners clearance ≡ true
  pub beyond : Beyond tc across
  pub crossed : Crossings (survey_of tc corners clearance) tc crossings
  pub twin : Twins (survey_of tc corners clearance) twins
  pub count : n ≡ length (point_edges (survey_of tc corners clearance))

-- the same of the tables as one
abbrev pub TablesKnown : LeafTables → ℕ → Type 0
TablesKnown t n = Known t.cells.now t.across.now t.crossings.now t.twins.now n

-- triangles are counted; and where that is asked for and the slice has room for all, they are written
pub record Settled (ts : List Triangle) (write : Bool) (before after : List ℕ) (r : ℕ) : Type 0 where
  pub counted : r ≡ length ts
  pub wrote : after ≡ cond (write && leb (3 * r) (length before)) (written (collect numbers ts) before) before
