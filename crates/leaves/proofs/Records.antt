-- One record of a pass, by its tables: the leaf's face steps fit the trace, the trace then holds them, and what its loops give is drawn.
-- Assumes nothing.
use Prim.Native.Nat.{ℕ, ◌/◌, ◌<◌}
use native.Mathlib.Omega.{arith}
use mathlib.Core.Path.{◌≡◌, sym, ap, ◌∙◌, subst}
use mathlib.Core.Bool.{true}
use mathlib.Core.List.{List, []}
use lib.ListN.{length}
use Rattle.rules.specs.Survey.{entry}
use Rattle.rules.specs.Steps.{Step, leaf_steps}
use Rattle.cells.specs.Laid.{cell_at}
use Rattle.trace.specs.Trace.{Traced, recorded, meets}
use Rattle.trace.proofs.Laws.{traced-more}
use Rattle.faces.specs.Faces.{leaf_table_steps, Fits, Roomy, Reaching}
use Rattle.faces.proofs.Leaves.{leaf-steps_are, roomy, reaching, fitting}
use Rattle.loops.specs.Loops.{Loaded, Draws}
use Rattle.leaves.specs.Leaves.{Ready, survey, record_triangles, Drew}
use Rattle.leaves.proofs.Leaves.{drew_nothing, record-split, met-inside, leaf_loaded, leaf-drawn}

-- the tables are ready again where the trace is empty again
abbrev pub still : (tc across crossings twins trace after : List ℕ) (d : Ready tc across crossings twins trace) → Traced d.limit [] after
    → Ready tc across crossings twins after
still tc across crossings twins trace after d empty = record {
  corners = d.corners;
  clearance = d.clearance;
  passed = d.passed;
  beyond = d.beyond;
  crossed = d.crossed;
  twin = d.twin;
  limit = d.limit;
  reach = d.reach;
  empty = empty;
}

module _ (tc across crossings twins trace : List ℕ) (d : Ready tc across crossings twins trace) (n : ℕ) (inside : n < length tc / 4) where
  -- the record is split
  pub split-drawn : (out : List ℕ) → (entry tc n ≡ 0 → ⊥) → Drew d.limit (record_triangles (survey d) (cell_at tc n)) out out 0 trace
  split-drawn out some = drew_nothing d.limit _ out trace (record-split tc d.corners d.clearance d.passed n inside some) d.empty

  module _ (leaf : entry tc n ≡ 0) where
    within : (v : ℕ) → meets (leaf_steps (survey d) (cell_at tc n)) v ≡ true → v < d.limit
    within v m = let h = met-inside tc d.corners d.clearance d.passed n inside leaf v m in omega (arith, h, d.reach)

    -- what recording the leaf's steps asks for
    pub steps-asked : Roomy tc crossings × (Reaching tc across n × Fits (leaf_table_steps tc across crossings n) (length trace))
    steps-asked = (
      roomy tc d.corners d.clearance d.passed across crossings d.beyond d.crossed n inside,
      (
        reaching tc d.corners d.clearance d.passed across crossings d.beyond d.crossed n inside,
        fitting tc d.corners d.clearance d.passed across crossings d.beyond d.crossed n inside d.limit (length trace) d.empty.room
            d.empty.small within,
      ),
    )

    module _ (after : List ℕ) (is : after ≡ recorded (leaf_table_steps tc across crossings n) trace) where
      holds : Traced d.limit (leaf_steps (survey d) (cell_at tc n)) after
      holds =
          let steps = leaf-steps_are tc d.corners d.clearance d.passed across crossings d.beyond d.crossed n inside in
          subst (Traced d.limit (leaf_steps (survey d) (cell_at tc n))) (sym (is ∙ ap (λ (ss : List Step). recorded ss trace) steps))
          (traced-more d.limit (leaf_steps (survey d) (cell_at tc n)) [] trace within d.empty)

      pub loops-asked : Loaded twins after
      loops-asked = leaf_loaded tc d.corners d.clearance d.passed n inside leaf twins d.limit after d.twin holds

      -- the leaf is drawn
      pub loops-drawn : (u before out : List ℕ) (r : ℕ) → Draws twins after before out r u
          → Drew d.limit (record_triangles (survey d) (cell_at tc n)) before out r u
      loops-drawn u before out r draws =
          leaf-drawn tc d.corners d.clearance d.passed n inside leaf twins d.limit after d.twin holds u before out r draws
