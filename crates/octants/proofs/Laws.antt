-- The table of cells' corners, one cell further.
use Prim.Native.Nat.{ℕ, ◌+◌, ◌*◌, ◌^◌, ◌≤◌, ◌<◌}
use mathlib.Core.Path.{◌≡◌, ap, ◌∙◌}
use mathlib.Core.List.{List}
use native.Mathlib.Decide.{ℕ_discrete}
use native.Mathlib.Omega.{arith}
use lib.ListN.{length, get_or}
use Rattle.records.specs.Keys.{record_at}
use Rattle.cells.specs.Laid.{octant_key, written_at, key_in, level_in}
use Rattle.cells.proofs.Written.{written-length, written-here, written-before}
use Rattle.octants.specs.Octants.{LookedUp}

module _ (tk table t u : List ℕ) (n : ℕ) (o : LookedUp tk table t n) (l : n < 2049) where
  abbrev found : ℕ → ℕ → ℕ
  found m i = record_at tk (key_in table m + octant_key i (2 ^ level_in table m))

  pub cell-more : u ≡ written_at (found n) (8 * n) 8 t → LookedUp tk table u (n + 1)
  cell-more e = record {
    room = ap length e ∙ written-length (found n) (8 * n) 8 t fits ∙ o.room;
    number = λ m i h g. ap (λ w. get_or w (8 * m + i) 0) e ∙ go m i h g (ℕ_discrete m n);
  }
    where
      fits : 8 * n + 8 ≤ length t
      fits = omega (arith, o.room)

      go : (m i : ℕ) → m < n + 1 → i < 8 → Dec (m ≡ n) → get_or (written_at (found n) (8 * n) 8 t) (8 * m + i) 0 ≡ found m i
      go m i h g (yes q) = rw q (written-here (found n) (8 * n) 8 i t fits g)
      go m i h g (no q) = written-before (found n) (8 * n) 8 (8 * m + i) t fits (omega arith) ∙ o.number m i (omega arith) g
