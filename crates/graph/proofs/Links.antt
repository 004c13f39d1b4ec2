-- The six links of a corner, as a part of the table.
use Prim.Native.Nat.{ℕ, ◌+◌, ◌*◌, ◌≤◌, ◌<◌}
use mathlib.Core.Path.{◌≡◌, ◌∙◌}
use mathlib.Core.List.{List}
use native.Mathlib.Omega.{arith}
use lib.ListN.{length, get_or}
use Rattle.std.specs.List.{between}
use Rattle.std.proofs.lemmas.List.Edits.{length-between, get_or-between}
use Rattle.graph.specs.Table.{link_at}

abbrev pub links_of : List ℕ → ℕ → List ℕ
links_of t k = between (6 * k) (6 * k + 6) t

module _ (t : List ℕ) (k : ℕ) where
  pub six_links : 6 * k + 6 ≤ length t → length (links_of t k) ≡ 6
  six_links h = length-between t (6 * k) (6 * k + 6) h ∙ (omega arith)

  pub link_is : (i : ℕ) → i < 6 → get_or (links_of t k) i 0 ≡ link_at t k i
  link_is i h = get_or-between t (6 * k) (6 * k + 6) i 0 (omega arith)
