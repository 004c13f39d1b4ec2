-- Text in a lent slice.
use Rattle.std.specs.Prelude.{ℕ, ◌+◌, ◌*◌, ◌≤◌, ◌≡◌, List, ◌++◌, length, take, drop}
use Rattle.text.specs.declared.Writer.{Writer}
use Rattle.rules.specs.Outputs.{written}
use Rattle.rules.specs.declared.Drawn.{Drawn}

-- a slice with the elements from `at` on written over; those past the last are untouched
unfoldable pub written_at : ℕ → List ℕ → List ℕ → List ℕ
written_at at new slice = take at slice ++ written new (drop at slice)

-- a text of at most `most` bytes is written from `at` on, and r is where it ends
pub record Wrote (text : List ℕ) (most at : ℕ) (before after : List ℕ) (r : ℕ) : Type 0 where
  pub ends : r ≡ at + length text
  pub room : r ≤ at + most
  pub slice : after ≡ written_at at text before

-- the same of a writer, whose slice stays the same one
pub record Writes (text : List ℕ) (most : ℕ) (before after : Writer) : Type 0 where
  pub wrote : Wrote text most before.at before.line.now after.line.now after.at
  pub long : length after.line.now ≡ length before.line.now
  pub same : after.line.ghost_name ≡ before.line.ghost_name

-- a slice of this length takes the listing, and the other two hold what it lists: only if drawn, for a refusal lists neither
pub record Room (d : Drawn) (line points triangles : ℕ) : Type 0 where
  pub first : 22 ≤ line
  pub points_there : d.number ≡ 0 → 3 * d.points ≤ points
  pub triangles_there : d.number ≡ 0 → 3 * d.triangles ≤ triangles
  pub whole : d.number ≡ 0 → 22 + 29 * d.points + 35 * d.triangles ≤ line
