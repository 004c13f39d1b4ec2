-- Two functions agree at all entries of their tables of rows of four: one comparison that antt computes.
use mathlib.Core.Path.{◌≡◌}
use mathlib.Core.List.{List, [], map}
use Prim.Native.Nat.{ℕ, ◌<◌}
use Rattle.base.specs.Lists.{count}
use Rattle.base.proofs.Alike.{Alike, alike}

-- row r of f: its values at 0 to 3
abbrev pub row : (ℕ → ℕ → ℕ) → ℕ → List ℕ
row f r = map (f r) (count 0 4)

pub alike_rows : {n : ℕ} (f g : ℕ → ℕ → ℕ) → Alike n (row f) (row g) → (r j : ℕ) → r < n → j < 4 → f r j ≡ g r j
alike_rows {n = n} f g e r j h l = alike 0 4 (f r) (g r) (alike [] n (row f) (row g) e r h) j l
