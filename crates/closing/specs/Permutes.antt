-- What makes the way onward from the points of a leaf fall into loops.
-- Assumes nothing.
use Rattle.std.specs.Prelude.{ℕ, ◌≤◌, ◌≡◌, List, length}
use Rattle.base.specs.Lists.{often}

-- The points of a leaf: each is listed once, there are at most n, `onward` leads from them to them, and to no point from two.
pub record Permutes (n : ℕ) (onward : ℕ → ℕ) (points : List ℕ) : Type 0 where
  pub once : (x : ℕ) → often x points ≤ 1
  pub few : length points ≤ n
  pub stays : (x : ℕ) → 1 ≤ often x points → 1 ≤ often (onward x) points
  pub apart : (x y : ℕ) → 1 ≤ often x points → 1 ≤ often y points → onward x ≡ onward y → x ≡ y
