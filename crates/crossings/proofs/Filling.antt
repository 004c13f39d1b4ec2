-- The table of crossings, one point and one cell further.
use Prim.Native.Nat.{ℕ, ◌+◌, ◌*◌, ◌/◌, ◌%◌, ◌≤◌, ◌<◌}
use mathlib.Core.Path.{◌≡◌, sym, ◌∙◌, subst}
use mathlib.Core.List.{List}
use native.Mathlib.Decide.{ℕ_discrete}
use native.Mathlib.Omega.{arith}
use lib.ListN.{length, length-set, get_or, set}
use lib.Seq.{get_or-set_same, get_or-set_other}
use Rattle.rules.specs.Survey.{Survey}
use Rattle.cells.specs.Laid.{cell_at}
use Rattle.crossings.specs.Crossings.{edge_at, crossing_of, wet_mask, Crossings}
use Rattle.crossings.specs.Filling.{PointsTo}

-- all points, and the wet corners of the cells of the records below m
pub record MasksTo (s : Survey) (tc : List ℕ) (m : ℕ) (t : List ℕ) : Type 0 where
  pub points : PointsTo s tc (12 * (length tc / 4)) t
  pub wet : (n : ℕ) → n < m → get_or t (13 * n + 12) 0 ≡ wet_mask s (cell_at tc n)

pub no_points : (s : Survey) (tc t : List ℕ) → 13 * (length tc / 4) ≤ length t → PointsTo s tc 0 t
no_points s tc t h = record { room = h; point = λ i k. absurd (omega arith) }

pub all-points : (s : Survey) (tc t : List ℕ) (m : ℕ) → 12 * (length tc / 4) ≤ m → PointsTo s tc m t → PointsTo s tc (12 * (length tc / 4)) t
all-points s tc t m h p = record { room = p.room; point = λ i k. p.point i (omega arith) }

module _ (s : Survey) (tc : List ℕ) (m : ℕ) (t : List ℕ) (v : ℕ) where
  -- one point more
  pub points-more : m < 12 * (length tc / 4) → PointsTo s tc m t → v ≡ crossing_of s (edge_at (cell_at tc (m / 12)) (m % 12))
      → PointsTo s tc (m + 1) (set t (13 * (m / 12) + m % 12) v)
  points-more h p e = record { room = omega (arith, p.room, length-set t at v); point = λ i k. go i k (ℕ_discrete i m) }
    where
      at : ℕ
      at = 13 * (m / 12) + m % 12

      go : (i : ℕ) → i < m + 1 → Dec (i ≡ m) → get_or (set t at v) (13 * (i / 12) + i % 12) 0 ≡ crossing_of s (edge_at (cell_at tc (i / 12)) (i % 12))
      go i k (yes q) =
          subst (λ j. get_or (set t at v) (13 * (j / 12) + j % 12) 0 ≡ crossing_of s (edge_at (cell_at tc (j / 12)) (j % 12))) (sym q)
          (get_or-set_same t at v 0 (omega (arith, p.room)) ∙ e)
      go i k (no q) = get_or-set_other t at (13 * (i / 12) + i % 12) v 0 (λ f. q (omega arith)) ∙ p.point i (omega arith)

  -- the wet corners of one cell more
  pub masks_more : m < length tc / 4 → MasksTo s tc m t → v ≡ wet_mask s (cell_at tc m) → MasksTo s tc (m + 1) (set t (13 * m + 12) v)
  masks_more h p e = record {
    points = record {
      room = omega (arith, p.points.room, length-set t at v);
      point = λ i k. get_or-set_other t at (13 * (i / 12) + i % 12) v 0 (λ f. omega arith) ∙ p.points.point i k;
    };
    wet = λ n k. go n k (ℕ_discrete n m);
  }
    where
      at : ℕ
      at = 13 * m + 12

      go : (n : ℕ) → n < m + 1 → Dec (n ≡ m) → get_or (set t at v) (13 * n + 12) 0 ≡ wet_mask s (cell_at tc n)
      go n k (yes q) =
          subst (λ j. get_or (set t at v) (13 * j + 12) 0 ≡ wet_mask s (cell_at tc j)) (sym q) (get_or-set_same t at v 0 (omega (arith, p.points.room)) ∙ e)
      go n k (no q) = get_or-set_other t at (13 * n + 12) v 0 (λ f. q (omega arith)) ∙ p.wet n (omega arith)

-- all points and all wet corners
pub all_filled : (s : Survey) (tc : List ℕ) (m : ℕ) (t : List ℕ) → length tc / 4 ≤ m → MasksTo s tc m t → Crossings s tc t
all_filled s tc m t h p = record { room = p.points.room; point = point; wet = λ n k. p.wet n (omega arith) }
  where
    point : (n e : ℕ) → n < length tc / 4 → e < 12 → get_or t (13 * n + e) 0 ≡ crossing_of s (edge_at (cell_at tc n) e)
    point n e k g =
        let i = 12 * n + e in
        let quotient : i / 12 ≡ n = omega arith in
        let rest : i % 12 ≡ e = omega arith in
        rw (quotient, rest) at (p.points.point i (omega arith))
