-- Sizes of cells, and the keys of a cube's corners.
use Prim.Native.Nat.{ℕ, zero, suc, ◌+◌, ◌*◌, ◌/◌, ◌%◌, ◌^◌, ◌≤◌, ◌<◌}
use mathlib.Core.Path.{◌≡◌}
use native.Mathlib.Nat.{pow-le-pow_right, mul-le-mul_left}
use native.Mathlib.Omega.{arith}
use lib.Dec.{lit≤}
use lib.ListN.{get_or}
use Rattle.base.specs.Grid.{Place, octants}
use Rattle.records.specs.Keys.{key_of}
use Rattle.cells.specs.Laid.{octant_key}

pub size_fits : (l : ℕ) → l ≤ 10 → 2 ^ l ≤ 1024
size_fits l h = pow-le-pow_right {n = 2} (lit≤ tt) h

-- the key of each corner
pub octant-key-is : (s : ℕ) (p d : Place) (i : ℕ) → i < 8 → key_of (get_or (octants s p) i d) ≡ key_of p + octant_key i s
unfolding key_of octant_key
octant-key-is s p d zero h = omega arith
octant-key-is s p d (suc zero) h = omega arith
octant-key-is s p d (suc (suc zero)) h = omega arith
octant-key-is s p d (suc (suc (suc zero))) h = omega arith
octant-key-is s p d (suc (suc (suc (suc zero)))) h = omega arith
octant-key-is s p d (suc (suc (suc (suc (suc zero))))) h = omega arith
octant-key-is s p d (suc (suc (suc (suc (suc (suc zero)))))) h = omega arith
octant-key-is s p d (suc (suc (suc (suc (suc (suc (suc zero))))))) h = omega arith
octant-key-is s p d (suc (suc (suc (suc (suc (suc (suc (suc i)))))))) h = absurd (omega arith)

-- a corner's key is not far above the lowest corner's
pub octant-key-le : (i s : ℕ) → i < 8 → s ≤ 1024 → octant_key i s ≤ 4398113620992
unfolding octant_key
octant-key-le i s h g = omega (arith, mul-le-mul_left (i % 2 + 65536 * (i / 2 % 2) + 4294967296 * (i / 4)) g)
