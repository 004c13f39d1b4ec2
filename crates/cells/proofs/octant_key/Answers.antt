-- `cells::octant_key` meets its contract: the product is the definition's, and small.
use Prim.Native.Nat.{◌+◌, ◌*◌, ◌%◌, ◌/◌}
use native.Mathlib.Nat.{mul-le-mul_left}
use native.Mathlib.Omega.{arith}
use Rattle.cells.specs.Laid.{octant_key}
use borrow.Author.Rules.{rules}
use Rattle.cells.proofs.octant_key.Goals as goal

pub overflow_mul-result-3 : goal.overflow_mul-result-3
overflow_mul-result-3 c =
    let i = c.args.i in
    omega (arith, mul-le-mul_left (i % 2 + 65536 * (i / 2 % 2) + 4294967296 * (i / 4)) c.requires.1)

pub returns : goal.returns
unfolding octant_key
returns c = search rules
