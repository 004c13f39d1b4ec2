-- `edges::keys::step` meets its contract: the sum fits, since the length is at most 1,024.
use Rattle.edges.proofs.Find.{step_fits}
use Prim.Native.Nat.{◌+◌, ◌*◌, ◌≤◌}
use native.Mathlib.Omega.{arith}
use Rattle.edges.proofs.keys.step.Goals as goal

pub overflow_mul-result : goal.overflow_mul-result
overflow_mul-result c =
    let h : c.size_of.result * c.unit.result ≤ 4398046511104 = rw c.size_of.ensures (step_fits c.args.level c.unit.result
    c.requires.1 c.unit.ensures.1) in
    omega arith

pub overflow_add-result : goal.overflow_add-result
overflow_add-result c =
    let h : c.size_of.result * c.unit.result ≤ 4398046511104 = rw c.size_of.ensures (step_fits c.args.level c.unit.result
    c.requires.1 c.unit.ensures.1) in
    omega arith

pub returns : goal.returns
returns c =
    let h : c.size_of.result * c.unit.result ≤ 4398046511104 = rw c.size_of.ensures (step_fits c.args.level c.unit.result
    c.requires.1 c.unit.ensures.1) in
    (λ i. c.args.key + c.size_of.ensures i * c.unit.ensures.0 i, omega arith)
