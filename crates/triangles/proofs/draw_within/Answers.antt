-- `triangles::draw_within` meets its contract: a fresh trace is empty, and has room for the points.
use native.Mathlib.Omega.{arith}
use Prim.Native.Nat.{◌+◌, ◌*◌, ◌/◌}
use mathlib.Core.Path.{◌≡◌}
use Rattle.triangles.proofs.Settling.{made, ready}
use Rattle.triangles.proofs.draw_within.Goals as goal

pub settle-requires : goal.settle-requires
settle-requires g c =
    let k = c.requires.known in
    let size : g.row.TRACE ≡ 3 * (g.row.TRACE / 3) + 1 = omega (arith, c.requires.trace_in_bounds) in
    ready _ _ _ _ _ c.args.n k (g.row.TRACE / 3) (omega (arith, k.count, c.requires.trace_in_bounds, size))
    (made g.row.TRACE (g.row.TRACE / 3) size (omega (arith, c.requires.trace_in_bounds)))

pub returns : goal.returns
returns g c =
    let size : g.row.TRACE ≡ 3 * (g.row.TRACE / 3) + 1 = omega (arith, c.requires.trace_in_bounds) in
    λ k. c.settle.ensures
    (ready _ _ _ _ _ c.args.n k (g.row.TRACE / 3) (omega (arith, k.count, c.requires.trace_in_bounds, size))
    (made g.row.TRACE (g.row.TRACE / 3) size (omega (arith, c.requires.trace_in_bounds))))
