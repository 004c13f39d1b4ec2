use native.Mathlib.Omega.{arith}
use Rattle.text.proofs.Stores.{writes_then}
use Rattle.text.proofs.Lines.{triangle_more, no_triangle, same_writes}
use Rattle.text.proofs.Writer.triangles.Goals as goal

pub loop-i-init : goal.loop-i-init
loop-i-init c = no_triangle _ _

pub loop-i-preserved : goal.loop-i-preserved
loop-i-preserved c = same_writes (triangle_more _ c.loop-i.i) (omega arith) (writes_then c.loop-i.invariant c.triangle.ensures (omega arith))
