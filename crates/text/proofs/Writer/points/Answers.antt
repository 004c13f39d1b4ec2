use native.Mathlib.Omega.{arith}
use Rattle.text.proofs.Stores.{writes_then}
use Rattle.text.proofs.Lines.{point-more, no_point, same_writes}
use Rattle.text.proofs.Writer.points.Goals as goal

pub loop-i-init : goal.loop-i-init
loop-i-init c = no_point _ _

pub loop-i-preserved : goal.loop-i-preserved
loop-i-preserved c = same_writes (point-more _ c.loop-i.i) (omega arith) (writes_then c.loop-i.invariant c.point.ensures (omega arith))
