-- `loops::put` meets its contract: past the end nothing is stored.
use lib.Seq.{set_out}
use mathlib.Core.Path.{sym}
use Rattle.loops.proofs.put.Goals as goal

pub returns-else-at-out : goal.returns-else-at-out
returns-else-at-out c = sym (set_out _ _ _ c.if-at-out.false)
