-- `calendar::read` meets its contract: before each turn, the pass over the records that are left gives what the rules say of the whole calendar.
use Rattle.std.specs.Prelude.{IfSome}
use Prim.Native.Nat.{◌<◌}
use mathlib.Core.Path.{◌≡◌}
use lib.ListN.{drop}
use Rattle.rules.specs.Calendar.{period_count, periods_of}
use Rattle.calendar.specs.ReadingAt.{reading_at}
use Rattle.calendar.proofs.Pass.{pass, read_of}
use Rattle.calendar.proofs.read.Given as goal

abbrev pub invariant-loop-k : goal.invariant-loop-k
invariant-loop-k l = (pass l.minute (read_of l.calendar l.in_force) l.ended (drop l.k (periods_of l.calendar)) ≡ reading_at l.calendar l.minute)
    × IfSome l.in_force (λ k. k < period_count l.calendar)
