-- `places::spread` meets its contract: each arm has its axis.
-- Assumes nothing.
use mathlib.Core.Path.{sym}
use native.Mathlib.Omega.{arith}
use Rattle.places.proofs.Reckoned.{spread_x, spread_y, spread_z}
use Rattle.places.proofs.spread.Goals as goal

pub returns-in-0 : goal.returns-in-0
returns-in-0 c = rw (c.from-y.ensures, c.from-z.ensures) (sym (spread_x c.args.moved c.args.c c.args.axis c.in-0.is))

pub returns-in-1 : goal.returns-in-1
returns-in-1 c = rw (c.from-x.ensures, c.from-z.ensures) (sym (spread_y c.args.moved c.args.c c.args.axis c.in-1.is))

pub returns-in_default : goal.returns-in_default
returns-in_default c = rw (c.from-x.ensures, c.from-y.ensures) (sym (spread_z c.args.moved c.args.c c.args.axis (λ e. omega arith) (λ e. omega arith)))
