-- `digits::digit` meets its contract: a shift by four places divides by sixteen.
use Rattle.std.proofs.Common.{◌*◌, ◌/◌, ◌%◌, ◌^◌, refl, ap}
use Rattle.base.proofs.Alike.{alike}
use Rattle.digits.proofs.digit.Goals as goal

pub returns : goal.returns
returns c = ap (λ d. c.args.number / d % 16) (alike 0 16 (λ i. 2 ^ (4 * i)) (λ i. 16 ^ i) refl c.args.i c.requires)
