-- `water::term` meets its contract: no product or difference on the way is too large for 64 bits.
use Rattle.water.proofs.Sizes.{product_fits, minor_fits, term_fits, term-back}
use Rattle.water.proofs.term.Goals as goal

pub overflow_mul-result : goal.overflow_mul-result
overflow_mul-result s = let (a, b, c, d, e) = s.requires in product_fits s.args.b s.args.c b c

pub overflow_mul-result-2 : goal.overflow_mul-result-2
overflow_mul-result-2 s = let (a, b, c, d, e) = s.requires in product_fits s.args.d s.args.e d e

pub overflow_sub-result : goal.overflow_sub-result
overflow_sub-result s = let (a, b, c, d, e) = s.requires in minor_fits s.args.b s.args.c s.args.d s.args.e b c d e

pub overflow_mul-result-3 : goal.overflow_mul-result-3
overflow_mul-result-3 s = let (a, b, c, d, e) = s.requires in term_fits s.args.b s.args.c s.args.d s.args.e b c d e s.args.a a

pub returns : goal.returns
returns s = let (a, b, c, d, e) = s.requires in term-back s.args.b s.args.c s.args.d s.args.e b c d e s.args.a a
