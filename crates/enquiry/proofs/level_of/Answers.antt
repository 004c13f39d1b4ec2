-- `enquiry::level_of` meets its contract: the first level whose size is the length.
use Rattle.std.proofs.Common.{rules}
use Prim.Native.Nat.{◌^◌}
use mathlib.Core.Path.{◌≡◌, ◌∙◌}
use borrow.Author.Tests.{tests}
use Rattle.std.proofs.lemmas.Iterator.{first_from_Range}
use Rattle.enquiry.proofs.Enquiring.{level_sought}
use Rattle.enquiry.proofs.level_of.Goals as goal

pub returns : goal.returns
returns c =
    let size = c.args.length in
    c.unwrap_or.ensures
    ∙ level_sought size c.find.result
    (first_from_Range _ _ _ _ (λ l. 2 ^ l ≡ size) (λ l. 2 ^ l ≡ size → ⊥) c.find.ensures.ran (λ x q k. search (rules, tests)) (λ x q k. search (rules, tests)))
