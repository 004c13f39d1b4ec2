-- `water::determinant_of` meets its contract.
use Rattle.std.proofs.Common.{◌≡◌, ◌^◌, ◌+ℤ◌, ◌∙◌, lit<, w64, to_z, of_z}
use Rattle.base.specs.Grid.{X, Y, Z}
use Rattle.rules.specs.Water.{term}
use Rattle.water.specs.Corners.{part}
use Rattle.water.proofs.Signed.{sum_is, sum_fits, sum_back}
use Rattle.water.proofs.Sizes.{still, term_own, term_at, two_size}
use Rattle.water.proofs.determinant_of.Goals as goal
use Rattle.water.proofs.determinant_of.Goals.{After-term, After-term-2, After-term-3}

pub term-requires : goal.term-requires
term-requires c =
    let (a, b, d) = c.requires in
    (still c.args.a.x (a X), still c.args.b.y (b Y), still c.args.c.z (d Z), still c.args.b.z (b Z), still c.args.c.y (d Y))

x-part : (c : After-term) → c.term.result ≡ term (part c.args.a) (part c.args.b) (part c.args.c) X
x-part c =
    let (a, b, d) = c.requires in
    c.term.ensures ∙ term_own c.args.b.y c.args.c.z c.args.b.z c.args.c.y (b Y) (d Z) (b Z) (d Y) c.args.a.x (a X)

pub term-requires-2 : goal.term-requires-2
term-requires-2 c =
    let (a, b, d) = c.requires in
    (still c.args.a.y (a Y), still c.args.b.z (b Z), still c.args.c.x (d X), still c.args.b.x (b X), still c.args.c.z (d Z))

y-part : (c : After-term-2)
    → c.term-2.result ≡ term (part c.args.a) (part c.args.b) (part c.args.c) Y
y-part c =
    let (a, b, d) = c.requires in
    c.term-2.ensures ∙ term_own c.args.b.z c.args.c.x c.args.b.x c.args.c.z (b Z) (d X) (b X) (d Z) c.args.a.y (a Y)

pub overflow_add-result : goal.overflow_add-result
overflow_add-result c =
    let (a, b, d) = c.requires in
    let at = term_at (part c.args.a) (part c.args.b) (part c.args.c) a b d in
    sum_fits c.term.result c.term-2.result _ _ (2 ^ 43) (2 ^ 43) (x-part (goal.at.overflow_add-result c).After-term) (y-part c) (at X) (at Y) (lit< tt)

-- the first two parts, as the machine adds them
two : (c : After-term-2) → to_z w64 (of_z w64 c.term.result) +ℤ to_z w64 (of_z w64 c.term-2.result)
    ≡ term (part c.args.a) (part c.args.b) (part c.args.c) X +ℤ term (part c.args.a) (part c.args.b) (part c.args.c) Y
two c =
    let (a, b, d) = c.requires in
    let at = term_at (part c.args.a) (part c.args.b) (part c.args.c) a b d in
    sum_is c.term.result c.term-2.result _ _ (2 ^ 43) (2 ^ 43) (x-part (goal.at.After-term-2 c).After-term) (y-part c) (at X) (at Y) (lit< tt)

pub term-requires-3 : goal.term-requires-3
term-requires-3 c =
    let (a, b, d) = c.requires in
    (still c.args.a.z (a Z), still c.args.b.x (b X), still c.args.c.y (d Y), still c.args.b.y (b Y), still c.args.c.x (d X))

z-part : (c : After-term-3) → c.term-3.result ≡ term (part c.args.a) (part c.args.b) (part c.args.c) Z
z-part c =
    let (a, b, d) = c.requires in
    c.term-3.ensures ∙ term_own c.args.b.x c.args.c.y c.args.b.y c.args.c.x (b X) (d Y) (b Y) (d X) c.args.a.z (a Z)

pub overflow_add-result-2 : goal.overflow_add-result-2
overflow_add-result-2 c =
    let (a, b, d) = c.requires in
    sum_fits _ c.term-3.result _ _ (2 ^ 44) (2 ^ 43) (two (goal.at.overflow_add-result-2 c).After-term-2) (z-part c)
    (two_size (part c.args.a) (part c.args.b) (part c.args.c) a b d)
    (term_at (part c.args.a) (part c.args.b) (part c.args.c) a b d Z) (lit< tt)

pub returns : goal.returns
returns c =
    let (a, b, d) = c.requires in
    sum_back _ c.term-3.result _ _ (2 ^ 44) (2 ^ 43) (two (goal.at.returns c).After-term-2) (z-part c)
    (two_size (part c.args.a) (part c.args.b) (part c.args.c) a b d)
    (term_at (part c.args.a) (part c.args.b) (part c.args.c) a b d Z) (lit< tt)
