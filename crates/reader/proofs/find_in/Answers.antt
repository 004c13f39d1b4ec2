-- `reader::find_in` meets its contract. In records that rise, a guessed record with the key is the one that the look-up gives.
use Rattle.std.proofs.Common.{◌≡◌, ◌∙◌, arith}
use Rattle.records.proofs.Search.{key_at, from_middle, is_at_lem, is_nowhere, keys_rise}
use Rattle.reader.proofs.find_in.Goals as goal
use Rattle.reader.proofs.find_in.Goals.{else-low-count-via-then-low-count+else-key_at-key-2, else-low-count-via-else-low-count}

pub returns-then-key_at-key : goal.returns-then-key_at-key
returns-then-key_at-key c =
    let t = c.args.corners.now in
    let guess = c.in-Some.guess in
    let here : c.args.key ≡ key_at t guess = omega arith in
    let rise = keys_rise t c.type_inv.corners c.requires.1 in
    is_at_lem t c.args.key guess (omega arith) here (λ j l. omega (arith, here, rise j guess l (omega arith)))

pub returns-then-key_at-key-2 : goal.returns-then-key_at-key-2
returns-then-key_at-key-2 c =
    is_at_lem c.args.corners.now c.args.key c.loop-size.low (omega arith) (omega arith) c.loop-size.invariant.smaller

pub returns : goal.returns
returns c =
    let t = c.args.corners.now in
    let low = c.loop-size.low in
    c.requires.0 ∙ is_nowhere t c.args.key low c.loop-size.invariant.smaller (elim c.else-low-count.branch [
      | else-low-count-via-then-low-count+else-key_at-key-2 w ↦
          from_middle t c.type_inv.corners c.requires.1 low _
          (omega (arith, c.loop-size.invariant.no_smaller low (omega arith) (omega arith)))
      | else-low-count-via-else-low-count w ↦ λ j h k. omega arith
    ])
