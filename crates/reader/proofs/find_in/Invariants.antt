-- `reader::find_in`: in the search, before each turn the records below `low` have smaller keys, and those `size` further on keys that are no smaller.
use Rattle.std.proofs.Common.{ℕ, ◌+◌, ◌≤◌, ◌<◌}
use Rattle.records.proofs.Search.{key_at}
use Rattle.reader.proofs.find_in.Given as goal

abbrev pub invariant-loop-size : goal.invariant-loop-size
invariant-loop-size l = record {
  low : l.low ≤ l.count;
  size : l.size ≤ l.count;
  smaller : (j : ℕ) → j < l.low → key_at l.corners j < l.key;
  no_smaller : (j : ℕ) → l.low + l.size ≤ j → j < l.count → l.key ≤ key_at l.corners j;
}

abbrev pub decreases-loop-size : goal.decreases-loop-size
decreases-loop-size l = l.size
