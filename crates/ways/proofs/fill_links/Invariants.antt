-- `ways::fill_links` meets its contract: before each turn the links of the corners passed are in.
use Prim.Native.Nat.{◌*◌}
use Rattle.ways.proofs.Slots.{Linked}
use Rattle.ways.proofs.fill_links.Given as goal

abbrev pub invariant-loop-k : goal.invariant-loop-k
invariant-loop-k l = Linked l.edges.survey.corners.now l.wets l.edges.slots.now l.links (3 * l.k)
