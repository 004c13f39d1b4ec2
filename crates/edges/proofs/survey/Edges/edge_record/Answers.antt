-- `edges::Edges::edge_record` meets its contract: the record at the place, and the levels there, say whether some cell has the edge.
use Prim.Native.Nat.{◌+◌, ◌*◌, ◌<◌}
use mathlib.Core.Path.{◌≡◌}
use mathlib.Core.Logic.{inl, inr}
use native.Mathlib.Omega.{arith}
use Rattle.base.specs.Grid.{Place, axis_of}
use Rattle.rules.specs.Survey.{record_count}
use Rattle.records.specs.Keys.{key_of, places_of, Short}
use Rattle.edges.specs.Tables.{place_at}
use Rattle.edges.proofs.Lent.{corner_bytes}
use Rattle.edges.proofs.Seeking.{nowhere, at_place, sought_miss, sought_hit}
use Rattle.edges.proofs.Readings.{corners}
use Rattle.edges.proofs.survey.Edges.edge_record.Goals as goal
use Rattle.edges.proofs.survey.Edges.edge_record.Goals.{Else-k-count}

pub find-k-requires : goal.find-k-requires
find-k-requires c = (corners c.args.self.now.survey.cells.now c.args.self.now.survey.corners.now c.args.self.now.survey.clearance c.args.self.now.survey.accepted).rises

pub returns-then-k-count : goal.returns-then-k-count
returns-then-k-count c =
    λ p w e. record {
      found = λ x. absurd (omega arith);
      none = λ x. nowhere c.args.self.now.survey.cells.now c.args.self.now.survey.corners.now c.args.self.now.survey.clearance c.args.self.now.survey.accepted (corner_bytes c.args.self.now.survey)
          (axis_of c.args.axis) p c.args.level c.args.key c.find-k.result e c.find-k.ensures c.if-k-count.true;
    }

-- a record is found
module _ (c : Else-k-count) where
  inside : c.find-k.result < record_count c.args.self.now.survey.corners.now
  inside = omega arith

  slot-inside : 4872 * c.args.axis + c.find-k.result < 14616
  slot-inside = omega (arith, inside, c.requires, (corners c.args.self.now.survey.cells.now c.args.self.now.survey.corners.now c.args.self.now.survey.clearance c.args.self.now.survey.accepted).few)

  place_is : (p : Place) → Short p → c.args.key ≡ key_of p → place_at (places_of c.args.self.now.survey.corners.now)
      c.find-k.result ≡ p
  place_is p w e =
      at_place c.args.self.now.survey.cells.now c.args.self.now.survey.corners.now c.args.self.now.survey.clearance c.args.self.now.survey.accepted (corner_bytes c.args.self.now.survey)
      (axis_of c.args.axis) p c.args.level c.args.key c.find-k.result e c.find-k.ensures w inside

pub lowest-requires : goal.lowest-requires
lowest-requires c = (c.args.self.now.levelled.size, slot-inside (goal.at.lowest-requires c).Else-k-count)

pub returns-then-level-lowest : goal.returns-then-level-lowest
returns-then-level-lowest c =
    λ p w e. sought_miss c.args.self.now.survey.cells.now c.args.self.now.survey.corners.now c.args.self.now.survey.clearance c.args.self.now.survey.accepted c.args.self.now.slots.now c.args.self.now.levelled c.args.axis
    c.find-k.result c.args.level c.requires (inside (goal.at.returns-then-level-lowest c).Else-k-count) p (place_is (goal.at.returns-then-level-lowest c).Else-k-count p w e) (inl (omega (arith, c.lowest.ensures)))

pub highest-requires : goal.highest-requires
highest-requires c = (c.args.self.now.levelled.size, slot-inside (goal.at.highest-requires c).Else-k-count)

pub returns-then-highest-level : goal.returns-then-highest-level
returns-then-highest-level c =
    λ p w e. sought_miss c.args.self.now.survey.cells.now c.args.self.now.survey.corners.now c.args.self.now.survey.clearance c.args.self.now.survey.accepted c.args.self.now.slots.now c.args.self.now.levelled c.args.axis
    c.find-k.result c.args.level c.requires (inside (goal.at.returns-then-highest-level c).Else-k-count) p (place_is (goal.at.returns-then-highest-level c).Else-k-count p w e) (inr (omega (arith, c.highest.ensures)))

pub returns : goal.returns
returns c =
    λ p w e. sought_hit c.args.self.now.survey.cells.now c.args.self.now.survey.corners.now c.args.self.now.survey.clearance c.args.self.now.survey.accepted c.args.self.now.slots.now c.args.self.now.levelled c.args.axis
    c.find-k.result c.args.level c.requires (inside (goal.at.returns c).Else-k-count) p (place_is (goal.at.returns c).Else-k-count p w e) (omega (arith, c.lowest.ensures))
    (omega (arith, c.highest.ensures))
