-- `edges::ends::upper_end` meets its contract: the table's entry where the level is the lowest, else the record found by the key of the upper end.
use Prim.Native.Nat.{ℕ, ◌+◌, ◌*◌, ◌≤◌, ◌<◌}
use mathlib.Core.Path.{◌≡◌, refl, sym, ap, ◌∙◌, subst}
use native.Mathlib.Omega.{arith}
use Rattle.base.specs.Grid.{axis_of}
use Rattle.records.proofs.Keys.{get_place}
use Rattle.records.specs.Keys.{key_of, places_of, record_at}
use Rattle.edges.specs.Tables.{place_at, lowest_at, far_at, UpperEnd}
use Rattle.edges.proofs.Find.{found}
use Rattle.edges.proofs.Readings.{far_read, upper-key}
use Rattle.edges.proofs.Surveyed.{corners-few, corners_known, edge-shallow, upper-listed}
use Rattle.edges.proofs.ends.upper_end.Goals as goal
use Rattle.edges.proofs.ends.upper_end.Goals.{Start}

abbrev slot : Start → ℕ
slot s = 4872 * s.args.axis + s.args.k

module _ (s : Start) where
  level-low : s.args.level ≤ 10
  level-low = edge-shallow s.args.cells.now s.args.corners.now s.requires.corners_value (axis_of s.args.axis) _ s.args.level s.requires.axis_bound.2

  slot-inside : slot s < 14616
  slot-inside = omega (arith, corners-few s.args.cells.now s.args.corners.now s.requires.corners_value, s.requires.axis_bound.0, s.requires.axis_bound.1)

  -- the table's entry, where the level is the lowest
  from-table : lowest_at s.args.slots.now (slot s) ≡ s.args.level →
      UpperEnd s.args.corners.now (axis_of s.args.axis) s.args.k s.args.level (far_at s.args.slots.now (slot s))
  from-table e =
      let low = level-low in
      subst (λ l. UpperEnd s.args.corners.now (axis_of s.args.axis) s.args.k l (far_at s.args.slots.now (slot s))) e
      (far_read s.args.cells.now s.args.corners.now s.args.slots.now s.requires.levelled s.args.axis s.args.k (slot s) refl s.requires.axis_bound.0
      s.requires.axis_bound.1 (omega (arith, e)))

pub lowest-requires : goal.lowest-requires
lowest-requires c = (c.requires.levelled.size, slot-inside (goal.at.lowest-requires c).Start)

pub far-requires : goal.far-requires
far-requires c = (c.requires.levelled.size, slot-inside (goal.at.far-requires c).Start)

pub returns-then-lowest-level : goal.returns-then-lowest-level
returns-then-lowest-level c =
    subst (UpperEnd c.args.corners.now (axis_of c.args.axis) c.args.k c.args.level) (sym (c.from.ensures ∙ c.far.ensures))
    (from-table (goal.at.returns-then-lowest-level c).Start (sym c.lowest.ensures ∙ c.if-lowest-level.true))

pub step-requires : goal.step-requires
step-requires c =
    let t = c.args.corners.now in
    let k = c.args.k in
    let h = c.requires.axis_bound.1 in
    (omega (arith, (corners_known c.args.cells.now t c.requires.corners_value).small k h, ap key_of (get_place t k h), c.key_at.ensures), level-low (goal.at.step-requires c).Start)

pub find-requires : goal.find-requires
find-requires c = (corners_known c.args.cells.now c.args.corners.now c.requires.corners_value).rises

pub returns : goal.returns
returns c =
    let t = c.args.corners.now in
    let a = axis_of c.args.axis in
    let f = found t c.type_inv.corners (corners_known c.args.cells.now t c.requires.corners_value).rises _
    (upper-listed c.args.cells.now t c.requires.corners_value a (place_at (places_of t) c.args.k) c.args.level c.requires.axis_bound.2) in
    let e = c.find.ensures ∙ ap (record_at t) (upper-key t c.args.k c.args.level _ _ a c.requires.axis_bound.1 c.key_at.ensures
    c.step.ensures.0) in
    record { inside = omega (arith, f.0, e); place = ap (place_at (places_of t)) e ∙ f.1 }
