-- `twins::pairs::edge_above` meets its contract: an upper half's edge above is sought by the key of its start; a lower half's starts at the same
-- record, and the levels there say whether some cell has it.
use Prim.Native.Nat.{ℕ, suc, ◌+◌, ◌*◌, ◌≤◌}
use mathlib.Core.Path.{◌≡◌, sym, ap, ◌∙◌, subst}
use mathlib.Core.Logic.{inr}
use mathlib.Core.Bool.{true, false}
use mathlib.Core.List.{List}
use native.Mathlib.Omega.{arith}
use lib.Ieee.{Float}
use Rattle.base.specs.Grid.{Place, Axis, axis_of}
use Rattle.rules.specs.Outputs.{accepted}
use Rattle.rules.specs.Steps.{is_upper, above}
use Rattle.records.specs.Keys.{key_of, places_of}
use Rattle.records.proofs.Keys.{get_place}
use Rattle.records.proofs.Search.{key_at}
use Rattle.edges.specs.Tables.{place_at, lowest_at, highest_at, OddEdge, Sought}
use Rattle.edges.proofs.Lent.{corner_bytes}
use Rattle.edges.proofs.Readings.{corners, no_refusal}
use Rattle.edges.proofs.Surveyed.{edge-shallow}
use Rattle.edges.proofs.Seeking.{edge_levels, levels_edge, sought_miss, sought_hit}
use Rattle.twins.proofs.Climbing.{back-room, above-upper, above_short}
use Rattle.twins.proofs.Twins.{risen_upper, risen_lower, start_same, upper_half}
use Rattle.twins.proofs.pairs.edge_above.Goals as goal
use Rattle.twins.proofs.pairs.edge_above.Goals.{After-edge_record-start, Else-highest-level, Else-is_upper, Start}

module _ (s : Start) where
  abbrev tc : List ℕ
  tc = s.args.edges.now.survey.cells.now

  abbrev tk : List ℕ
  tk = s.args.edges.now.survey.corners.now

  abbrev x : Float
  x = s.args.edges.now.survey.clearance

  abbrev ok : accepted tc tk x ≡ true
  ok = s.args.edges.now.survey.accepted

  abbrev a : Axis
  a = axis_of s.args.axis

  abbrev p : Place
  p = place_at (places_of tk) s.args.k

  abbrev odd-edge : OddEdge tc tk x a s.args.k s.args.level
  odd-edge = s.requires.1

  level-low : s.args.level ≤ 10
  level-low = edge-shallow tc tk (no_refusal tc tk x ok) _ _ _ odd-edge.is_edge_lem

  key-is : (key : ℕ) → key ≡ key_at tk s.args.k → key ≡ key_of p
  key-is key e = e ∙ sym (ap key_of (get_place tk s.args.k odd-edge.inside))

  lowest-le : lowest_at s.args.edges.now.slots.now (4872 * s.args.axis + s.args.k) ≤ s.args.level
  lowest-le =
      (edge_levels tc tk x ok s.args.edges.now.slots.now s.args.edges.now.levelled s.args.axis s.args.k s.args.level s.requires.0
      odd-edge.inside odd-edge.is_edge_lem).0

pub is_upper-requires : goal.is_upper-requires
is_upper-requires c = let s = (goal.at.is_upper-requires c).Start in ((odd-edge s).inside, level-low s)

pub step_back-key-requires : goal.step_back-key-requires
step_back-key-requires c =
    let s = (goal.at.step_back-key-requires c).Start in (
      back-room (a s) _ c.args.level _ (key-is s _ c.key_at.ensures) (sym c.is_upper.ensures ∙ c.if-is_upper.true),
      level-low s,
    )

pub overflow_add-level : goal.overflow_add-level
overflow_add-level c = omega (arith, level-low (goal.at.overflow_add-level c).Start)

-- an upper half: what the search for the edge above gives
module _ (c : After-edge_record-start) where
  abbrev st : Start
  st = (goal.at.After-edge_record-start c).Start

  upper : is_upper (a st) (p st) c.args.level ≡ true
  upper = sym c.is_upper.ensures ∙ c.if-is_upper.true

  sought : Sought (tc st) (tk st) (a st) (above (a st) (p st) c.args.level) (suc c.args.level) c.edge_record-start.result
  sought =
      let l = c.args.level in
      let q : l + 1 ≡ suc l = omega arith in
      subst (λ (m : ℕ). Sought (tc st) (tk st) (a st) (above (a st) (p st) l) m c.edge_record-start.result) q
      (c.edge_record-start.ensures (above (a st) (p st) l)
      (above_short (tk st) (corner_bytes c.args.edges.now.survey) (a st) c.args.k l (odd-edge st).inside)
      (above-upper (a st) (p st) l _ (key-is st _ c.key_at.ensures) _ upper c.step_back-key.ensures))

pub highest-requires : goal.highest-requires
highest-requires c =
    let s = (goal.at.highest-requires c).Start in
    (c.args.edges.now.levelled.size, omega (arith, (odd-edge s).inside, c.requires.0, (corners (tc s) (tk s) (x s) (ok s)).few))

-- a lower half
module _ (c : Else-is_upper) where
  abbrev from : Start
  from = (goal.at.Else-is_upper c).Start

  lower : is_upper (a from) (p from) c.args.level ≡ false
  lower = sym c.is_upper.ensures ∙ c.if-is_upper.false

  same_start : p from ≡ above (a from) (p from) c.args.level
  same_start = start_same (tc from) (tk from) (x from) (ok from) (a from) c.args.k c.args.level lower

pub overflow_add-level-2 : goal.overflow_add-level-2
overflow_add-level-2 c = omega (arith, level-low (goal.at.overflow_add-level-2 c).Start)

-- the edge above a lower half is there
reaches : (c : Else-highest-level) → suc c.args.level ≤
    highest_at c.args.edges.now.slots.now (4872 * c.args.axis + c.args.k)
reaches c = omega (arith, c.highest.ensures)

pub returns-then-start-corners : goal.returns-then-start-corners
returns-then-start-corners c = (sought (goal.at.returns-then-start-corners c).After-edge_record-start).none (omega arith)

pub returns-then-is_upper : goal.returns-then-is_upper
returns-then-is_upper c =
    let g = (goal.at.returns-then-is_upper c).After-edge_record-start in
    let s = st g in
    risen_upper (tc s) (tk s) (x s) (ok s) (a s) c.args.k c.args.level c.args.end c.edge_record-start.result (upper g) c.requires.2 (omega arith)
    (sought g)

pub returns-then-highest-level : goal.returns-then-highest-level
returns-then-highest-level c =
    let s = (goal.at.returns-then-highest-level c).Start in
    (sought_miss (tc s) (tk s) (x s) (ok s) c.args.edges.now.slots.now c.args.edges.now.levelled c.args.axis c.args.k (suc c.args.level) c.requires.0
    (odd-edge s).inside _ (same_start (goal.at.returns-then-highest-level c).Else-is_upper) (inr (omega (arith, c.highest.ensures)))).none (omega arith)

pub upper_end-requires : goal.upper_end-requires
upper_end-requires c =
    let s = (goal.at.upper_end-requires c).Start in
    let low = lowest-le s in
    let u = c.requires.2 in
    let whole = levels_edge (tc s) (tk s) (x s) (ok s) c.args.edges.now.slots.now c.args.edges.now.levelled c.args.axis c.args.k (suc c.args.level)
    c.requires.0 (odd-edge s).inside (omega arith) (reaches (goal.at.upper_end-requires c).Else-highest-level) in
    record {
      corners_value = no_refusal (tc s) (tk s) (x s) (ok s);
      levelled = c.args.edges.now.levelled;
      axis_bound = (
        c.requires.0,
        u.inside,
        upper_half (tc s) (tk s) (x s) (ok s) (a s) c.args.k c.args.level c.args.end u (odd-edge s).is_edge_lem whole,
      );
    }

pub returns : goal.returns
returns c =
    let s = (goal.at.returns c).Start in
    let g = (goal.at.returns c).Else-is_upper in
    let low = lowest-le s in
    risen_lower (tc s) (tk s) (x s) (ok s) (a s) c.args.k c.args.level (lower g) c.args.end c.upper_end.result c.requires.2 c.upper_end.ensures
    (odd-edge s).inside
    (sought_hit (tc s) (tk s) (x s) (ok s) c.args.edges.now.slots.now c.args.edges.now.levelled c.args.axis c.args.k (suc c.args.level) c.requires.0
    (odd-edge s).inside _ (same_start g) (omega arith) (reaches (goal.at.returns c).Else-highest-level))
