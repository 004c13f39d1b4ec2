-- The corners that the table of slots joins are those that the rules join.
use Prim.Native.Nat.{ℕ, ◌+◌, ◌*◌, ◌^◌, ◌≤◌, ◌<◌}
use mathlib.Core.Path.{◌≡◌, refl, sym, ap, ◌∙◌, subst}
use mathlib.Core.Logic.{◌⊎◌, inl, inr}
use mathlib.Core.Bool.{Bool, true, ◌&&◌, ◌||◌}
use mathlib.Core.List.{List}
use native.Mathlib.Omega.{arith}
use lib.Dec.{T, eqb, eqb→eq, ltb, ltb→lt, lt→ltb}
use lib.Ieee.{Float}
use lib.ListN.{get_or}
use Rattle.base.specs.Lists.{any, count}
use Rattle.base.specs.Grid.{Place, Axis, X, Y, Z, axes, axis_number, axis_of, move, same}
use Rattle.base.proofs.Tests.{and→, →and, or→, or_left, or_right, →true, eq→eqb}
use Rattle.base.proofs.Lists.{any→in, in→any, count_in}
use Rattle.base.proofs.Places.{same→, same_refl, each-axis}
use Rattle.rules.specs.Survey.{record_count, cells_of}
use Rattle.rules.specs.Edges.{undivided}
use Rattle.rules.specs.Outputs.{rising, survey_refusal, accepted, survey_of}
use Rattle.records.specs.Keys.{places_of}
use Rattle.records.proofs.Keys.{Bytes, length-places}
use Rattle.octree.specs.Lawful.{Octree}
use Rattle.octree.proofs.Accepted.{lawful}
use Rattle.octree.proofs.Levels.{one_end}
use Rattle.edges.specs.Tables.{place_at, lowest_level, lowest_at, far_at, Levelled, Wets, UpperEnd}
use Rattle.edges.proofs.Find.{one-record}
use Rattle.edges.proofs.Levels.{undivided-is}
use Rattle.edges.proofs.Readings.{edges_law, no_refusal, lowest_read, far_read}
use Rattle.edges.proofs.Surveyed.{rises-true, corners-few}
use Rattle.rules.specs.Ways.{passable, JoinedBothWays}
use Rattle.graph.specs.Table.{link_at, Links}
use Rattle.rules.specs.Ways.{runs_up, corner_graph}
use Rattle.ways.proofs.Linking.{LinkedTo}
use Rattle.ways.proofs.Marks.{mark_passes, passes_mark}

-- the lowest level of the edges from corner k on the axis with number n, and the corner where that edge ends
abbrev pub lowest_from : List ℕ → ℕ → ℕ → ℕ
lowest_from slots n k = lowest_at slots (4872 * n + k)

abbrev pub far_from : List ℕ → ℕ → ℕ → ℕ
far_from slots n k = far_at slots (4872 * n + k)

-- on the axis with number n the edge of the lowest level from corner k ends at corner m, and both are wet
pub record Step (tk wets slots : List ℕ) (n k m : ℕ) : Type 0 where
  pub axis : n < 3
  pub lower : k < record_count tk
  pub upper : m < record_count tk
  pub level : lowest_from slots n k ≤ 10
  pub far : far_from slots n k ≡ m
  pub lower_wet : get_or wets k 0 ≡ 1
  pub upper-wet : get_or wets m 0 ≡ 1

-- the tables of slots and of wet marks, of a survey that is accepted
pub record Filled (tc tk : List ℕ) (clearance : Float) (slots wets : List ℕ) : Type 0 where
  pub ok : accepted tc tk clearance ≡ true
  pub bytes : Bytes tk
  pub levelled : Levelled tc tk slots
  pub marks : Wets tk clearance wets

axis-named : (a : Axis) → (axis_of (axis_number a) ≡ a) × (axis_number a < 3)
axis-named X = (refl, omega arith)
axis-named Y = (refl, omega arith)
axis-named Z = (refl, omega arith)

module _ {tc tk : List ℕ} {clearance : Float} {slots wets : List ℕ} (filled : Filled tc tk clearance slots wets) where
  abbrev place : ℕ → Place
  place k = place_at (places_of tk) k

  refused-not : survey_refusal tc tk ≡ 0
  refused-not = no_refusal tc tk clearance filled.ok

  tree : Octree (cells_of tc)
  unfolding survey_of
  tree = (lawful tc tk clearance (→true filled.ok)).octree

  undivided-level : (a : Axis) (p : Place) (l : ℕ) →
      undivided (cells_of tc) a p l ≡ (eqb l (lowest_level (survey_of tc tk clearance) a p) && ltb (lowest_level (survey_of tc tk clearance) a p) 11)
  unfolding survey_of
  undivided-level a p l = undivided-is (survey_of tc tk clearance) (edges_law tc tk clearance filled.ok) a p l

  module _ (n k : ℕ) (g : n < 3) (h : k < record_count tk) where
    level-is : lowest_from slots n k ≡ lowest_level (survey_of tc tk clearance) (axis_of n) (place k)
    level-is = lowest_read tc tk clearance filled.ok slots filled.levelled n k (4872 * n + k) refl g h

    -- the edge of the lowest level is undivided, and ends where the table says
    pub slot-undivided : lowest_from slots n k ≤ 10 → T (undivided (cells_of tc) (axis_of n) (place k) (lowest_from slots n k))
    slot-undivided o =
        let e = level-is in
        subst T (sym (undivided-level (axis_of n) (place k) (lowest_from slots n k)))
        (→and (eqb (lowest_from slots n k) (lowest_level (survey_of tc tk clearance) (axis_of n) (place k)))
        (ltb (lowest_level (survey_of tc tk clearance) (axis_of n) (place k)) 11)
        (eq→eqb (lowest_from slots n k) (lowest_level (survey_of tc tk clearance) (axis_of n) (place k)) e)
        (lt→ltb (lowest_level (survey_of tc tk clearance) (axis_of n) (place k)) 11 (omega arith)))

    pub slot_end : lowest_from slots n k ≤ 10 → UpperEnd tk (axis_of n) k (lowest_from slots n k) (far_from slots n k)
    slot_end o = far_read tc tk slots filled.levelled n k (4872 * n + k) refl g h o

    -- no other edge from there is undivided
    only_level : (l : ℕ) → T (undivided (cells_of tc) (axis_of n) (place k) l) → (l ≡ lowest_from slots n k) × (lowest_from slots n k ≤ 10)
    only_level l u =
        let e = level-is in
        let (a, b) = and→ (eqb l (lowest_level (survey_of tc tk clearance) (axis_of n) (place k)))
        (ltb (lowest_level (survey_of tc tk clearance) (axis_of n) (place k)) 11) (subst T (undivided-level (axis_of n) (place k) l) u) in
        let c = eqb→eq l (lowest_level (survey_of tc tk clearance) (axis_of n) (place k)) a in
        let d = ltb→lt (lowest_level (survey_of tc tk clearance) (axis_of n) (place k)) 11 b in
        (omega arith, omega arith)

  rises : rising (places_of tk) ≡ true
  rises = rises-true tc tk refused-not

  -- two slots of an axis with the same upper end are one
  pub one_lower : (n j k : ℕ) → n < 3 → j < record_count tk → k < record_count tk → lowest_from slots n j ≤ 10 → lowest_from slots n k ≤ 10 →
      far_from slots n j ≡ far_from slots n k → j ≡ k
  one_lower n j k g a b c d e =
      let u = slot_end n j g a c in
      let v = slot_end n k g b d in
      one-record tk filled.bytes rises j k a b
      (one_end (cells_of tc) tree (axis_of n) (place j) (place k) (lowest_from slots n j) (lowest_from slots n k) (slot-undivided n j g a c)
      (slot-undivided n k g b d) (sym u.place ∙ ap place e ∙ v.place))

  -- ---- the rules' words

  -- the edge of level l from corner j on an axis is undivided, and ends at corner k
  abbrev runs : ℕ → ℕ → Axis → ℕ → Bool
  runs j k a l = same (move a (2 ^ l) (place j)) (place k) && undivided (cells_of tc) a (place j) l

  pub runs-slot : (j k : ℕ) → j < record_count tk → k < record_count tk → T (runs_up (cells_of tc) (places_of tk) j k) →
      (n : ℕ) × (n < 3) × (lowest_from slots n j ≤ 10) × (far_from slots n j ≡ k)
  unfolding runs_up
  runs-slot j k g h t =
      let (a, i, u) = any→in (λ a. any (runs j k a) (count 0 11)) axes t in
      let (l, m, v) = any→in (runs j k a) (count 0 11) u in
      let (e, f) = axis-named a in
      go (axis_number a) f l (subst (λ (b : Axis). T (runs j k b l)) (sym e) v)
    where
      go : (n : ℕ) → n < 3 → (l : ℕ) → T (runs j k (axis_of n) l) → (n : ℕ) × (n < 3) × (lowest_from slots n j ≤ 10) × (far_from slots n j ≡ k)
      go n f l v =
          let (s, d) = and→ (same (move (axis_of n) (2 ^ l) (place j)) (place k)) (undivided (cells_of tc) (axis_of n) (place j) l) v in
          let (e, o) = only_level n j f g l d in
          let u = slot_end n j f g o in
          let q = same→ (move (axis_of n) (2 ^ l) (place j)) (place k) s in
          let r : place (far_from slots n j) ≡ place k = u.place ∙ ap (λ (z : ℕ). move (axis_of n) (2 ^ z) (place j)) (sym e) ∙ q in
          (n, f, o, one-record tk filled.bytes rises (far_from slots n j) k u.inside h r)

  pub slot-runs : (n j k : ℕ) → n < 3 → j < record_count tk → lowest_from slots n j ≤ 10 → far_from slots n j ≡ k → T (runs_up (cells_of tc) (places_of tk) j k)
  unfolding runs_up
  slot-runs n j k f g o e =
      let l = lowest_from slots n j in
      let end = move (axis_of n) (2 ^ l) (place j) in
      let q : end ≡ place k = sym (slot_end n j f g o).place ∙ ap place e in
      let s : T (same end (place k)) = subst (λ (p : Place). T (same end p)) q (same_refl end) in
      in→any (λ a. any (runs j k a) (count 0 11)) axes (axis_of n) (each-axis (axis_of n))
      (in→any (runs j k (axis_of n)) (count 0 11) l (count_in 11 0 l (omega arith) (omega arith))
      (→and (same end (place k)) (undivided (cells_of tc) (axis_of n) (place j) l) s (slot-undivided n j f g o)))

  -- ---- the table of links

  pub step_functional : (n k m p : ℕ) → Step tk wets slots n k m → Step tk wets slots n k p → m ≡ p
  step_functional n k m p a b = sym a.far ∙ b.far

  pub step_injective : (n j k m : ℕ) → Step tk wets slots n j m → Step tk wets slots n k m → j ≡ k
  step_injective n j k m a b = one_lower n j k a.axis a.lower b.lower a.level b.level (a.far ∙ sym b.far)

  passes : (k : ℕ) → k < record_count tk → get_or wets k 0 ≡ 1 → T (passable (corner_graph tc tk clearance) k)
  passes = mark_passes tc tk clearance wets filled.marks

  passed : (k : ℕ) → T (passable (corner_graph tc tk clearance) k) → (k < record_count tk) × (get_or wets k 0 ≡ 1)
  passed = passes_mark tc tk clearance wets filled.marks

  step-joined : (n k m : ℕ) → Step tk wets slots n k m → T (runs_up (cells_of tc) (places_of tk) k m)
  step-joined n k m s = slot-runs n k m s.axis s.lower s.level s.far

  pub linked : (t : List ℕ) (x : ℕ) → 3 * record_count tk ≤ x → LinkedTo (record_count tk) (Step tk wets slots) t x → Links (corner_graph tc tk clearance) t
  unfolding corner_graph
  linked t x h l = record {
    few = let s = length-places tk in let c = corners-few tc tk refused-not in omega arith;
    room = l.room;
    within = l.within;
    sound = λ j i a b c. sound j i (let s = length-places tk in omega arith) b (let s = length-places tk in omega arith);
    complete = λ j k a b c. complete j k (passed j a) (passed k b) (or→ (runs_up (cells_of tc) (places_of tk) j k) (runs_up (cells_of tc) (places_of tk) k j) c);
  }
    where
      sound : (j i : ℕ) → j < record_count tk → i < 6 → link_at t j i < record_count tk →
          T (passable (corner_graph tc tk clearance) j) × T (passable (corner_graph tc tk clearance) (link_at t j i)) ×
          T (runs_up (cells_of tc) (places_of tk) j (link_at t j i) || runs_up (cells_of tc) (places_of tk) (link_at t j i) j)
      sound j i a b c = go (l.sound j i a b c).0 (l.sound j i a b c).1
        where
          m : ℕ
          m = link_at t j i

          go : (n : ℕ) → Step tk wets slots n j m ⊎ Step tk wets slots n m j →
              T (passable (corner_graph tc tk clearance) j) × T (passable (corner_graph tc tk clearance) m) ×
              T (runs_up (cells_of tc) (places_of tk) j m || runs_up (cells_of tc) (places_of tk) m j)
          go n (inl s) = (
            passes j s.lower s.lower_wet,
            passes m s.upper s.upper-wet,
            or_left (runs_up (cells_of tc) (places_of tk) j m) (runs_up (cells_of tc) (places_of tk) m j) (step-joined n j m s),
          )
          go n (inr s) = (
            passes j s.upper s.upper-wet,
            passes m s.lower s.lower_wet,
            or_right (runs_up (cells_of tc) (places_of tk) j m) (runs_up (cells_of tc) (places_of tk) m j) (step-joined n m j s),
          )

      complete : (j k : ℕ) → (j < record_count tk) × (get_or wets j 0 ≡ 1) → (k < record_count tk) × (get_or wets k 0 ≡ 1) →
          T (runs_up (cells_of tc) (places_of tk) j k) ⊎ T (runs_up (cells_of tc) (places_of tk) k j) → (i : ℕ) × (i < 6) × (link_at t j i ≡ k)
      complete j k (a, b) (c, d) (inl r) =
          let (n, f, o, e) = runs-slot j k a c r in
          (3 + n, omega arith, l.up n j k f (omega arith) (record { axis = f; lower = a; upper = c; level = o; far = e; lower_wet = b; upper-wet = d }))
      complete j k (a, b) (c, d) (inr r) =
          let (n, f, o, e) = runs-slot k j c a r in
          (n, omega arith, l.down n k j f (omega arith) (record { axis = f; lower = c; upper = a; level = o; far = e; lower_wet = d; upper-wet = b }))

-- an edge joins both ways
pub joined_both_ways : JoinedBothWays
unfolding JoinedBothWays corner_graph
joined_both_ways tc tk clearance j k t = go (or→ (runs_up (cells_of tc) (places_of tk) j k) (runs_up (cells_of tc) (places_of tk) k j) t)
  where
    go : T (runs_up (cells_of tc) (places_of tk) j k) ⊎ T (runs_up (cells_of tc) (places_of tk) k j) →
        T (runs_up (cells_of tc) (places_of tk) k j || runs_up (cells_of tc) (places_of tk) j k)
    go (inl u) = or_right (runs_up (cells_of tc) (places_of tk) k j) (runs_up (cells_of tc) (places_of tk) j k) u
    go (inr u) = or_left (runs_up (cells_of tc) (places_of tk) k j) (runs_up (cells_of tc) (places_of tk) j k) u
