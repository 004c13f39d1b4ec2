-- Noting edges in the table of slots: one edge, those of a cell one after another, those of all cells.
use Prim.Native.Nat.{ℕ, zero, suc, ◌+◌, ◌*◌, ◌/◌, ◌%◌, ◌≤◌, ◌<◌, min, max}
use mathlib.Core.Path.{◌≡◌, refl, sym, ap, ◌∙◌, subst}
use mathlib.Core.Logic.{◌⊎◌, inl, inr}
use mathlib.Core.Bool.{Bool, true, false, cond}
use mathlib.Core.List.{List, [], ◌∷◌, ◌++◌}
use native.Mathlib.Decide.{ℕ_discrete}
use native.Mathlib.Omega.{arith}
use lib.Dec.{T, eqb, eqb→eq, ltb}
use lib.ListN.{length, get_or, drop, replicate, length-replicate, get_or-replicate}
use borrow.Author.Tests.{lt-ltb, le-ltb}
use Rattle.base.specs.Lists.{collect}
use Rattle.base.specs.Grid.{Place, origin, Axis, X, move, axis_of, axis_number, same}
use Rattle.base.proofs.Tests.{and→, either, true→, below}
use Rattle.base.proofs.Places.{same→}
use Rattle.base.proofs.Below.{rest}
use Rattle.rules.specs.Survey.{record_count, Cell, size}
use Rattle.rules.specs.Edges.{CellEdge, edge}
use Rattle.rules.specs.Outputs.{rising}
use Rattle.records.specs.Keys.{places_of}
use Rattle.records.proofs.Keys.{Bytes}
use Rattle.cells.specs.Laid.{cell_at}
use Rattle.octants.specs.Octants.{Octant, Octants}
use Rattle.edges.specs.Tables.{cell_edges, starts, ends, edges_of, starts_at, lowest_in, highest_in, place_at, lowest_at, highest_at, far_at}
use Rattle.edges.specs.Tables.{Tabled, UpperEnd, FarEnds, Levels}
use Rattle.edges.specs.Noting.{with_edge}
use Rattle.edges.proofs.Entries.{edge-size, edge-low, edge-high, edge-far, edge-low-other, edge-high-other, edge-far-other}
use Rattle.edges.proofs.Starts.{→start}
use Rattle.edges.proofs.Find.{one-record}
use Rattle.edges.proofs.CellEdges.{start_below, end_below, starting, ending}

axis-number : (n m : ℕ) → n < 3 → m < 3 → axis_number (axis_of n) ≡ axis_number (axis_of m) → n ≡ m
axis-number zero zero g h e = refl
axis-number zero (suc zero) g h e = e
axis-number zero (suc (suc zero)) g h e = e
axis-number zero (suc (suc (suc m))) g h e = absurd (omega arith)
axis-number (suc zero) zero g h e = e
axis-number (suc zero) (suc zero) g h e = refl
axis-number (suc zero) (suc (suc zero)) g h e = e
axis-number (suc zero) (suc (suc (suc m))) g h e = absurd (omega arith)
axis-number (suc (suc zero)) zero g h e = e
axis-number (suc (suc zero)) (suc zero) g h e = e
axis-number (suc (suc zero)) (suc (suc zero)) g h e = refl
axis-number (suc (suc zero)) (suc (suc (suc m))) g h e = absurd (omega arith)
axis-number (suc (suc (suc n))) m g h e = absurd (omega arith)

-- ---- one edge

low_step : (e : CellEdge) (es : List CellEdge) (a : Axis) (p : Place) →
    lowest_in (e ∷ es) a p ≡ cond (starts_at a p e) (min e.level (lowest_in es a p)) (lowest_in es a p)
unfolding lowest_in
low_step e es a p = refl

high-step : (e : CellEdge) (es : List CellEdge) (a : Axis) (p : Place) →
    highest_in (e ∷ es) a p ≡ cond (starts_at a p e) (max e.level (highest_in es a p)) (highest_in es a p)
unfolding highest_in
high-step e es a p = refl

-- One more edge, of level l, from corner record k on, on axis n.
module _ (tk : List ℕ) (b : Bytes tk) (up : rising (places_of tk) ≡ true) (few : record_count tk ≤ 4872) (n k l : ℕ) (g₀ : n < 3) (h : k < record_count tk) where
  abbrev new : CellEdge
  new = edge (axis_of n) (place_at (places_of tk) k) l

  starts-here : starts_at (axis_of n) (place_at (places_of tk) k) new ≡ true
  starts-here = true→ (starts_at (axis_of n) (place_at (places_of tk) k) new) (→start (axis_of n) (place_at (places_of tk) k) l)

  -- a slot is that of the edge, or the edge does not start there
  slot_or_not : (m j : ℕ) → m < 3 → j < record_count tk →
      ((m ≡ n) × (j ≡ k)) ⊎ ((4872 * m + j ≡ 4872 * n + k → ⊥) × (starts_at (axis_of m) (place_at (places_of tk) j) new ≡ false))
  slot_or_not m j p q = go (ℕ_discrete (4872 * m + j) (4872 * n + k)) (either (starts_at (axis_of m) (place_at (places_of tk) j) new))
    where
      go : Dec (4872 * m + j ≡ 4872 * n + k) →
          T (starts_at (axis_of m) (place_at (places_of tk) j) new) ⊎ (starts_at (axis_of m) (place_at (places_of tk) j) new ≡ false) →
          ((m ≡ n) × (j ≡ k)) ⊎ ((4872 * m + j ≡ 4872 * n + k → ⊥) × (starts_at (axis_of m) (place_at (places_of tk) j) new ≡ false))
      go (yes s) u = inl (omega arith, omega arith)
      go (no s) (inl u) =
          let w = and→ (same (place_at (places_of tk) j) (place_at (places_of tk) k)) (eqb (axis_number (axis_of m)) (axis_number (axis_of n))) u in
          let c = one-record tk b up j k q h (same→ (place_at (places_of tk) j) (place_at (places_of tk) k) w.0) in
          let a = axis-number m n p g₀ (eqb→eq (axis_number (axis_of m)) (axis_number (axis_of n)) w.1) in
          absurd (s (λ i. 4872 * a i + c i))
      go (no s) (inr u) = inr (s, u)

  -- g is of f over the edges, and g' after the edge, which changes f by `take` at its start
  tabled_more : (take : ℕ → ℕ → ℕ) (f : List CellEdge → Axis → Place → ℕ) →
      ((e : CellEdge) (es : List CellEdge) (a : Axis) (p : Place) → f (e ∷ es) a p ≡ cond (starts_at a p e) (take e.level (f es a p)) (f es a p)) →
      (es : List CellEdge) (g g' : ℕ → ℕ) → g' (4872 * n + k) ≡ take l (g (4872 * n + k)) → ((i : ℕ) → (i ≡ 4872 * n + k → ⊥) → g' i ≡ g i) →
      Tabled tk (f es) g → Tabled tk (f (edge (axis_of n) (place_at (places_of tk) k) l ∷ es)) g'
  tabled_more take f step es g g' same other t = λ m j p q. go m j p q (slot_or_not m j p q)
    where
      branch : Axis → Place → Bool → ℕ
      branch a p c = cond c (take l (f es a p)) (f es a p)

      go : (m j : ℕ) → m < 3 → j < record_count tk →
          ((m ≡ n) × (j ≡ k)) ⊎ ((4872 * m + j ≡ 4872 * n + k → ⊥) × (starts_at (axis_of m) (place_at (places_of tk) j) new ≡ false)) →
          g' (4872 * m + j) ≡ f (new ∷ es) (axis_of m) (place_at (places_of tk) j)
      go m j p q (inl (x, y)) =
          rw (x, y) (same ∙ ap (take l) (t n k g₀ h) ∙
          sym (step new es (axis_of n) (place_at (places_of tk) k) ∙ ap (branch (axis_of n) (place_at (places_of tk) k)) starts-here))
      go m j p q (inr (s, u)) =
          other (4872 * m + j) s ∙ t m j p q ∙
          sym (step new es (axis_of m) (place_at (places_of tk) j) ∙ ap (branch (axis_of m) (place_at (places_of tk) j)) u)

  -- the upper ends, where m is that of the edge, and `low` the lowest level before
  module _ (es : List CellEdge) (g g' : ℕ → ℕ) (t : FarEnds tk es g) (m low : ℕ) (e : low ≡ lowest_in es (axis_of n) (place_at (places_of tk) k))
      (u : UpperEnd tk (axis_of n) k l m) where
    low-here : lowest_in (new ∷ es) (axis_of n) (place_at (places_of tk) k) ≡ min l low
    low-here =
        low_step new es (axis_of n) (place_at (places_of tk) k) ∙
        ap (λ c. cond c (min l (lowest_in es (axis_of n) (place_at (places_of tk) k))) (lowest_in es (axis_of n) (place_at (places_of tk) k))) starts-here ∙
        ap (min l) (sym e)

    end_here : min l low < 11 → UpperEnd tk (axis_of n) k (min l low) (cond (ltb l low) m (g (4872 * n + k)))
    end_here o = go (below l low)
      where
        go : (l < low) ⊎ (low ≤ l) → UpperEnd tk (axis_of n) k (min l low) (cond (ltb l low) m (g (4872 * n + k)))
        go (inl s) = let q : l ≡ min l low = omega arith in rw (lt-ltb l low s) (subst (λ i. UpperEnd tk (axis_of n) k i m) q u)
        go (inr s) =
            let q : lowest_in es (axis_of n) (place_at (places_of tk) k) ≡ min l low = omega arith in
            rw (le-ltb l low s) (subst (λ i. UpperEnd tk (axis_of n) k i (g (4872 * n + k))) q (t n k g₀ h (omega arith)))

    ends_more : g' (4872 * n + k) ≡ cond (ltb l low) m (g (4872 * n + k)) → ((i : ℕ) → (i ≡ 4872 * n + k → ⊥) → g' i ≡ g i) →
        FarEnds tk (edge (axis_of n) (place_at (places_of tk) k) l ∷ es) g'
    ends_more same other = λ i j p q. go i j p q (slot_or_not i j p q)
      where
        at : ℕ → ℕ → Type 0
        at i j =
            lowest_in (new ∷ es) (axis_of i) (place_at (places_of tk) j) < 11 →
            UpperEnd tk (axis_of i) j (lowest_in (new ∷ es) (axis_of i) (place_at (places_of tk) j)) (g' (4872 * i + j))

        here : at n k
        here o = rw (low-here, same) (end_here (omega (arith, low-here)))

        go : (i j : ℕ) → i < 3 → j < record_count tk →
            ((i ≡ n) × (j ≡ k)) ⊎ ((4872 * i + j ≡ 4872 * n + k → ⊥) × (starts_at (axis_of i) (place_at (places_of tk) j) new ≡ false)) → at i j
        go i j p q (inl (x, y)) = rw (x, y) here
        go i j p q (inr (s, c)) = λ o.
            let r : lowest_in (new ∷ es) (axis_of i) (place_at (places_of tk) j) ≡ lowest_in es (axis_of i) (place_at (places_of tk) j) =
            low_step new es (axis_of i) (place_at (places_of tk) j) ∙
            ap (λ d. cond d (min l (lowest_in es (axis_of i) (place_at (places_of tk) j))) (lowest_in es (axis_of i) (place_at (places_of tk) j))) c in
            rw (r, other (4872 * i + j) s) (t i j p q (omega arith))

  -- the table, as the code changes it
  note_one : l ≤ 10 → (m : ℕ) → UpperEnd tk (axis_of n) k l m → (es : List CellEdge) (slots : List ℕ) → Levels tk es slots →
      Levels tk (edge (axis_of n) (place_at (places_of tk) k) l ∷ es) (with_edge slots (4872 * n + k) l m)
  note_one small m u es slots v =
      let i = 4872 * n + k in
      let inside : i < 14616 = omega arith in
      record {
        size = edge-size slots v.size i l m;
        low = tabled_more min lowest_in low_step es (lowest_at slots) _ (edge-low slots v.size i l m inside small) (edge-low-other slots v.size i l m)
            v.low;
        high = tabled_more max highest_in high-step es (highest_at slots) _ (edge-high slots v.size i l m inside small)
            (edge-high-other slots v.size i l m) v.high;
        far = ends_more es (far_at slots) _ v.far m (lowest_at slots i) (v.low n k g₀ h) u (edge-far slots v.size i l m inside small)
            (edge-far-other slots v.size i l m);
      }

pub levels_same : (tk : List ℕ) (es fs : List CellEdge) (slots : List ℕ) → es ≡ fs → Levels tk es slots → Levels tk fs slots
levels_same tk es fs slots e v = subst (λ gs. Levels tk gs slots) e v

-- a table of `table::EMPTY` everywhere: no edge yet
pub none_noted : (tk : List ℕ) (w : ℕ) → w ≡ 43848 → record_count tk ≤ 4872 → Levels tk [] (replicate w 0x0b0b)
unfolding lowest_in highest_in lowest_at highest_at
none_noted tk w e few = record {
  size = length-replicate w 0x0b0b ∙ e;
  low = λ n k g h. ap (λ v. v % 16) (get_or-replicate w (3 * (4872 * n + k)) 0x0b0b 0 (omega arith));
  high = λ n k g h. ap (λ v. v / 16 % 16) (get_or-replicate w (3 * (4872 * n + k)) 0x0b0b 0 (omega arith));
  far = λ n k g h o. absurd (omega arith);
}

-- ---- the twelve edges of a cell

module _ (tc tk t : List ℕ) (o : Octants tc tk t) (n : ℕ) (h : n < length tc / 4) (e : ℕ) (g : e < 12) where
  pub start_octant : Octant tc tk n (get_or starts e 0) (get_or t (8 * n + get_or starts e 0) 0)
  start_octant = o.octant n (get_or starts e 0) h (start_below e g)

  pub end_octant : Octant tc tk n (get_or ends e 0) (get_or t (8 * n + get_or ends e 0) 0)
  end_octant = o.octant n (get_or ends e 0) h (end_below e g)

  upper_end_lem : UpperEnd tk (axis_of (e / 4)) (get_or t (8 * n + get_or starts e 0) 0) (cell_at tc n).level (get_or t (8 * n + get_or ends e 0) 0)
  upper_end_lem = record {
    inside = end_octant.number;
    place =
        end_octant.place ∙ ending e g (cell_at tc n) ∙
        ap (move (axis_of (e / 4)) (size (cell_at tc n))) (sym start_octant.place);
  }

  edge-is : edge (axis_of (e / 4)) (place_at (places_of tk) (get_or t (8 * n + get_or starts e 0) 0)) (cell_at tc n).level ∷ drop (e + 1) (cell_edges (cell_at tc n)) ≡
      drop e (cell_edges (cell_at tc n))
  edge-is =
      ap (λ p. edge (axis_of (e / 4)) p (cell_at tc n).level ∷ drop (e + 1) (cell_edges (cell_at tc n))) start_octant.place ∙
      ap (λ d. d ∷ drop (e + 1) (cell_edges (cell_at tc n))) (sym (starting e g (cell_at tc n))) ∙
      sym (rest (cell_edges (cell_at tc n)) e (edge X origin 0) g)

  -- edge e of the cell of record n is noted, after those behind it
  pub note_next : Bytes tk → rising (places_of tk) ≡ true → record_count tk ≤ 4872 → (cell_at tc n).level ≤ 10 → (es : List CellEdge) (slots : List ℕ) →
      Levels tk (drop (e + 1) (cell_edges (cell_at tc n)) ++ es) slots → (l slot : ℕ) → l ≡ (cell_at tc n).level →
      slot ≡ 4872 * (e / 4) + get_or t (8 * n + get_or starts e 0) 0 → (slots' : List ℕ) → slots' ≡ with_edge slots slot l (get_or t (8 * n + get_or ends e 0) 0) →
      Levels tk (drop e (cell_edges (cell_at tc n)) ++ es) slots'
  note_next b up few small es slots v l slot q r slots' x =
      rw (x, r, q)
      (levels_same tk _ _ _ (ap (λ fs. fs ++ es) edge-is)
      (note_one tk b up few (e / 4) (get_or t (8 * n + get_or starts e 0) 0) (cell_at tc n).level (omega arith) start_octant.number small
      (get_or t (8 * n + get_or ends e 0) 0) upper_end_lem (drop (e + 1) (cell_edges (cell_at tc n)) ++ es) slots v))

-- ---- all cells

-- the edges of the cells from record i on
pub edges_from : (cells : List Cell) (d : Cell) (i : ℕ) → i < length cells →
    edges_of (drop i cells) ≡ cell_edges (get_or cells i d) ++ edges_of (drop (i + 1) cells)
unfolding edges_of
edges_from cells d i h = ap (collect cell_edges) (rest cells i d h)

pub edges_none : edges_of [] ≡ []
unfolding edges_of
edges_none = refl
