-- The table of cells across, one side and one split record further.
use Prim.Native.Nat.{ℕ, zero, suc, pred, ◌+◌, ◌-◌, ◌*◌, ◌/◌, ◌%◌, ◌≤◌, ◌<◌}
use mathlib.Core.Path.{◌≡◌, refl, sym, ap, ◌∙◌, subst}
use mathlib.Core.Logic.{◌⊎◌, inl, inr}
use mathlib.Core.Bool.{Bool, true, false, not}
use mathlib.Core.List.{List}
use native.Mathlib.Decide.{ℕ_discrete}
use native.Mathlib.Omega.{arith}
use lib.Dec.{T}
use lib.ListN.{length, length-set, get_or, set}
use lib.Seq.{get_or-set_same, get_or-set_other}
use Rattle.base.specs.Lists.{any, bit}
use Rattle.base.specs.Grid.{axis_number}
use Rattle.base.proofs.Tests.{below}
use Rattle.rules.specs.Survey.{cells_of, entry, entries}
use Rattle.rules.specs.Steps.{Side}
use Rattle.rules.specs.Outputs.{entries_right}
use Rattle.octree.proofs.Records.{record-count}
use Rattle.cells.specs.Laid.{cell_at, written_at, too_deep}
use Rattle.cells.proofs.Written.{written-here, written-length}
use Rattle.across.specs.Across.{side_number, split_beyond, BeyondTo}
use Rattle.across.specs.Filling.{digit, opposite_of, if_split, first_across, split_beside, child_across, SideFilled}
use Rattle.across.proofs.Facing.{beyond-inside, box_beyond}
use Rattle.across.proofs.Down.{Parent, parent_at, inner_beyond, outer_beyond, outer_none, far-parent}
use Rattle.across.proofs.Choices.{first-none, first_some, beside_none, beside_some, child_inner, child_outer}

-- ---- one child further on a side

pub side_more : (t : List ℕ) (first far i m : ℕ) (before after : List ℕ) (v : ℕ) → SideFilled t first far i m before after
    → v ≡ child_across t first far i m → 6 * (first + m) + i < length after → SideFilled t first far i (m + 1) before (set after (6 * (first + m) + i) v)
side_more t first far i m before after v s e h = record {
  same_length = length-set after at v ∙ s.same_length;
  here = λ j k. go j k (ℕ_discrete j m);
  elsewhere = λ k f. get_or-set_other after at k v 0 (f m (omega arith)) ∙ s.elsewhere k (λ j g. f j (omega arith));
}
  where
    at : ℕ
    at = 6 * (first + m) + i

    go : (j : ℕ) → j < m + 1 → Dec (j ≡ m) → get_or (set after at v) (6 * (first + j) + i) 0 ≡ child_across t first far i j
    go j k (yes q) =
        subst (λ n. get_or (set after at v) (6 * (first + n) + i) 0 ≡ child_across t first far i n) (sym q) (get_or-set_same after at v 0 h ∙ e)
    go j k (no q) = get_or-set_other after at (6 * (first + j) + i) v 0 (λ g. q (omega arith)) ∙ s.here j (omega arith)

-- ---- the sides by number

side_axis : (i : ℕ) → i < 6 → axis_number (side_number i).across ≡ i / 2
side_axis zero h = refl
side_axis (suc zero) h = refl
side_axis (suc (suc zero)) h = refl
side_axis (suc (suc (suc zero))) h = refl
side_axis (suc (suc (suc (suc zero)))) h = refl
side_axis (suc (suc (suc (suc (suc zero))))) h = refl
side_axis (suc (suc (suc (suc (suc (suc i)))))) h = absurd (omega arith)

side_upper : (i : ℕ) → i < 6 → bit (not (side_number i).upper) ≡ i % 2
side_upper zero h = refl
side_upper (suc zero) h = refl
side_upper (suc (suc zero)) h = refl
side_upper (suc (suc (suc zero))) h = refl
side_upper (suc (suc (suc (suc zero)))) h = refl
side_upper (suc (suc (suc (suc (suc zero))))) h = refl
side_upper (suc (suc (suc (suc (suc (suc i)))))) h = absurd (omega arith)

bit_not : (b : Bool) → bit b + bit (not b) ≡ 1
bit_not true = refl
bit_not false = refl

-- ---- the children of a split record

-- the table has all records before the children, and the first i sides of the children
pub record ChildrenTo (t : List ℕ) (first i : ℕ) (u : List ℕ) : Type 0 where
  pub before : BeyondTo t u first
  pub sides : (j k : ℕ) → j < 8 → k < i → get_or u (6 * (first + j) + k) 0 ≡ split_beyond (cells_of t) (side_number k) (cell_at t (first + j))

module _ (t : List ℕ) (three : T (entries_right 0 0 (entries t))) (four : T (not (any too_deep (cells_of t)))) where
  -- nothing lies across the sides of the box
  pub box_filled : (u v : List ℕ) → 6 * (length t / 4) ≤ length u → v ≡ written_at (λ i. 0) 0 6 u → BeyondTo t v 1
  box_filled u v room e = rw e (record { room = room-left; entry = first })
    where
      six : 0 + 6 ≤ length u
      six = omega (arith, record-count t three)

      room-left : 6 * (length t / 4) ≤ length (written_at (λ i. 0) 0 6 u)
      room-left = omega (arith, written-length (λ i. 0) 0 6 u six)

      first : (n i : ℕ) → n < 1 → i < 6 → get_or (written_at (λ i. 0) 0 6 u) (6 * n + i) 0 ≡ split_beyond (cells_of t) (side_number i) (cell_at t n)
      first zero i h g = written-here (λ i. 0) 0 6 i u six g ∙ sym (box_beyond t three four (side_number i))
      first (suc n) i h g = absurd (omega arith)

  module _ (n : ℕ) (h : n < length t / 4) (some : entry t n ≡ 0 → ⊥) (u : List ℕ) where
    parent : Parent t n (pred (cell_at t n).level)
    parent = parent_at t three four n h some

    -- the table's entry for side i of the parent
    module _ (i : ℕ) (g : i < 6) (own : get_or u (6 * n + i) 0 ≡ split_beyond (cells_of t) (side_number i) (cell_at t n)) where
      beyond : ℕ
      beyond = split_beyond (cells_of t) (side_number i) (cell_at t n)

      far-entry : (beyond ≡ 0 → ⊥) → entry t beyond ≡ first_across t u n i
      unfolding beyond
      far-entry f = ap (entry t) (sym own) ∙ first_some t u n i (λ z. f (sym own ∙ z))

      pub far-fits : first_across t u n i + 8 ≤ length t / 4
      unfolding beyond
      far-fits = go (ℕ_discrete beyond 0)
        where
          go : Dec (beyond ≡ 0) → first_across t u n i + 8 ≤ length t / 4
          go (yes z) = omega (arith, first-none t u n i (own ∙ z), parent.fits)
          go (no f) = omega (arith, far-entry f, (far-parent t three four (side_number i) n h f).1)

      -- what is written for a child is what lies across
      child-right : (j : ℕ) → j < 8 → child_across t (entry t n) (first_across t u n i) i j ≡ split_beyond (cells_of t) (side_number i) (cell_at t (entry t n + j))
      unfolding beyond
      child-right j k = go (ℕ_discrete (digit (i / 2) j) (i % 2))
        where
          s : Side
          s = side_number i

          l : ℕ
          l = pred (cell_at t n).level

          far : ℕ
          far = first_across t u n i

          axis-is : axis_number s.across ≡ i / 2
          axis-is = side_axis i g

          outer : (digit (i / 2) j ≡ i % 2 → ⊥) → digit (axis_number s.across) j ≡ bit s.upper
          outer d = ap (λ m. digit m j) axis-is ∙ (let e : digit (i / 2) j ≡ bit s.upper = omega (arith, side_upper i g, bit_not s.upper) in e)

          beside : (from : ℕ) → (from ≡ 0 → ⊥) → split_beside t from (i / 2) j ≡ if_split t (from + opposite_of (axis_number s.across) j)
          beside from f = sym (beside_some t from (i / 2) j f) ∙ ap (λ m. if_split t (from + opposite_of m j)) (sym axis-is)

          across : (digit (i / 2) j ≡ i % 2 → ⊥) → Dec (beyond ≡ 0) → split_beside t far (i / 2) j ≡ split_beyond (cells_of t) s (cell_at t (entry t n + j))
          across d (yes z) =
              sym (beside_none t far (i / 2) j (sym (first-none t u n i (own ∙ z)))) ∙ sym (outer_none t three four n l parent s j k (outer d) z)
          across d (no f) =
              ap (λ m. split_beside t m (i / 2) j) (sym (far-entry f))
              ∙ beside (entry t beyond) (far-parent t three four s n h f).0
              ∙ sym (outer_beyond t three four n l parent s j k (outer d) f)

          go : Dec (digit (i / 2) j ≡ i % 2) → child_across t (entry t n) far i j ≡ split_beyond (cells_of t) s (cell_at t (entry t n + j))
          go (yes e) =
              sym (child_inner t (entry t n) far i j e)
              ∙ beside (entry t n) some
              ∙ sym (inner_beyond t three four n l parent s j k (ap (λ m. digit m j) axis-is ∙ e ∙ sym (side_upper i g)))
          go (no d) = sym (child_outer t (entry t n) far i j d) ∙ across d (ℕ_discrete beyond 0)

    -- the same, where the table has all records before the children
    module _ (first i : ℕ) (is : first ≡ entry t n) (g : i < 6) (b : ChildrenTo t first i u) where
      own : get_or u (6 * n + i) 0 ≡ split_beyond (cells_of t) (side_number i) (cell_at t n)
      own = b.before.entry n i (omega (arith, parent.above)) g

      pub own_inside : (6 * n + i < length u) × (get_or u (6 * n + i) 0 < length t / 4)
      own_inside = (omega (arith, b.before.room), omega (arith, own, beyond-inside t three four (side_number i) (cell_at t n)))

      pub both_fit : (first + 8 ≤ length t / 4) × (first_across t u n i + 8 ≤ length t / 4)
      both_fit = (omega (arith, parent.fits), far-fits i g own)

      -- one side more
      pub sides-more : (far : ℕ) (v : List ℕ) → far ≡ first_across t u n i → SideFilled t first far i 8 u v → ChildrenTo t first (i + 1) v
      sides-more far v e s = record {
        before = record {
          room = omega (arith, b.before.room, s.same_length);
          entry = λ m k p q. s.elsewhere (6 * m + k) (λ j r x. omega arith) ∙ b.before.entry m k p q;
        };
        sides = λ j k p q. go j k p q (ℕ_discrete k i);
      }
        where
          here : (j : ℕ) → j < 8 → get_or v (6 * (first + j) + i) 0 ≡ split_beyond (cells_of t) (side_number i) (cell_at t (first + j))
          here j p =
              s.here j p
              ∙ subst (λ m. child_across t m far i j ≡ split_beyond (cells_of t) (side_number i) (cell_at t (m + j))) (sym is)
              (ap (λ m. child_across t (entry t n) m i j) e ∙ child-right i g own j p)

          go : (j k : ℕ) → j < 8 → k < i + 1 → Dec (k ≡ i) → get_or v (6 * (first + j) + k) 0 ≡ split_beyond (cells_of t) (side_number k) (cell_at t (first + j))
          go j k p q (yes x) =
              subst (λ m. get_or v (6 * (first + j) + m) 0 ≡ split_beyond (cells_of t) (side_number m) (cell_at t (first + j))) (sym x) (here j p)
          go j k p q (no x) = s.elsewhere (6 * (first + j) + k) (λ o r y. x (omega arith)) ∙ b.sides j k p (omega arith)

  -- all sides
  pub children_filled : (first i : ℕ) (u : List ℕ) → 6 ≤ i → ChildrenTo t first i u → BeyondTo t u (first + 8)
  children_filled first i u h b = record { room = b.before.room; entry = λ m k p q. go m k p q (below m first) }
    where
      go : (m k : ℕ) → m < first + 8 → k < 6 → (m < first) ⊎ (first ≤ m) → get_or u (6 * m + k) 0 ≡ split_beyond (cells_of t) (side_number k) (cell_at t m)
      go m k p q (inl r) = b.before.entry m k r q
      go m k p q (inr r) =
          let e : first + (m - first) ≡ m = omega arith in
          subst (λ n. get_or u (6 * n + k) 0 ≡ split_beyond (cells_of t) (side_number k) (cell_at t n)) e (b.sides (m - first) k (omega arith) (omega arith))
