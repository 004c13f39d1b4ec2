-- The forward pass over the records: which cells the table holds before record n, and one record further.
use Prim.Native.Nat.{ℕ, zero, suc, pred, ◌+◌, ◌*◌, ◌-◌, ◌/◌, ◌%◌, ◌^◌, ◌≤◌, ◌<◌}
use mathlib.Core.Path.{◌≡◌, sym, ap, ◌∙◌, subst}
use mathlib.Core.Logic.{◌⊎◌, inl, inr}
use mathlib.Core.Bool.{true, false, not}
use mathlib.Core.List.{List}
use native.Mathlib.Nat.{two-pow-succ}
use native.Mathlib.Numerals.{add-one}
use native.Mathlib.Omega.{arith}
use native.Mathlib.Decide.{dec_lt}
use lib.Dec.{eqb, T}
use lib.ListN.{length, get_or, set, drop, drop_of_length-le}
use lib.Seq.{get_or-set_same}
use borrow.Author.Tests.{eq-eqb, ne_eqb}
use Rattle.base.specs.Lists.{any, bit}
use Rattle.base.specs.Grid.{Place, origin, Axis, X, Y, Z, along, octants}
use Rattle.base.proofs.Tests.{→true}
use Rattle.base.proofs.Lists.{in_get}
use Rattle.base.proofs.Octants.{octant→}
use Rattle.rules.specs.Survey.{Cell, cell, entry, entries, cells_of}
use Rattle.rules.specs.Outputs.{entries_right}
use Rattle.octree.proofs.Queue.{box}
use Rattle.octree.proofs.Records.{splits, splits_more, SplitRecord, entry-count, entry_of, cell-count, record-count, known, box_first, mark_of, split-record}
use Rattle.records.specs.Keys.{key_of}
use Rattle.cells.specs.Laid.{octant_key, written_at, cell_at, too_deep, key_in, level_in, Entered, LaidTo, Laid}
use Rattle.cells.proofs.Octants.{octant-key-is}
use Rattle.cells.proofs.Written.{written-here, written-before}

-- a key of a place in the box is small
pub key-small : (p : Place) → ((a : Axis) → along a p ≤ 1024) → key_of p < 281474976710656
unfolding key_of
key-small p h = omega (arith, h X, h Y, h Z)

-- what an entry says, of the key and the level it was made of
module _ (table : List ℕ) (n k l : ℕ) (e : get_or table n 0 ≡ k + 281474976710656 * l) (small : k < 281474976710656) where
  key_of_lem : key_in table n ≡ k
  unfolding key_in
  key_of_lem = omega (arith, e)

  level_of_lem : l ≤ 10 → level_in table n ≡ l
  unfolding level_in
  level_of_lem h = omega (arith, e)

-- tables with the same entry say the same
module _ (table old : List ℕ) (n : ℕ) (e : get_or table n 0 ≡ get_or old n 0) where
  same_key : key_in table n ≡ key_in old n
  unfolding key_in
  same_key = ap (λ v. v % 281474976710656) e

  same-level : level_in table n ≡ level_in old n
  unfolding level_in
  same-level = ap (λ v. v / 281474976710656 % 16) e

module _ (t : List ℕ) (three : entries_right 0 0 (entries t) ≡ true) where
  right : T (entries_right 0 0 (entries t))
  right = →true three

  -- how many records are known before record n is read
  abbrev pub ready : ℕ → ℕ
  ready n = 1 + 8 * splits n (entries t)

  -- the box
  box_entered : (table : List ℕ) → 0 < length table → LaidTo t (set table 0 2814749767106560) 1
  unfolding key_of
  box_entered table h = record { entered = enter }
    where
      first : cell (cell_at t 0).low (cell_at t 0).level false ≡ box
      first = box_first t right box

      inside : (a : Axis) → along a origin + 1024 ≤ 1024
      inside X = omega arith
      inside Y = omega arith
      inside Z = omega arith

      entry-is : get_or (set table 0 2814749767106560) 0 0 ≡ 0 + 281474976710656 * 10
      entry-is = get_or-set_same table 0 2814749767106560 0 h

      enter : (n : ℕ) → n < 1 → Entered t (set table 0 2814749767106560) n
      enter zero h = record {
        key = key_of_lem (set table 0 2814749767106560) 0 0 10 entry-is (omega arith) ∙ ap (λ (c : Cell). key_of c.low) (sym first);
        level = level_of_lem (set table 0 2814749767106560) 0 0 10 entry-is (omega arith) (omega arith) ∙ ap (λ (c : Cell). c.level) (sym first);
        shallow = subst (λ (c : Cell). c.level ≤ 10) (sym first) (omega arith);
        in_box = λ a. subst (λ (c : Cell). along a c.low + 2 ^ c.level ≤ 1024) (sym first) (inside a);
      }
      enter (suc n) h = absurd (omega arith)

  module _ (n : ℕ) (h : n < length t / 4) where
    -- a record's own cell is known
    pub own : (table : List ℕ) → LaidTo t table (ready n) → Entered t table n
    own table b = b.entered n (known t right n h)

    step : splits (n + 1) (entries t) ≡ splits n (entries t) + bit (not (eqb (entry t n) 0))
    step = rw add-one (splits_more n (entries t) (omega (arith, entry-count t)) ∙ ap (λ e. splits n (entries t) + bit (not (eqb e 0))) (entry_of t n h))

    pub leaf-step : entry t n ≡ 0 → ready (n + 1) ≡ ready n
    leaf-step e = let s = step ∙ ap (λ b. splits n (entries t) + bit (not b)) (eq-eqb (entry t n) 0 e) in omega arith

    pub leaf-shallow : entry t n ≡ 0 → too_deep (cell_at t n) ≡ false
    leaf-shallow e = rw (mark_of t right box n h, eq-eqb (entry t n) 0 e)

    module _ (e : entry t n ≡ 0 → ⊥) where
      splits_here : T (not (eqb (entry t n) 0))
      splits_here = rw (ne_eqb (entry t n) 0 e) tt

      pub split_step : ready (n + 1) ≡ ready n + 8
      split_step = let s = step ∙ ap (λ b. splits n (entries t) + bit (not b)) (ne_eqb (entry t n) 0 e) in omega arith

      here : SplitRecord t box n
      here = split-record t right box n h splits_here

      pub children-from : entry t n ≡ ready n
      children-from = here.entry-is

      pub children-fit : entry t n + 8 ≤ length t / 4
      children-fit = omega (arith, here.fits)

      pub split_deep : (cell_at t n).level ≡ 0 → too_deep (cell_at t n) ≡ true
      split_deep z = rw (mark_of t right box n h, ne_eqb (entry t n) 0 e, z)

      pub split-shallow : ((cell_at t n).level ≡ 0 → ⊥) → too_deep (cell_at t n) ≡ false
      split-shallow z = rw (mark_of t right box n h, ne_eqb (entry t n) 0 e, ne_eqb (cell_at t n).level 0 z)

      -- the children, written from the cell's own key and level
      module _ (table : List ℕ) (b : LaidTo t table (ready n)) (l : ℕ) (lower : (cell_at t n).level ≡ suc l) (room : entry t n + 8 ≤ length table) where
        abbrev c : Cell
        c = cell_at t n

        abbrev value : ℕ → ℕ
        value i = key_of c.low + octant_key i (2 ^ l) + 281474976710656 * l

        abbrev new : List ℕ
        new = written_at (λ i. key_of (cell_at t n).low + octant_key i (2 ^ l) + 281474976710656 * l) (entry t n) 8 table

        kept : (j : ℕ) → j < entry t n → Entered t new j
        kept j k =
            let o = b.entered j (omega (arith, children-from)) in
            let e = written-before value (entry t n) 8 j table room k in
            record {
              key = same_key new table j e ∙ o.key;
              level = same-level new table j e ∙ o.level;
              shallow = o.shallow;
              in_box = o.in_box;
            }

        child : (i : ℕ) → i < 8 → Entered t new (entry t n + i)
        child i k =
            let s = own table b in
            let low-is : (cell_at t (entry t n + i)).low ≡ get_or (octants (2 ^ l) c.low) i origin =
            here.child-low i k ∙ ap (λ m. get_or (octants (2 ^ pred m) c.low) i origin) lower in
            let e : get_or new (entry t n + i) 0 ≡ key_of (cell_at t (entry t n + i)).low + 281474976710656 * l =
            written-here value (entry t n) 8 i table room k ∙
            ap (λ m. m + 281474976710656 * l) (sym (ap key_of low-is ∙ octant-key-is (2 ^ l) c.low origin i k)) in
            let small = key-small (cell_at t (entry t n + i)).low (λ a. omega (arith, in_reach a)) in
            record {
              key = key_of_lem new (entry t n + i) _ l e small;
              level = level_of_lem new (entry t n + i) _ l e small (omega (arith, s.shallow)) ∙ sym level-is;
              shallow = omega (arith, s.shallow, level-is);
              in_box = in_reach;
            }
          where
            level-is : (cell_at t (entry t n + i)).level ≡ l
            level-is = here.child-level i k ∙ ap pred lower

            inside : (a : Axis) → (cell_at t (entry t n + i)).level ≡ l → (cell_at t (entry t n + i)).low ≡ get_or (octants (2 ^ l) c.low) i origin
                → 2 ^ c.level ≡ 2 ^ l + 2 ^ l → along a c.low + 2 ^ c.level ≤ 1024
                → (along a (get_or (octants (2 ^ l) c.low) i origin) ≡ along a c.low) ⊎ (along a (get_or (octants (2 ^ l) c.low) i origin)
                ≡ along a c.low + 2 ^ l)
                → along a (cell_at t (entry t n + i)).low + 2 ^ (cell_at t (entry t n + i)).level ≤ 1024
            inside a le ll se g (inl x) = rw (le, ll, x) (omega arith)
            inside a le ll se g (inr x) = rw (le, ll, x) (omega arith)

            in_reach : (a : Axis) → along a (cell_at t (entry t n + i)).low + 2 ^ (cell_at t (entry t n + i)).level ≤ 1024
            in_reach a =
                inside a level-is (here.child-low i k ∙ ap (λ m. get_or (octants (2 ^ pred m) c.low) i origin) lower)
                (ap (λ m. 2 ^ m) lower ∙ two-pow-succ l) ((own table b).in_box a)
                (octant→ (2 ^ l) c.low (get_or (octants (2 ^ l) c.low) i origin) (in_get (octants (2 ^ l) c.low) i origin k) a)

        children-entered : LaidTo t new (ready (n + 1))
        children-entered = record { entered = λ j k. go j k (dec_lt j (entry t n)) }
          where
            go : (j : ℕ) → j < ready (n + 1) → Dec (j < entry t n) → Entered t new j
            go j k (yes q) = kept j q
            go j k (no q) =
                let e : entry t n + (j - entry t n) ≡ j = omega arith in
                subst (Entered t new) e (child (j - entry t n) (omega (arith, split_step, children-from)))

      -- the same, of the numbers that the code reads and writes
      pub split-turn : (table new : List ℕ) (at key level : ℕ) → LaidTo t table (ready n) → at ≡ entry t n → key ≡ key_in table n → level ≡ level_in table n
          → (level ≡ 0 → ⊥) → length t / 4 ≤ length table
          → new ≡ written_at (λ i. key + octant_key i (2 ^ (level - 1)) + 281474976710656 * (level - 1)) at 8 table → LaidTo t new (ready (n + 1))
      split-turn table new at key level b a ek el z room e =
          let o = own table b in
          let lower : (cell_at t n).level ≡ suc (level - 1) = sym (el ∙ o.level) ∙ (omega arith) in
          rw (e, a, ek, o.key)
          (children-entered table b (level - 1) lower (omega (arith, children-fit)))

  -- there is a record
  pub some-record : 0 < length t / 4
  some-record = omega (arith, record-count t right)

  -- the box is entered, as the code writes it
  pub box_turn : (table : List ℕ) → length t / 4 ≤ length table → LaidTo t (set table 0 2814749767106560) 1
  box_turn table h = box_entered table (omega (arith, some-record))

  -- all records are read
  pub all-entered : (table : List ℕ) (n : ℕ) → n ≡ length t / 4 → LaidTo t table (ready n) → Laid t table
  all-entered table n e b = subst (LaidTo t table) (ap ready e ∙ sym (record-count t right)) b

  pub none_deeper : (n : ℕ) → length t / 4 ≤ n → any too_deep (drop n (cells_of t)) ≡ false
  none_deeper n h = ap (any too_deep) (drop_of_length-le (cells_of t) {i = n} (omega (arith, cell-count t right)))
