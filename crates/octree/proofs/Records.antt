-- Record numbers of a table that check 3 passes: which records are about the children of a split one. For a forward pass over the records:
-- before record n is read, the cells of the first 1 + 8 × (split records before n) records are known, and record n is one of them.
use Prim.Native.Nat.{ℕ, zero, suc, pred, ◌+◌, ◌*◌, ◌/◌, ◌^◌, ◌≤◌, ◌<◌}
use mathlib.Core.Path.{◌≡◌, refl, sym, ap, ◌∙◌, subst}
use mathlib.Core.Bool.{Bool, true, false, not, ◌&&◌, cond}
use mathlib.Core.List.{List, [], ◌∷◌, ◌++◌, map}
use native.Mathlib.Omega.{arith}
use lib.Dec.{T, eqb, eqb→eq}
use lib.ListN.{length, length-append, length-drop, length-map, get_or, drop, get_or-append, get_or-map}
use lib.Seq.{drop-cons, drop-length, get_or-drop, get_or-append-add}
use Rattle.base.specs.Lists.{any, collect, count, bit}
use Rattle.base.specs.Grid.{origin, octants}
use Rattle.rules.specs.Survey.{Cell, cell, children, cells_from, cells_of, entry, entries}
use Rattle.rules.specs.Outputs.{entries_right}
use Rattle.base.proofs.Tests.{false→}
use Rattle.base.proofs.Lists.{in_get, get_any, length-count, get_count}
use Rattle.octree.proofs.Tree.{deep}
use Rattle.octree.proofs.Queue.{
  box,
  unmarked,
  kids,
  Waiting,
  split_rule,
  room,
  next_waits,
  never_empty,
  queue,
  one_each,
  queue-fits,
  box_waits,
}

-- how many of the first n entries are split
abbrev pub splits : ℕ → List ℕ → ℕ
splits zero es = 0
splits (suc n) [] = 0
splits (suc n) (e ∷ es) = bit (not (eqb e 0)) + splits n es

renumber : (es : List ℕ) (q : List Cell) {m n j k : ℕ} → m ≡ n → j ≡ k → Waiting m j es q → Waiting n k es q
renumber es q {n} {j} a b w = subst (λ k. Waiting n k es q) b (subst (λ m. Waiting m j es q) a w)

-- what is left, and what waits, when j records are read
read : (n k : ℕ) (es : List ℕ) (q : List Cell) → Waiting n k es q → (j : ℕ) → j ≤ length es →
    (r : List Cell) × Waiting (n + j) (k + splits j es) (drop j es) r × (drop j (cells_from es q) ≡ cells_from (drop j es) r)
unfolding cells_from
read n k es q w zero h = (q, renumber es q (omega arith) (omega arith) w, refl)
read n k [] q w (suc j) h = absurd (omega arith)
read n k (e ∷ es) [] w (suc j) h = absurd (never_empty n k e es w)
read n k (e ∷ es) (c ∷ q) w (suc j) h =
    let r = read (suc n) (cond (eqb e 0) k (suc k)) es (q ++ cond (eqb e 0) [] (children c)) (next_waits n k e es c q w) j (omega arith) in
    (r.0, renumber (drop j es) r.0 (omega arith) (more (eqb e 0)) r.1, r.2)
  where
    more : (b : Bool) → cond b k (suc k) + splits j es ≡ k + (bit (not b) + splits j es)
    more true = omega arith
    more false = omega arith

-- record j, with the cells that wait behind its own
pub record At (es : List ℕ) (q : List Cell) (j : ℕ) : Type 0 where
  pub first : Cell
  pub rest : List Cell
  pub waits : Waiting j (splits j es) (get_or es j 0 ∷ drop (suc j) es) (first ∷ rest)
  pub left : drop j (cells_from es q) ≡ cells_from (get_or es j 0 ∷ drop (suc j) es) (first ∷ rest)

at : (es : List ℕ) (q : List Cell) → Waiting 0 0 es q → (j : ℕ) → j < length es → At es q j
at es q w j h =
    let r = read 0 0 es q w j (omega arith) in
    let v : Waiting j (splits j es) (drop j es) r.0 = renumber (drop j es) r.0 (omega arith) (omega arith) r.1 in
    let e = drop-cons es j 0 h in
    go r.0 (subst (λ x. Waiting j (splits j es) x r.0) e v) (r.2 ∙ ap (λ x. cells_from x r.0) e)
  where
    go : (r : List Cell) → Waiting j (splits j es) (get_or es j 0 ∷ drop (suc j) es) r →
        drop j (cells_from es q) ≡ cells_from (get_or es j 0 ∷ drop (suc j) es) r → At es q j
    go [] v e = absurd (never_empty j (splits j es) (get_or es j 0) (drop (suc j) es) v)
    go (c ∷ r) v e = record { first = c; rest = r; waits = v; left = e }

-- the cells that wait are read first
waits_first : (d : Cell) (n k : ℕ) (es : List ℕ) (q : List Cell) → Waiting n k es q → (m : ℕ) → m < length q →
    unmarked (get_or (cells_from es q) m d) ≡ unmarked (get_or q m d)
waits_first d n k es q w m h =
    sym (get_or-map unmarked (cells_from es q) m d)
    ∙ ap (λ x. get_or x m (unmarked d)) (queue n k es q w)
    ∙ get_or-append (map unmarked q) (collect kids (cells_from es q)) (unmarked d) m (omega (arith, length-map q unmarked))
    ∙ get_or-map unmarked q m d

module _ (es : List ℕ) (q : List Cell) (d : Cell) (j : ℕ) (a : At es q j) where
  get_left : (m : ℕ) → get_or (cells_from es q) (j + m) d ≡ get_or (cells_from (get_or es j 0 ∷ drop (suc j) es) (a.first ∷ a.rest)) m d
  get_left m = sym (get_or-drop j (cells_from es q) m d) ∙ ap (λ x. get_or x m d) a.left

  -- the cell of record j
  cell_at : get_or (cells_from es q) j d ≡ cell a.first.low a.first.level (not (eqb (get_or es j 0) 0))
  unfolding cells_from
  cell_at = ap (λ m. get_or (cells_from es q) m d) (let e : j ≡ j + 0 = omega arith in e) ∙ get_left 0

  -- the child in place i of a split one
  child_at : T (not (eqb (get_or es j 0) 0)) → (i : ℕ) → i < 8 →
      unmarked (get_or (cells_from es q) (get_or es j 0 + i) d) ≡ unmarked (get_or (children a.first) i d)
  unfolding cells_from
  child_at s i h =
      let e = get_or es j 0 in
      let es' = drop (suc j) es in
      let c = a.first in
      let r = a.rest in
      let rule = (split_rule j (splits j es) e es' a.waits.0 s).0 in
      let known = a.waits.1 in
      let place : e + i ≡ j + suc (length r + i) = omega arith in
      let kids : cond (eqb e 0) [] (children c) ≡ children c = ap (λ b. cond b [] (children c)) (false→ (eqb e 0) s) in
      ap (λ m. unmarked (get_or (cells_from es q) m d)) place
      ∙ ap unmarked (get_left (suc (length r + i)))
      ∙ waits_first d (suc j) (cond (eqb e 0) (splits j es) (suc (splits j es))) es' (r ++ cond (eqb e 0) [] (children c))
      (next_waits j (splits j es) e es' c r a.waits) (length r + i)
      (subst (λ x. length r + i < length (r ++ x)) (sym kids) (omega (arith, length-append r (children c))))
      ∙ ap (λ x. unmarked (get_or (r ++ x) (length r + i) d)) kids
      ∙ ap unmarked (get_or-append-add r (children c) i d)

child-is : (c d : Cell) (i : ℕ) → i < 8 →
    unmarked (get_or (children c) i d) ≡ cell (get_or (octants (2 ^ pred c.level) c.low) i origin) (pred c.level) false
child-is c d i h =
    ap unmarked (get_any (children c) i d (cell origin (pred c.level) false) (omega arith))
    ∙ ap unmarked (get_or-map (λ p. cell p (pred c.level) false) (octants (2 ^ pred c.level) c.low) i origin)

count_rule : (es : List ℕ) (q : List Cell) → Waiting 0 0 es q → length es ≡ 1 + 8 * splits (length es) es
unfolding entries_right
count_rule es q w =
    let n = length es in
    let r = read 0 0 es q w n (omega arith) in
    let k = splits n es in
    let e = eqb→eq (0 + n) (1 + 8 * (0 + k)) (subst (λ x. T (entries_right (0 + n) (0 + k) x)) (drop-length es) r.1.0) in
    omega arith

-- one more record
pub splits_more : (n : ℕ) (es : List ℕ) → n < length es → splits (suc n) es ≡ splits n es + bit (not (eqb (get_or es n 0) 0))
splits_more n [] h = absurd (omega arith)
splits_more zero (e ∷ es) h = omega arith
splits_more (suc n) (e ∷ es) h = omega (arith, splits_more n es (omega arith))

-- ---- the records of a table

-- a split record n: its entry, and the cells of the eight records from its entry on (d stands for a cell beyond the table)
pub record SplitRecord (t : List ℕ) (d : Cell) (n : ℕ) : Type 0 where
  pub entry-is : entry t n ≡ 1 + 8 * splits n (entries t)
  pub above : n < entry t n
  pub fits : entry t n + 7 < length t / 4
  pub child-level : (i : ℕ) → i < 8 → (get_or (cells_of t) (entry t n + i) d).level ≡ pred (get_or (cells_of t) n d).level
  pub child-low : (i : ℕ) → i < 8 →
      (get_or (cells_of t) (entry t n + i) d).low ≡ get_or (octants (2 ^ pred (get_or (cells_of t) n d).level) (get_or (cells_of t) n d).low) i origin

pub entry-count : (t : List ℕ) → length (entries t) ≡ length t / 4
entry-count t = length-map (count 0 (length t / 4)) (entry t) ∙ length-count (length t / 4) 0

pub entry_of : (t : List ℕ) (n : ℕ) → n < length t / 4 → get_or (entries t) n 0 ≡ entry t n
entry_of t n h =
    get_any (entries t) n 0 (entry t 0) (omega (arith, entry-count t))
    ∙ get_or-map (entry t) (count 0 (length t / 4)) n 0
    ∙ ap (entry t) (get_count (length t / 4) 0 n 0 h ∙ (let e : 0 + n ≡ n = omega arith in e))

module _ (t : List ℕ) (three : T (entries_right 0 0 (entries t))) where
  -- there is a cell for each record
  pub cell-count : length (cells_of t) ≡ length t / 4
  unfolding cells_of
  cell-count = one_each 0 0 (entries t) (box ∷ []) (box_waits t three) ∙ entry-count t

  -- the rule of the record count
  pub record-count : length t / 4 ≡ 1 + 8 * splits (length t / 4) (entries t)
  record-count = subst (λ m. m ≡ 1 + 8 * splits m (entries t)) (entry-count t) (count_rule (entries t) (box ∷ []) (box_waits t three))

  at_record : (n : ℕ) → n < length t / 4 → At (entries t) (box ∷ []) n
  at_record n h = at (entries t) (box ∷ []) (box_waits t three) n (omega (arith, entry-count t))

  -- the cell of record n is known before the record is read
  pub known : (n : ℕ) → n < length t / 4 → n < 1 + 8 * splits n (entries t)
  known n h = room n (splits n (entries t)) (get_or (entries t) n 0) (drop (suc n) (entries t)) (at_record n h).waits.0

  -- record 0 is the box
  pub box_first : (d : Cell) → unmarked (get_or (cells_of t) 0 d) ≡ box
  unfolding cells_of
  box_first d = waits_first d 0 0 (entries t) (box ∷ []) (box_waits t three) 0 (omega arith)

  pub mark_of : (d : Cell) (n : ℕ) → n < length t / 4 → (get_or (cells_of t) n d).split ≡ not (eqb (entry t n) 0)
  unfolding cells_of
  mark_of d n h =
      ap (λ (c : Cell). c.split) (cell_at (entries t) (box ∷ []) d n (at_record n h)) ∙ ap (λ e. not (eqb e 0)) (entry_of t n h)

  -- what a split record says
  pub split-record : (d : Cell) (n : ℕ) → n < length t / 4 → T (not (eqb (entry t n) 0)) → SplitRecord t d n
  unfolding cells_of
  split-record d n h s = record {
    entry-is = sym e ∙ rule.0;
    above = omega (arith, rule.1, e);
    fits = omega (arith, room-left, e);
    child-level = λ i hi. ap (λ (c : Cell). c.level) (kid i hi);
    child-low = λ i hi. ap (λ (c : Cell). c.low) (kid i hi);
  }
    where
      es : List ℕ
      es = entries t

      m : ℕ
      m = get_or es n 0

      e : m ≡ entry t n
      e = entry_of t n h

      s' : T (not (eqb m 0))
      s' = subst (λ x. T (not (eqb x 0))) (sym e) s

      a : At es (box ∷ []) n
      a = at_record n h

      rule : (m ≡ 1 + 8 * splits n es) × (n < m)
      rule = split_rule n (splits n es) m (drop (suc n) es) a.waits.0 s'

      room-left : m + 7 < length t / 4
      room-left =
          let later = next_waits n (splits n es) m (drop (suc n) es) a.first a.rest a.waits in
          let k = cond (eqb m 0) (splits n es) (suc (splits n es)) in
          let fits = queue-fits (suc n) k (drop (suc n) es) (a.rest ++ cond (eqb m 0) [] (children a.first)) later in
          let one_more : k ≡ suc (splits n es) = ap (λ b. cond b (splits n es) (suc (splits n es))) (false→ (eqb m 0) s') in
          omega (arith, rule.0, later.1, length-drop (suc n) es, entry-count t)

      kid : (i : ℕ) → i < 8 → unmarked (get_or (cells_of t) (entry t n + i) d) ≡
          cell (get_or (octants (2 ^ pred (get_or (cells_of t) n d).level) (get_or (cells_of t) n d).low) i origin) (pred (get_or (cells_of t) n d).level) false
      kid i hi =
          ap (λ x. unmarked (get_or (cells_of t) (x + i) d)) (sym e)
          ∙ child_at es (box ∷ []) d n a s' i hi
          ∙ child-is a.first d i hi
          ∙ ap (λ (c : Cell). cell (get_or (octants (2 ^ pred c.level) c.low) i origin) (pred c.level) false) (sym (cell_at es (box ∷ []) d n a))

  -- where check 4 passes too, the cell of a split record is above level 0
  pub split_level : T (not (any (λ c. c.split && eqb c.level 0) (cells_of t))) →
      (d : Cell) (n : ℕ) → n < length t / 4 → T (not (eqb (entry t n) 0)) → 0 < (get_or (cells_of t) n d).level
  split_level four d n h s =
      let i = in_get (cells_of t) n d (omega (arith, cell-count)) in
      let r = deep t three four (get_or (cells_of t) n d) i (subst T (sym (mark_of d n h)) s) in
      omega (arith, r.1)
