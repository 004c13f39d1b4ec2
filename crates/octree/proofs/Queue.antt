-- The cells by record number, where check 3 passes the entries: the box first, then the children of each split record, in order.
use Prim.Native.Nat.{ℕ, suc, ◌+◌, ◌*◌, ◌≤◌, ◌<◌}
use mathlib.Core.Path.{◌≡◌, refl, ap, ◌∙◌, subst}
use mathlib.Core.Bool.{Bool, true, false, not, ◌&&◌, cond}
use mathlib.Core.List.{List, [], ◌∷◌, ◌++◌, map}
use native.Mathlib.Omega.{arith}
use lib.Dec.{T, eqb, eqb→eq, ltb, ltb→lt}
use lib.ListN.{length, length-append, length-map}
use Rattle.base.specs.Lists.{collect}
use Rattle.base.specs.Grid.{origin}
use Rattle.rules.specs.Survey.{Cell, cell, children, cells_from, cells_of, entries}
use Rattle.rules.specs.Outputs.{entries_right}
use Rattle.base.proofs.Tests.{and→, false→}

abbrev pub box : Cell
box = cell origin 10 false

-- a cell without its mark
abbrev pub unmarked : Cell → Cell
unmarked c = cell c.low c.level false

-- the children of a split cell; none of a leaf
abbrev pub kids : Cell → List Cell
kids c = cond c.split (children c) []

-- Records from n on, k split ones before, and the queue at n: the rule of entries holds, and the queue has the cells that are known and not read.
abbrev pub Waiting : ℕ → ℕ → List ℕ → List Cell → Type 0
Waiting n k es q = T (entries_right n k es) × (n + length q ≡ 1 + 8 * k)

-- an entry that the rule passes, 0 or not
abbrev Passed : ℕ → ℕ → ℕ → List ℕ → Bool → Bool
Passed n k e es b = cond b (entries_right (suc n) k es) (eqb e (1 + 8 * k) && (ltb n e && entries_right (suc n) (suc k) es))

split-entry : (n k e : ℕ) (es : List ℕ) → T (Passed n k e es false) → (e ≡ 1 + 8 * k) × (n < e) × T (entries_right (suc n) (suc k) es)
split-entry n k e es t =
    let u = and→ (eqb e (1 + 8 * k)) (ltb n e && entries_right (suc n) (suc k) es) t in
    let v = and→ (ltb n e) (entries_right (suc n) (suc k) es) u.1 in
    (eqb→eq e (1 + 8 * k) u.0, ltb→lt n e v.0, v.1)

-- the rule at a split record
pub split_rule : (n k e : ℕ) (es : List ℕ) → T (entries_right n k (e ∷ es)) → T (not (eqb e 0)) → (e ≡ 1 + 8 * k) × (n < e)
unfolding entries_right
split_rule n k e es t s = let u = split-entry n k e es (subst (λ b. T (Passed n k e es b)) (false→ (eqb e 0) s) t) in (u.0, u.1)

room_by : (n k e : ℕ) (es : List ℕ) (b : Bool) → (T (entries_right (suc n) k es) → suc n ≤ 1 + 8 * k) → T (Passed n k e es b) → n < 1 + 8 * k
room_by n k e es true r t = r t
room_by n k e es false r t = let s = split-entry n k e es t in omega (arith, s.0, s.1)

at_most : (n k : ℕ) (es : List ℕ) → T (entries_right n k es) → n ≤ 1 + 8 * k
unfolding entries_right
at_most n k [] t = let h = eqb→eq n (1 + 8 * k) t in omega arith
at_most n k (e ∷ es) t = let h = room_by n k e es (eqb e 0) (at_most (suc n) k es) t in omega arith

-- a record's cell is known before it is read
pub room : (n k e : ℕ) (es : List ℕ) → T (entries_right n k (e ∷ es)) → n < 1 + 8 * k
unfolding entries_right
room n k e es t = room_by n k e es (eqb e 0) (at_most (suc n) k es) t

-- the queue and the count of split records after one more record
pub next_waits : (n k e : ℕ) (es : List ℕ) (c : Cell) (q : List Cell) → Waiting n k (e ∷ es) (c ∷ q) →
    Waiting (suc n) (cond (eqb e 0) k (suc k)) es (q ++ cond (eqb e 0) [] (children c))
unfolding entries_right
next_waits n k e es c q w = go (eqb e 0) w.0
  where
    go : (b : Bool) → T (Passed n k e es b) → Waiting (suc n) (cond b k (suc k)) es (q ++ cond b [] (children c))
    go true t = (t, let h = w.1 in omega (arith, length-append q []))
    go false t = ((split-entry n k e es t).2, let h = w.1 in omega (arith, length-append q (children c)))

none_left : (n k : ℕ) (c : Cell) (q : List Cell) → Waiting n k [] (c ∷ q) → ⊥
unfolding entries_right
none_left n k c q w = let h = eqb→eq n (1 + 8 * k) w.0 in let g = w.1 in omega arith

pub never_empty : (n k e : ℕ) (es : List ℕ) → Waiting n k (e ∷ es) [] → ⊥
never_empty n k e es w = let h = room n k e es w.0 in let g = w.1 in omega arith

-- what joins the queue, said of the cell with its mark
joins : (b : Bool) (c : Cell) (q r : List Cell) → map unmarked (q ++ cond b [] (children c)) ++ r ≡ map unmarked q ++ (cond (not b) (children c) [] ++ r)
joins true c [] r = refl
joins false c [] r = refl
joins b c (d ∷ q) r = ap (λ x. unmarked d ∷ x) (joins b c q r)

-- the cells are those of the queue, then the children of each split one
pub queue : (n k : ℕ) (es : List ℕ) (q : List Cell) → Waiting n k es q → map unmarked (cells_from es q) ≡ map unmarked q ++ collect kids (cells_from es q)
unfolding cells_from
queue n k [] [] w = refl
queue n k [] (c ∷ q) w = absurd (none_left n k c q w)
queue n k (e ∷ es) [] w = refl
queue n k (e ∷ es) (c ∷ q) w =
    let later = q ++ cond (eqb e 0) [] (children c) in
    ap (λ x. unmarked c ∷ x)
    (queue (suc n) (cond (eqb e 0) k (suc k)) es later (next_waits n k e es c q w) ∙ joins (eqb e 0) c q (collect kids (cells_from es later)))

-- there is a cell for each record
pub one_each : (n k : ℕ) (es : List ℕ) (q : List Cell) → Waiting n k es q → length (cells_from es q) ≡ length es
unfolding cells_from
one_each n k [] q w = refl
one_each n k (e ∷ es) [] w = absurd (never_empty n k e es w)
one_each n k (e ∷ es) (c ∷ q) w =
    ap suc (one_each (suc n) (cond (eqb e 0) k (suc k)) es (q ++ cond (eqb e 0) [] (children c)) (next_waits n k e es c q w))

-- there are records for all cells that wait
pub queue-fits : (n k : ℕ) (es : List ℕ) (q : List Cell) → Waiting n k es q → length q ≤ length es
queue-fits n k es q w =
    let e = ap length (queue n k es q w) in
    omega (
      arith,
      one_each n k es q w,
      length-map (cells_from es q) unmarked,
      length-map q unmarked,
      length-append (map unmarked q) (collect kids (cells_from es q)),
    )

-- ---- the cells of a table

pub box_waits : (t : List ℕ) → T (entries_right 0 0 (entries t)) → Waiting 0 0 (entries t) (box ∷ [])
box_waits t r = (r, refl)

pub cells_in_order : (t : List ℕ) → T (entries_right 0 0 (entries t)) → map unmarked (cells_of t) ≡ box ∷ collect kids (cells_of t)
unfolding cells_of
cells_in_order t r = queue 0 0 (entries t) (box ∷ []) (box_waits t r)
