-- The points by slot: the edges that carry points are those of the crossed slots, in rising order, so a point's number is the count of the
-- crossed slots before its own.
use Prim.Native.Nat.{ℕ, zero, suc, ◌+◌, ◌-◌, ◌*◌, ◌/◌, ◌%◌, ◌≤◌, ◌<◌}
use mathlib.Core.Path.{◌≡◌, refl, sym, ap, ◌∙◌}
use mathlib.Core.Logic.{◌⊎◌, inl, inr}
use mathlib.Core.Bool.{Bool, true, false, ◌&&◌, cond}
use mathlib.Core.List.{List, [], ◌∷◌, ◌++◌, map, append-nil}
use native.Mathlib.Omega.{arith}
use lib.Dec.{T, eqb, ltb}
use lib.ListN.{length, get_or, drop, length-append, length-map, drop_of_length-le, get_or-map}
use lib.Seq.{drop-cons, get_or_at}
use borrow.Author.Tests.{le-ltb, lt-ltb, ne_eqb, eq-eqb}
use Rattle.base.specs.Lists.{keep, collect, count}
use Rattle.base.specs.Grid.{Place, origin, Axis, X, Y, Z, axes, axis_of}
use Rattle.base.proofs.Tests.{below}
use Rattle.base.proofs.Lists.{in_get, get_any, in_keep, in_count}
use Rattle.rules.specs.Survey.{Survey}
use Rattle.rules.specs.Edges.{CellEdge, edge, crossed, point_edges, number_of}
use Rattle.rules.specs.Steps.{edge_of}
use Rattle.edges.specs.Tables.{lowest_level, crossed_at, crossed_slot, slots_below, slot_edge, place_at}
use Rattle.edges.proofs.Levels.{Edged, crossed-is}

-- ---- lists

module _ {A : Type 0} where
  pub keep_append : (f : A → Bool) (xs ys : List A) → keep f (xs ++ ys) ≡ keep f xs ++ keep f ys
  keep_append f [] ys = refl
  keep_append f (x ∷ xs) ys = go (f x) (keep_append f xs ys)
    where
      go : (b : Bool) → keep f (xs ++ ys) ≡ keep f xs ++ keep f ys →
          cond b (x ∷ keep f (xs ++ ys)) (keep f (xs ++ ys)) ≡ cond b (x ∷ keep f xs) (keep f xs) ++ keep f ys
      go true ih = ap (λ (l : List A). x ∷ l) ih
      go false ih = ih

pub map-append : {A B : Type 0} (f : A → B) (xs ys : List A) → map f (xs ++ ys) ≡ map f xs ++ map f ys
map-append f [] ys = refl
map-append f (x ∷ xs) ys = ap (λ l. f x ∷ l) (map-append f xs ys)

pub count_append : (m n i : ℕ) → count i (m + n) ≡ count i m ++ count (i + m) n
count_append zero n i = let e : 0 + n ≡ n = omega arith in let f : i + 0 ≡ i = omega arith in rw (e, f)
count_append (suc m) n i =
    let e : suc m + n ≡ suc (m + n) = omega arith in
    let f : i + suc m ≡ suc i + m = omega arith in
    rw (e, f) (ap (λ (l : List ℕ). i ∷ l) (count_append m n (suc i)))

-- of numbers in a row a test keeps v alone, or nothing
module _ (f : ℕ → Bool) (v : ℕ) (b : Bool) (is : (l : ℕ) → f l ≡ (eqb l v && b)) where
  misses : (l : ℕ) → (l ≡ v → ⊥) → f l ≡ false
  misses l h = is l ∙ ap (λ c. c && b) (ne_eqb l v h)

  pub keep-none : (n i : ℕ) → (v < i) ⊎ (i + n ≤ v) → keep f (count i n) ≡ []
  keep-none zero i h = refl
  keep-none (suc n) i (inl h) = rw (misses i (λ e. omega arith)) (keep-none n (suc i) (inl (omega arith)))
  keep-none (suc n) i (inr h) = rw (misses i (λ e. omega arith)) (keep-none n (suc i) (inr (omega arith)))

  pub keep_one : (n i : ℕ) → i ≤ v → v < i + n → keep f (count i n) ≡ cond b (v ∷ []) []
  keep_one zero i h k = absurd (omega arith)
  keep_one (suc n) i h k = go (below i v) (λ m. keep_one n (suc i) m (omega arith))
    where
      go : (i < v) ⊎ (v ≤ i) → (i < v → keep f (count (suc i) n) ≡ cond b (v ∷ []) []) →
          cond (f i) (i ∷ keep f (count (suc i) n)) (keep f (count (suc i) n)) ≡ cond b (v ∷ []) []
      go (inl m) r = rw (misses i (λ e. omega arith)) (r m)
      go (inr m) r =
          let e : i ≡ v = omega arith in
          let g : f i ≡ b = is i ∙ ap (λ c. c && b) (eq-eqb i v e) in
          rw (g, keep-none n (suc i) (inl (omega arith)), e)

-- ---- the points at a place and axis

-- the edge of the lowest level, where it is crossed
abbrev pub point_at : Survey → Axis → Place → List CellEdge
point_at s a p = cond (crossed_at s a p) (edge a p (lowest_level s a p) ∷ []) []

module _ (s : Survey) (laws : Edged s) where
  kept : (a : Axis) (p : Place) (n : ℕ) → n ≡ 11 → keep (crossed s a p) (count 0 n) ≡ cond (crossed_at s a p) (lowest_level s a p ∷ []) []
  unfolding crossed_at
  kept a p n e = go (below (lowest_level s a p) 11)
    where
      go : (lowest_level s a p < 11) ⊎ (11 ≤ lowest_level s a p) → keep (crossed s a p) (count 0 n) ≡ cond (crossed_at s a p) (lowest_level s a p ∷ []) []
      go (inl h) = keep_one (crossed s a p) (lowest_level s a p) (crossed_at s a p) (crossed-is s laws a p) n 0 (omega arith) (omega arith)
      go (inr h) =
          let d : crossed_at s a p ≡ false = rw (le-ltb (lowest_level s a p) 11 h) in
          keep-none (crossed s a p) (lowest_level s a p) (crossed_at s a p) (crossed-is s laws a p) n 0 (inr (omega arith)) ∙
          ap (λ b. cond b (lowest_level s a p ∷ []) []) (sym d)

  here : (a : Axis) (p : Place) (n : ℕ) → n ≡ 11 → map (edge a p) (keep (crossed s a p) (count 0 n)) ≡ point_at s a p
  here a p n e = ap (map (edge a p)) (kept a p n e) ∙ go (crossed_at s a p)
    where
      go : (b : Bool) → map (edge a p) (cond b (lowest_level s a p ∷ []) []) ≡ cond b (edge a p (lowest_level s a p) ∷ []) []
      go true = refl
      go false = refl

  pub points_are : point_edges s ≡ collect (λ a. collect (point_at s a) s.places) axes
  unfolding point_edges
  points_are i = collect (λ a. collect (λ p. here a p 11 refl i) s.places) axes

-- ---- the slots of an axis

module _ (s : Survey) where
  pub slot_is : (n k i : ℕ) → i ≡ 4872 * n + k → k < 4872 → crossed_slot s i ≡ (ltb k (length s.places) && crossed_at s (axis_of n) (place_at s.places k))
  unfolding crossed_slot
  slot_is n k i e h =
      let q : i / 4872 ≡ n = omega arith in
      let r : i % 4872 ≡ k = omega arith in
      rw (q, r)

  pub edge-is : (n k i : ℕ) → i ≡ 4872 * n + k → k < 4872 →
      slot_edge s i ≡ edge (axis_of n) (place_at s.places k) (lowest_level s (axis_of n) (place_at s.places k))
  unfolding slot_edge
  edge-is n k i e h =
      let q : i / 4872 ≡ n = omega arith in
      let r : i % 4872 ≡ k = omega arith in
      rw (q, r)

  -- the slots of axis n from record k on
  row : (n m k i : ℕ) → i ≡ 4872 * n + k → k + m ≡ 4872 → length s.places ≤ 4872 →
      map (slot_edge s) (keep (crossed_slot s) (count i m)) ≡ collect (point_at s (axis_of n)) (drop k s.places)
  row n zero k i e h few = sym (ap (collect (point_at s (axis_of n))) (drop_of_length-le s.places {i = k} (omega arith)))
  row n (suc m) k i e h few = go (below k (length s.places)) (row n m (suc k) (suc i) (omega arith) (omega arith) few)
    where
      a : Axis
      a = axis_of n

      p : Place
      p = place_at s.places k

      rest : List ℕ
      rest = keep (crossed_slot s) (count (suc i) m)

      is : crossed_slot s i ≡ (ltb k (length s.places) && crossed_at s a p)
      is = slot_is n k i e (omega arith)

      here-is : slot_edge s i ≡ edge a p (lowest_level s a p)
      here-is = edge-is n k i e (omega arith)

      both : (b : Bool) (l : List CellEdge) → map (slot_edge s) rest ≡ l →
          map (slot_edge s) (cond b (i ∷ rest) rest) ≡ cond b (edge a p (lowest_level s a p) ∷ []) [] ++ l
      both true l q = λ j. here-is j ∷ q j
      both false l q = q

      go : (k < length s.places) ⊎ (length s.places ≤ k) → map (slot_edge s) rest ≡ collect (point_at s a) (drop (suc k) s.places) →
          map (slot_edge s) (cond (crossed_slot s i) (i ∷ rest) rest) ≡ collect (point_at s a) (drop k s.places)
      go (inl o) ih =
          ap (λ b. map (slot_edge s) (cond b (i ∷ rest) rest)) (is ∙ ap (λ c. c && crossed_at s a p) (lt-ltb k (length s.places) o)) ∙
          both (crossed_at s a p) (collect (point_at s a) (drop (suc k) s.places)) ih ∙
          ap (collect (point_at s a)) (sym (drop-cons s.places k origin o))
      go (inr o) ih =
          ap (λ b. map (slot_edge s) (cond b (i ∷ rest) rest)) (is ∙ ap (λ c. c && crossed_at s a p) (le-ltb k (length s.places) o)) ∙ ih ∙
          ap (collect (point_at s a)) (drop_of_length-le s.places {i = suc k} (omega arith) ∙ sym (drop_of_length-le s.places {i = k} o))

pub edge_of_lem : (s : Survey) (v : ℕ) → edge_of s v ≡ get_or (point_edges s) v (edge X origin 0)
unfolding edge_of
edge_of_lem s v = refl

module _ (s : Survey) (laws : Edged s) (few : length s.places ≤ 4872) where
  -- over variables: t slots are 14,616, w of them on each axis
  all_rows : (w t : ℕ) → w ≡ 4872 → t ≡ w + (w + w) → map (slot_edge s) (slots_below s t) ≡ point_edges s
  unfolding slots_below
  all_rows w t e h =
      let f : ℕ → Bool = crossed_slot s in
      let g : ℕ → CellEdge = slot_edge s in
      let parts : count 0 t ≡ count 0 w ++ (count (0 + w) w ++ count (0 + w + w) w) =
      ap (count 0) h ∙ count_append w (w + w) 0 ∙ ap (λ (l : List ℕ). count 0 w ++ l) (count_append w w (0 + w)) in
      let kept_parts : keep f (count 0 t) ≡ keep f (count 0 w) ++ (keep f (count (0 + w) w) ++ keep f (count (0 + w + w) w)) =
      ap (keep f) parts ∙ keep_append f (count 0 w) (count (0 + w) w ++ count (0 + w + w) w) ∙
      ap (λ (l : List ℕ). keep f (count 0 w) ++ l) (keep_append f (count (0 + w) w) (count (0 + w + w) w)) in
      ap (map g) kept_parts ∙
      map-append g (keep f (count 0 w)) (keep f (count (0 + w) w) ++ keep f (count (0 + w + w) w)) ∙
      ap (λ (l : List CellEdge). map g (keep f (count 0 w)) ++ l) (map-append g (keep f (count (0 + w) w)) (keep f (count (0 + w + w) w))) ∙
      (λ j. row s 0 w 0 0 (omega arith) (omega arith) few j ++ (row s 1 w 0 (0 + w) (omega arith) (omega arith) few j ++ row s 2 w 0 (0 + w + w)
      (omega arith) (omega arith) few j)) ∙
      ap (λ (l : List CellEdge). collect (point_at s X) s.places ++ (collect (point_at s Y) s.places ++ l))
      (sym (append-nil (collect (point_at s Z) s.places))) ∙
      sym (points_are s laws)

  -- the edges that carry the points, by slot
  pub slot_edges : map (slot_edge s) (slots_below s 14616) ≡ point_edges s
  slot_edges = all_rows 4872 14616 refl refl

  pub point-count : length (slots_below s 14616) ≡ length (point_edges s)
  point-count = sym (length-map (slots_below s 14616) (slot_edge s)) ∙ ap length slot_edges

  -- point v is carried by the edge of its slot
  pub point-edge : (v : ℕ) → v < length (slots_below s 14616) → edge_of s v ≡ slot_edge s (get_or (slots_below s 14616) v 0)
  point-edge v h =
      let n = length-map (slots_below s 14616) (slot_edge s) in
      edge_of_lem s v ∙ ap (λ (l : List CellEdge). get_or l v (edge X origin 0)) (sym slot_edges) ∙
      get_any (map (slot_edge s) (slots_below s 14616)) v (edge X origin 0) (slot_edge s 0) (omega arith) ∙
      get_or-map (slot_edge s) (slots_below s 14616) v 0

  -- the crossed slots below t, where i is one of them
  below_parts : (i r t : ℕ) → t ≡ i + suc r → crossed_slot s i ≡ true → slots_below s t ≡ slots_below s i ++ i ∷ keep (crossed_slot s) (count (suc i) r)
  unfolding slots_below
  below_parts i r t e c =
      let z : 0 + i ≡ i = omega arith in
      ap (λ (n : ℕ). keep (crossed_slot s) (count 0 n)) e ∙ ap (keep (crossed_slot s)) (count_append i (suc r) 0) ∙
      keep_append (crossed_slot s) (count 0 i) (count (0 + i) (suc r)) ∙
      ap (λ (l : List ℕ). keep (crossed_slot s) (count 0 i) ++ l) (rw (z, c))

  number_at : (i r t : ℕ) → t ≡ i + suc r → crossed_slot s i ≡ true → map (slot_edge s) (slots_below s t) ≡ point_edges s →
      number_of s (slot_edge s i) ≡ length (slots_below s i)
  number_at i r t e c q =
      let ls : List CellEdge = map (slot_edge s) (slots_below s i) in
      let rs : List CellEdge = map (slot_edge s) (keep (crossed_slot s) (count (suc i) r)) in
      let whole : point_edges s ≡ ls ++ slot_edge s i ∷ rs =
      sym q ∙ ap (map (slot_edge s)) (below_parts i r t e c) ∙ map-append (slot_edge s) (slots_below s i) (i ∷ keep (crossed_slot s) (count (suc i) r)) in
      let n : length ls ≡ length (slots_below s i) = length-map (slots_below s i) (slot_edge s) in
      let m : length (point_edges s) ≡ length ls + suc (length rs) = ap length whole ∙ length-append ls (slot_edge s i ∷ rs) in
      let at : get_or (point_edges s) (length (slots_below s i)) (slot_edge s i) ≡ slot_edge s i =
      ap (λ (l : List CellEdge). get_or l (length (slots_below s i)) (slot_edge s i)) whole ∙ get_or_at ls (slot_edge s i) rs (slot_edge s i)
      (length (slots_below s i)) n in
      ap (number_of s) (sym at) ∙ laws.numbered (slot_edge s i) (length (slots_below s i)) (omega arith)

  -- the number of a crossed slot's point is the count of crossed slots before it
  pub slot-number : (i : ℕ) → i < 14616 → crossed_slot s i ≡ true → number_of s (slot_edge s i) ≡ length (slots_below s i)
  slot-number i h c = number_at i (14615 - i) 14616 (omega arith) c slot_edges

-- ---- slots below, as a pass over the slots has them

module _ (s : Survey) where
  pub below_next : (i : ℕ) → slots_below s (i + 1) ≡ slots_below s i ++ cond (crossed_slot s i) (i ∷ []) []
  unfolding slots_below
  below_next i =
      let z : 0 + i ≡ i = omega arith in
      ap (keep (crossed_slot s)) (count_append i 1 0) ∙ keep_append (crossed_slot s) (count 0 i) (count (0 + i) 1) ∙
      ap (λ (n : ℕ). keep (crossed_slot s) (count 0 i) ++ keep (crossed_slot s) (count n 1)) z

  pub below_in : (t v : ℕ) → v < length (slots_below s t) → (get_or (slots_below s t) v 0 < t) × T (crossed_slot s (get_or (slots_below s t) v 0))
  unfolding slots_below
  below_in t v h =
      let r = in_keep (crossed_slot s) (count 0 t) (get_or (keep (crossed_slot s) (count 0 t)) v 0) (in_get (keep (crossed_slot s) (count 0 t)) v 0 h) in
      let q = in_count t 0 (get_or (keep (crossed_slot s) (count 0 t)) v 0) r.0 in
      (omega (arith, q.1), r.1)
