-- What a loop has yet to record of parts, one after the other; and the points of each part have room where those of all parts have.
use Prim.Native.Nat.{ℕ, ◌+◌, ◌*◌, ◌≤◌, ◌<◌}
use mathlib.Core.Path.{◌≡◌, refl, sym, ap, ◌∙◌, subst}
use mathlib.Core.Bool.{false, ◌||◌, cond}
use mathlib.Core.List.{List, [], ◌∷◌, ◌++◌, map}
use native.Mathlib.Omega.{arith}
use lib.Dec.{eqb, eqb_refl}
use lib.ListN.{length, get_or, drop, drop_of_length-le}
use borrow.Author.Tests.{lt-ltb, le-ltb, eq-eqb, ne_eqb}
use Rattle.base.specs.Lists.{any, collect, count}
use Rattle.base.proofs.Tests.{true→, →true, or_left, or_right}
use Rattle.base.proofs.Lists.{In, in→any, in_get, get_count}
use Rattle.base.proofs.Below.{rest, any-collect}
use Rattle.rules.specs.Steps.{Step}
use Rattle.trace.specs.Trace.{meets, recorded}
use Rattle.trace.proofs.Laws.{length-recorded, recorded_append}
use Rattle.faces.specs.Patterns.{step_from, step_to}
use Rattle.faces.specs.Faces.{row_edge, row_pattern, edge_steps, row_steps, small_table_steps, side_table_steps, leaf_table_steps, Fits}
use Rattle.faces.proofs.Patterns.{entering, steps_entering}
use Rattle.faces.proofs.Steps.{map-collect, step_of}

-- ---- the step that enters by an edge

module _ (crossings : List ℕ) (r m pattern j k : ℕ) (e : k ≡ step_from pattern j) where
  pub none_enters : (t : List ℕ) → 4 ≤ k → t ≡ recorded (edge_steps crossings r m pattern j) t
  unfolding edge_steps
  none_enters t h =
      let point : ℕ → ℕ = λ i. get_or crossings (13 * m + row_edge r i) 0 in
      ap (λ b. recorded (map (λ (t : Step). (point t.0, point t.1)) (cond b ((j, k) ∷ []) [])) t) (sym (le-ltb k 4 h))
      ∙ ap (λ i. recorded (map (λ (t : Step). (point t.0, point t.1)) (step_to j i)) t) e

  module _ (a b : ℕ) (h : k < 4) (ea : a ≡ get_or crossings (13 * m + row_edge r j) 0) (eb : b ≡ get_or crossings (13 * m + row_edge r k) 0) where
    pub one_enters : (a, b) ∷ [] ≡ edge_steps crossings r m pattern j
    unfolding edge_steps
    one_enters =
        let point : ℕ → ℕ = λ i. get_or crossings (13 * m + row_edge r i) 0 in
        (λ i. (ea i, eb i) ∷ [])
        ∙ ap (λ b. map (λ (t : Step). (point t.0, point t.1)) (cond b ((j, k) ∷ []) [])) (sym (lt-ltb k 4 h))
        ∙ ap (λ i. map (λ (t : Step). (point t.0, point t.1)) (step_to j i)) e

    -- it has room
    pub one-fits : (room : ℕ) → Fits (edge_steps crossings r m pattern j) room → (3 * a + 2 < room) × (3 * b + 2 < room) × (room ≤ 43849)
    one-fits room g =
        let f = subst (λ ss. Fits ss room) (sym one_enters) g in (
          f.inside a (true→ (meets ((a, b) ∷ []) a) (or_left (eqb a a || eqb a b) false (or_left (eqb a a) (eqb a b) (eqb_refl a)))),
          f.inside b (true→ (meets ((a, b) ∷ []) b) (or_left (eqb b a || eqb b b) false (or_right (eqb b a) (eqb b b) (eqb_refl b)))),
          f.small,
        )

-- the steps of a row are those that enter by the edges of its pattern
pub row_parts : (crossings : List ℕ) (r m p : ℕ) → p ≡ row_pattern crossings r m → p < 16
    → collect (edge_steps crossings r m p) (entering p) ≡ row_steps crossings r m
unfolding row_steps edge_steps
row_parts crossings r m p e h =
    let f : Step → Step = step_of (λ i. get_or crossings (13 * m + row_edge r i) 0) in
    let g : ℕ → List Step = λ j. step_to j (step_from p j) in
    sym (map-collect f g (entering p)) ∙ ap (map f) (steps_entering p h) ∙ map-collect f g (count 0 4)
    ∙ ap (λ p. collect (edge_steps crossings r m p) (count 0 4)) e

-- ---- a side, where the record across is known, and all sides

module _ (tc across crossings : List ℕ) (n i m : ℕ) (e : m ≡ get_or across (6 * n + i) 0) where
  pub own_steps : m ≡ 0 → row_steps crossings i n ≡ side_table_steps tc across crossings n i
  unfolding side_table_steps
  own_steps z =
      ap (λ b. cond b (row_steps crossings i n) (small_table_steps tc crossings (6 + i) m)) (sym (eq-eqb m 0 z))
      ∙ ap (λ m. cond (eqb m 0) (row_steps crossings i n) (small_table_steps tc crossings (6 + i) m)) e

  pub steps-across : (m ≡ 0 → ⊥) → small_table_steps tc crossings (6 + i) m ≡ side_table_steps tc across crossings n i
  unfolding side_table_steps
  steps-across z =
      ap (λ b. cond b (row_steps crossings i n) (small_table_steps tc crossings (6 + i) m)) (sym (ne_eqb m 0 z))
      ∙ ap (λ m. cond (eqb m 0) (row_steps crossings i n) (small_table_steps tc crossings (6 + i) m)) e

pub leaf_parts : (tc across crossings : List ℕ) (n : ℕ) → collect (side_table_steps tc across crossings n) (count 0 6) ≡ leaf_table_steps tc across crossings n
unfolding leaf_table_steps
leaf_parts tc across crossings n = refl

-- ---- parts one after the other

-- one part, and two
module _ (f : ℕ → List Step) (t : List ℕ) (x : ℕ) where
  pub recorded-one : recorded (f x) t ≡ recorded (collect f (x ∷ [])) t
  recorded-one = sym (recorded_append (f x) [] t)

  pub recorded-two : (y : ℕ) → recorded (f y) (recorded (f x) t) ≡ recorded (collect f (x ∷ y ∷ [])) t
  recorded-two y = sym (recorded_append (f y) [] (recorded (f x) t)) ∙ sym (recorded_append (f x) (f y ++ []) t)

-- of parts f x, one for each x of a list, those before place i are recorded
pub record Recording (f : ℕ → List Step) (xs : List ℕ) (i : ℕ) (before now : List ℕ) : Type 0 where
  pub few : i ≤ length xs
  pub same : length now ≡ length before
  -- the others lead on to what all of them lead to
  pub left : recorded (collect f (drop i xs)) now ≡ recorded (collect f xs) before

pub begun : (f : ℕ → List Step) (xs t : List ℕ) → Recording f xs 0 t t
begun f xs t = record { few = omega arith; same = refl; left = refl }

pub count_at : (n i : ℕ) → i < n → i ≡ get_or (count 0 n) i 0
count_at n i h = omega (arith, get_count n 0 i 0 h)

-- a part's points are among those of all
pub part-fits : (f : ℕ → List Step) (xs : List ℕ) (x room : ℕ) → In x xs → Fits (collect f xs) room → Fits (f x) room
part-fits f xs x room i h = record {
  small = h.small;
  inside = λ v m. h.inside v (any-collect (λ (t : Step). eqb v t.0 || eqb v t.1) f xs
      ∙ true→ (any (λ y. meets (f y) v) xs) (in→any (λ y. meets (f y) v) xs x i (→true m)));
}

module _ (f : ℕ → List Step) (xs : List ℕ) (i : ℕ) (before now : List ℕ) (r : Recording f xs i before now) where
  module _ (h : i < length xs) (x : ℕ) (e : x ≡ get_or xs i 0) where
    pub next_fits : Fits (collect f xs) (length before) → Fits (f x) (length now)
    next_fits g =
        subst (Fits (f x)) (sym r.same) (part-fits f xs x (length before) (subst (λ y. In y xs) (sym e) (in_get xs i 0 h)) g)

    -- one part more
    pub recorded-next : (later : List ℕ) → later ≡ recorded (f x) now → Recording f xs (i + 1) before later
    recorded-next later q = record {
      few = omega arith;
      same = ap length q ∙ length-recorded (f x) now ∙ r.same;
      left = ap (recorded (collect f (drop (i + 1) xs))) q ∙ sym (recorded_append (f x) (collect f (drop (i + 1) xs)) now)
          ∙ ap (λ l. recorded l now) (ap (λ y. f y ++ collect f (drop (i + 1) xs)) e ∙ sym (ap (collect f) (rest xs i 0 h))) ∙ r.left;
    }

  -- all parts
  pub recorded-all : (i < length xs → ⊥) → now ≡ recorded (collect f xs) before
  recorded-all h = sym (ap (λ l. recorded (collect f l) now) (drop_of_length-le xs {i = i} (omega arith))) ∙ r.left
