-- The small faces of the rules are those of document 01's sentence.
--     small_faces_lem       on each side of a leaf of a lawful survey, the rules list each face that the sentence names once, and no other
--     faces_named       so a face is listed where the sentence names it
--     accepted_faces    the same of all tables that are accepted
-- The sentence is worked out on one leaf first, so that a wrong sentence shows.
-- Assumes nothing.
use Prim.Native.Nat.{ℕ, ◌+◌, ◌*◌, ◌^◌, ◌≤◌}
use native.Mathlib.Omega.{arith}
use mathlib.Core.Path.{◌≡◌, refl, sym, ◌∙◌, ap, subst, fun_ext}
use mathlib.Core.Logic.{◌⊎◌, inl, inr}
use mathlib.Core.Bool.{Bool, true, false, not, ◌&&◌, cond}
use mathlib.Core.List.{List, [], ◌∷◌, ◌++◌}
use lib.Dec.{T, eqb, eqb→eq, leb, leb→le, le→leb}
use lib.Ieee.{Float}
use lib.ListN.{replicate}
use Rattle.base.specs.Lists.{any, keep, sum, bit}
use Rattle.base.specs.Grid.{Place, origin, Axis, X, Y, Z, next, along, move, back, same}
use Rattle.rules.specs.Survey.{Cell, cell, size, cells_of, Survey, cells_from}
use Rattle.rules.specs.Steps.{Side, upper_side, lower_side, side_by, sides, Face, face, same_face, side_low, split_across, small_faces}
use Rattle.rules.specs.Outputs.{accepted, survey_of}
use Rattle.base.proofs.Tests.{and→, →and, →true, either, tests_equal, bit-true, bit_le}
use Rattle.base.proofs.Lists.{In, any→in, in→any}
use Rattle.base.proofs.Sums.{sum-zero, sum_same, sum-le, in_sum, times}
use Rattle.base.proofs.Places.{every_axis, same→, back-move}
use Rattle.octree.specs.Lawful.{is_at, is_cell, copies, Octree, Lawful}
use Rattle.octree.proofs.Cells.{→at, →cell}
use Rattle.octree.proofs.Accepted.{lawful}
use Rattle.geometry.specs.SmallFaces.{side_of, opposite, is_across, split_beyond, meets, inside, touches, is_side_inside, is_small_face}
use Rattle.geometry.proofs.Grid.{place, half, along-across, along-first, along-second, place_of}
use Rattle.geometry.proofs.Nested.{bit_no, axes→, →axes, inside→}
use Rattle.geometry.proofs.Touching.{near_at, own_low, near_low, fits, fits→, →fits, part, small_own, small_near}

-- ---- the sentence on one leaf

-- Record 2 of the twin survey, in the upper half of x. Across its lower side on x is record 1, which is split into leaves; across its upper side on y
-- is a leaf; its upper side on x lies on the box's outside.
abbrev twin_cells : List Cell
unfolding cells_from
twin_cells = cells_from (1 ∷ 9 ∷ replicate 15 0) (cell origin 10 false ∷ [])

abbrev twin_leaf : Cell
twin_leaf = cell (place X 512 0 0) 9 false

-- the sides of the four leaves in record 1 that touch the leaf
abbrev touching : List Face
touching = face (place X 512 0 0) 8 ∷ face (place X 512 256 0) 8 ∷ face (place X 512 0 256) 8 ∷ face (place X 512 256 256) 8 ∷ []

-- those, and a side of a leaf in record 1 that does not touch, a side of record 1, a side of record 3, and the leaf's upper side on x
abbrev candidates : List Face
candidates = touching ++ (face (place X 256 0 0) 8 ∷ face (place X 512 0 0) 9 ∷ face (place X 512 512 0) 9 ∷ face (place X 1024 0 0) 9 ∷ [])

split-across : keep (is_small_face twin_cells (lower_side X) twin_leaf) candidates ≡ touching
unfolding is_small_face cells_from
split-across = refl

leaf-across : keep (is_small_face twin_cells (upper_side Y) twin_leaf) candidates ≡ face (place X 512 512 0) 9 ∷ []
unfolding is_small_face cells_from
leaf-across = refl

outside : keep (is_small_face twin_cells (upper_side X) twin_leaf) candidates ≡ face (place X 1024 0 0) 9 ∷ []
unfolding is_small_face cells_from
outside = refl

-- ---- tests and counts

bit_and : (x y : Bool) → bit (x && y) ≡ bit x * bit y
bit_and true y = omega arith
bit_and false y = omega arith

bit→ : (b : Bool) → 1 ≤ bit b → T b
bit→ true h = tt
bit→ false h = omega arith

-- where at most one element of a list passes a test, one does if any does
any-once : {A : Type 0} (t : A → Bool) (xs : List A) → sum (λ x. bit (t x)) xs ≤ 1 → sum (λ x. bit (t x)) xs ≡ bit (any t xs)
any-once {A} t xs h = go (either (any t xs))
  where
    go : T (any t xs) ⊎ (any t xs ≡ false) → sum (λ x. bit (t x)) xs ≡ bit (any t xs)
    go (inl s) = let (x, i, u) = any→in t xs s in omega (arith, in_sum (λ x. bit (t x)) xs x i, bit-true (t x) u, bit-true (any t xs) s)
    go (inr e) =
        sum_same (λ x. bit (t x)) (λ x. 0) xs (λ x i. bit_no (t x) (λ u. subst T e (in→any t xs x i u))) ∙ sum-zero xs ∙ sym (ap bit e)

-- ---- the cell across

pub same_face→ : (f g : Face) → T (same_face f g) → (f.level ≡ g.level) × (f.low ≡ g.low)
same_face→ f g t =
    let u = and→ (eqb f.level g.level) (same f.low g.low) t in
    (eqb→eq f.level g.level u.0, same→ f.low g.low u.1)

-- coordinates of equal places
coordinates : (a : Axis) (n u v n' u' v' : ℕ) → place a n u v ≡ place a n' u' v' → (n ≡ n') × (u ≡ u') × (v ≡ v')
coordinates a n u v n' u' v' e = (
  sym (along-across a n u v) ∙ ap (along a) e ∙ along-across a n' u' v',
  sym (along-first a n u v) ∙ ap (along (next a)) e ∙ along-first a n' u' v',
  sym (along-second a n u v) ∙ ap (along (next (next a))) e ∙ along-second a n' u' v',
)

-- how e lies across c
record Across (a : Axis) (b : Bool) (c e : Cell) : Type 0 where
  level : c.level ≡ e.level
  face-low : side_low (side_by a b) c ≡ side_low (opposite (side_by a b)) e
  plane : half b c.level (along a c.low) ≡ near_at a b e
  first : along (next a) c.low ≡ along (next a) e.low
  second : along (next (next a)) c.low ≡ along (next (next a)) e.low

across→ : (a : Axis) (b : Bool) (c e : Cell) → T (is_across (side_by a b) c e) → Across a b c e
across→ a b c e t =
    let (level, low) = same_face→ (side_of (side_by a b) c) (side_of (opposite (side_by a b)) e) t in
    let (plane, first, second) = coordinates a
    (half b c.level (along a c.low)) (along (next a) c.low) (along (next (next a)) c.low)
    (near_at a b e) (along (next a) e.low) (along (next (next a)) e.low)
    (sym (own_low a b c) ∙ low ∙ near_low a b e) in
    record { level = level; face-low = low; plane = plane; first = first; second = second }

-- ---- a cell inside the cell across touches the leaf where its near side lies in the plane

-- on an axis, neither of c and d ends before the other begins
abbrev Meet : Cell → Cell → Axis → Type 0
Meet c d a = (along a d.low ≤ along a c.low + size c) × (along a c.low ≤ along a d.low + size d)

touches→ : (c d : Cell) → T (touches c d) → (a : Axis) → Meet c d a
touches→ c d t a =
    let u = and→ (leb (along a d.low) (along a c.low + size c)) (leb (along a c.low) (along a d.low + size d))
    (axes→ (λ y. meets (along y d.low) (size d) (along y c.low) (size c)) t a) in
    (leb→le (along a d.low) (along a c.low + size c) u.0, leb→le (along a c.low) (along a d.low + size d) u.1)

→touches : (c d : Cell) → ((a : Axis) → Meet c d a) → T (touches c d)
→touches c d h = →axes (λ y. meets (along y d.low) (size d) (along y c.low) (size c)) (λ a.
    →and (leb (along a d.low) (along a c.low + size c)) (leb (along a c.low) (along a d.low + size d))
    (le→leb (along a d.low) (along a c.low + size c) (h a).0) (le→leb (along a c.low) (along a d.low + size d) (h a).1))

plane→ : (a : Axis) (b : Bool) (c e d : Cell) → Across a b c e → T (inside e d) → T (touches c d) → near_at a b e ≡ near_at a b d
plane→ a true c e d x i t = let (f, g) = inside→ e d i a in let (h, k) = touches→ c d t a in let p = x.plane in omega arith
plane→ a false c e d x i t = let (f, g) = inside→ e d i a in let (h, k) = touches→ c d t a in let p = x.plane in omega arith

→plane : (a : Axis) (b : Bool) (c e d : Cell) → Across a b c e → T (inside e d) → near_at a b e ≡ near_at a b d → T (touches c d)
→plane a b c e d x i h = →touches c d (every_axis (Meet c d) a (across b (x.plane ∙ h)) (beside (next a) x.first) (beside (next (next a)) x.second))
  where
    across : (b : Bool) → half b c.level (along a c.low) ≡ near_at a b d → Meet c d a
    across true g = (omega arith, omega arith)
    across false g = (omega arith, omega arith)

    beside : (y : Axis) → along y c.low ≡ along y e.low → Meet c d y
    beside y g = let (f, k) = inside→ e d i y in let s = ap (λ n. 2 ^ n) x.level in (omega arith, omega arith)

-- ---- the faces beyond one side

-- what document 01 says of a leaf whose side is a small face
pub side_inside→ : (side : Side) (c : Cell) (f : Face) (e d : Cell) → T (is_side_inside side c f e d) →
    T (inside e d) × T (touches c d) × T (not d.split) × T (same_face f (side_of (opposite side) d))
side_inside→ side c f e d t =
    let is = same_face f (side_of (opposite side) d) in
    let u = and→ (inside e d) (touches c d && (not d.split && is)) t in
    let v = and→ (touches c d) (not d.split && is) u.1 in
    let w = and→ (not d.split) is v.1 in
    (u.0, v.0, w.0, w.1)

→side_inside : (side : Side) (c : Cell) (f : Face) (e d : Cell) → T (inside e d) → T (touches c d) → T (not d.split) →
    T (same_face f (side_of (opposite side) d)) → T (is_side_inside side c f e d)
→side_inside side c f e d i j whole s =
    let is = same_face f (side_of (opposite side) d) in
    →and (inside e d) (touches c d && (not d.split && is)) i (→and (touches c d) (not d.split && is) j (→and (not d.split) is whole s))

-- that is the test of the count
side_inside : (a : Axis) (b : Bool) (c : Cell) (f : Face) (e d : Cell) → Across a b c e →
    is_side_inside (side_by a b) c f e d ≡ inside e d && fits a b f (near_at a b e) d
side_inside a b c f e d x = tests_equal (is_side_inside (side_by a b) c f e d) (inside e d && fits a b f m d) onto back
  where
    m : ℕ
    m = near_at a b e

    onto : T (is_side_inside (side_by a b) c f e d) → T (inside e d && fits a b f m d)
    onto t =
        let (i, j, whole, is) = side_inside→ (side_by a b) c f e d t in
        →and (inside e d) (fits a b f m d) i (→fits a b f m d whole (plane→ a b c e d x i j) is)

    back : T (inside e d && fits a b f m d) → T (is_side_inside (side_by a b) c f e d)
    back t =
        let (i, u) = and→ (inside e d) (fits a b f m d) t in
        let (whole, plane, is) = fits→ a b f m d u in
        →side_inside (side_by a b) c f e d i (→plane a b c e d x i plane) whole is

-- the lowest corner of the cell that has the face f as its side towards the leaf
behind : Axis → Bool → Face → Place
behind a true f = f.low
behind a false f = back a (2 ^ f.level) f.low

behind_is : (a : Axis) (b : Bool) (f : Face) (d : Cell) → T (same_face f (side_of (opposite (side_by a b)) d)) → T (is_at f.level (behind a b f) d)
unfolding behind
behind_is a b f d t = let (level, low) = same_face→ f (side_of (opposite (side_by a b)) d) t in →at f.level (behind a b f) d level (go b level low)
  where
    go : (b : Bool) → f.level ≡ d.level → f.low ≡ side_low (opposite (side_by a b)) d → behind a b f ≡ d.low
    go true level low = low
    go false level low = rw (level, low) (back-move a (2 ^ d.level) d.low)

module _ (cells : List Cell) (tree : Octree cells) (a : Axis) (b : Bool) (c : Cell) (f : Face) where
  -- how often the rules list f on this side of c
  abbrev listed : ℕ
  listed = times same_face f (small_faces cells (side_by a b) (side_low (side_by a b) c) c.level)

  -- no two leaves have it as a side
  inside-once : (e : Cell) → sum (λ d. bit (is_side_inside (side_by a b) c f e d)) cells ≤ 1
  unfolding copies
  inside-once e =
      let each = sum-le (λ d. bit (is_side_inside (side_by a b) c f e d)) (λ d. bit (is_at f.level (behind a b f) d)) cells (λ d i.
      bit_le (is_side_inside (side_by a b) c f e d) (is_at f.level (behind a b f) d) (λ t.
      behind_is a b f d (side_inside→ (side_by a b) c f e d t).3)) in
      omega (arith, tree.once f.level (behind a b f))

  -- beyond a side with a cell of its size across, the rules list the sides of the leaves inside that cell that touch
  across-listed : (e : Cell) → In e cells → T (is_across (side_by a b) c e) → listed ≡ bit (any (is_side_inside (side_by a b) c f e) cells)
  unfolding part
  across-listed e i t =
      let x = across→ a b c e t in
      let n = along a e.low in
      let u = along (next a) e.low in
      let v = along (next (next a)) e.low in
      let m = near_at a b e in
      let is = →cell cells e i in
      let at : T (is_cell cells e.level (place a n u v)) = subst (λ p. T (is_cell cells e.level p)) (sym (place_of a e.low)) is in
      let same-part : (d : Cell) → part a b f m e.level n u v d ≡ bit (is_side_inside (side_by a b) c f e d) =
      λ d. ap (λ p. bit (inside (cell p e.level false) d) * bit (fits a b f m d)) (place_of a e.low)
      ∙ sym (bit_and (inside e d) (fits a b f m d)) ∙ sym (ap bit (side_inside a b c f e d x)) in
      ap (λ p. times same_face f (small_faces cells (side_by a b) p c.level)) (x.face-low ∙ near_low a b e)
      ∙ ap (λ k. times same_face f (small_faces cells (side_by a b) (place a m u v) k)) x.level
      ∙ small_near cells tree a b f m e.level n u v at refl
      ∙ sum_same (part a b f m e.level n u v) (λ d. bit (is_side_inside (side_by a b) c f e d)) cells (λ d j. same-part d)
      ∙ any-once (is_side_inside (side_by a b) c f e) cells (inside-once e)

  -- the rules' test of the cell across is the document's
  split-beyond : (e : Cell) → split_across (side_by a b) (side_low (side_by a b) c) c.level e ≡ split_beyond (side_by a b) c e
  split-beyond e = go b
    where
      under : (y : Bool) {u v : Bool} → (T y → u ≡ v) → (y && u) ≡ (y && v)
      under true h = h tt
      under false h = refl

      go : (b : Bool) → split_across (side_by a b) (side_low (side_by a b) c) c.level e ≡ split_beyond (side_by a b) c e
      go true = refl
      go false =
          ap (λ t. e.split && t) (under (eqb c.level e.level) (λ t.
          ap (λ k. same c.low (move a (2 ^ k) e.low)) (eqb→eq c.level e.level t)))

  -- beyond a side with no split cell of its size across, they list the side itself
  own_listed : any (split_beyond (side_by a b) c) cells ≡ false → listed ≡ bit (same_face f (side_of (side_by a b) c))
  own_listed h =
      let low = own_low a b c in
      let none : any (split_across (side_by a b) (side_low (side_by a b) c) c.level) cells ≡ false =
      ap (λ (t : Cell → Bool). any t cells) (fun_ext split-beyond) ∙ h in
      subst (λ p. times same_face f (small_faces cells (side_by a b) p c.level) ≡ bit (same_face f (face p c.level))) (sym low)
      (small_own cells a b f c.level (half b c.level (along a c.low)) (along (next a) c.low) (along (next (next a)) c.low)
      (subst (λ p. any (split_across (side_by a b) p c.level) cells ≡ false) low none))

  -- the law, of one side
  small_by : listed ≡ bit (is_small_face cells (side_by a b) c f)
  unfolding is_small_face
  small_by = go (any (split_beyond side c) cells) refl
    where
      side : Side
      side = side_by a b

      both : Cell → Bool
      both e = split_beyond side c e && any (is_side_inside side c f e) cells

      -- every cell across tells the same
      some : (e : Cell) → In e cells → T (split_beyond side c e) → any (is_side_inside side c f e) cells ≡ any both cells
      some e i t = tests_equal (any (is_side_inside side c f e) cells) (any both cells)
          (λ s. in→any both cells e i (→and (split_beyond side c e) (any (is_side_inside side c f e) cells) t s))
          (λ s.
          let (e', j, w) = any→in both cells s in
          let (p, q) = and→ (split_beyond side c e') (any (is_side_inside side c f e') cells) w in
          let one = across-listed e i (and→ e.split (is_across side c e) t).1 in
          let other = across-listed e' j (and→ e'.split (is_across side c e') p).1 in
          bit→ (any (is_side_inside side c f e) cells) (omega (arith, bit-true (any (is_side_inside side c f e') cells) q)))

      go : (s : Bool) → any (split_beyond side c) cells ≡ s → listed ≡ bit (cond s (any both cells) (same_face f (side_of side c)))
      go false h = own_listed h
      go true h =
          let (e, i, t) = any→in (split_beyond side c) cells (→true h) in
          across-listed e i (and→ e.split (is_across side c e) t).1 ∙ ap bit (some e i t)

  -- so the faces that they list are those that the sentence names
  pub named_by : any (same_face f) (small_faces cells (side_by a b) (side_low (side_by a b) c) c.level) ≡ is_small_face cells (side_by a b) c f
  named_by =
      let faces = small_faces cells (side_by a b) (side_low (side_by a b) c) c.level in
      let named = is_small_face cells (side_by a b) c f in
      let g : times same_face f faces ≡ bit (any (same_face f) faces) = any-once (same_face f) faces (omega (arith, small_by, bit_le named true (λ t. tt))) in
      tests_equal (any (same_face f) faces) named
      (λ t. bit→ named (omega (arith, small_by, bit-true (any (same_face f) faces) t)))
      (λ t. bit→ (any (same_face f) faces) (omega (arith, small_by, bit-true named t)))

-- ---- the law

each_side : (side : Side) → In side sides → (a : Axis) × (b : Bool) × (side ≡ side_by a b)
each_side side (inl e) = (X, true, e)
each_side side (inr (inl e)) = (X, false, e)
each_side side (inr (inr (inl e))) = (Y, true, e)
each_side side (inr (inr (inr (inl e)))) = (Y, false, e)
each_side side (inr (inr (inr (inr (inl e))))) = (Z, true, e)
each_side side (inr (inr (inr (inr (inr (inl e)))))) = (Z, false, e)
each_side side (inr (inr (inr (inr (inr (inr e)))))) = absurd e

module _ (s : Survey) (law : Lawful s) where
  -- How often the rules list a face: once if document 01's sentence names it, else never. It holds of every cell c, so of every leaf.
  pub small_faces_lem : (c : Cell) (side : Side) → In side sides → (f : Face) →
      times same_face f (small_faces s.cells side (side_low side c) c.level) ≡ bit (is_small_face s.cells side c f)
  small_faces_lem c side i f =
      let (a, b, e) = each_side side i in
      subst (λ side. times same_face f (small_faces s.cells side (side_low side c) c.level) ≡ bit (is_small_face s.cells side c f)) (sym e)
      (small_by s.cells law.octree a b c f)

  -- the faces that the rules list are those that the sentence names
  pub faces_named : (c : Cell) (side : Side) → In side sides → (f : Face) →
      any (same_face f) (small_faces s.cells side (side_low side c) c.level) ≡ is_small_face s.cells side c f
  faces_named c side i f =
      let (a, b, e) = each_side side i in
      subst (λ side. any (same_face f) (small_faces s.cells side (side_low side c) c.level) ≡ is_small_face s.cells side c f) (sym e)
      (named_by s.cells law.octree a b c f)

-- The same of every survey that is accepted: a face is listed where the sentence names it, and no face is listed twice.
pub accepted_faces : (tc tk : List ℕ) (clearance : Float) → T (accepted tc tk clearance) → (c : Cell) (side : Side) → In side sides → (f : Face) →
    (any (same_face f) (small_faces (cells_of tc) side (side_low side c) c.level) ≡ is_small_face (cells_of tc) side c f)
    × (times same_face f (small_faces (cells_of tc) side (side_low side c) c.level) ≤ 1)
unfolding survey_of
accepted_faces tc tk clearance ok c side i f =
    let s = survey_of tc tk clearance in
    let law = lawful tc tk clearance ok in
    (faces_named s law c side i f, omega (arith, small_faces_lem s law c side i f, bit_le (is_small_face (cells_of tc) side c f) true (λ t. tt)))
