-- What the lent slice holds once a point is written to it, and once points are written to it in order.
-- Assumes nothing.
use Prim.Native.Nat.{ℕ, zero, suc, ◌+◌, ◌*◌, ◌≤◌, ◌<◌}
use mathlib.Core.Path.{◌≡◌, refl, sym, ap, ◌∙◌}
use mathlib.Core.Logic.{◌⊎◌, ⊎_elim, ◌≢◌}
use mathlib.Core.List.{List, [], ◌∷◌, ◌++◌, append_assoc}
use native.Mathlib.Omega.{arith}
use native.Mathlib.Numerals.{add-one}
use lib.Dec.{lit<}
use lib.ListN.{length, get_or, set, take, drop, length-set, length-append, length-take, length-drop}
use lib.Seq.{get_or-set_same, get_or-set_other, take-suc, drop-drop, drop_at, take_at, sets-eq}
use lib.Ieee.{Float}
use Rattle.base.specs.Lists.{collect}
use Rattle.rules.specs.Survey.{corners_of}
use Rattle.rules.specs.Edges.{CellEdge, point_edges, Spot, spot_on}
use Rattle.rules.specs.Outputs.{survey_of, coordinates, point_floats, written}
use Rattle.rules.specs.Closing.{Carries}
use Rattle.places.specs.Places.{with_spot}

-- ---- one point

-- after the first store, and after the second
abbrev one : List Float → ℕ → Spot → List Float
one l n s = set l (3 * n) s.x

abbrev two : List Float → ℕ → Spot → List Float
two l n s = set (one l n s) (3 * n + 1) s.y

pub stored_length : (l : List Float) (n : ℕ) (s : Spot) → length (with_spot l n s) ≡ length l
stored_length l n s = simp length-set

-- the elements of every other point, and those past the last
pub stored_other : (l : List Float) (n : ℕ) (s : Spot) (i : ℕ) (d : Float) → (i < 3 * n) ⊎ (3 * n + 3 ≤ i) → get_or (with_spot l n s) i d ≡ get_or l i d
stored_other l n s i d h =
    let out : (k : ℕ) → k < 3 → i ≢ 3 * n + k = λ k b. ⊎_elim (λ g. omega arith) (λ g. omega arith) h in
    get_or-set_other (two l n s) (3 * n + 2) i s.z d (out 2 (lit< tt))
    ∙ get_or-set_other (one l n s) (3 * n + 1) i s.y d (out 1 (lit< tt))
    ∙ get_or-set_other l (3 * n) i s.x d (λ e. out 0 (lit< tt) (omega arith))

module _ (l : List Float) (n : ℕ) (s : Spot) (d : Float) (fits : 3 * n + 3 ≤ length l) where
  pub stored_x : get_or (with_spot l n s) (3 * n) d ≡ s.x
  stored_x =
      get_or-set_other (two l n s) (3 * n + 2) (3 * n) s.z d (omega arith)
      ∙ get_or-set_other (one l n s) (3 * n + 1) (3 * n) s.y d (omega arith)
      ∙ get_or-set_same l (3 * n) s.x d (omega arith)

  pub stored_y : get_or (with_spot l n s) (3 * n + 1) d ≡ s.y
  stored_y =
      get_or-set_other (two l n s) (3 * n + 2) (3 * n + 1) s.z d (omega arith)
      ∙ get_or-set_same (one l n s) (3 * n + 1) s.y d (simp length-set (omega arith))

  pub stored_z : get_or (with_spot l n s) (3 * n + 2) d ≡ s.z
  stored_z = get_or-set_same (two l n s) (3 * n + 2) s.z d (simp length-set (omega arith))

-- the slice with the three elements in their place
pub stored_is : (l : List Float) (n : ℕ) (s : Spot) → 3 * n + 3 ≤ length l → with_spot l n s ≡ take (3 * n) l ++ coordinates s ++ drop (3 * n + 3) l
stored_is l n s h =
    let one_more : 3 * n + 1 ≡ suc (3 * n) = omega arith in
    let two-more : 3 * n + 2 ≡ suc (suc (3 * n)) = omega arith in
    rw (one_more, two-more) (sets-eq (coordinates s) l (3 * n) h)

-- ---- points in order: the first elements of `slice` are written over, those past them are untouched

-- one point more behind n points
pub written-more : (p slice xs : List Float) (n : ℕ) (s : Spot) → xs ≡ written p slice → length p ≡ 3 * n → 3 * n + 3 ≤ length slice
    → with_spot xs n s ≡ written (p ++ coordinates s) slice
written-more p slice xs n s e h fits =
    let room : 3 * n + 3 ≤ length xs = rw e (simp (length-append, length-drop) (omega arith)) in
    let front : take (3 * n) xs ≡ p = ap (take (3 * n)) e ∙ take_at p (drop (length p) slice) (3 * n) h in
    let past : drop (3 * n) xs ≡ drop (3 * n) slice = ap (drop (3 * n)) e ∙ drop_at p (drop (length p) slice) (3 * n) h ∙ ap (λ (k : ℕ). drop k slice) h in
    let rest : drop (3 * n + 3) xs ≡ drop (3 * n + 3) slice = sym (drop-drop 3 (3 * n) xs) ∙ ap (drop 3) past ∙ drop-drop 3 (3 * n) slice in
    let whole : length (p ++ coordinates s) ≡ 3 * n + 3 = simp length-append (omega arith) in
    stored_is xs n s room ∙ rw (front, rest, whole, append_assoc)

module _ {A : Type 0} (f : A → Spot) where
  abbrev pub floats : List A → List Float
  floats es = collect (λ e. coordinates (f e)) es

  pub floats_length : (es : List A) → length (floats es) ≡ 3 * length es
  floats_length [] = refl
  floats_length (e ∷ es) = let h = floats_length es in omega arith

  floats_append : (es fs : List A) → floats (es ++ fs) ≡ floats es ++ floats fs
  floats_append [] fs = refl
  floats_append (e ∷ es) fs = ap (λ (l : List Float). coordinates (f e) ++ l) (floats_append es fs)

  -- a loop that writes the point of the next thing behind those of the things before it
  pub written_next : (es : List A) (e : A) (slice xs : List Float) → xs ≡ written (floats es) slice → 3 * length es + 3 ≤ length slice
      → with_spot xs (length es) (f e) ≡ written (floats (es ++ e ∷ [])) slice
  written_next es e slice xs h fits =
      written-more (floats es) slice xs (length es) (f e) h (floats_length es) fits
      ∙ ap (λ (l : List Float). written l slice) (sym (floats_append es (e ∷ [])))

  -- the same by number, of a list known beforehand
  pub written-turn : (es : List A) (n : ℕ) (d : A) (slice xs : List Float) → n < length es → 3 * length es ≤ length slice
      → xs ≡ written (floats (take n es)) slice → with_spot xs n (f (get_or es n d)) ≡ written (floats (take (n + 1) es)) slice
  written-turn es n d slice xs b fits h =
      let size : length (take n es) ≡ n = simp length-take (omega arith) in
      let more : take (n + 1) es ≡ take n es ++ get_or es n d ∷ [] = rw (add-one n) (take-suc es n d b) in
      written-more (floats (take n es)) slice xs n (f (get_or es n d)) h (floats_length (take n es) ∙ ap (λ (k : ℕ). 3 * k) size) (omega arith)
      ∙ ap (λ (l : List Float). written l slice) (sym (ap floats more ∙ floats_append (take n es) (get_or es n d ∷ [])))

  -- elements 3n to 3n + 2 of what is written are the n-th of the places
  floats_at : (es : List A) (n : ℕ) (d : A) (rest : List Float) → n < length es → take 3 (drop (3 * n) (floats es ++ rest)) ≡ coordinates (f (get_or es n d))
  floats_at [] n d rest b = absurd (omega arith)
  floats_at (e ∷ es) zero d rest b = refl
  floats_at (e ∷ es) (suc n) d rest b =
      let step : 3 * suc n ≡ suc (suc (suc (3 * n))) = omega arith in
      rw step (floats_at es n d rest (omega arith))

  pub written_at : (es : List A) (n : ℕ) (d : A) (slice : List Float) → n < length es
      → take 3 (drop (3 * n) (written (floats es) slice)) ≡ coordinates (f (get_or es n d))
  written_at es n d slice b = floats_at es n d (drop (length (floats es)) slice) b

-- ---- the points of a survey

module _ (tc tk : List ℕ) (clearance : Float) where
  pub point_floats_lem : length (point_floats tc tk clearance) ≡ 3 * length (point_edges (survey_of tc tk clearance))
  unfolding point_floats
  point_floats_lem = floats_length (spot_on (corners_of tk) clearance) (point_edges (survey_of tc tk clearance))

  -- elements 3p to 3p + 2 are the place on the edge that carries p
  pub placed : (slice : List Float) (e : CellEdge) (p : ℕ) → Carries (survey_of tc tk clearance) e p
      → take 3 (drop (3 * p) (written (point_floats tc tk clearance) slice)) ≡ coordinates (spot_on (corners_of tk) clearance e)
  unfolding point_floats
  placed slice e p (h, g) =
      written_at (spot_on (corners_of tk) clearance) (point_edges (survey_of tc tk clearance)) p e slice h
      ∙ ap (λ (x : CellEdge). coordinates (spot_on (corners_of tk) clearance x)) g

  -- all points in order
  pub written-points : (slice xs : List Float) → xs ≡ written (floats (spot_on (corners_of tk) clearance) (point_edges (survey_of tc tk clearance))) slice
      → xs ≡ written (point_floats tc tk clearance) slice
  unfolding point_floats
  written-points slice xs h = h
