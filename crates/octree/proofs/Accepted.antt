-- The first check that applies; what each check gives where it finds nothing to refuse, of accepted and of drawable surveys; and an accepted survey is lawful.
use Prim.Native.Nat.{ℕ, ◌%◌, ◌^◌, ◌≤◌}
use mathlib.Core.Path.{◌≡◌, refl, sym, ap, ◌∙◌, subst}
use mathlib.Core.Logic.{◌⊎◌, inl, inr}
use mathlib.Core.Bool.{Bool, true, false, not, ◌&&◌, ◌||◌, cond, true≢false}
use mathlib.Core.List.{List, [], ◌∷◌, ◌++◌, map}
use lib.Dec.{T, T_not, eqb, eqb→eq, ltb}
use lib.ListN.{length}
use lib.Ieee.{Float}
use borrow.Author.Tests.{eq-eqb, ne_eqb, ltb-false}
use Rattle.base.specs.Lists.{any, all}
use Rattle.base.specs.Grid.{Place, same, octants}
use Rattle.rules.specs.Survey.{record_size, Cell, cell, size, entries, cells_of, cell_corners, corners_of, place_of}
use Rattle.rules.specs.OpenAtBox.{open_at_box}
use Rattle.rules.specs.Outputs.{corner_limit, bad_table, entries_right, rising, corners_right, in_range, first_of, table_checks, sounding_check, survey_checks}
use Rattle.rules.specs.Outputs.{survey_refusal, checks, accepted}
use Rattle.rules.specs.Outputs.{drawing_checks, drawable, survey_of}
use Rattle.rules.specs.declared.Corner.{Corner}
use Rattle.base.proofs.Tests.{and→, either, not_both, eq→eqb, false→, →true, →false}
use Rattle.base.proofs.Lists.{In, any→in, in→any, all→in}
use Rattle.base.proofs.Places.{same→}
use Rattle.base.proofs.Octants.{octant→, →octant}
use Rattle.octree.specs.Lawful.{is_cell, CornerOf, Lawful}
use Rattle.octree.proofs.Cells.{cell→, →cell}
use Rattle.octree.proofs.Tree.{octree_of}

-- ---- the first check that applies

-- no check has the number 0
abbrev pub numbered : List (ℕ × Bool) → Bool
numbered ts = all (λ t. not (eqb t.0 0)) ts

-- where the first check that applies has the number 0, none applies
pub none_applies : (ts : List (ℕ × Bool)) → T (numbered ts) → first_of ts ≡ 0 → (t : ℕ × Bool) → In t ts → t.1 ≡ false
none_applies [] n h t i = absurd i
none_applies (u ∷ ts) n h t i = go u.1 refl h i (none_applies ts (and→ (not (eqb u.0 0)) (numbered ts) n).1)
  where
    go : (b : Bool) → u.1 ≡ b → cond b u.0 (first_of ts) ≡ 0 → In t (u ∷ ts) → (first_of ts ≡ 0 → (v : ℕ × Bool) → In v ts → v.1 ≡ false) → t.1 ≡ false
    go true e h i r = absurd (T_not (eqb u.0 0) (and→ (not (eqb u.0 0)) (numbered ts) n).0 (eq→eqb u.0 0 h))
    go false e h (inl p) r = ap (λ (v : ℕ × Bool). v.1) p ∙ e
    go false e h (inr j) r = r h t j

-- checks, and then further ones
pub first_append : (ts us : List (ℕ × Bool)) → T (numbered ts) → first_of (ts ++ us) ≡ cond (eqb (first_of ts) 0) (first_of us) (first_of ts)
first_append [] us n = refl
first_append (t ∷ ts) us n = go t.1 (first_append ts us (and→ (not (eqb t.0 0)) (numbered ts) n).1)
  where
    other : (b : Bool) → T (not b) → t.0 ≡ cond b (first_of us) t.0
    other true f = absurd f
    other false f = refl

    go : (b : Bool) → first_of (ts ++ us) ≡ cond (eqb (first_of ts) 0) (first_of us) (first_of ts) →
        cond b t.0 (first_of (ts ++ us)) ≡ cond (eqb (cond b t.0 (first_of ts)) 0) (first_of us) (cond b t.0 (first_of ts))
    go true ih = other (eqb t.0 0) (and→ (not (eqb t.0 0)) (numbered ts) n).0
    go false ih = ih

-- where none of all checks applies, none of either part does
pub first-none : (ts us : List (ℕ × Bool)) → T (numbered ts) → first_of (ts ++ us) ≡ 0 → (first_of ts ≡ 0) × (first_of us ≡ 0)
first-none ts us n h = go (eqb (first_of ts) 0) refl (sym (first_append ts us n) ∙ h)
  where
    go : (b : Bool) → eqb (first_of ts) 0 ≡ b → cond b (first_of us) (first_of ts) ≡ 0 → (first_of ts ≡ 0) × (first_of us ≡ 0)
    go true e h = (eqb→eq (first_of ts) 0 (→true e), h)
    go false e h = absurd (not_both (eq→eqb (first_of ts) 0 h) e)

-- a number that no check has is never given
pub first_unlike : (n : ℕ) (ts : List (ℕ × Bool)) → T (not (eqb 0 n)) → T (all (λ t. not (eqb t.0 n)) ts) → eqb (first_of ts) n ≡ false
first_unlike n [] z h = false→ (eqb 0 n) z
first_unlike n (t ∷ ts) z h = go t.1 (first_unlike n ts z parts.1)
  where
    parts : T (not (eqb t.0 n)) × T (all (λ t. not (eqb t.0 n)) ts)
    parts = and→ (not (eqb t.0 n)) (all (λ t. not (eqb t.0 n)) ts) h

    go : (b : Bool) → eqb (first_of ts) n ≡ false → eqb (cond b t.0 (first_of ts)) n ≡ false
    go true later = false→ (eqb t.0 n) parts.0
    go false later = later

-- one check more, after checks of which n is the first number
module _ (ts : List (ℕ × Bool)) (none-zero : T (numbered ts)) (k : ℕ) (b : Bool) (n : ℕ) (is : n ≡ first_of ts) where
  first_of_more : first_of (ts ++ (k, b) ∷ []) ≡ cond (eqb n 0) (cond b k 0) n
  first_of_more = first_append ts ((k, b) ∷ []) none-zero ∙ ap (λ m. cond (eqb m 0) (cond b k 0) m) (sym is)

  pub refused-before : (n ≡ 0 → ⊥) → n ≡ first_of (ts ++ (k, b) ∷ [])
  refused-before z = sym (first_of_more ∙ rw (ne_eqb n 0 z))

  pub refused_last : n ≡ 0 → b ≡ true → k ≡ first_of (ts ++ (k, b) ∷ [])
  refused_last z e = sym (first_of_more ∙ rw (eq-eqb n 0 z, e))

  pub refused_never : n ≡ 0 → b ≡ false → 0 ≡ first_of (ts ++ (k, b) ∷ [])
  refused_never z e = sym (first_of_more ∙ rw (eq-eqb n 0 z, e))

-- ---- what each check gives

-- a table that passes check 1 or 2 is of whole records, and not longer than the limit
pub table_fits : (n limit : ℕ) (t : List ℕ) → bad_table n limit t ≡ false → (length t % n ≡ 0) × (length t ≤ limit)
table_fits n limit t e = go (eqb (length t) 0) (eqb (length t % n) 0) refl e
  where
    go : (a b : Bool) → eqb (length t % n) 0 ≡ b → a || (not b || ltb limit (length t)) ≡ false → (length t % n ≡ 0) × (length t ≤ limit)
    go true b d q = absurd (true≢false q)
    go false false d q = absurd (true≢false q)
    go false true d q = (eqb→eq (length t % n) 0 (→true d), ltb-false limit (length t) q)

-- what tables that checks 1 to 6 pass have
pub record Checked (tc tk : List ℕ) : Type 0 where
  pub cell-table : bad_table 4 8196 tc ≡ false
  pub corner-table : bad_table record_size corner_limit tk ≡ false
  pub entries_right_lem : T (entries_right 0 0 (entries tc))
  pub units-whole : T (not (any (λ c. c.split && eqb c.level 0) (cells_of tc)))
  pub rises : T (rising (map place_of (corners_of tk)))
  pub corners-right : T (corners_right (cells_of tc) (map place_of (corners_of tk)))

passed : (b : Bool) → not b ≡ false → T b
passed true e = tt
passed false e = absurd (subst T e tt)

-- where no element fails a test, each passes it
pub none_of : {A : Type 0} (f : A → Bool) (xs : List A) → any (λ x. not (f x)) xs ≡ false → (x : A) → In x xs → T (f x)
none_of f xs e x i = go (either (f x))
  where
    go : T (f x) ⊎ (f x ≡ false) → T (f x)
    go (inl t) = t
    go (inr g) = absurd (subst T e (in→any (λ y. not (f y)) xs x i (→false g)))

pub tables_checked : (tc tk : List ℕ) → first_of (table_checks tc tk) ≡ 0 → Checked tc tk
unfolding table_checks
tables_checked tc tk h =
    let passes : (t : ℕ × Bool) → In t (table_checks tc tk) → t.1 ≡ false = none_applies (table_checks tc tk) tt h in
    record {
      cell-table = passes (1, bad_table 4 8196 tc) (inl refl);
      corner-table = passes (2, bad_table record_size corner_limit tk) (inr (inl refl));
      entries_right_lem = passed (entries_right 0 0 (entries tc)) (passes (3, not (entries_right 0 0 (entries tc))) (inr (inr (inl refl))));
      units-whole = →false (passes (4, any (λ c. c.split && eqb c.level 0) (cells_of tc)) (inr (inr (inr (inl refl)))));
      rises = passed (rising (map place_of (corners_of tk))) (passes (5, not (rising (map place_of (corners_of tk)))) (inr (inr (inr (inr (inl refl))))));
      corners-right = passed (corners_right (cells_of tc) (map place_of (corners_of tk)))
          (passes (6, not (corners_right (cells_of tc) (map place_of (corners_of tk)))) (inr (inr (inr (inr (inr (inl refl)))))));
    }

-- where a check of the survey by itself gives 0, checks 1 to 6 pass the tables, and every sounding is in range
module _ (tc tk : List ℕ) (h : survey_refusal tc tk ≡ 0) where
  none-refused : (first_of (table_checks tc tk) ≡ 0) × (first_of (sounding_check tk ∷ []) ≡ 0)
  unfolding survey_refusal survey_checks
  none-refused = first-none (table_checks tc tk) (sounding_check tk ∷ []) (unfold table_checks in tt) h

  pub tables_pass : first_of (table_checks tc tk) ≡ 0
  tables_pass = none-refused.0

  pub checked : Checked tc tk
  checked = tables_checked tc tk tables_pass

  pub soundings_checked : (k : Corner) → In k (corners_of tk) → T (in_range k.sounding)
  soundings_checked =
      none_of (λ (k : Corner). in_range k.sounding) (corners_of tk) (none_applies (sounding_check tk ∷ []) tt none-refused.1 (sounding_check tk) (inl refl))

-- accepted: no refusal of the survey by itself, and the clearance in range
pub accepted→ : (tc tk : List ℕ) (clearance : Float) → T (accepted tc tk clearance) → (survey_refusal tc tk ≡ 0) × T (in_range clearance)
unfolding accepted checks survey_refusal
accepted→ tc tk clearance t =
    let eight : ℕ × Bool = (8, not (in_range clearance)) in
    let none = first-none (survey_checks tc tk) (eight ∷ []) (unfold survey_checks table_checks in tt) (eqb→eq (first_of (checks tc tk clearance)) 0 t) in
    (none.0, passed (in_range clearance) (none_applies (eight ∷ []) tt none.1 eight (inl refl)))

-- drawable: accepted, and not open at the box
pub drawable→ : (tc tk : List ℕ) (clearance : Float) → T (drawable tc tk clearance) → T (accepted tc tk clearance) × (open_at_box tk clearance ≡ false)
unfolding drawable drawing_checks accepted
drawable→ tc tk clearance t =
    let twelve : ℕ × Bool = (12, open_at_box tk clearance) in
    let none = first-none (checks tc tk clearance) (twelve ∷ []) (unfold checks survey_checks table_checks in tt)
    (eqb→eq (first_of (drawing_checks tc tk clearance)) 0 t) in
    (eq→eqb (first_of (checks tc tk clearance)) 0 none.0, none_applies (twelve ∷ []) tt none.1 twelve (inl refl))

-- ---- the laws of an accepted survey

corner-listed : (cells : List Cell) (ps : List Place) → T (corners_right cells ps) →
    (l : ℕ) (p q : Place) → T (is_cell cells l p) → CornerOf l p q → T (any (same q) ps)
unfolding corners_right
corner-listed cells ps t l p q h f =
    let u = (and→ (all (λ c. all (λ p. any (same p) ps) (cell_corners c)) cells) (all (λ p. any (λ c. any (same p) (cell_corners c)) cells) ps) t).0 in
    let r = cell→ cells l p h in
    all→in (λ p. any (same p) ps) (octants (2 ^ l) p) (all→in (λ c. all (λ p. any (same p) ps) (cell_corners c)) cells u (cell p l r.0) r.1) q
    (→octant (2 ^ l) p q f)

listed-corner : (cells : List Cell) (ps : List Place) → T (corners_right cells ps) → (q : Place) → T (any (same q) ps) →
    (l : ℕ) × (p : Place) × T (is_cell cells l p) × CornerOf l p q
unfolding corners_right
listed-corner cells ps t q h =
    let u = (and→ (all (λ c. all (λ p. any (same p) ps) (cell_corners c)) cells) (all (λ p. any (λ c. any (same p) (cell_corners c)) cells) ps) t).1 in
    let r = any→in (same q) ps h in
    let i : In q ps = subst (λ x. In x ps) (sym (same→ q r.0 r.2)) r.1 in
    let c = any→in (λ c. any (same q) (cell_corners c)) cells (all→in (λ p. any (λ c. any (same p) (cell_corners c)) cells) ps u q i) in
    let o = any→in (same q) (cell_corners c.0) c.2 in (
      c.0.level,
      c.0.low,
      →cell cells c.0 c.1,
      octant→ (size c.0) c.0.low q (subst (λ x. In x (cell_corners c.0)) (sym (same→ q o.0 o.2)) o.1),
    )

pub checked_lawful : (tc tk : List ℕ) (clearance : Float) → Checked tc tk → Lawful (survey_of tc tk clearance)
unfolding survey_of
checked_lawful tc tk clearance c = record {
  octree = octree_of tc c.entries_right_lem c.units-whole;
  rises = c.rises;
  listed = corner-listed (cells_of tc) (map place_of (corners_of tk)) c.corners-right;
  corner = listed-corner (cells_of tc) (map place_of (corners_of tk)) c.corners-right;
}

pub lawful : (tc tk : List ℕ) (clearance : Float) → T (accepted tc tk clearance) → Lawful (survey_of tc tk clearance)
lawful tc tk clearance t = checked_lawful tc tk clearance (checked tc tk (accepted→ tc tk clearance t).0)
