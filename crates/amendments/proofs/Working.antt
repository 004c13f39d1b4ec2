-- Amendments worked into a table one after the other: what the first pass leaves, what one amendment changes, and what stands there at the end.
use Prim.Native.Nat.{ℕ, ◌+◌, ◌*◌, ◌-◌, ◌%◌, ◌≤◌, ◌<◌}
use mathlib.Core.Path.{◌≡◌, refl, sym, ap, ◌∙◌, subst}
use mathlib.Core.Logic.{◌⊎◌, inl, inr}
use mathlib.Core.Bool.{Bool, true, false, not, ◌&&◌, cond}
use mathlib.Core.List.{List, [], ◌∷◌, ◌++◌}
use native.Mathlib.Decide.{ℕ_discrete}
use native.Mathlib.Numerals.{add-one}
use native.Mathlib.Omega.{arith}
use lib.Dec.{eqb, ltb}
use lib.ListN.{length, take, drop, length-drop}
use lib.Seq.{length-take-le, take-take, take_all, take-length, take-suc, drop-drop, take_at, drop_at, paste, length-paste, take-paste, drop-paste}
use borrow.Author.Tests.{eq-eqb, ne_eqb, lt-ltb, le-ltb}
use Rattle.base.specs.Grid.{same}
use Rattle.base.proofs.Tests.{below}
use Rattle.base.proofs.Below.{get_table, length-table}
use Rattle.rules.specs.Survey.{record_size, record_count, record_bytes, corner_record, place_of}
use Rattle.rules.specs.Outputs.{rising}
use Rattle.rules.specs.Resounding.{records_of, place_in, day_in, in_force, amended}
use Rattle.records.specs.Keys.{key_of, places_of, record_at, Short}
use Rattle.records.proofs.Keys.{Bytes, record_short, get_place}
use Rattle.records.proofs.Listed.{listed-is, record_is}
use Rattle.amendments.specs.Amending.{unlisted, AmendedBy}
use Rattle.amendments.proofs.Records.{place-alone, in_front, whole, collect-same}
use Rattle.amendments.proofs.InForce.{holding, in_force_place, in_force_more, in_force_at, amended-is}

-- ---- a record written over record k of a table: it stands there, and the others stay

module _ (t s : List ℕ) (k : ℕ) (long : record_size ≤ length s) (room : record_size * k + record_size ≤ length t) where
  abbrev over : List ℕ
  over = paste t (record_size * k) s record_size

  head_length : length (take (record_size * k) t) ≡ record_size * k
  head_length = length-take-le (record_size * k) t (omega arith)

  -- a record up to that one stands in front
  up_to : (j : ℕ) → j ≤ k → record_bytes over j ≡ record_bytes (take (record_size * k) t ++ take record_size s) j
  up_to j h =
      sym (in_front over (record_size * k + record_size) j (omega arith))
      ∙ ap (λ (u : List ℕ). record_bytes u j) (take-paste t (record_size * k) s record_size (omega arith) long)

  pub over_here : record_bytes over k ≡ take record_size s
  over_here =
      up_to k (omega arith)
      ∙ ap (take record_size) (drop_at (take (record_size * k) t) (take record_size s) (record_size * k) head_length)
      ∙ take-take record_size record_size s (omega arith)

  pub over_other : (j : ℕ) → (j ≡ k → ⊥) → record_bytes over j ≡ record_bytes t j
  over_other j other = go (below j k)
    where
      go : (j < k) ⊎ (k ≤ j) → record_bytes over j ≡ record_bytes t j
      go (inl h) =
          let front = take (record_size * k) t in
          up_to j (omega arith)
          ∙ sym (in_front (front ++ take record_size s) (record_size * k) j (omega arith))
          ∙ ap (λ (u : List ℕ). record_bytes u j) (take_at front (take record_size s) (record_size * k) head_length)
          ∙ in_front t (record_size * k) j (omega arith)
      go (inr h) =
          let m = record_size * j - (record_size * k + record_size) in
          let at : record_size * k + record_size + m ≡ record_size * j = omega (arith, other) in
          let from : (u : List ℕ) → drop m (drop (record_size * k + record_size) u) ≡ drop (record_size * j) u =
          λ u. drop-drop m (record_size * k + record_size) u ∙ ap (λ i. drop i u) at in
          ap (take record_size) (sym (from over) ∙ ap (drop m) (drop-paste t (record_size * k) s record_size (omega arith) long) ∙ from t)

-- ---- before the first amendment: the corner table is copied

pub copied : (tk ta t u : List ℕ) → length tk ≤ length t → u ≡ paste t 0 (drop 0 tk) (length tk) → AmendedBy tk ta 0 u
unfolding in_force
copied tk ta t u h e = record {
  room = omega (arith, ap length e, length-paste t 0 tk (length tk) (omega arith) (omega arith));
  each = λ k g.
      ap (λ (v : List ℕ). record_bytes v k) e
      ∙ sym (in_front (paste t 0 tk (length tk)) (0 + length tk) k (omega arith))
      ∙ ap (λ (v : List ℕ). record_bytes v k) (take-paste t 0 tk (length tk) (omega arith) (omega arith) ∙ take-length tk);
}

-- ---- one amendment

module _ (tk ta table : List ℕ) (b : Bytes tk) (fits : Bytes ta) (up : rising (places_of tk) ≡ true) (n : ℕ) (inside : n < record_count ta)
    (k : ℕ) (found : k ≡ record_at tk (key_of (place_of (corner_record ta n)))) where
  abbrev amendment : List ℕ
  amendment = record_bytes ta n

  short : Short (place_in amendment)
  short = subst Short (sym (place-alone ta n)) (record_short ta fits n inside)

  at_key : record_at tk (key_of (place_in amendment)) ≡ k
  at_key = ap (λ p. record_at tk (key_of p)) (place-alone ta n) ∙ sym found

  -- it is at a corner where the look-up finds one
  pub unlisted-is : unlisted tk amendment ≡ not (ltb k (record_count tk))
  unlisted-is = ap not (listed-is tk b (place_in amendment) short ∙ ap (λ m. ltb m (record_count tk)) at_key)

  module _ (so : AmendedBy tk ta n table) (here : k < record_count tk) where
    -- record k is the one at its corner
    at_corner : (j : ℕ) → j < record_count tk → same (place_in (record_bytes table j)) (place_in amendment) ≡ eqb j k
    at_corner j g =
        ap (λ p. same p (place_in amendment))
        (ap place_in (so.each j g) ∙ in_force_place (record_bytes tk j) (take n (records_of ta)) ∙ place-alone tk j ∙ sym (get_place tk j g))
        ∙ record_is tk b up j (place_in amendment) short g
        ∙ ap (eqb j) at_key

    one_more : take (n + 1) (records_of ta) ≡ take n (records_of ta) ++ amendment ∷ []
    one_more =
        rw add-one
        (take-suc (records_of ta) n [] (omega (arith, length-table (record_bytes ta) (record_count ta)))
        ∙ ap (λ r. take n (records_of ta) ++ r ∷ []) (get_table (record_bytes ta) [] (record_count ta) n inside))

    next : (j : ℕ) → j < record_count tk → in_force (record_bytes tk j) (take (n + 1) (records_of ta)) ≡ holding (record_bytes table j) amendment
    next j g =
        ap (in_force (record_bytes tk j)) one_more
        ∙ in_force_more (record_bytes tk j) (take n (records_of ta)) amendment
        ∙ ap (λ r. holding r amendment) (sym (so.each j g))

    -- by whether a record is that at the amendment's corner, and whether the amendment is older
    held : (j : ℕ) (a o : Bool) → j < record_count tk → eqb j k ≡ a → ltb (day_in amendment) (day_in (record_bytes table j)) ≡ o
        → in_force (record_bytes tk j) (take (n + 1) (records_of ta)) ≡ cond (a && not o) amendment (record_bytes table j)
    held j a o g e f = next j g ∙ (λ i. cond ((at_corner j g ∙ e) i && not (f i)) amendment (record_bytes table j))

    -- elsewhere nothing changes
    elsewhere : (j : ℕ) → j < record_count tk → (j ≡ k → ⊥) → in_force (record_bytes tk j) (take (n + 1) (records_of ta)) ≡ record_bytes table j
    elsewhere j g other = held j false _ g (ne_eqb j k other) refl

    -- an older amendment changes nothing
    pub older : day_in amendment < day_in (record_bytes table k) → AmendedBy tk ta (n + 1) table
    older h = record { room = so.room; each = λ j g. sym (go j g (ℕ_discrete j k)) }
      where
        go : (j : ℕ) → j < record_count tk → Dec (j ≡ k) → in_force (record_bytes tk j) (take (n + 1) (records_of ta)) ≡ record_bytes table j
        go j g (yes e) =
            held j true true g (eq-eqb j k e)
            (lt-ltb (day_in amendment) (day_in (record_bytes table j)) (subst (λ i. day_in amendment < day_in (record_bytes table i)) (sym e) h))
        go j g (no e) = elsewhere j g e

    -- any other takes the place of the record at its corner
    pub newer : day_in (record_bytes table k) ≤ day_in amendment → (after : List ℕ)
        → after ≡ paste table (record_size * k) (drop (record_size * n) ta) record_size → AmendedBy tk ta (n + 1) after
    newer h after e = record {
      room = omega (arith, so.room, ap length e, length-paste table (record_size * k) (drop (record_size * n) ta) record_size fits-here long);
      each = λ j g. ap (λ (u : List ℕ). record_bytes u j) e ∙ sym (go j g (ℕ_discrete j k));
    }
      where
        long : record_size ≤ length (drop (record_size * n) ta)
        long = omega (arith, length-drop (record_size * n) ta)

        fits-here : record_size * k + record_size ≤ length table
        fits-here = omega (arith, so.room)

        go : (j : ℕ) → j < record_count tk → Dec (j ≡ k) → in_force (record_bytes tk j) (take (n + 1) (records_of ta))
            ≡ record_bytes (paste table (record_size * k) (drop (record_size * n) ta) record_size) j
        go j g (yes q) =
            held j true false g (eq-eqb j k q)
            (le-ltb (day_in amendment) (day_in (record_bytes table j)) (subst (λ i. day_in (record_bytes table i) ≤ day_in amendment) (sym q) h))
            ∙ sym (ap (record_bytes (paste table (record_size * k) (drop (record_size * n) ta) record_size)) q
            ∙ over_here table (drop (record_size * n) ta) k long fits-here)
        go j g (no q) = elsewhere j g q ∙ sym (over_other table (drop (record_size * n) ta) k long fits-here j q)

-- ---- after the last: the front of the table is the corner table as amended

pub finished : (tk ta table : List ℕ) (n : ℕ) → record_count ta ≤ n → length tk % record_size ≡ 0 → AmendedBy tk ta n table
    → take (length tk) table ≡ amended tk ta
finished tk ta table n all_in divides so =
    sym (whole (record_count tk) 0 front (omega (arith, length-take-le (length tk) table so.room)))
    ∙ collect-same (record_bytes front) (in_force_at tk ta) (record_count tk) 0
    (λ k l h. in_front table (length tk) k (omega arith) ∙ so.each k (omega arith)
    ∙ ap (in_force (record_bytes tk k)) (take_all n (records_of ta) (omega (arith, length-table (record_bytes ta) (record_count ta)))))
    ∙ sym (amended-is tk ta)
  where
    front : List ℕ
    front = take (length tk) table
