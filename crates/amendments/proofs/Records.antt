-- A table as its records: one made of records has them at their places, and one of whole records is made of them.
use Prim.Native.Nat.{ℕ, zero, suc, ◌+◌, ◌*◌, ◌≤◌, ◌<◌}
use mathlib.Core.Path.{◌≡◌, refl, sym, ap, ◌∙◌}
use mathlib.Core.List.{List, [], ◌∷◌, ◌++◌, map}
use native.Mathlib.Omega.{arith}
use native.Mathlib.Nat.{le_refl}
use lib.ListN.{length, take, drop, length-append, length-drop, take-append-drop, drop_of_length-le}
use lib.Seq.{length-take-le, take-take, drop-drop, drop-append-add, take_at}
use Rattle.base.specs.Lists.{collect, count, little, bytes}
use Rattle.base.specs.Grid.{Place}
use Rattle.rules.specs.Survey.{record_size, record_bytes, corner_record, place_of}
use Rattle.rules.specs.Resounding.{place_in}
use Rattle.records.proofs.Bytes.{part}

-- a record has its size
pub record-length : (t : List ℕ) (k : ℕ) → record_size * k + record_size ≤ length t → length (record_bytes t k) ≡ record_size
record-length t k h = length-take-le record_size (drop (record_size * k) t) (omega (arith, length-drop (record_size * k) t))

-- a record by itself is a table of one record
record-alone : (t : List ℕ) (k : ℕ) → record_bytes (record_bytes t k) 0 ≡ record_bytes t k
record-alone t k = take-take record_size record_size (drop (record_size * k) t) (le_refl record_size)

pub place-alone : (t : List ℕ) (k : ℕ) → place_in (record_bytes t k) ≡ place_of (corner_record t k)
unfolding place_in corner_record
place-alone t k =
    let placed : List ℕ → Place = λ r. record { x = little (bytes r 0 2); y = little (bytes r 2 2); z = little (bytes r 4 2) } in
    ap placed (record-alone t k)

-- a record of the front of a table
pub in_front : (t : List ℕ) (n k : ℕ) → record_size * k + record_size ≤ n → record_bytes (take n t) k ≡ record_bytes t k
in_front t n k h =
    part t 0 n (record_size * k) record_size h ∙ ap (λ m. bytes t m record_size) (let e : 0 + record_size * k ≡ record_size * k = omega arith in e)

-- made of records: the length, and each record
module _ (f : ℕ → List ℕ) where
  pub made_length : (n i : ℕ) → ((j : ℕ) → i ≤ j → j < i + n → length (f j) ≡ record_size) → length (collect f (count i n)) ≡ record_size * n
  made_length zero i each = refl
  made_length (suc n) i each =
      let first = each i (omega arith) (omega arith) in
      let others = made_length n (suc i) (λ j l h. each j (omega arith) (omega arith)) in
      length-append (f i) (collect f (count (suc i) n)) ∙ omega (arith, first, others)

  pub made_record : (n i k : ℕ) → ((j : ℕ) → i ≤ j → j < i + n → length (f j) ≡ record_size) → k < n → record_bytes (collect f (count i n)) k ≡ f (i + k)
  made_record zero i k each h = absurd (omega arith)
  made_record (suc n) i zero each h =
      take_at (f i) (collect f (count (suc i) n)) record_size (each i (omega arith) (omega arith)) ∙ ap f (let e : i ≡ i + 0 = omega arith in e)
  made_record (suc n) i (suc k) each h =
      let rest = collect f (count (suc i) n) in
      let at : record_size * suc k ≡ length (f i) + record_size * k = omega (arith, each i (omega arith) (omega arith)) in
      ap (λ m. take record_size (drop m (f i ++ rest))) at
      ∙ ap (take record_size) (drop-append-add (f i) rest (record_size * k))
      ∙ made_record n (suc i) k (λ j l g. each j (omega arith) (omega arith)) (omega arith)
      ∙ ap f (let e : suc i + k ≡ i + suc k = omega arith in e)

-- a table of whole records is made of them
pub whole : (n i : ℕ) (t : List ℕ) → length t ≡ record_size * (i + n) → collect (record_bytes t) (count i n) ≡ drop (record_size * i) t
whole zero i t e = sym (drop_of_length-le t {i = record_size * i} (omega arith))
whole (suc n) i t e =
    let at : record_size * suc i ≡ record_size * i + record_size = omega arith in
    let rest = whole n (suc i) t (omega arith) ∙ ap (λ m. drop m t) at ∙ sym (drop-drop record_size (record_size * i) t) in
    ap (λ (r : List ℕ). record_bytes t i ++ r) rest ∙ take-append-drop record_size (drop (record_size * i) t)

-- functions that agree on some numbers make the same
pub collect-same : (f g : ℕ → List ℕ) (n i : ℕ) → ((j : ℕ) → i ≤ j → j < i + n → f j ≡ g j) → collect f (count i n) ≡ collect g (count i n)
collect-same f g zero i e = refl
collect-same f g (suc n) i e =
    ap (λ (r : List ℕ). r ++ collect f (count (suc i) n)) (e i (omega arith) (omega arith))
    ∙ ap (λ (r : List ℕ). g i ++ r) (collect-same f g n (suc i) (λ j l h. e j (omega arith) (omega arith)))

pub map_same : {A : Type 0} (f g : ℕ → A) (n i : ℕ) → ((j : ℕ) → i ≤ j → j < i + n → f j ≡ g j) → map f (count i n) ≡ map g (count i n)
map_same f g zero i e = refl
map_same f g (suc n) i e = rw (e i (omega arith) (omega arith), map_same f g n (suc i) (λ j l h. e j (omega arith) (omega arith)))

pub collect-map : {A : Type 0} (f : A → List ℕ) (g : ℕ → A) (l : List ℕ) → collect f (map g l) ≡ collect (λ x. f (g x)) l
collect-map f g l = go l
  where
    go : (l : List ℕ) → collect f (map g l) ≡ collect (λ x. f (g x)) l
    go [] = refl
    go (x ∷ l) = ap (λ (r : List ℕ). f (g x) ++ r) (go l)
