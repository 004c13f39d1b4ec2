-- Records that rise: check 5 record by record, and a search by quartering for the record with a key.
use Prim.Native.Nat.{ℕ, zero, suc, ◌+◌, ◌*◌, ◌≤◌, ◌<◌}
use mathlib.Core.Path.{◌≡◌, refl, sym, ap, ◌∙◌}
use mathlib.Core.Bool.{Bool, true, false, ◌&&◌, false≢true}
use mathlib.Core.List.{List, [], ◌∷◌}
use native.Mathlib.Numerals.{add-one}
use native.Mathlib.Nat.{zero-add, mul-le-mul_right}
use native.Mathlib.Decide.{ℕ_discrete, dec_lt}
use native.Mathlib.Omega.{arith}
use lib.Dec.{eqb, ltb}
use lib.ListN.{length, get_or, drop, length-drop}
use borrow.Author.Tests.{lt-ltb, le-ltb, eq-eqb, ne_eqb, ltb-true}
use Rattle.base.specs.Grid.{Place}
use Rattle.base.proofs.Below.{rest, position_at, position-none, position-le}
use Rattle.rules.specs.Survey.{record_count, corner_record, place_of}
use Rattle.rules.specs.Outputs.{before, rising}
use Rattle.records.specs.Keys.{key_of, places_of, record_at}
use Rattle.records.proofs.Keys.{Bytes, nowhere, before-key, record_short, get_place, length-places}

-- the key of record k
abbrev pub key_at : List ℕ → ℕ → ℕ
key_at t k = key_of (place_of (corner_record t k))

-- ---- check 5, one record further

rising_cons : (p q : Place) (r : List Place) → rising (p ∷ q ∷ r) ≡ before p q && rising (q ∷ r)
unfolding rising
rising_cons p q r = refl

rising-turn : (ps : List Place) (d : Place) (i : ℕ) → i + 1 < length ps
    → rising (drop i ps) ≡ before (get_or ps i d) (get_or ps (i + 1) d) && rising (drop (i + 1) ps)
rising-turn ps d i h =
    rw (rest ps i d (omega arith), rest ps (i + 1) d h) (rising_cons (get_or ps i d) (get_or ps (i + 1) d) (drop (i + 1 + 1) ps))

rising_short : (ps : List Place) → length ps ≤ 1 → rising ps ≡ true
unfolding rising
rising_short [] h = refl
rising_short (p ∷ []) h = refl
rising_short (p ∷ q ∷ r) h = absurd (omega arith)

module _ (t : List ℕ) (b : Bytes t) where
  next-before : (i : ℕ) → i + 1 < record_count t
      → before (get_or (places_of t) i (place_of nowhere)) (get_or (places_of t) (i + 1) (place_of nowhere)) ≡ ltb (key_at t i) (key_at t (i + 1))
  next-before i h =
      rw (get_place t i (omega arith), get_place t (i + 1) h)
      (before-key (place_of (corner_record t i)) (place_of (corner_record t (i + 1))) (record_short t b i (omega arith)) (record_short t b (i + 1) h))

  turn : (i : ℕ) → i + 1 < record_count t → rising (drop i (places_of t)) ≡ ltb (key_at t i) (key_at t (i + 1)) && rising (drop (i + 1) (places_of t))
  turn i h =
      rising-turn (places_of t) (place_of nowhere) i (rw (length-places t) h)
      ∙ ap (λ w. w && rising (drop (i + 1) (places_of t))) (next-before i h)

  pub rise_breaks : (i j : ℕ) → i + 1 ≡ j → j < record_count t → key_at t j ≤ key_at t i → rising (drop i (places_of t)) ≡ false
  rise_breaks i j e h g = turn i (rw e h) ∙ rw (e, le-ltb (key_at t i) (key_at t j) g)

  pub rise_goes_on : (i j : ℕ) → i + 1 ≡ j → j < record_count t → key_at t i < key_at t j → rising (drop j (places_of t)) ≡ rising (drop i (places_of t))
  rise_goes_on i j e h g = sym (turn i (rw e h) ∙ rw (e, lt-ltb (key_at t i) (key_at t j) g))

  pub rise_ends : (i : ℕ) → record_count t ≤ i + 1 → rising (drop i (places_of t)) ≡ true
  rise_ends i h = rising_short (drop i (places_of t)) (rw (length-drop i (places_of t), length-places t) (omega arith))

  -- ---- what a strict rise gives

  module _ (up : rising (places_of t) ≡ true) where
    left : (i : ℕ) → i < record_count t → rising (drop i (places_of t)) ≡ true
    left zero h = up
    left (suc i) h = rw add-one at (go (ltb (key_at t i) (key_at t (i + 1))) (rising (drop (i + 1) (places_of t))) (sym (left i (omega arith))
        ∙ turn i (omega arith)))
      where
        go : (a c : Bool) → true ≡ a && c → c ≡ true
        go true c e = sym e
        go false c e = absurd (false≢true (sym e))

    step : (i : ℕ) → i + 1 < record_count t → key_at t i < key_at t (i + 1)
    step i h = ltb-true (key_at t i) (key_at t (i + 1)) (go (ltb (key_at t i) (key_at t (i + 1))) (rising (drop (i + 1) (places_of t))) (sym (left i
        (omega arith)) ∙ turn i h))
      where
        go : (a c : Bool) → true ≡ a && c → a ≡ true
        go true c e = refl
        go false c e = sym e

    -- an earlier record has a smaller key
    pub keys_rise : (i j : ℕ) → i < j → j < record_count t → key_at t i < key_at t j
    keys_rise i zero h l = absurd (omega arith)
    keys_rise i (suc m) h l = go (ℕ_discrete i m) (λ q. keys_rise i m q (omega arith))
      where
        next : key_at t m < key_at t (suc m)
        next = rw add-one at (step m (omega arith))

        go : Dec (i ≡ m) → (i < m → key_at t i < key_at t m) → key_at t i < key_at t (suc m)
        go (yes q) f = rw q next
        go (no q) f = omega (arith, f (omega arith), next)

    pub below_middle : (m k : ℕ) → m < record_count t → key_at t m < k → (j : ℕ) → j < m + 1 → key_at t j < k
    below_middle m k l h j q = go (ℕ_discrete j m)
      where
        go : Dec (j ≡ m) → key_at t j < k
        go (yes e) = rw e h
        go (no e) = omega (arith, keys_rise j m (omega arith) l)

    pub from_middle : (m k : ℕ) → k ≤ key_at t m → (j : ℕ) → m ≤ j → j < record_count t → k ≤ key_at t j
    from_middle m k h j q l = go (ℕ_discrete j m)
      where
        go : Dec (j ≡ m) → k ≤ key_at t j
        go (yes e) = rw e h
        go (no e) = omega (arith, keys_rise m j (omega arith) l)

    -- ---- one round of the search: of three records, each a step behind the other, so many have smaller keys

    -- what a look at record m tells: 1 if it is there and has a smaller key, else 0
    abbrev pub Look : ℕ → ℕ → ℕ → ℕ → Type 0
    Look n k m r = (r ≤ 1) × ((1 ≤ r → (m < n) × (key_at t m < k)) × (r < 1 → m < n → k ≤ key_at t m))

    module _ (n k low size a c d : ℕ) (same : n ≡ record_count t)
        (f : Look n k (low + size) a) (g : Look n k (low + size + (size + 1)) c) (h : Look n k (low + size + 2 * (size + 1)) d) where
      -- so many steps, held to a number that is known
      at_most : (m : ℕ) → a + c + d ≤ m → (a + c + d) * (size + 1) ≤ m * (size + 1)
      at_most m l = mul-le-mul_right (size + 1) l

      at_least : (m : ℕ) → m ≤ a + c + d → m * (size + 1) ≤ (a + c + d) * (size + 1)
      at_least m l = mul-le-mul_right (size + 1) l

      pub round-le : low ≤ n → low + (a + c + d) * (size + 1) ≤ n
      round-le l = go (dec_lt 0 a) (dec_lt 0 c) (dec_lt 0 d)
        where
          go : Dec (0 < a) → Dec (0 < c) → Dec (0 < d) → low + (a + c + d) * (size + 1) ≤ n
          go _ _ (yes w) = omega (arith, at_most 3 (omega (arith, f.0, g.0, h.0)), (h.1.0 (omega arith)).0)
          go _ (yes v) (no w) = omega (arith, at_most 2 (omega (arith, f.0, g.0, h.0)), (g.1.0 (omega arith)).0)
          go (yes u) (no v) (no w) = omega (arith, at_most 1 (omega (arith, f.0, g.0, h.0)), (f.1.0 (omega arith)).0)
          go (no u) (no v) (no w) = omega (arith, at_most 0 (omega arith), l)

      pub round_below : (j : ℕ) → low ≤ j → j < low + (a + c + d) * (size + 1) → key_at t j < k
      round_below j l q = go (dec_lt 0 a) (dec_lt 0 c) (dec_lt 0 d)
        where
          go : Dec (0 < a) → Dec (0 < c) → Dec (0 < d) → key_at t j < k
          go _ _ (yes w) =
              let there = h.1.0 (omega arith) in
              below_middle _ k (omega (arith, there.0, same)) there.1 j (omega (arith, q, at_most 3 (omega (arith, f.0, g.0, h.0))))
          go _ (yes v) (no w) =
              let there = g.1.0 (omega arith) in
              below_middle _ k (omega (arith, there.0, same)) there.1 j (omega (arith, q, at_most 2 (omega (arith, f.0, g.0, h.0))))
          go (yes u) (no v) (no w) =
              let there = f.1.0 (omega arith) in
              below_middle _ k (omega (arith, there.0, same)) there.1 j (omega (arith, q, at_most 1 (omega (arith, f.0, g.0, h.0))))
          go (no u) (no v) (no w) = absurd (omega (arith, l, q, at_most 0 (omega arith)))

      pub round-from : (j : ℕ) → low + (a + c + d) * (size + 1) + size ≤ j → j < low + 4 * size + 3 → j < n → k ≤ key_at t j
      round-from j l q e = go (dec_lt 0 a) (dec_lt 0 c) (dec_lt 0 d)
        where
          go : Dec (0 < a) → Dec (0 < c) → Dec (0 < d) → k ≤ key_at t j
          go (no u) _ _ = from_middle (low + size) k (f.1.1 (omega arith) (omega (arith, l, e))) j (omega (arith, l)) (omega (arith, e, same))
          go (yes u) (no v) _ =
              let further = at_least 1 (omega arith) in
              from_middle (low + size + (size + 1)) k (g.1.1 (omega arith) (omega (arith, l, e, further))) j (omega (arith, l, further))
              (omega (arith, e, same))
          go (yes u) (yes v) (no w) =
              let further = at_least 2 (omega arith) in
              from_middle (low + size + 2 * (size + 1)) k (h.1.1 (omega arith) (omega (arith, l, e, further))) j (omega (arith, l, further))
              (omega (arith, e, same))
          go (yes u) (yes v) (yes w) = absurd (omega (arith, l, q, at_least 3 (omega arith)))

-- ---- from one round to the next: what is known before it, and what the round tells

module _ (t : List ℕ) (k : ℕ) where
  pub goes_on_below : (low r : ℕ) → ((j : ℕ) → j < low → key_at t j < k) → ((j : ℕ) → low ≤ j → j < r → key_at t j < k) → (j : ℕ) → j < r → key_at t j < k
  goes_on_below low r f g j h = go (dec_lt j low)
    where
      go : Dec (j < low) → key_at t j < k
      go (yes q) = f j q
      go (no q) = g j (omega arith) h

  pub goes_on_from : (low r n : ℕ) → ((j : ℕ) → low ≤ j → j < n → k ≤ key_at t j) → ((j : ℕ) → r ≤ j → j < low → j < n → k ≤ key_at t j)
      → (j : ℕ) → r ≤ j → j < n → k ≤ key_at t j
  goes_on_from low r n f g j h l = go (dec_lt j low)
    where
      go : Dec (j < low) → k ≤ key_at t j
      go (yes q) = g j h q l
      go (no q) = f j (omega arith) l

-- ---- where the search ends

module _ (t : List ℕ) (k : ℕ) where
  at_record : (j : ℕ) (r : Bool) → j < record_count t → eqb k (key_at t j) ≡ r → eqb k (key_of (get_or (places_of t) j (place_of nowhere))) ≡ r
  at_record j r h e = rw (get_place t j h) e

  pub is_at_lem : (i : ℕ) → i < record_count t → k ≡ key_at t i → ((j : ℕ) → j < i → key_at t j < k) → i ≡ record_at t k
  unfolding record_at
  is_at_lem i h e g =
      sym (position_at (λ p. eqb k (key_of p)) (place_of nowhere) (places_of t) 0 i (rw (length-places t) h)
      (at_record i true h (eq-eqb k (key_at t i) e))
      (λ j l. at_record j false (omega arith) (ne_eqb k (key_at t j) (λ q. omega (arith, g j l)))) ∙ zero-add i)

  pub is_nowhere : (i : ℕ) → ((j : ℕ) → j < i → key_at t j < k) → ((j : ℕ) → i ≤ j → j < record_count t → k < key_at t j) → record_count t ≡ record_at t k
  unfolding record_at
  is_nowhere i g f =
      sym (position-none (λ p. eqb k (key_of p)) (place_of nowhere) (places_of t) 0
      (λ j l. let h : j < record_count t = rw (length-places t) at l in at_record j false h (ne_eqb k (key_at t j) (go j h (dec_lt j i))))
      ∙ zero-add (length (places_of t)) ∙ length-places t)
    where
      go : (j : ℕ) → j < record_count t → Dec (j < i) → k ≡ key_at t j → ⊥
      go j h (yes l) q = omega (arith, g j l)
      go j h (no l) q = omega (arith, f j (omega arith) h)

  -- the look-up gives a record, or the number of records
  pub record_at_le : record_at t k ≤ record_count t
  unfolding record_at
  record_at_le = omega (arith, position-le (λ p. eqb k (key_of p)) (places_of t) 0, length-places t)
