-- Edge trees: the edge that carries the point of an odd edge lies on it; of an even edge with odd halves, the halves' points are twins.
use Prim.Native.Nat.{ℕ, zero, suc, ◌+◌, ◌^◌, ◌≤◌}
use native.Mathlib.Omega.{arith}
use mathlib.Core.Path.{◌≡◌, refl, sym, ◌∙◌, ap, subst}
use mathlib.Core.Logic.{◌⊎◌, inl, inr}
use mathlib.Core.Bool.{Bool, true, false, not, ◌||◌, beq, true≢false, false≢true, not-not}
use mathlib.Core.Option.{Option, none, some, none-ne-some, some-injective}
use Rattle.base.specs.Grid.{Place, Axis, next, along, move}
use Rattle.rules.specs.Survey.{Survey}
use Rattle.rules.specs.Edges.{CellEdge, edge, is_edge, divided, odd, carrier}
use Rattle.rules.specs.Steps.{is_upper, above, other, twin}
use Rattle.base.proofs.Tests.{or_left, or_right, true→, →true}
use Rattle.base.proofs.Places.{along-put}
use Rattle.octree.specs.Lawful.{Lawful}
use Rattle.octree.proofs.Aligned.{Multiple, edge_aligned, edge-level}
use Rattle.octree.proofs.Halves.{halves, move-move}
use Rattle.geometry.proofs.Grid.{along-move-first, along-move-second}
use Rattle.geometry.proofs.Halves.{half_of, above_half, half_above, other-above, other_half}

-- ---- three ends: of an edge, its middle, and its other end

abbrev pub differ : Bool → Bool → Bool
differ x y = not (beq x y)

-- the odd half of an odd edge, and which end is as wet as the middle
one-odd : (x m y : Bool) → differ x y ≡ true → ((differ x m ≡ true) × (differ m y ≡ false) × (m ≡ y)) ⊎ ((differ x m ≡ false) × (differ m y ≡ true) × (m ≡ x))
one-odd true true true h = absurd (false≢true h)
one-odd true true false h = inr (refl, refl, refl)
one-odd true false true h = absurd (false≢true h)
one-odd true false false h = inl (refl, refl, refl)
one-odd false true true h = inl (refl, refl, refl)
one-odd false true false h = absurd (false≢true h)
one-odd false false true h = inr (refl, refl, refl)
one-odd false false false h = absurd (false≢true h)

-- the halves of an even edge are odd both or neither
alike : (x m y : Bool) → differ x y ≡ false → differ x m ≡ differ m y
alike true true true h = refl
alike true true false h = absurd (true≢false h)
alike true false true h = refl
alike true false false h = absurd (true≢false h)
alike false true true h = absurd (true≢false h)
alike false true false h = refl
alike false false true h = absurd (true≢false h)
alike false false false h = refl

module _ (s : Survey) (a : Axis) where
  abbrev pub edge_is : ℕ → Place → Bool
  edge_is k p = is_edge s.cells a p k

  abbrev pub divided_is : ℕ → Place → Bool
  divided_is k p = divided s.cells a p k

  abbrev pub odd_is : ℕ → Place → Bool
  odd_is k p = odd s.is_wet a p k

  divided-is : (k : ℕ) (p : Place) → divided_is (suc k) p ≡ edge_is k p || edge_is k (move a (2 ^ k) p)
  unfolding divided
  divided-is k p = refl

  pub divided_half : (k : ℕ) (b : Bool) (p : Place) → edge_is k (half_of a k b p) ≡ true → divided_is (suc k) p ≡ true
  divided_half k false p h = divided-is k p ∙ true→ _ (or_left (edge_is k p) (edge_is k (move a (2 ^ k) p)) (→true h))
  divided_half k true p h = divided-is k p ∙ true→ _ (or_right (edge_is k p) (edge_is k (move a (2 ^ k) p)) (→true h))

  -- the ends of an edge of level suc k and of its halves
  pub odd-whole : (k : ℕ) (p : Place) → odd_is k p ≡ differ (s.is_wet p) (s.is_wet (move a (2 ^ k) p))
  unfolding odd
  odd-whole k p = refl

  odd-upper : (k : ℕ) (p : Place) → odd_is k (move a (2 ^ k) p) ≡ differ (s.is_wet (move a (2 ^ k) p)) (s.is_wet (move a (2 ^ suc k) p))
  odd-upper k p = odd-whole k (move a (2 ^ k) p) ∙ ap (λ q. differ (s.is_wet (move a (2 ^ k) p)) (s.is_wet q)) (move-move a k p)

  -- the odd half of an odd edge: its ends are as wet as those of the whole
  record OddHalf (k : ℕ) (p : Place) : Type 0 where
    pub upper : Bool
    pub is_odd : odd_is k (half_of a k upper p) ≡ true
    pub low : s.is_wet (half_of a k upper p) ≡ s.is_wet p
    pub high : s.is_wet (move a (2 ^ k) (half_of a k upper p)) ≡ s.is_wet (move a (2 ^ suc k) p)

  odd_half : (k : ℕ) (p : Place) → odd_is (suc k) p ≡ true → OddHalf k p
  odd_half k p o = go (one-odd x m y (sym (odd-whole (suc k) p) ∙ o))
    where
      x : Bool
      x = s.is_wet p

      m : Bool
      m = s.is_wet (move a (2 ^ k) p)

      y : Bool
      y = s.is_wet (move a (2 ^ suc k) p)

      go : ((differ x m ≡ true) × (differ m y ≡ false) × (m ≡ y)) ⊎ ((differ x m ≡ false) × (differ m y ≡ true) × (m ≡ x)) → OddHalf k p
      go (inl h) = record { upper = false; is_odd = odd-whole k p ∙ h.0; low = refl; high = h.2 }
      go (inr h) = record { upper = true; is_odd = odd-upper k p ∙ h.1; low = h.2; high = ap s.is_wet (move-move a k p) }

  even_halves : (k : ℕ) (p : Place) → odd_is (suc k) p ≡ false → odd_is k p ≡ odd_is k (move a (2 ^ k) p)
  even_halves k p o =
      odd-whole k p ∙ alike (s.is_wet p) (s.is_wet (move a (2 ^ k) p)) (s.is_wet (move a (2 ^ suc k) p)) (sym (odd-whole (suc k) p) ∙ o) ∙ sym (odd-upper k p)

  even-other : (k : ℕ) (b : Bool) (p : Place) → odd_is (suc k) p ≡ false → odd_is k (half_of a k b p) ≡ true → odd_is k (half_of a k (not b) p) ≡ true
  even-other k false p o h = sym (even_halves k p o) ∙ h
  even-other k true p o h = even_halves k p o ∙ h

  -- ---- carriers

  pub carrier-undivided : (k : ℕ) (p : Place) → divided_is k p ≡ false → carrier s a p k ≡ edge a p k
  unfolding carrier
  carrier-undivided zero p d = refl
  carrier-undivided (suc k) p d = rw (d, carrier)

  pub carrier_lower : (k : ℕ) (p : Place) → divided_is (suc k) p ≡ true → odd_is k p ≡ true → carrier s a p (suc k) ≡ carrier s a p k
  unfolding carrier
  carrier_lower k p d o = rw (d, o, carrier)

  pub carrier-upper : (k : ℕ) (p : Place) → divided_is (suc k) p ≡ true → odd_is k p ≡ false → carrier s a p (suc k) ≡ carrier s a (move a (2 ^ k) p) k
  unfolding carrier
  carrier-upper k p d o = rw (d, o, carrier)

  carrier_half : (k : ℕ) (p : Place) → divided_is (suc k) p ≡ true → odd_is (suc k) p ≡ true → (b : Bool) → odd_is k (half_of a k b p) ≡ true
      → carrier s a p (suc k) ≡ carrier s a (half_of a k b p) k
  carrier_half k p d o false h = carrier_lower k p d h
  carrier_half k p d o true h = carrier-upper k p d (go (one-odd x m y (sym (odd-whole (suc k) p) ∙ o)))
    where
      x : Bool
      x = s.is_wet p

      m : Bool
      m = s.is_wet (move a (2 ^ k) p)

      y : Bool
      y = s.is_wet (move a (2 ^ suc k) p)

      go : ((differ x m ≡ true) × (differ m y ≡ false) × (m ≡ y)) ⊎ ((differ x m ≡ false) × (differ m y ≡ true) × (m ≡ x)) → odd_is k p ≡ false
      go (inl e) = absurd (true≢false (sym h ∙ odd-upper k p ∙ e.1))
      go (inr e) = odd-whole k p ∙ e.0

  -- what holds of the edge that carries the point of the odd edge of level k at p
  pub record Below (k : ℕ) (p : Place) (e : CellEdge) : Type 0 where
    pub axis : e.axis ≡ a
    pub is_edge_lem : is_edge s.cells a e.low e.level ≡ true
    pub undivided : divided s.cells a e.low e.level ≡ false
    pub low : s.is_wet e.low ≡ s.is_wet p
    pub high : s.is_wet (move a (2 ^ e.level) e.low) ≡ s.is_wet (move a (2 ^ k) p)
    pub from : along a p ≤ along a e.low
    pub to : along a e.low + 2 ^ e.level ≤ along a p + 2 ^ k
    pub first : along (next a) e.low ≡ along (next a) p
    pub second : along (next (next a)) e.low ≡ along (next (next a)) p

  below_self : (k : ℕ) (p : Place) → edge_is k p ≡ true → divided_is k p ≡ false → Below k p (carrier s a p k)
  below_self k p e d =
      rw (carrier-undivided k p d)
      (record { axis = refl; is_edge_lem = e; undivided = d; low = refl; high = refl; from = omega arith; to = omega arith; first = refl; second = refl })

  -- a half lies on the whole
  half_on : (k : ℕ) (b : Bool) (p : Place) → (along a p ≤ along a (half_of a k b p)) × (along a (half_of a k b p) + 2 ^ k ≤ along a p + 2 ^ suc k)
      × (along (next a) (half_of a k b p) ≡ along (next a) p) × (along (next (next a)) (half_of a k b p) ≡ along (next (next a)) p)
  half_on k false p = (omega arith, omega arith, refl, refl)
  half_on k true p =
      let e = along-put a (along a p + 2 ^ k) p in
      (omega arith, omega arith, along-move-first a (2 ^ k) p, along-move-second a (2 ^ k) p)

  -- ---- steps of the climb, k levels

  twin-none : (f k : ℕ) (p : Place) → edge_is (suc k) (above a p k) ≡ false → twin s (suc f) a p k ≡ none
  unfolding twin
  twin-none f k p e = rw (e, twin)

  twin-odd : (f k : ℕ) (p : Place) → edge_is (suc k) (above a p k) ≡ true → odd_is (suc k) (above a p k) ≡ true
      → twin s (suc f) a p k ≡ twin s f a (above a p k) (suc k)
  unfolding twin
  twin-odd f k p e o = rw (e, o, twin)

  twin-even : (f k : ℕ) (p : Place) → edge_is (suc k) (above a p k) ≡ true → odd_is (suc k) (above a p k) ≡ false
      → twin s (suc f) a p k ≡ some (carrier s a (other a p k) k)
  unfolding twin
  twin-even f k p e o = rw (e, o, twin)

  -- two edges that carry the points of the two odd halves of an even edge
  pub record Siblings (e t : CellEdge) : Type 0 where
    pub level : ℕ
    pub whole : Place
    pub upper : Bool
    pub is_edge_lem : edge_is (suc level) whole ≡ true
    pub is-divided : divided_is (suc level) whole ≡ true
    pub is-even : odd_is (suc level) whole ≡ false
    pub is_odd : odd_is level (half_of a level upper whole) ≡ true
    pub here : e ≡ carrier s a (half_of a level upper whole) level
    pub there : t ≡ carrier s a (half_of a level (not upper) whole) level

-- two edges along the axis a are on one line
abbrev pub OnLine : Axis → CellEdge → CellEdge → Type 0
OnLine a e f = (f.axis ≡ e.axis) × (along (next a) f.low ≡ along (next a) e.low) × (along (next (next a)) f.low ≡ along (next (next a)) e.low)

-- the twin of the point of an undivided edge
abbrev pub twin_edge : Survey → CellEdge → Option CellEdge
twin_edge s e = twin s 10 e.axis e.low e.level

module _ (s : Survey) (law : Lawful s) (a : Axis) where
  edge_half : (k : ℕ) (p : Place) → edge_is s a (suc k) p ≡ true → divided_is s a (suc k) p ≡ true → (b : Bool) → edge_is s a k (half_of a k b p) ≡ true
  edge_half k p e d false = true→ _ (halves s.cells law.octree a p k (→true e) (→true d)).0
  edge_half k p e d true = true→ _ (halves s.cells law.octree a p k (→true e) (→true d)).1

  -- the edge that carries the point of an odd edge is undivided, lies on it, and has ends as wet as its ends
  pub carrier_below : (k : ℕ) (p : Place) → edge_is s a k p ≡ true → odd_is s a k p ≡ true → Below s a k p (carrier s a p k)
  carrier_below zero p e o = below_self s a zero p e (unfold divided in refl)
  carrier_below (suc k) p e o = go (carrier_below k) (divided_is s a (suc k) p) refl
    where
      go : ((q : Place) → edge_is s a k q ≡ true → odd_is s a k q ≡ true → Below s a k q (carrier s a q k)) → (b : Bool) → divided_is s a (suc k) p ≡ b
          → Below s a (suc k) p (carrier s a p (suc k))
      go ih false d = below_self s a (suc k) p e d
      go ih true d =
          let h = odd_half s a k p o in
          let q = half_of a k h.upper p in
          let r = ih q (edge_half k p e d h.upper) h.is_odd in
          let l = half_on s a k h.upper p in
          rw (carrier_half s a k p d o h.upper h.is_odd)
          (record {
            axis = r.axis;
            is_edge_lem = r.is_edge_lem;
            undivided = r.undivided;
            low = r.low ∙ h.low;
            high = r.high ∙ h.high;
            from = omega (arith, r.from, l.0);
            to = omega (arith, r.to, l.1);
            first = r.first ∙ l.2;
            second = r.second ∙ l.3;
          })

  -- ---- twins

  -- enough levels to climb are enough
  enough : (f k : ℕ) (p : Place) → 10 ≤ f + k → twin s f a p k ≡ twin s (suc f) a p k
  unfolding twin
  enough zero k p h = go (edge_is s a (suc k) (above a p k)) refl
    where
      go : (b : Bool) → edge_is s a (suc k) (above a p k) ≡ b → none ≡ twin s 1 a p k
      go true e = absurd (omega (arith, edge-level s.cells law.octree a (above a p k) (suc k) (→true e)))
      go false e = sym (twin-none s a 0 k p e)
  enough (suc f) k p h = go (enough f (suc k) (above a p k) (omega arith)) (edge_is s a (suc k) (above a p k)) refl (odd_is s a (suc k) (above a p k)) refl
    where
      go : twin s f a (above a p k) (suc k) ≡ twin s (suc f) a (above a p k) (suc k) → (x : Bool) → edge_is s a (suc k) (above a p k) ≡ x
          → (y : Bool) → odd_is s a (suc k) (above a p k) ≡ y → twin s (suc f) a p k ≡ twin s (suc (suc f)) a p k
      go ih false e y o = twin-none s a f k p e ∙ sym (twin-none s a (suc f) k p e)
      go ih true e true o = twin-odd s a f k p e o ∙ ih ∙ sym (twin-odd s a (suc f) k p e o)
      go ih true e false o = twin-even s a f k p e o ∙ sym (twin-even s a (suc f) k p e o)

  aligned : (k : ℕ) (p : Place) → edge_is s a (suc k) p ≡ true → Multiple (suc k) (along a p)
  aligned k p e = edge_aligned s.cells law.octree a p (suc k) (→true e) a

  above_of : (k : ℕ) (b : Bool) (p : Place) → edge_is s a (suc k) p ≡ true → above a (half_of a k b p) k ≡ p
  above_of k b p e = above_half a k b p (aligned k p e)

  -- to climb from the undivided edge below an odd edge is to climb from that odd edge
  twin-carrier : (k : ℕ) (p : Place) → edge_is s a k p ≡ true → odd_is s a k p ≡ true → twin_edge s (carrier s a p k) ≡ twin s 10 a p k
  twin-carrier zero p e o = ap (twin_edge s) (carrier-undivided s a zero p (unfold divided in refl))
  twin-carrier (suc k) p e o = go (twin-carrier k) (divided_is s a (suc k) p) refl
    where
      go : ((q : Place) → edge_is s a k q ≡ true → odd_is s a k q ≡ true → twin_edge s (carrier s a q k) ≡ twin s 10 a q k) → (b : Bool)
          → divided_is s a (suc k) p ≡ b → twin_edge s (carrier s a p (suc k)) ≡ twin s 10 a p (suc k)
      go ih false d = ap (twin_edge s) (carrier-undivided s a (suc k) p d)
      go ih true d =
          let h = odd_half s a k p o in
          let q = half_of a k h.upper p in
          let u = above_of k h.upper p e in
          ap (twin_edge s) (carrier_half s a k p d o h.upper h.is_odd)
          ∙ ih q (edge_half k p e d h.upper) h.is_odd
          ∙ twin-odd s a 9 k q (ap (edge_is s a (suc k)) u ∙ e) (ap (odd_is s a (suc k)) u ∙ o)
          ∙ ap (λ r. twin s 9 a r (suc k)) u
          ∙ enough 9 (suc k) p (omega arith)

  -- siblings are twins
  pub sibling_twin : (e t : CellEdge) → Siblings s a e t → twin_edge s e ≡ some t
  sibling_twin e t h =
      let k = h.level in
      let p = h.whole in
      let b = h.upper in
      let u = above_of k b p h.is_edge_lem in
      ap (twin_edge s) h.here
      ∙ twin-carrier k (half_of a k b p) (edge_half k p h.is_edge_lem h.is-divided b) h.is_odd
      ∙ twin-even s a 9 k (half_of a k b p) (ap (edge_is s a (suc k)) u ∙ h.is_edge_lem) (ap (odd_is s a (suc k)) u ∙ h.is-even)
      ∙ ap some (ap (λ q. carrier s a q k) (other_half a k b p (aligned k p h.is_edge_lem)) ∙ sym h.there)

  pub sibling_back : (e t : CellEdge) → Siblings s a e t → Siblings s a t e
  sibling_back e t h = record {
    level = h.level;
    whole = h.whole;
    upper = not h.upper;
    is_edge_lem = h.is_edge_lem;
    is-divided = h.is-divided;
    is-even = h.is-even;
    is_odd = even-other s a h.level h.upper h.whole h.is-even h.is_odd;
    here = h.there;
    there = rw not-not h.here;
  }

  pub sibling_edge : (e t : CellEdge) (h : Siblings s a e t) → edge_is s a h.level (half_of a h.level h.upper h.whole) ≡ true
  sibling_edge e t h = edge_half h.level h.whole h.is_edge_lem h.is-divided h.upper

  sibling_below : (e t : CellEdge) (h : Siblings s a e t) → Below s a h.level (half_of a h.level h.upper h.whole) e
  sibling_below e t h =
      let q = half_of a h.level h.upper h.whole in
      rw h.here (carrier_below h.level q (sibling_edge e t h) h.is_odd)

  -- siblings are on one line
  pub sibling_line : (e t : CellEdge) → Siblings s a e t → OnLine a e t
  unfolding sibling_back
  sibling_line e t h =
      let h' = sibling_back e t h in
      let b = sibling_below e t h in
      let b' = sibling_below t e h' in
      let l = half_on s a h.level h.upper h.whole in
      let l' = half_on s a h.level (not h.upper) h.whole in
      (b'.axis ∙ sym b.axis, b'.first ∙ l'.2 ∙ sym l.2 ∙ sym b.first, b'.second ∙ l'.3 ∙ sym l.3 ∙ sym b.second)

  -- and what a climb finds is a sibling
  climb_sibling : (f k : ℕ) (p : Place) (t : CellEdge) → edge_is s a k p ≡ true → odd_is s a k p ≡ true → twin s f a p k ≡ some t
      → Siblings s a (carrier s a p k) t
  unfolding twin
  climb_sibling zero k p t e o h = absurd (none-ne-some t h)
  climb_sibling (suc f) k p t e o h =
      go (climb_sibling f (suc k) (above a p k) t) (edge_is s a (suc k) (above a p k)) refl (odd_is s a (suc k) (above a p k)) refl
    where
      P : Place
      P = above a p k

      b : Bool
      b = is_upper a p k

      q : half_of a k b P ≡ p
      q = half_above a k p

      go : (edge_is s a (suc k) P ≡ true → odd_is s a (suc k) P ≡ true → twin s f a P (suc k) ≡ some t → Siblings s a (carrier s a P (suc k)) t)
          → (x : Bool) → edge_is s a (suc k) P ≡ x → (y : Bool) → odd_is s a (suc k) P ≡ y → Siblings s a (carrier s a p k) t
      go ih false E y O = absurd (none-ne-some t (sym (twin-none s a f k p E) ∙ h))
      go ih true E true O =
          let d = divided_half s a k b P (ap (edge_is s a k) q ∙ e) in
          subst (λ x. Siblings s a x t) (carrier_half s a k P d O b (ap (odd_is s a k) q ∙ o) ∙ ap (λ x. carrier s a x k) q)
          (ih E O (sym (twin-odd s a f k p E O) ∙ h))
      go ih true E false O = record {
        level = k;
        whole = P;
        upper = b;
        is_edge_lem = E;
        is-divided = divided_half s a k b P (ap (edge_is s a k) q ∙ e);
        is-even = O;
        is_odd = ap (odd_is s a k) q ∙ o;
        here = ap (λ x. carrier s a x k) (sym q);
        there = some-injective _ _ (sym h ∙ twin-even s a f k p E O) ∙ ap (λ x. carrier s a x k) (other-above a k p);
      }

  pub twin_sibling : (p : Place) (k : ℕ) (t : CellEdge) → edge_is s a k p ≡ true → divided_is s a k p ≡ false → odd_is s a k p ≡ true
      → twin s 10 a p k ≡ some t → Siblings s a (edge a p k) t
  twin_sibling p k t e d o h = subst (λ x. Siblings s a x t) (carrier-undivided s a k p d) (climb_sibling 10 k p t e o h)
