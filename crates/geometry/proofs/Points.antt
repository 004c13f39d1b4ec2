-- Points and their numbers: the edges whose point has a number, twins by number, and what the edges carry of a point and its twin together,
-- which adds up over the halves of an edge.
use Prim.Native.Nat.{ℕ, suc, ◌+◌, ◌*◌, ◌^◌, ◌<◌}
use native.Mathlib.Omega.{arith}
use mathlib.Core.Path.{◌≡◌, refl, sym, ◌∙◌, ap, subst}
use mathlib.Core.Bool.{Bool, true, false}
use mathlib.Core.Option.{Option, none, some}
use lib.Dec.{eqb, eqb→eq}
use lib.ListN.{length}
use Rattle.base.specs.Lists.{bit}
use Rattle.base.specs.Grid.{Place, origin, Axis, X, next, move}
use Rattle.rules.specs.Survey.{Survey}
use Rattle.rules.specs.Edges.{CellEdge, edge, point_edges, number_of, carrier, point_of}
use Rattle.rules.specs.Steps.{edge_of, number_else, twin_of}
use Rattle.rules.specs.Closing.{Carries}
use Rattle.base.proofs.Tests.{true→, false→, →true, tests_equal, eq→eqb}
use Rattle.base.proofs.Lists.{get_any, in_get}
use Rattle.octree.specs.Lawful.{Lawful}
use Rattle.octree.proofs.Edges.{crossed→, undivided→}
use Rattle.octree.proofs.Points.{Crossed, point-crossed, crossed-carries, number_at}
use Rattle.octree.proofs.Halves.{carrier-crossed}
use Rattle.geometry.proofs.Grid.{place, far, move-across}
use Rattle.geometry.proofs.Face.{rises}
use Rattle.geometry.proofs.Square.{point_at, fore, back}
use Rattle.geometry.proofs.Closed.{Adds, Rim}
use Rattle.geometry.proofs.Sides.{EdgeAt, parted, parted_flank, quarter, side_edges}
use Rattle.geometry.proofs.Halves.{half_of}
use Rattle.geometry.proofs.Trees.{differ, edge_is, divided_is, odd_is, odd-whole, divided_half, carrier_lower, carrier-upper}
use Rattle.geometry.proofs.Trees.{Below, Siblings, twin_edge, carrier_below, sibling_twin, sibling_back, sibling_edge, twin_sibling}

module _ (s : Survey) where
  pub crossed_parts : (e : CellEdge) → Crossed s e
      → (edge_is s e.axis e.level e.low ≡ true) × (divided_is s e.axis e.level e.low ≡ false) × (odd_is s e.axis e.level e.low ≡ true)
  crossed_parts e c =
      let (u, o) = crossed→ s e.axis e.low e.level c in
      let (i, d) = undivided→ s.cells e.axis e.low e.level u in
      (true→ _ i, false→ _ d, true→ _ o)

  -- an edge that carries a number is that of its number
  pub carried : (e : CellEdge) (p : ℕ) → Carries s e p → edge_of s p ≡ e
  unfolding edge_of
  carried e p (h, q) = get_any (point_edges s) p (edge X origin 0) e h ∙ q

  -- an edge is odd where its ends differ
  pub odd_at : (b : Axis) (k i j l : ℕ) → odd_is s b k (place b i j l) ≡ differ (s.is_wet (place b i j l)) (s.is_wet (place b (i + 2 ^ k) j l))
  odd_at b k i j l = odd-whole s b k (place b i j l) ∙ ap (λ q. differ (s.is_wet (place b i j l)) (s.is_wet q)) (move-across b (2 ^ k) i j l)

  -- a point and its twin, counted together
  abbrev pub pair_hit : ℕ → ℕ → ℕ
  pair_hit v x = bit (eqb v x) + bit (eqb (twin_of s v) x)

module _ (s : Survey) (law : Lawful s) where
  number-edge : (e : CellEdge) → Crossed s e → edge_of s (number_of s e) ≡ e
  number-edge e c = carried s e (number_of s e) (crossed-carries s law e c)

  -- point v has the number v, and its edge is crossed
  pub pointed : (v : ℕ) → v < length (point_edges s) → Crossed s (edge_of s v) × (number_of s (edge_of s v) ≡ v)
  unfolding edge_of
  pointed v h = (point-crossed s (edge_of s v) (in_get (point_edges s) v (edge X origin 0) h), number_at s law (edge X origin 0) v h)

  carrier_crosses : (a : Axis) (p : Place) (k : ℕ) → edge_is s a k p ≡ true → odd_is s a k p ≡ true → Crossed s (carrier s a p k)
  carrier_crosses a p k e o = carrier-crossed s law.octree a p k (→true e) (→true o)

  -- the number of the point of an odd edge
  pub point-is : (b : Axis) (k i j l : ℕ) → point_at s b k i j l ≡ number_of s (carrier s b (place b i j l) k)
  unfolding point_at point_of
  point-is b k i j l = refl

  pub point_below : (b : Axis) (k i j l : ℕ) → EdgeAt s.cells b k i j l → odd_is s b k (place b i j l) ≡ true → point_at s b k i j l < length (point_edges s)
  point_below b k i j l e o =
      let p = place b i j l in
      subst (λ n. n < length (point_edges s)) (sym (point-is b k i j l)) (crossed-carries s law (carrier s b p k) (carrier_crosses b p k e o)).0

  -- an odd edge whose point has the number v is that of point v, or an edge above it
  pub point_on : (v : ℕ) (b : Axis) (k i j l : ℕ) → EdgeAt s.cells b k i j l → odd_is s b k (place b i j l) ≡ true → v ≡ point_at s b k i j l
      → Below s b k (place b i j l) (edge_of s v)
  point_on v b k i j l e o h =
      let p = place b i j l in
      subst (Below s b k p) (sym (number-edge (carrier s b p k) (carrier_crosses b p k e o)) ∙ ap (edge_of s) (sym (h ∙ point-is b k i j l)))
      (carrier_below s law b k p e o)

  -- ---- twins by number

  twin-number : (e : CellEdge) → Crossed s e → twin_of s (number_of s e) ≡ number_else s (number_of s e) (twin_edge s e)
  unfolding twin_of
  twin-number e c = ap (λ x. number_else s (number_of s e) (twin_edge s x)) (number-edge e c)

  siblings : (e t : CellEdge) → Crossed s e → twin_edge s e ≡ some t → Siblings s e.axis e t
  siblings e t c h =
      let (i, d, o) = crossed_parts s e c in
      twin_sibling s law e.axis e.low e.level t i d o h

  twin-crossed : (e t : CellEdge) → Crossed s e → twin_edge s e ≡ some t → Crossed s t
  twin-crossed e t c h =
      let r = sibling_back s law e.axis e t (siblings e t c h) in
      let q = half_of e.axis r.level r.upper r.whole in
      subst (Crossed s) (sym r.here) (carrier_crosses e.axis q r.level (sibling_edge s law e.axis t e r) r.is_odd)

  twin-back : (e t : CellEdge) → Crossed s e → twin_edge s e ≡ some t → twin_edge s t ≡ some e
  twin-back e t c h = sibling_twin s law e.axis t e (sibling_back s law e.axis e t (siblings e t c h))

  twin-some : (e t : CellEdge) → Crossed s e → twin_edge s e ≡ some t → twin_of s (number_of s e) ≡ number_of s t
  unfolding number_else
  twin-some e t c h = twin-number e c ∙ ap (number_else s (number_of s e)) h

  twin-none : (e : CellEdge) → Crossed s e → twin_edge s e ≡ none → twin_of s (number_of s e) ≡ number_of s e
  unfolding number_else
  twin-none e c h = twin-number e c ∙ ap (number_else s (number_of s e)) h

  -- the twin of the twin
  pub twin_twice : (v : ℕ) → v < length (point_edges s) → twin_of s (twin_of s v) ≡ v
  twin_twice v h = subst (λ n. twin_of s (twin_of s n) ≡ n) (pointed v h).1 (go (twin_edge s e) refl)
    where
      e : CellEdge
      e = edge_of s v

      c : Crossed s (edge_of s v)
      c = (pointed v h).0

      go : (o : Option CellEdge) → twin_edge s (edge_of s v) ≡ o → twin_of s (twin_of s (number_of s (edge_of s v))) ≡ number_of s (edge_of s v)
      go none q = ap (twin_of s) (twin-none (edge_of s v) c q) ∙ twin-none (edge_of s v) c q
      go (some t) q =
          ap (twin_of s) (twin-some (edge_of s v) t c q) ∙ twin-some t (edge_of s v) (twin-crossed (edge_of s v) t c q) (twin-back (edge_of s v) t c q)

  -- a point with another twin than itself, and the edges of both
  pub twin_edges : (v : ℕ) → v < length (point_edges s) → (v ≡ twin_of s v → ⊥) → Siblings s (edge_of s v).axis (edge_of s v) (edge_of s (twin_of s v))
  twin_edges v h n = go (twin_edge s (edge_of s v)) refl
    where
      c : Crossed s (edge_of s v)
      c = (pointed v h).0

      w : number_of s (edge_of s v) ≡ v
      w = (pointed v h).1

      go : (o : Option CellEdge) → twin_edge s (edge_of s v) ≡ o → Siblings s (edge_of s v).axis (edge_of s v) (edge_of s (twin_of s v))
      go none q = absurd (n (sym w ∙ sym (twin-none (edge_of s v) c q) ∙ ap (twin_of s) w))
      go (some t) q =
          let r : twin_of s v ≡ number_of s t = ap (twin_of s) (sym w) ∙ twin-some (edge_of s v) t c q in
          subst (λ x. Siblings s (edge_of s v).axis (edge_of s v) x) (sym (ap (edge_of s) r ∙ number-edge t (twin-crossed (edge_of s v) t c q)))
          (siblings (edge_of s v) t c q)

  -- a number for each point, the same at twins
  abbrev pub Blind : (ℕ → ℕ) → Type 0
  Blind h = (e t : CellEdge) → Crossed s e → twin_edge s e ≡ some t → h (number_of s e) ≡ h (number_of s t)

  same_test : (m n m' n' : ℕ) → (m ≡ n → m' ≡ n') → (m' ≡ n' → m ≡ n) → eqb m n ≡ eqb m' n'
  same_test m n m' n' f h =
      tests_equal (eqb m n) (eqb m' n') (λ t. eq→eqb m' n' (f (eqb→eq m n t))) (λ t. eq→eqb m n (h (eqb→eq m' n' t)))

  pub pair_blind : (v : ℕ) → v < length (point_edges s) → Blind (pair_hit s v)
  pair_blind v h e t c q =
      let x = number_of s e in
      let y = number_of s t in
      let xy : twin_of s x ≡ y = twin-some e t c q in
      let yx : twin_of s y ≡ x = twin-some t e (twin-crossed e t c q) (twin-back e t c q) in
      let vv = twin_twice v h in
      let p : eqb v x ≡ eqb (twin_of s v) y =
      same_test v x (twin_of s v) y (λ i. ap (twin_of s) i ∙ xy) (λ i. sym vv ∙ ap (twin_of s) i ∙ yx) in
      let r : eqb (twin_of s v) x ≡ eqb v y =
      same_test (twin_of s v) x v y (λ i. sym vv ∙ ap (twin_of s) i ∙ xy) (λ i. ap (twin_of s) i ∙ yx) in
      omega (arith, ap bit p, ap bit r)

  -- ---- what an edge carries is what its halves carry

  halves_add : (w0 w1 w2 : Bool) (x y z : ℕ) → (differ w0 w1 ≡ true → differ w0 w2 ≡ true → x ≡ y) → (differ w0 w1 ≡ false → x ≡ z)
      → (differ w0 w1 ≡ true → differ w0 w2 ≡ false → y ≡ z)
      → bit (rises w0 w2) * x + (bit (rises w1 w0) * y + bit (rises w2 w1) * z) ≡ bit (rises w2 w0) * x + (bit (rises w0 w1) * y + bit (rises w1 w2) * z)
  halves_add true true true x y z f k h = omega arith
  halves_add true true false x y z f k h = omega (arith, k refl)
  halves_add true false true x y z f k h = omega (arith, h refl refl)
  halves_add true false false x y z f k h = omega (arith, f refl refl)
  halves_add false true true x y z f k h = omega (arith, f refl refl)
  halves_add false true false x y z f k h = omega (arith, h refl refl)
  halves_add false false true x y z f k h = omega (arith, k refl)
  halves_add false false false x y z f k h = omega arith

  edge_adds : (h : ℕ → ℕ) → Blind h → (b : Axis) (k i j l : ℕ) → EdgeAt s.cells b (suc k) i j l → EdgeAt s.cells b k i j l
      → Adds (fore s h b) (back s h b) k i j l
  unfolding fore back
  edge_adds h blind b k i j l E e =
      rw (← far k i)
      (halves_add (s.is_wet (place b i j l)) (s.is_wet (place b (i + 2 ^ k) j l)) (s.is_wet (place b (i + 2 ^ suc k) j l))
      (h (point_at s b (suc k) i j l)) (h (point_at s b k i j l)) (h (point_at s b k (i + 2 ^ k) j l))
      (λ o _. ap h (point-is b (suc k) i j l ∙ ap (number_of s) (carrier_lower s b k (place b i j l) d (low o)) ∙ sym (point-is b k i j l)))
      (λ o. ap h (point-is b (suc k) i j l ∙ ap (number_of s) (carrier-upper s b k (place b i j l) d (low o)) ∙ upper_is))
      (λ o n. ap h (point-is b k i j l) ∙ twins (low o) (odd_at s b (suc k) i j l ∙ n) ∙ ap h upper_is))
    where
      d : divided_is s b (suc k) (place b i j l) ≡ true
      d = divided_half s b k false (place b i j l) e

      low : {x : Bool} → differ (s.is_wet (place b i j l)) (s.is_wet (place b (i + 2 ^ k) j l)) ≡ x → odd_is s b k (place b i j l) ≡ x
      low o = odd_at s b k i j l ∙ o

      upper_is : number_of s (carrier s b (move b (2 ^ k) (place b i j l)) k) ≡ point_at s b k (i + 2 ^ k) j l
      upper_is = ap (λ q. number_of s (carrier s b q k)) (move-across b (2 ^ k) i j l) ∙ sym (point-is b k (i + 2 ^ k) j l)

      twins : odd_is s b k (place b i j l) ≡ true → odd_is s b (suc k) (place b i j l) ≡ false
          → h (number_of s (carrier s b (place b i j l) k)) ≡ h (number_of s (carrier s b (move b (2 ^ k) (place b i j l)) k))
      twins o n =
          let lower = carrier s b (place b i j l) k in
          let upper = carrier s b (move b (2 ^ k) (place b i j l)) k in
          let pair : Siblings s b lower upper = record {
            level = k;
            whole = place b i j l;
            upper = false;
            is_edge_lem = E;
            is-divided = d;
            is-even = n;
            is_odd = o;
            here = refl;
            there = refl;
          } in
          blind lower upper (carrier_crosses b (place b i j l) k e o) (sibling_twin s law b lower upper pair)

  -- the four edges of a divided square add up
  pub square_adds : (h : ℕ → ℕ) → Blind h → (a : Axis) (k n u v : ℕ) → parted s.cells a (suc k) n u v ≡ true → Rim (fore s h) (back s h) a k n u v
  square_adds h blind a k n u v e =
      let w = side_edges s.cells a (suc k) n u v (parted_flank s.cells law.octree a (suc k) n u v e) in
      let q0 = side_edges s.cells a k n u v (quarter s.cells law.octree a k n u v e false false) in
      let q1 = side_edges s.cells a k n (u + 2 ^ k) v (quarter s.cells law.octree a k n u v e true false) in
      let q2 = side_edges s.cells a k n u (v + 2 ^ k) (quarter s.cells law.octree a k n u v e false true) in
      record {
        bottom = edge_adds h blind (next a) k u v n w.bottom q0.bottom;
        right = edge_adds h blind (next (next a)) k v n (u + 2 ^ suc k) w.right (rw (far k u) q1.right);
        top = edge_adds h blind (next a) k u (v + 2 ^ suc k) n w.top (rw (far k v) q2.top);
        left = edge_adds h blind (next (next a)) k v n u w.left q0.left;
      }
