-- The climb to a point's twin, turn by turn, of a survey that is accepted at a clearance.
use Prim.Native.Nat.{ℕ, zero, suc, ◌+◌, ◌^◌, ◌≤◌, ◌<◌}
use mathlib.Core.Path.{◌≡◌, refl, sym, ap, ◌∙◌, subst}
use mathlib.Core.Bool.{Bool, true, false, cond}
use mathlib.Core.List.{List}
use native.Mathlib.Omega.{arith}
use lib.Dec.{T}
use lib.Ieee.{Float}
use Rattle.base.specs.Grid.{Place, Axis, along, move, back}
use Rattle.base.proofs.Tests.{→true, true→, or_left, or_right}
use Rattle.rules.specs.Survey.{record_count, cells_of, corners_of, wet_at, Survey}
use Rattle.rules.specs.Edges.{edge, is_edge, divided, odd, point_of}
use Rattle.rules.specs.Steps.{is_upper, above, other, twin, number_else}
use Rattle.rules.specs.Outputs.{accepted, survey_of}
use Rattle.records.specs.Keys.{places_of}
use Rattle.octree.proofs.Halves.{move-move}
use Rattle.edges.specs.Tables.{place_at, OddEdge, UpperEnd, Sought}
use Rattle.twins.specs.Risen.{NoneAbove, Risen}
use Rattle.edges.proofs.Levels.{Edged}
use Rattle.edges.proofs.Readings.{edges_law}
use Rattle.twins.proofs.Climbing.{upper-room, twin-none, twin-up, twin-found, else_none, else_some, even_halves, back-move}

-- The other half of an even edge above an odd one is an odd edge.
module _ (s : Survey) (laws : Edged s) (a : Axis) (p : Place) (l : ℕ) (t : T (is_edge s.cells a p l)) (o : T (odd s.is_wet a p l)) where
  other-odd : T (is_edge s.cells a (above a p l) (suc l)) → odd s.is_wet a (above a p l) (suc l) ≡ false →
      T (is_edge s.cells a (other a p l) l) × T (odd s.is_wet a (other a p l) l)
  unfolding divided
  other-odd = go (is_upper a p l) (upper-room a p l)
    where
      go : (u : Bool) → (u ≡ true → 2 ^ l ≤ along a p) → T (is_edge s.cells a (cond u (back a (2 ^ l) p) p) (suc l)) →
          odd s.is_wet a (cond u (back a (2 ^ l) p) p) (suc l) ≡ false →
          T (is_edge s.cells a (cond u (back a (2 ^ l) p) (move a (2 ^ l) p)) l) × T (odd s.is_wet a (cond u (back a (2 ^ l) p) (move a (2 ^ l) p)) l)
      go true r h e =
          let q = back a (2 ^ l) p in
          let m : move a (2 ^ l) q ≡ p = back-move a (2 ^ l) p (r refl) in
          let upper : T (is_edge s.cells a (move a (2 ^ l) q) l) = subst (λ (x : Place). T (is_edge s.cells a x l)) (sym m) t in (
            (laws.halves a q l h (or_right (is_edge s.cells a q l) (is_edge s.cells a (move a (2 ^ l) q) l) upper)).0,
            →true (sym (even_halves s.is_wet a q l e) ∙ ap (λ (x : Place). odd s.is_wet a x l) m ∙ true→ (odd s.is_wet a p l) o),
          )
      go false r h e = (
        (laws.halves a p l h (or_left (is_edge s.cells a p l) (is_edge s.cells a (move a (2 ^ l) p) l) t)).1,
        →true (even_halves s.is_wet a p l e ∙ true→ (odd s.is_wet a p l) o),
      )

-- how far the climb from record k₀ and level l₀ has come
pub record Climbed (tc tk : List ℕ) (clearance : Float) (a : Axis) (k₀ l₀ k l : ℕ) : Type 0 where
  pub odd-edge : OddEdge tc tk clearance a k l
  pub left : ℕ
  pub enough : 10 ≤ left + l
  pub same-twin : twin (survey_of tc tk clearance) left a (place_at (places_of tk) k) l ≡ twin (survey_of tc tk clearance) 10 a (place_at (places_of tk) k₀) l₀

module _ (tc tk : List ℕ) (clearance : Float) (ok : accepted tc tk clearance ≡ true) where
  abbrev s : Survey
  s = survey_of tc tk clearance

  abbrev at : ℕ → Place
  at k = place_at (places_of tk) k

  -- ---- the edge above

  module _ (a : Axis) (k l : ℕ) where
    -- an upper half: the edge above ends where the half does, and starts where its other half does
    pub risen_upper : (w r : ℕ) → is_upper a (place_at (places_of tk) k) l ≡ true → UpperEnd tk a k l w → r < record_count tk →
        Sought tc tk a (above a (place_at (places_of tk) k) l) (suc l) r → Risen tc tk a k l r w r
    risen_upper w r h u g f = record {
      is_edge_lem = (f.found g).0;
      inside = g;
      place = (f.found g).1;
      upper = record { inside = u.inside; place = u.place ∙ sym (ap (move a (2 ^ suc l)) ((f.found g).1 ∙ is-back) ∙ two_steps) };
      half_inside = g;
      half_place = (f.found g).1 ∙ is-back ∙ ap (λ b. cond b (back a (2 ^ l) (at k)) (move a (2 ^ l) (at k))) (sym h);
    }
      where
        is-back : above a (at k) l ≡ back a (2 ^ l) (at k)
        is-back = ap (λ b. cond b (back a (2 ^ l) (at k)) (at k)) h

        two_steps : move a (2 ^ suc l) (back a (2 ^ l) (at k)) ≡ move a (2 ^ l) (at k)
        two_steps = sym (move-move a l (back a (2 ^ l) (at k))) ∙ ap (move a (2 ^ l)) (back-move a (2 ^ l) (at k) (upper-room a (at k) l h))

    module _ (h : is_upper a (place_at (places_of tk) k) l ≡ false) where
      -- a lower half: the edge above starts where the half does
      pub start_same : place_at (places_of tk) k ≡ above a (place_at (places_of tk) k) l
      start_same = ap (λ b. cond b (back a (2 ^ l) (at k)) (at k)) (sym h)

      pub risen_lower : (w v : ℕ) → UpperEnd tk a k l w → UpperEnd tk a w l v → k < record_count tk →
          Sought tc tk a (above a (place_at (places_of tk) k) l) (suc l) k → Risen tc tk a k l k v w
      risen_lower w v u y g f = record {
        is_edge_lem = (f.found g).0;
        inside = g;
        place = (f.found g).1;
        upper = record { inside = y.inside; place = y.place ∙ ap (move a (2 ^ l)) u.place ∙ move-move a l (at k) };
        half_inside = u.inside;
        half_place = u.place ∙ ap (λ b. cond b (back a (2 ^ l) (at k)) (move a (2 ^ l) (at k))) (sym h);
      }

    -- the upper half of an edge whose lower half is an edge
    pub upper_half : (w : ℕ) → UpperEnd tk a k l w → T (is_edge (cells_of tc) a (place_at (places_of tk) k) l) →
        T (is_edge (cells_of tc) a (place_at (places_of tk) k) (suc l)) → T (is_edge (cells_of tc) a (place_at (places_of tk) w) l)
    unfolding survey_of divided
    upper_half w u t o =
        subst (λ (x : Place). T (is_edge (cells_of tc) a x l)) (sym u.place)
        ((edges_law tc tk clearance ok).halves a (at k) l o (or_left (is_edge (cells_of tc) a (at k) l) (is_edge (cells_of tc) a (move a (2 ^ l) (at k)) l) t)).1

  -- ---- the climb

  module _ (a : Axis) (k₀ l₀ k l v : ℕ) (c : Climbed tc tk clearance a k₀ l₀ k l) where
    -- no cell has an edge above
    pub climb_ends : NoneAbove tc tk a k l → v ≡ number_else (survey_of tc tk clearance) v (twin (survey_of tc tk clearance) 10 a (place_at (places_of tk) k₀) l₀)
    unfolding survey_of
    climb_ends h = sym (ap (number_else s v) (sym c.same-twin ∙ twin-none s c.left a (at k) l h) ∙ else_none s v)

    module _ (start end half : ℕ) (f : Risen tc tk a k l start end half) where
      above-is : is_edge (cells_of tc) a (above a (at k) l) (suc l) ≡ true
      above-is = true→ (is_edge (cells_of tc) a (above a (at k) l) (suc l)) f.is_edge_lem

      pub above-level : suc l ≤ 10
      unfolding survey_of
      above-level = (edges_law tc tk clearance ok).shallow a (above a (at k) l) (suc l) f.is_edge_lem

      -- one turn of fuel is left
      one_left : (j : ℕ) × (c.left ≡ suc j) × (10 ≤ j + suc l)
      one_left = go c.left refl
        where
          go : (n : ℕ) → c.left ≡ n → (j : ℕ) × (c.left ≡ suc j) × (10 ≤ j + suc l)
          go zero e = absurd (omega (arith, c.enough, above-level))
          go (suc j) e = (j, e, omega (arith, c.enough))

      odd-above : odd (wet_at (corners_of tk) clearance) a (at start) (suc l) ≡ odd (wet_at (corners_of tk) clearance) a (above a (at k) l) (suc l)
      odd-above = ap (λ (x : Place). odd (wet_at (corners_of tk) clearance) a x (suc l)) f.place

      -- the edge above is odd: on from there
      pub climb_on : odd (wet_at (corners_of tk) clearance) a (place_at (places_of tk) start) (suc l) ≡ true → Climbed tc tk clearance a k₀ l₀ start (suc l)
      unfolding survey_of
      climb_on o =
          let j = one_left in
          record {
            odd-edge = record {
              inside = f.inside;
              is_edge_lem = subst (λ (x : Place). T (is_edge (cells_of tc) a x (suc l))) (sym f.place) f.is_edge_lem;
              is_odd = →true o;
            };
            left = j.0;
            enough = j.2;
            same-twin =
                ap (λ (x : Place). twin s j.0 a x (suc l)) f.place ∙ sym (twin-up s j.0 a (at k) l above-is (sym odd-above ∙ o)) ∙
                ap (λ (n : ℕ). twin s n a (at k) l) (sym j.1) ∙ c.same-twin;
          }

      -- it is even: down its other half
      module _ (o : odd (wet_at (corners_of tk) clearance) a (place_at (places_of tk) start) (suc l) ≡ false) where
        other-is : T (is_edge (cells_of tc) a (other a (at k) l) l) × T (odd (wet_at (corners_of tk) clearance) a (other a (at k) l) l)
        unfolding survey_of
        other-is = other-odd s (edges_law tc tk clearance ok) a (at k) l c.odd-edge.is_edge_lem c.odd-edge.is_odd f.is_edge_lem (sym odd-above ∙ o)

        pub other_edge : OddEdge tc tk clearance a half l
        other_edge = record {
          inside = f.half_inside;
          is_edge_lem = subst (λ (x : Place). T (is_edge (cells_of tc) a x l)) (sym f.half_place) other-is.0;
          is_odd = subst (λ (x : Place). T (odd (wet_at (corners_of tk) clearance) a x l)) (sym f.half_place) other-is.1;
        }

        pub climb_turns : point_of (survey_of tc tk clearance) (edge a (place_at (places_of tk) half) l) ≡
            number_else (survey_of tc tk clearance) v (twin (survey_of tc tk clearance) 10 a (place_at (places_of tk) k₀) l₀)
        unfolding survey_of
        climb_turns =
            let j = one_left in
            ap (λ (x : Place). point_of s (edge a x l)) f.half_place ∙ sym (else_some s v a (other a (at k) l) l) ∙
            ap (number_else s v) (sym (twin-found s j.0 a (at k) l above-is (sym odd-above ∙ o)) ∙
            ap (λ (n : ℕ). twin s n a (at k) l) (sym j.1) ∙ c.same-twin)
