-- Twins by corner records: the place at which the edge above starts, in keys; and the rules' climb, one turn.
use Prim.Native.Nat.{ℕ, zero, suc, ◌+◌, ◌-◌, ◌*◌, ◌/◌, ◌%◌, ◌^◌, ◌≤◌, ◌<◌}
use mathlib.Core.Path.{◌≡◌, refl, sym, ap, ◌∙◌, subst}
use mathlib.Core.Logic.{◌⊎◌, inl, inr}
use mathlib.Core.Bool.{Bool, true, false, not, beq, cond}
use mathlib.Core.List.{List}
use mathlib.Core.Option.{none, some}
use native.Mathlib.Nat.{div-eq_of_lt}
use native.Mathlib.Omega.{arith}
use lib.Dec.{T, eqb}
use borrow.Author.Tests.{eqb-true}
use Rattle.base.specs.Grid.{Place, Axis, X, Y, Z, along, put, move, back}
use Rattle.base.proofs.Tests.{below}
use Rattle.base.proofs.Places.{along-put, put-put, put_along}
use Rattle.rules.specs.Survey.{record_count, corner_record, place_of, Survey}
use Rattle.rules.specs.Edges.{edge, is_edge, odd, carrier, point_of}
use Rattle.rules.specs.Steps.{is_upper, above, other, twin, number_else}
use Rattle.records.specs.Keys.{key_of, places_of, Short}
use Rattle.records.proofs.Keys.{Bytes, record_short, get_place}
use Rattle.octree.proofs.Halves.{move-move}
use Rattle.edges.specs.Tables.{place_at}
use Rattle.edges.specs.Searching.{key_unit}
use Rattle.edges.proofs.Find.{key_back}
use Rattle.edges.proofs.Descent.{point-is}

-- ---- the edge above, in keys

pub upper-room : (a : Axis) (p : Place) (l : ℕ) → is_upper a p l ≡ true → 2 ^ l ≤ along a p
upper-room a p l h = go (below (along a p) (2 ^ l))
  where
    go : (along a p < 2 ^ l) ⊎ (2 ^ l ≤ along a p) → 2 ^ l ≤ along a p
    go (inl o) = absurd (omega (arith, div-eq_of_lt o, eqb-true (along a p / 2 ^ l % 2) 1 h))
    go (inr o) = o

-- a step back leaves a key
unit-room : (a : Axis) (d : ℕ) (p : Place) → d ≤ along a p → d * key_unit a ≤ key_of p
unfolding key_of
unit-room X d p h = omega arith
unit-room Y d p h = omega arith
unit-room Z d p h = omega arith

module _ (a : Axis) (p : Place) (l key : ℕ) (k : key ≡ key_of p) where
  pub back-room : is_upper a p l ≡ true → 2 ^ l * key_unit a ≤ key
  back-room h = rw k (unit-room a (2 ^ l) p (upper-room a p l h))

  back-key : (r : ℕ) → is_upper a p l ≡ true → r ≡ key - 2 ^ l * key_unit a → r ≡ key_of (back a (2 ^ l) p)
  back-key r h e = e ∙ ap (λ n. n - 2 ^ l * key_unit a) k ∙ sym (key_back a (2 ^ l) p (upper-room a p l h))

  pub above-upper : (r : ℕ) → is_upper a p l ≡ true → r ≡ key - 2 ^ l * key_unit a → r ≡ key_of (above a p l)
  above-upper r h e = back-key r h e ∙ ap (λ b. key_of (cond b (back a (2 ^ l) p) p)) (sym h)

-- the test of the code
pub upper_read : (t : List ℕ) (k l v size : ℕ) (a : Axis) → k < record_count t → v ≡ along a (place_of (corner_record t k)) → size ≡ 2 ^ l →
    eqb (v / size % 2) 1 ≡ is_upper a (place_at (places_of t) k) l
upper_read t k l v size a h e f =
    (λ i. eqb (e i / f i % 2) 1) ∙ ap (λ q. is_upper a q l) (sym (get_place t k h))

short_back : (a : Axis) (d : ℕ) (p : Place) → Short p → Short (back a d p)
short_back X d p h = let x = h.x_fits in record { x_fits = omega arith; y_fits = h.y_fits }
short_back Y d p h = let y = h.y_fits in record { x_fits = h.x_fits; y_fits = omega arith }
short_back Z d p h = record { x_fits = h.x_fits; y_fits = h.y_fits }

place_short : (t : List ℕ) → Bytes t → (k : ℕ) → k < record_count t → Short (place_at (places_of t) k)
place_short t b k h = subst Short (sym (get_place t k h)) (record_short t b k h)

pub above_short : (t : List ℕ) → Bytes t → (a : Axis) (k l : ℕ) → k < record_count t → Short (above a (place_at (places_of t) k) l)
above_short t b a k l h = go (is_upper a (place_at (places_of t) k) l)
  where
    go : (u : Bool) → Short (cond u (back a (2 ^ l) (place_at (places_of t) k)) (place_at (places_of t) k))
    go true = short_back a (2 ^ l) (place_at (places_of t) k) (place_short t b k h)
    go false = place_short t b k h

-- ---- the climb in the rules

module _ (s : Survey) where
  pub twin-none : (f : ℕ) (a : Axis) (p : Place) (l : ℕ) → is_edge s.cells a (above a p l) (suc l) ≡ false → twin s f a p l ≡ none
  unfolding twin
  twin-none zero a p l h = refl
  twin-none (suc f) a p l h = rw h

  pub twin-up : (f : ℕ) (a : Axis) (p : Place) (l : ℕ) → is_edge s.cells a (above a p l) (suc l) ≡ true → odd s.is_wet a (above a p l) (suc l) ≡ true →
      twin s (suc f) a p l ≡ twin s f a (above a p l) (suc l)
  unfolding twin
  twin-up f a p l h k = rw (h, k)

  pub twin-found : (f : ℕ) (a : Axis) (p : Place) (l : ℕ) → is_edge s.cells a (above a p l) (suc l) ≡ true → odd s.is_wet a (above a p l) (suc l) ≡ false →
      twin s (suc f) a p l ≡ some (carrier s a (other a p l) l)
  unfolding twin
  twin-found f a p l h k = rw (h, k)

  pub else_none : (v : ℕ) → number_else s v none ≡ v
  unfolding number_else
  else_none v = refl

  pub else_some : (v : ℕ) (a : Axis) (p : Place) (l : ℕ) → number_else s v (some (carrier s a p l)) ≡ point_of s (edge a p l)
  unfolding number_else
  else_some v a p l = sym (point-is s (edge a p l))

-- the halves of an even edge are both odd, or neither is
pub even_halves : (is_wet : Place → Bool) (a : Axis) (q : Place) (l : ℕ) → odd is_wet a q (suc l) ≡ false → odd is_wet a (move a (2 ^ l) q) l ≡ odd is_wet a q l
unfolding odd
even_halves is_wet a q l t =
    ap (λ r. not (beq (is_wet (move a (2 ^ l) q)) (is_wet r))) (move-move a l q)
    ∙ marks (is_wet q) (is_wet (move a (2 ^ l) q)) (is_wet (move a (2 ^ suc l) q)) t
  where
    marks : (x y z : Bool) → not (beq x z) ≡ false → not (beq y z) ≡ not (beq x y)
    marks true true true t = refl
    marks true false true t = refl
    marks true y false t = absurd (subst T t tt)
    marks false y true t = absurd (subst T t tt)
    marks false true false t = refl
    marks false false false t = refl

pub back-move : (a : Axis) (d : ℕ) (p : Place) → d ≤ along a p → move a d (back a d p) ≡ p
back-move a d p h =
    let e : along a (back a d p) + d ≡ along a p = omega (arith, along-put a (along a p - d) p) in
    put-put a (along a (back a d p) + d) (along a p - d) p ∙ ap (λ n. put a n p) e ∙ put_along a p
