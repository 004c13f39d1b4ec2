-- Both halves of a divided edge are edges; an odd edge has exactly one odd half; the edge that carries the point of an odd edge is odd and
-- undivided, and has the same end wet. For any axis.
use Prim.Native.Nat.{ℕ, zero, suc, ◌+◌, ◌^◌, ◌<◌}
use mathlib.Core.Path.{◌≡◌, refl, sym, ap, ◌∙◌, subst}
use mathlib.Core.Logic.{◌⊎◌, inl, inr}
use mathlib.Core.Bool.{Bool, true, false, not, beq, cond}
use mathlib.Core.List.{List}
use native.Mathlib.Nat.{pow-succ'}
use native.Mathlib.Omega.{arith}
use lib.Dec.{T}
use Rattle.base.specs.Grid.{Place, Axis, along, put, move}
use Rattle.rules.specs.Survey.{Cell, Survey}
use Rattle.rules.specs.Edges.{CellEdge, edge, is_edge, divided, undivided, odd, carrier}
use Rattle.rules.specs.WhichEnd.{wet_end}
use Rattle.rules.specs.declared.End.{End}
use Rattle.rules.specs.declared.End.TheVariants.{Lower, Upper}
use Rattle.base.proofs.Tests.{→and, or→}
use Rattle.base.proofs.Places.{along-put, put_both, put_one, put-put, put_along}
use Rattle.octree.specs.Lawful.{is_split, CornerOf, Octree}
use Rattle.octree.proofs.Cells.{split-cell}
use Rattle.octree.proofs.Edges.{edge→, →edge, →crossed}
use Rattle.octree.proofs.Aligned.{Multiple, no_middle, cell_aligned, edge_aligned, edge-level}
use Rattle.octree.proofs.Points.{Crossed}

-- an edge below level 10 is the lower or the upper half of an aligned length, from v on, both halves of which are edges
pub record Halved (cells : List Cell) (a : Axis) (p : Place) (l : ℕ) : Type 0 where
  pub start : ℕ
  pub aligned : Multiple (suc l) start
  pub half : (along a p ≡ start) ⊎ (along a p ≡ start + 2 ^ l)
  pub lower : T (is_edge cells a (put a start p) l)
  pub upper : T (is_edge cells a (put a (start + 2 ^ l) p) l)

module _ (cells : List Cell) (tree : Octree cells) where
  pub halved : (a : Axis) (p : Place) (l : ℕ) → T (is_edge cells a p l) → l < 10 → Halved cells a p l
  halved a p l t lt =
      let (q, c, g, f) = edge→ cells a p l t in
      let (u, s, h) = tree.parent l q c lt in
      go q g f u s h
    where
      go : (q : Place) → along a p ≡ along a q → CornerOf l q p → (u : Place) → T (is_split cells (suc l) u) → CornerOf l u q → Halved cells a p l
      go q g f u s h = record {
        start = along a u;
        aligned = cell_aligned cells tree (suc l) u (split-cell cells (suc l) u s) a;
        half = subst (λ n. (n ≡ along a u) ⊎ (n ≡ along a u + 2 ^ l)) (sym g) (h a);
        lower = beside (along a u) (inl refl);
        upper = beside (along a u + 2 ^ l) (inr refl);
      }
        where
          -- the cell beside, under the same parent, has the edge beside
          beside : (v : ℕ) → (v ≡ along a u) ⊎ (v ≡ along a u + 2 ^ l) → T (is_edge cells a (put a v p) l)
          beside v o =
              →edge cells a (put a v p) l (
                put a v q,
                tree.child l u (put a v q) s (put_one (λ b n. (n ≡ along b u) ⊎ (n ≡ along b u + 2 ^ l)) a v q o h),
                along-put a v p ∙ sym (along-put a v q),
                put_both (λ b m n. (m ≡ n) ⊎ (m ≡ n + 2 ^ l)) a v v p q (inl refl) f,
              )

  -- both halves of a divided edge are edges
  pub halves : (a : Axis) (p : Place) (l : ℕ) → T (is_edge cells a p (suc l)) → T (divided cells a p (suc l)) →
      T (is_edge cells a p l) × T (is_edge cells a (move a (2 ^ l) p) l)
  unfolding divided
  halves a p l t d = go (or→ (is_edge cells a p l) (is_edge cells a (move a (2 ^ l) p) l) d)
    where
      m : Multiple (suc l) (along a p)
      m = edge_aligned cells tree a p (suc l) t a

      low : l < 10
      low = edge-level cells tree a p (suc l) t

      from_lower : (h : Halved cells a p l) → (along a p ≡ h.start) ⊎ (along a p ≡ h.start + 2 ^ l) → T (is_edge cells a (move a (2 ^ l) p) l)
      from_lower h (inl e) = subst (λ v. T (is_edge cells a (put a (v + 2 ^ l) p) l)) (sym e) h.upper
      from_lower h (inr e) = absurd (no_middle l (along a p) h.start m h.aligned e)

      from-upper : (h : Halved cells a (move a (2 ^ l) p) l) →
          (along a (move a (2 ^ l) p) ≡ h.start) ⊎ (along a (move a (2 ^ l) p) ≡ h.start + 2 ^ l) → T (is_edge cells a p l)
      from-upper h (inl e) = absurd (no_middle l h.start (along a p) h.aligned m (sym e ∙ along-put a (along a p + 2 ^ l) p))
      from-upper h (inr e) =
          let g = along-put a (along a p + 2 ^ l) p in
          let v : h.start ≡ along a p = omega arith in
          subst (λ q. T (is_edge cells a q l)) (put-put a h.start (along a p + 2 ^ l) p ∙ ap (λ n. put a n p) v ∙ put_along a p) h.lower

      go : T (is_edge cells a p l) ⊎ T (is_edge cells a (move a (2 ^ l) p) l) → T (is_edge cells a p l) × T (is_edge cells a (move a (2 ^ l) p) l)
      go (inl u) = let h = halved a p l u low in (u, from_lower h h.half)
      go (inr u) = let h = halved a (move a (2 ^ l) p) l u low in (from-upper h h.half, u)

-- ---- odd edges

-- twice up by half the length is up by the length
pub move-move : (a : Axis) (l : ℕ) (p : Place) → move a (2 ^ l) (move a (2 ^ l) p) ≡ move a (2 ^ suc l) p
move-move a l p =
    let v = along a p in
    let e = along-put a (v + 2 ^ l) p in
    let w : along a (move a (2 ^ l) p) + 2 ^ l ≡ v + 2 ^ suc l = omega (arith, pow-succ' 2 l) in
    put-put a (along a (move a (2 ^ l) p) + 2 ^ l) (v + 2 ^ l) p ∙ ap (λ n. put a n p) w

-- an odd edge has exactly one odd half
pub one-odd_half : (is_wet : Place → Bool) (a : Axis) (p : Place) (l : ℕ) → T (odd is_wet a p (suc l)) →
    odd is_wet a (move a (2 ^ l) p) l ≡ not (odd is_wet a p l)
unfolding odd
one-odd_half is_wet a p l t =
    ap (λ q. not (beq (is_wet (move a (2 ^ l) p)) (is_wet q))) (move-move a l p)
    ∙ marks (is_wet p) (is_wet (move a (2 ^ l) p)) (is_wet (move a (2 ^ suc l) p)) t
  where
    marks : (x y z : Bool) → T (not (beq x z)) → not (beq y z) ≡ not (not (beq x y))
    marks true y true t = absurd t
    marks true true false t = refl
    marks true false false t = refl
    marks false true true t = refl
    marks false false true t = refl
    marks false y false t = absurd t

-- an odd lower half of an odd edge has the same end wet; the upper half of any edge ends where the edge does
lower_half_wet : (is_wet : Place → Bool) (a : Axis) (p : Place) (l : ℕ) → T (odd is_wet a p (suc l)) → T (odd is_wet a p l) →
    wet_end is_wet (edge a p l) ≡ wet_end is_wet (edge a p (suc l))
unfolding odd wet_end
lower_half_wet is_wet a p l o e = marks (is_wet p) (is_wet (move a (2 ^ l) p)) (is_wet (move a (2 ^ suc l) p)) e o
  where
    marks : (x y z : Bool) → T (not (beq x y)) → T (not (beq x z)) → cond y Upper Lower ≡ cond z Upper Lower
    marks true true z e o = absurd e
    marks true false true e o = absurd o
    marks true false false e o = refl
    marks false true true e o = refl
    marks false true false e o = absurd o
    marks false false z e o = absurd e

upper_half_wet : (is_wet : Place → Bool) (a : Axis) (p : Place) (l : ℕ) → wet_end is_wet (edge a (move a (2 ^ l) p) l) ≡ wet_end is_wet (edge a p (suc l))
unfolding wet_end
upper_half_wet is_wet a p l = ap (λ q. cond (is_wet q) Upper Lower) (move-move a l p)

module _ (s : Survey) (tree : Octree s.cells) where
  here : (a : Axis) (p : Place) (l : ℕ) → T (is_edge s.cells a p l) → T (odd s.is_wet a p l) → T (not (divided s.cells a p l)) → Crossed s (edge a p l)
  unfolding undivided
  here a p l t o d = →crossed s a p l (→and (is_edge s.cells a p l) (not (divided s.cells a p l)) t d) o

  -- the carrier of an odd edge is an odd undivided edge
  pub carrier-crossed : (a : Axis) (p : Place) (l : ℕ) → T (is_edge s.cells a p l) → T (odd s.is_wet a p l) → Crossed s (carrier s a p l)
  unfolding carrier
  carrier-crossed a p zero t o = here a p zero t o (unfold divided in tt)
  carrier-crossed a p (suc l) t o =
      go (divided s.cells a p (suc l)) (odd s.is_wet a p l)
      (λ d e. carrier-crossed a p l (halves s.cells tree a p l t d).0 e)
      (λ d e. carrier-crossed a (move a (2 ^ l) p) l (halves s.cells tree a p l t d).1 (subst T (sym (one-odd_half s.is_wet a p l o)) e))
      (λ d. here a p (suc l) t o d)
    where
      go : (d o : Bool) → (T d → T o → Crossed s (carrier s a p l)) → (T d → T (not o) → Crossed s (carrier s a (move a (2 ^ l) p) l)) →
          (T (not d) → Crossed s (edge a p (suc l))) →
          Crossed s (cond d (cond o (carrier s a p l) (carrier s a (move a (2 ^ l) p) l)) (edge a p (suc l)))
      go true true f g h = f tt tt
      go true false f g h = g tt tt
      go false o f g h = h tt

-- The carrier of an odd edge has the same end wet: what the enquiry tells of the edge asked about is true of the edge that carries the point.
module _ (s : Survey) where
  pub carrier-wet : (a : Axis) (p : Place) (l : ℕ) → T (odd s.is_wet a p l) → wet_end s.is_wet (carrier s a p l) ≡ wet_end s.is_wet (edge a p l)
  unfolding carrier
  carrier-wet a p zero o = refl
  carrier-wet a p (suc l) o =
      go (divided s.cells a p (suc l)) (odd s.is_wet a p l)
      (λ e. carrier-wet a p l e ∙ lower_half_wet s.is_wet a p l o e)
      (λ e. carrier-wet a (move a (2 ^ l) p) l (subst T (sym (one-odd_half s.is_wet a p l o)) e) ∙ upper_half_wet s.is_wet a p l)
    where
      end : CellEdge → End
      end = wet_end s.is_wet

      go : (d o : Bool) → (T o → end (carrier s a p l) ≡ end (edge a p (suc l))) →
          (T (not o) → end (carrier s a (move a (2 ^ l) p) l) ≡ end (edge a p (suc l))) →
          end (cond d (cond o (carrier s a p l) (carrier s a (move a (2 ^ l) p) l)) (edge a p (suc l))) ≡ end (edge a p (suc l))
      go true true f g = f tt
      go true false f g = g tt
      go false o f g = refl
