-- The four edges of a small face are edges of cells: a small face is a side of a leaf.
-- Assumes nothing.
use Prim.Native.Nat.{ℕ, zero, suc}
use mathlib.Core.Path.{◌≡◌, refl, sym, ◌∙◌, subst}
use mathlib.Core.Bool.{Bool, true, false, not, ◌&&◌, cond}
use mathlib.Core.List.{List}
use lib.Dec.{T}
use Rattle.base.specs.Lists.{any}
use Rattle.base.specs.Grid.{Axis, next, along}
use Rattle.rules.specs.Survey.{Cell, Survey}
use Rattle.rules.specs.Edges.{CellEdge, is_edge}
use Rattle.rules.specs.Steps.{upper_side, side_by, Face, face, same_face, side_low, small_faces, face_edge}
use Rattle.base.proofs.Tests.{and→, →true}
use Rattle.base.proofs.Lists.{In, any→in}
use Rattle.octree.specs.Lawful.{is_cell, Lawful}
use Rattle.octree.proofs.Cells.{→cell}
use Rattle.geometry.specs.SmallFaces.{side_of, opposite, split_beyond, is_side_inside, is_small_face}
use Rattle.geometry.proofs.Grid.{half, half_ends, place, place_of}
use Rattle.geometry.proofs.Square.{square_edge, edge_below}
use Rattle.geometry.proofs.Sides.{Flank, side_edges}
use Rattle.geometry.proofs.Touching.{own_low}
use Rattle.geometry.proofs.SmallFaces.{same_face→, side_inside→, named_by}

module _ (cells : List Cell) where
  -- some cell has the edge
  abbrev pub IsEdge : CellEdge → Type 0
  IsEdge e = T (is_edge cells e.axis e.low e.level)

  -- the edges of a square that is a side of a cell
  square_edges : (a : Axis) (k n u v : ℕ) → Flank cells a k n u v → (i : ℕ) → IsEdge (square_edge a k n u v i)
  square_edges a k n u v h zero = →true (side_edges cells a k n u v h).bottom
  square_edges a k n u v h (suc zero) = →true (side_edges cells a k n u v h).right
  square_edges a k n u v h (suc (suc zero)) = →true (side_edges cells a k n u v h).top
  square_edges a k n u v h (suc (suc (suc i))) = →true (side_edges cells a k n u v h).left

  -- the edges of a face that is a side of a cell
  side_edge : (a : Axis) (b : Bool) (c : Cell) → In c cells → (f : Face) → T (same_face f (side_of (side_by a b) c)) → (i : ℕ) →
      IsEdge (face_edge (upper_side a) f i)
  side_edge a b c j f t i =
      let k = c.level in
      let n = half b k (along a c.low) in
      let u = along (next a) c.low in
      let v = along (next (next a)) c.low in
      let (level, low) = same_face→ f (side_of (side_by a b) c) t in
      let at : face (place a n u v) k ≡ f = λ i. face (sym (low ∙ own_low a b c) i) (sym level i) in
      let here = subst (λ p. T (is_cell cells k p)) (sym (place_of a c.low)) (→cell cells c j) in
      let flank : Flank cells a k n u v = (along a c.low, half_ends b k (along a c.low), here) in
      subst (λ f. IsEdge (face_edge (upper_side a) f i)) at
      (subst IsEdge (sym (edge_below a k n u v i)) (square_edges a k n u v flank i))

  -- the edges of a face that document 01's sentence names
  named-edge : (a : Axis) (b : Bool) (c : Cell) → In c cells → (f : Face) → T (is_small_face cells (side_by a b) c f) → (i : ℕ) →
      IsEdge (face_edge (upper_side a) f i)
  unfolding is_small_face
  named-edge a b c j f t i = go (any (split_beyond (side_by a b) c) cells) t
    where
      inner : Cell → Bool
      inner e = split_beyond (side_by a b) c e && any (is_side_inside (side_by a b) c f e) cells

      turned : (b : Bool) → opposite (side_by a b) ≡ side_by a (not b)
      turned true = refl
      turned false = refl

      go : (s : Bool) → T (cond s (any inner cells) (same_face f (side_of (side_by a b) c))) → IsEdge (face_edge (upper_side a) f i)
      go false t = side_edge a b c j f t i
      go true t =
          let (e, _, t) = any→in inner cells t in
          let (d, k, w) = any→in (is_side_inside (side_by a b) c f e) cells (and→ (split_beyond (side_by a b) c e) _ t).1 in
          let is = (side_inside→ (side_by a b) c f e d w).3 in
          side_edge a (not b) d k f (subst (λ side. T (same_face f (side_of side d))) (turned b) is) i

-- the edges of each small face on a side of a cell of a lawful survey
pub small-edge : (s : Survey) → Lawful s → (a : Axis) (b : Bool) (c : Cell) → In c s.cells →
    (f : Face) → T (any (same_face f) (small_faces s.cells (side_by a b) (side_low (side_by a b) c) c.level)) →
    (i : ℕ) → IsEdge s.cells (face_edge (upper_side a) f i)
small-edge s law a b c j f t i = named-edge s.cells a b c j f (subst T (named_by s.cells law.octree a b c f) t) i
