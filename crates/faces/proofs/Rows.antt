-- The rows of a cell: its corners and edges at the numbers of a row are those of the face, and so are the children there. Computed, for each axis and
-- either side, on the leaf and across.
use Prim.Native.Nat.{ℕ, zero, suc, ◌%◌, ◌<◌}
use mathlib.Core.Path.{◌≡◌, refl}
use mathlib.Core.Bool.{Bool, true, false, ◌&&◌}
use native.Mathlib.Omega.{arith}
use lib.Dec.{T, ltb, ltb→lt}
use lib.ListN.{get_or}
use Rattle.base.specs.Lists.{all, count}
use Rattle.base.specs.Grid.{Place, origin, Axis, X, Y, Z, move}
use Rattle.base.proofs.Tests.{and→}
use Rattle.base.proofs.Lists.{all→in, count_in}
use Rattle.rules.specs.Survey.{Cell, cell, size, cell_corners}
use Rattle.rules.specs.Edges.{edge}
use Rattle.rules.specs.Steps.{Side, side_by, Face, face_corner, face_edge}
use Rattle.across.specs.Across.{side_number}
use Rattle.crossings.specs.Crossings.{edge_at}
use Rattle.faces.specs.Faces.{row_side, row_upper, face_on, corner_on, edge_on, row_corner, row_edge}
use Rattle.base.proofs.Alike.{Alike, alike}

-- what holds of all sides of the rules
pub of_sides : (P : Side → Type 0) → ((a : Axis) (u : Bool) → P (side_by a u)) → (i : ℕ) → P (side_number i)
of_sides P f zero = f X true
of_sides P f (suc zero) = f X false
of_sides P f (suc (suc zero)) = f Y true
of_sides P f (suc (suc (suc zero))) = f Y false
of_sides P f (suc (suc (suc (suc zero)))) = f Z true
of_sides P f (suc (suc (suc (suc (suc zero))))) = f Z false
of_sides P f (suc (suc (suc (suc (suc (suc i)))))) = f X true

-- corner j of a cell, by its number on a side of it
abbrev corner_at : Side → Bool → Cell → ℕ → Place
corner_at side upper c j = get_or (cell_corners c) (corner_on side upper j) origin

-- a cell of the size of c at a place
abbrev at : Cell → Place → Cell
at c p = cell p c.level false

record Row (side : Side) (upper : Bool) (c : Cell) : Type 0 where
  few : T (all (λ j. ltb (corner_on side upper j) 8 && ltb (edge_on side upper j) 12) (count 0 4))
  corners : Alike 4 (corner_at side upper c) (face_corner side (face_on side upper c))
  edges : Alike 4 (λ j. edge_at c (edge_on side upper j)) (face_edge side (face_on side upper c))
  -- the cells of the size of c at its corners, as the children of a cell of twice its size
  children : Alike 4 (λ j. (face_on side upper (at c (corner_at side upper c j))).low) (face_corner side (face_on side upper (at c (face_on side upper c).low)))
  turned : (p : Place) → move side.right (size c) (move side.up (size c) p) ≡ move side.up (size c) (move side.right (size c) p)

rows : (a : Axis) (u v : Bool) (c : Cell) → Row (side_by a u) v c
unfolding corner_on edge_on
rows X true true c = record { few = tt; corners = refl; edges = refl; children = refl; turned = λ p. refl }
rows X true false c = record { few = tt; corners = refl; edges = refl; children = refl; turned = λ p. refl }
rows X false true c = record { few = tt; corners = refl; edges = refl; children = refl; turned = λ p. refl }
rows X false false c = record { few = tt; corners = refl; edges = refl; children = refl; turned = λ p. refl }
rows Y true true c = record { few = tt; corners = refl; edges = refl; children = refl; turned = λ p. refl }
rows Y true false c = record { few = tt; corners = refl; edges = refl; children = refl; turned = λ p. refl }
rows Y false true c = record { few = tt; corners = refl; edges = refl; children = refl; turned = λ p. refl }
rows Y false false c = record { few = tt; corners = refl; edges = refl; children = refl; turned = λ p. refl }
rows Z true true c = record { few = tt; corners = refl; edges = refl; children = refl; turned = λ p. refl }
rows Z true false c = record { few = tt; corners = refl; edges = refl; children = refl; turned = λ p. refl }
rows Z false true c = record { few = tt; corners = refl; edges = refl; children = refl; turned = λ p. refl }
rows Z false false c = record { few = tt; corners = refl; edges = refl; children = refl; turned = λ p. refl }

-- the face of a row of a cell
abbrev pub row_face : ℕ → Cell → Face
row_face r c = face_on (row_side r) (row_upper r) c

module _ (r : ℕ) (c : Cell) where
  row : Row (row_side r) (row_upper r) c
  row = of_sides (λ s. (v : Bool) → Row s v c) (λ a u v. rows a u v c) (r % 6) (row_upper r)

  pub turned_up : (p : Place) → move (row_side r).right (size c) (move (row_side r).up (size c) p)
      ≡ move (row_side r).up (size c) (move (row_side r).right (size c) p)
  turned_up = row.turned

  module _ (j : ℕ) (h : j < 4) where
    pub numbers-few : (row_corner r j < 8) × (row_edge r j < 12)
    numbers-few =
        let t = and→ (ltb (row_corner r j) 8) (ltb (row_edge r j) 12)
        (all→in (λ j. ltb (row_corner r j) 8 && ltb (row_edge r j) 12) (count 0 4) row.few j (count_in 4 0 j (omega arith) (omega arith))) in
        (ltb→lt (row_corner r j) 8 t.0, ltb→lt (row_edge r j) 12 t.1)

    pub corner-is : get_or (cell_corners c) (row_corner r j) origin ≡ face_corner (row_side r) (row_face r c) j
    corner-is = alike origin 4 (corner_at (row_side r) (row_upper r) c) (face_corner (row_side r) (row_face r c)) row.corners j h

    pub edge-is : edge_at c (row_edge r j) ≡ face_edge (row_side r) (row_face r c) j
    edge-is = alike (edge X origin 0) 4 (λ j. edge_at c (row_edge r j)) (face_edge (row_side r) (row_face r c)) row.edges j h

    pub child-face : (row_face r (cell (get_or (cell_corners c) (row_corner r j) origin) c.level false)).low
        ≡ face_corner (row_side r) (row_face r (cell (row_face r c).low c.level false)) j
    child-face = alike origin 4 (λ j. (row_face r (at c (corner_at (row_side r) (row_upper r) c j))).low)
        (face_corner (row_side r) (row_face r (at c (row_face r c).low))) row.children j h
