-- The twelve edges of a cell by its corners, over all of them at once.
use Prim.Native.Nat.{ℕ, ◌/◌, ◌<◌}
use mathlib.Core.Path.{◌≡◌, refl, sym, ap, ◌∙◌}
use mathlib.Core.List.{List, map}
use lib.Dec.{ltb, ltb→lt}
use lib.ListN.{get_or}
use Rattle.base.specs.Lists.{count}
use Rattle.base.specs.Grid.{Place, origin, X, axis_of, move}
use Rattle.base.proofs.Lists.{all→in, in_get}
use Rattle.base.proofs.Below.{get_table}
use Rattle.rules.specs.Survey.{Cell, size, cell_corners}
use Rattle.rules.specs.Edges.{CellEdge, edge}
use Rattle.edges.specs.Tables.{cell_edges, starts, ends}

module _ (e : ℕ) (g : e < 12) where
  pub start_below : get_or starts e 0 < 8
  start_below = ltb→lt (get_or starts e 0) 8 (all→in (λ i. ltb i 8) starts tt (get_or starts e 0) (in_get starts e 0 g))

  pub end_below : get_or ends e 0 < 8
  end_below = ltb→lt (get_or ends e 0) 8 (all→in (λ i. ltb i 8) ends tt (get_or ends e 0) (in_get ends e 0 g))

  module _ (c : Cell) where
    abbrev corner : ℕ → Place
    corner i = get_or (cell_corners c) i origin

    -- edge e is on axis e / 4 and starts at its corner
    pub starting : get_or (cell_edges c) e (edge X origin 0) ≡ edge (axis_of (e / 4)) (get_or (cell_corners c) (get_or starts e 0) origin) c.level
    starting =
        let from : ℕ → CellEdge = λ i. edge (axis_of (i / 4)) (corner (get_or starts i 0)) c.level in
        let twelve : cell_edges c ≡ map from (count 0 12) = refl in
        ap (λ (es : List CellEdge). get_or es e (edge X origin 0)) twelve ∙ get_table from (edge X origin 0) 12 e g

    -- and ends at the other
    pub ending : get_or (cell_corners c) (get_or ends e 0) origin ≡ move (axis_of (e / 4)) (size c) (get_or (cell_corners c) (get_or starts e 0) origin)
    ending =
        let from : ℕ → Place = λ i. move (axis_of (i / 4)) (size c) (corner (get_or starts i 0)) in
        let to : ℕ → Place = λ i. corner (get_or ends i 0) in
        let twelve : map to (count 0 12) ≡ map from (count 0 12) = refl in
        sym (get_table to origin 12 e g) ∙ ap (λ (ps : List Place). get_or ps e origin) twelve ∙ get_table from origin 12 e g
