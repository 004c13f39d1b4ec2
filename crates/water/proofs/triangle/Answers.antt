-- `water::triangle` meets its contract.
use Rattle.std.proofs.Common.{◌≡◌, ℕ, sym, ◌∙◌, subst}
use Rattle.rules.specs.Water.{determinant, sixfold_of}
use Rattle.water.specs.Corners.{reference_place, Near, part, taken, Placed}
use Rattle.water.proofs.Signed.{kept}
use Rattle.water.proofs.Down.{taken_near}
use Rattle.water.specs.declared.Offset.{Offset}
use Rattle.water.proofs.triangle.Goals as goal

pub corner-requires : goal.corner-requires
corner-requires c = record { placed = c.requires.held.first; reference_in_box = c.requires.reference_in_box }

pub corner-requires-2 : goal.corner-requires-2
corner-requires-2 c = record { placed = c.requires.held.second; reference_in_box = c.requires.reference_in_box }

pub corner-requires-3 : goal.corner-requires-3
corner-requires-3 c = record { placed = c.requires.held.third; reference_in_box = c.requires.reference_in_box }

pub determinant_of-requires : goal.determinant_of-requires
determinant_of-requires c =
    let points = c.args.points.now in
    let r = reference_place c.args.reference in
    let near : (o : Offset) (p : ℕ) → o ≡ taken r points p → Placed points p → Near (part o) =
    λ o p e placed. subst (λ (o : Offset). Near (part o)) (sym e) (taken_near r points p c.requires.reference_in_box placed) in (
      near _ _ c.corner.ensures c.requires.held.first,
      near _ _ c.corner-2.ensures c.requires.held.second,
      near _ _ c.corner-3.ensures c.requires.held.third,
    )

pub returns : goal.returns
unfolding sixfold_of
returns c =
    kept c.determinant_of.result c.determinant_of.type_inv ∙ c.determinant_of.ensures
    ∙ (λ i. determinant (part (c.corner.ensures i)) (part (c.corner-2.ensures i)) (part (c.corner-3.ensures i)))
