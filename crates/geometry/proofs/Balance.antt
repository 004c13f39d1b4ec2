-- Over all leaves, steps and their turned ones differ only by what the box shows on its own six sides.
use Prim.Native.Nat.{ℕ, ◌+◌}
use native.Mathlib.Omega.{arith}
use mathlib.Core.Path.{◌≡◌, ◌∙◌}
use Rattle.base.specs.Lists.{sum}
use Rattle.base.specs.Grid.{origin}
use Rattle.rules.specs.Survey.{Survey}
use Rattle.rules.specs.Steps.{Step, leaf_steps}
use Rattle.base.proofs.Sums.{sum_same}
use Rattle.octree.specs.Lawful.{is_split, Lawful}
use Rattle.octree.proofs.Leaves.{tree_sum, leaf-sum}
use Rattle.geometry.proofs.Interface.{leaves_of}
use Rattle.geometry.proofs.Telescope.{telescope}
use Rattle.geometry.proofs.Square.{turned, drawn}
use Rattle.geometry.proofs.Sides.{parted, parted_sides}
use Rattle.geometry.proofs.Small.{shown, leaf-shows, leaf-cell}

module _ (s : Survey) (law : Lawful s) where
  leaves_show : (f : Step → ℕ) → sum (λ c. sum f (leaf_steps s c)) (leaves_of s) ≡ tree_sum (is_split s.cells) (shown s f) 10 origin
  leaves_show f =
      sum_same (λ c. sum f (leaf_steps s c)) (λ c. shown s f c.level c.low) (leaves_of s) (λ c i. leaf-shows s f c (leaf-cell s law c i).1)
      ∙ leaf-sum s.cells law.octree (shown s f)

  pub leaves_balance : (f : Step → ℕ) → sum (λ c. sum f (leaf_steps s c)) (leaves_of s) + shown s (turned f) 10 origin
      ≡ sum (λ c. sum (turned f) (leaf_steps s c)) (leaves_of s) + shown s f 10 origin
  unfolding shown
  leaves_balance f =
      omega (
        arith,
        leaves_show f,
        leaves_show (turned f),
        telescope (is_split s.cells) (parted s.cells) (parted_sides s.cells) (drawn s f) (drawn s (turned f)) 10 0 0 0,
      )
