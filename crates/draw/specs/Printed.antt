-- What the drawing program prints, of the bytes of its four files; one that is missing has none.
-- Assumes nothing: these are definitions.
use Rattle.std.specs.Prelude.{ℕ, cond, List, eqb, length, replicate, Float}
use Rattle.std.specs.Float.{binary32}
use Rattle.std.specs.Float.Ieee.{of_bits}
use Rattle.base.specs.Lists.{little, bytes}
use Rattle.rules.specs.Outputs.{Drawing}
use Rattle.rules.specs.Resounding.{draw_amended}
use Rattle.text.specs.Text.{listing}

-- the clearance: four bytes of binary32; a file of another length gives a NaN, which check 8 refuses
unfoldable pub clearance_of : List ℕ → Float
unfolding of_bits
clearance_of t = of_bits binary32 (cond (eqb (length t) 4) (little (bytes t 0 4)) 0x7fc0_0000)

-- what is drawn with 2,048 points and 4,096 triangles lent, all 0
unfoldable pub drawing : List ℕ → List ℕ → List ℕ → Float → Drawing
unfolding draw_amended
drawing tc tk ta clearance = draw_amended tc tk ta clearance (replicate 6144 (of_bits binary32 0)) (replicate 12288 0)

unfoldable pub printed : List ℕ → List ℕ → List ℕ → Float → List ℕ
unfolding drawing listing
printed tc tk ta clearance = let d = drawing tc tk ta clearance in listing d.result d.points d.triangles
