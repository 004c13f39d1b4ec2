-- Walks by their number of steps: what ways are where the corners between do not matter.
use Prim.Native.Nat.{ℕ, zero, suc}
use mathlib.Core.Path.{◌≡◌, refl, sym, ap, subst}
use mathlib.Core.List.{List, [], ◌∷◌}
use lib.Dec.{T}
use lib.ListN.{length}
use Rattle.rules.specs.Ways.{Graph, passable, Way, one, more, BothWays, WetEnds}

-- a walk of v steps from j to m
abbrev pub Walk : Graph → ℕ → ℕ → ℕ → Type 0
Walk graph zero j m = T (passable graph j) × (j ≡ m)
Walk graph (suc v) j m = (k : ℕ) × T (passable graph j) × T (graph.joined j k) × Walk graph v k m

module _ (graph : Graph) where
  pub walk_first : (v j m : ℕ) → Walk graph v j m → T (passable graph j)
  walk_first zero j m w = w.0
  walk_first (suc v) j m w = w.1

  pub walk_last : (v j m : ℕ) → Walk graph v j m → T (passable graph m)
  walk_last zero j m w = subst (λ k. T (passable graph k)) w.1 w.0
  walk_last (suc v) j m w = walk_last v w.0 m w.3

  -- one step more at the end
  pub walk_on : (v j k m : ℕ) → Walk graph v j k → T (graph.joined k m) → T (passable graph m) → Walk graph (suc v) j m
  walk_on zero j k m w l t = (m, w.0, subst (λ n. T (graph.joined n m)) (sym w.1) l, (t, refl))
  walk_on (suc v) j k m w l t = (w.0, w.1, w.2, walk_on v w.0 k m w.3 l t)

  -- the last step of a walk
  pub walk_before : (v j m : ℕ) → Walk graph (suc v) j m → (k : ℕ) × Walk graph v j k × T (graph.joined k m)
  walk_before zero j m w = (j, (w.1, refl), subst (λ n. T (graph.joined j n)) w.3.1 w.2)
  walk_before (suc v) j m w =
      let (k, u, l) = walk_before v w.0 m w.3 in
      (k, (w.0, w.1, w.2, u), l)

  pub turned : BothWays graph → (v j m : ℕ) → Walk graph v j m → Walk graph v m j
  turned both zero j m w = (subst (λ k. T (passable graph k)) w.1 w.0, sym w.1)
  turned both (suc v) j m w = walk_on v m w.0 j (turned both v w.0 m w.3) (both j w.0 w.2) w.1

  -- ---- walks and ways

  pub walk-way : (v j m : ℕ) → Walk graph v j m → (w : List ℕ) × Way graph j m w × (length w ≡ suc v)
  walk-way zero j m w = (j ∷ [], subst (λ n. Way graph j n (j ∷ [])) w.1 (one w.0), refl)
  walk-way (suc v) j m w =
      let (u, y, e) = walk-way v w.0 m w.3 in
      (j ∷ u, more w.1 w.2 y, ap suc e)

  pub way-walk : {j m : ℕ} {w : List ℕ} → Way graph j m w → (v : ℕ) × Walk graph v j m × (length w ≡ suc v)
  way-walk {j} (one t) = (0, (t, refl), refl)
  way-walk (more {k = k} t l y) = let (v, u, e) = way-walk y in (suc v, (k, t, l, u), ap suc e)

pub wet-ends : WetEnds
unfolding WetEnds
wet-ends graph start end w y = let (v, u, e) = way-walk graph y in (walk_first graph v start end u, walk_last graph v start end u)
