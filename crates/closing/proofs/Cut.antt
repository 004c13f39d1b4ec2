-- Two rules that cut loops into triangles, and that each `Closes`.
--     fan_closes     document 01's fan
--     cut_closes     cutting by any choice of third points: a triangle on the edge that closes a part, then the part before, then the part after
-- Both hold of every weight of steps. Assumes nothing.
use mathlib.Core.Path.{◌≡◌, refl, sym, ap, subst}
use mathlib.Core.List.{List, [], ◌∷◌, ◌++◌}
use Prim.Native.Nat.{ℕ, zero, suc, ◌+◌, ◌≤◌}
use native.Mathlib.Omega.{arith}
use lib.ListN.{length, get_or, take, drop, length-take, length-drop}
use lib.Seq.{split_at}
use Rattle.base.specs.Lists.{sum}
use Rattle.base.proofs.Sums.{sum_append}
use Rattle.rules.specs.Steps.{Triangle, fan_from, fan}
use Rattle.rules.specs.Closing.{run}
use Rattle.closing.specs.Cutting.{turn, path, Closes, cut_by, initial, final, cut_loop, Chooses}

-- ---- the fan

fan-from : (w : ℕ → ℕ → ℕ) (v a : ℕ) (r : List ℕ)
    → sum (run w) (fan_from v a r) + (w a v + path (turn w) a r v) ≡ sum (run (turn w)) (fan_from v a r) + (w v a + path w a r v)
fan-from w v a [] = omega arith
fan-from w v a (b ∷ r) = omega (arith, fan-from w v b r)

pub fan_closes : Closes fan
fan_closes w [] = refl
fan_closes w (v ∷ []) = refl
fan_closes w (v ∷ a ∷ r) = fan-from w v a r

-- ---- cutting by any choice of third points

-- what the triangles of a part run
abbrev Fills : (ℕ → ℕ → ℕ) → List Triangle → ℕ → List ℕ → ℕ → Type 0
Fills w ts a us b = sum (run w) ts + (path (turn w) a us b + w a b) ≡ sum (run (turn w)) ts + (path w a us b + w b a)

path_append : (w : ℕ → ℕ → ℕ) (a : ℕ) (us : List ℕ) (k : ℕ) (vs : List ℕ) (b : ℕ) → path w a (us ++ k ∷ vs) b ≡ path w a us k + path w k vs b
path_append w a [] k vs b = refl
path_append w a (u ∷ us) k vs b = omega (arith, path_append w u us k vs b)

initial-final : (v : ℕ) (us : List ℕ) → initial v us ++ final v us ∷ [] ≡ v ∷ us
unfolding initial final
initial-final v [] = refl
initial-final v (u ∷ us) = ap (λ (r : List ℕ). v ∷ r) (initial-final u us)

length-initial : (v : ℕ) (us : List ℕ) → length (initial v us) ≡ length us
unfolding initial
length-initial v [] = refl
length-initial v (u ∷ us) = ap suc (length-initial u us)

module _ (choose : ℕ → List ℕ → ℕ → ℕ) (within : Chooses choose) (w : ℕ → ℕ → ℕ) where
  cut_fills : (n a : ℕ) (us : List ℕ) (b : ℕ) → length us ≤ n → Fills w (cut_by choose n a us b) a us b
  cut_fills zero a [] b h = omega arith
  cut_fills zero a (u ∷ us) b h = absurd (omega arith)
  cut_fills (suc n) a [] b h = omega arith
  cut_fills (suc n) a (u ∷ us) b h =
      let l : List ℕ = u ∷ us in
      let i : ℕ = choose a l b in
      let k : ℕ = get_or l i 0 in
      let before : List Triangle = cut_by choose n a (take i l) k in
      let after : List Triangle = cut_by choose n k (drop (suc i) l) b in
      let fits = within a u us b in
      subst (λ (r : List ℕ). Fills w (cut_by choose (suc n) a l b) a r b) (sym (split_at l i 0 fits))
      (omega (
        arith,
        cut_fills n a (take i l) k (omega (arith, length-take i l)),
        cut_fills n k (drop (suc i) l) b (omega (arith, length-drop (suc i) l)),
        path_append w a (take i l) k (drop (suc i) l) b,
        path_append (turn w) a (take i l) k (drop (suc i) l) b,
        sum_append (run w) before after,
        sum_append (run (turn w)) before after,
      ))

pub cut_closes : (choose : ℕ → List ℕ → ℕ → ℕ) → Chooses choose → Closes (cut_loop choose)
unfolding cut_loop
cut_closes choose within w [] = refl
cut_closes choose within w (z ∷ []) = refl
cut_closes choose within w (z ∷ v ∷ us) =
    let front = initial v us in
    let last = final v us in
    let ts : List Triangle = cut_by choose (length us) z front last in
    subst (λ (r : List ℕ). sum (run w) ts + path (turn w) z r z ≡ sum (run (turn w)) ts + path w z r z) (initial-final v us)
    (omega (
      arith,
      cut_fills choose within w (length us) z front last (omega (arith, length-initial v us)),
      path_append w z front last [] z,
      path_append (turn w) z front last [] z,
    ))
