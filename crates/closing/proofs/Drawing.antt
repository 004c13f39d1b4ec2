-- All leaves together, of a survey whose face steps obey the laws of faces.
--     once          on a leaf, a point lies on at most one loop, once
--     balance       the triangles run as often from p to q as from q to p
--     meets-all     they meet every point
-- Assumes nothing.
use mathlib.Core.Path.{◌≡◌, refl, sym, ap, ◌∙◌}
use mathlib.Core.Bool.{Bool, true, false, not, ◌||◌}
use mathlib.Core.List.{List}
use Prim.Native.Nat.{ℕ, ◌+◌, ◌≤◌, ◌<◌}
use native.Mathlib.Omega.{arith}
use native.Mathlib.Decide.{ℕ_discrete}
use lib.Dec.{T, eqb}
use lib.ListN.{length}
use Rattle.base.specs.Lists.{bit, sum, any, often}
use Rattle.base.proofs.Lists.{In}
use Rattle.base.proofs.Sums.{sum_same, sum-add, sum-collect, in_sum}
use Rattle.base.proofs.Counts.{any_has}
use Rattle.rules.specs.Survey.{Cell, Survey}
use Rattle.rules.specs.Edges.{CellEdge, point_edges}
use Rattle.rules.specs.Steps.{Triangle, Step, leaf_steps, twin_of, met, onward, leaf_loops, triangles_by}
use Rattle.rules.specs.Closing.{in_one_face, Carries, run, step, runs, meets}
use Rattle.geometry.proofs.Interface.{leaves_of, tally, leave, enter, FaceLaws}
use Rattle.closing.specs.Cutting.{Closes}
use Rattle.closing.proofs.Loops.{loops-once}
use Rattle.closing.proofs.Leaf.{leaf_triangles, onward-permutes, step_from, leaf-others, leaf_twins, leaf_passes}

-- a triangle that does not meet p does not run from it
unmet_runs : (p q : ℕ) (t : Triangle) → meets p t ≡ false → run (step p q) t ≡ 0
unmet_runs p q t e = omega (
  arith,
  none (eqb p t.0) (eqb p t.1) (eqb p t.2) e,
  step_from p q t.0 t.1,
  step_from p q t.1 t.2,
  step_from p q t.2 t.0,
)
  where
    none : (a b c : Bool) → a || (b || c) ≡ false → bit a + bit b + bit c ≡ 0
    none true b c e = let z : ◌≡◌ {A = ℕ} 1 0 = ap bit e in absurd (omega arith)
    none false true c e = let z : ◌≡◌ {A = ℕ} 1 0 = ap bit e in absurd (omega arith)
    none false false true e = let z : ◌≡◌ {A = ℕ} 1 0 = ap bit e in absurd (omega arith)
    none false false false e = refl

-- on a leaf, a point lies on at most one loop, once
pub once : (s : Survey) → FaceLaws s → (c : Cell) → In c (leaves_of s) → (p : ℕ) → sum (often p) (leaf_loops s c) ≤ 1
unfolding leaf_loops
once s laws c i p =
    let n = length (point_edges s) in
    let ss = leaf_steps s c in
    let per = onward-permutes (twin_of s) n ss (laws.paired c i) in
    omega (arith, loops-once n (onward ss (twin_of s)) (met ss n) per p, per.once p)

module _ (s : Survey) (laws : FaceLaws s) (cutting : List ℕ → List Triangle) (closes : Closes cutting) where
  -- the triangles of a leaf
  abbrev triangles_of : Cell → List Triangle
  triangles_of c = leaf_triangles cutting (twin_of s) (length (point_edges s)) (leaf_steps s c)

  all_runs : (w : ℕ → ℕ → ℕ) → sum (run w) (triangles_by cutting s) ≡ sum (λ c. sum (run w) (triangles_of c)) (leaves_of s)
  unfolding triangles_by leaf_loops
  all_runs w = sum-collect (run w) triangles_of (leaves_of s)

  -- what the leaves' face steps come to together
  abbrev in_all : (List Step → ℕ) → ℕ
  in_all f = sum (λ c. f (leaf_steps s c)) (leaves_of s)

  -- between points that are not twins of each other
  balance-others : (p q : ℕ) → (twin_of s p ≡ q → twin_of s q ≡ p → ⊥) → in_all (tally p q) ≡ in_all (tally q p)
      → runs p q (triangles_by cutting s) ≡ runs q p (triangles_by cutting s)
  balance-others p q d faces =
      omega (
        arith,
        all_runs (step p q),
        all_runs (step q p),
        sum_same (λ c. runs p q (triangles_of c) + tally q p (leaf_steps s c)) (λ c. runs q p (triangles_of c) + tally p q (leaf_steps s c)) (leaves_of s)
            (λ c i. leaf-others (twin_of s) (length (point_edges s)) (leaf_steps s c) (laws.paired c i) cutting closes p q d),
        sum-add (λ c. runs p q (triangles_of c)) (λ c. tally q p (leaf_steps s c)) (leaves_of s),
        sum-add (λ c. runs q p (triangles_of c)) (λ c. tally p q (leaf_steps s c)) (leaves_of s),
      )

  -- between twins
  balance_twins : (p q : ℕ) → twin_of s p ≡ q → twin_of s q ≡ p → in_all (tally p q) ≡ in_all (tally q p) → in_all (λ ss. leave ss p) ≡ in_all (λ ss. enter ss p)
      → runs p q (triangles_by cutting s) ≡ runs q p (triangles_by cutting s)
  balance_twins p q a b faces ends =
      omega (
        arith,
        all_runs (step p q),
        all_runs (step q p),
        sum_same (λ c. runs p q (triangles_of c) + (tally q p (leaf_steps s c) + leave (leaf_steps s c) p))
            (λ c. runs q p (triangles_of c) + (tally p q (leaf_steps s c) + enter (leaf_steps s c) p)) (leaves_of s)
            (λ c i. leaf_twins (twin_of s) (length (point_edges s)) (leaf_steps s c) (laws.paired c i) cutting closes p q a b),
        sum-add (λ c. runs p q (triangles_of c)) (λ c. tally q p (leaf_steps s c) + leave (leaf_steps s c) p) (leaves_of s),
        sum-add (λ c. runs q p (triangles_of c)) (λ c. tally p q (leaf_steps s c) + enter (leaf_steps s c) p) (leaves_of s),
        sum-add (λ c. tally q p (leaf_steps s c)) (λ c. leave (leaf_steps s c) p) (leaves_of s),
        sum-add (λ c. tally p q (leaf_steps s c)) (λ c. enter (leaf_steps s c) p) (leaves_of s),
      )

  pub balance : (e f : CellEdge) (p q : ℕ) → Carries s e p → Carries s f q → T (not (in_one_face e f))
      → runs p q (triangles_by cutting s) ≡ runs q p (triangles_by cutting s)
  balance e f p q ce cf outer = go (laws.faces_balance e f p q ce cf outer) (ℕ_discrete p q) (ℕ_discrete (twin_of s p) q) (ℕ_discrete (twin_of s q) p)
    where
      go : in_all (tally p q) ≡ in_all (tally q p) → Dec (p ≡ q) → Dec (twin_of s p ≡ q) → Dec (twin_of s q ≡ p)
          → runs p q (triangles_by cutting s) ≡ runs q p (triangles_by cutting s)
      go faces (yes i) a b = ap (λ (x : ℕ). runs x q (triangles_by cutting s)) i ∙ ap (λ (x : ℕ). runs q x (triangles_by cutting s)) (sym i)
      go faces (no d) (yes a) (yes b) = balance_twins p q a b faces (laws.ends-balance e f p q ce cf outer a d)
      go faces (no d) (yes a) (no b) = balance-others p q (λ x y. b y) faces
      go faces (no d) (no a) b = balance-others p q (λ x y. a x) faces

  -- every point is met by some triangle
  pub meets-all : (p : ℕ) → p < length (point_edges s) → T (any (meets p) (triangles_by cutting s))
  meets-all p h =
      let m = laws.met p h in
      let one = leaf_passes (twin_of s) (length (point_edges s)) (leaf_steps s m.leaf) (laws.paired m.leaf m.is_leaf) cutting closes
      m.before p m.after m.in_step m.out_step m.apart in
      any_has (meets p) (run (step p m.after)) (triangles_by cutting s) (unmet_runs p m.after)
      (omega (arith, all_runs (step p m.after), in_sum (λ c. runs p m.after (triangles_of c)) (leaves_of s) m.leaf m.is_leaf))
