-- Cells by level and place, as members of the list of cells.
use Prim.Native.Nat.{ℕ}
use mathlib.Core.Path.{◌≡◌, refl, sym, subst}
use mathlib.Core.Bool.{Bool, true, ◌&&◌}
use mathlib.Core.List.{List}
use lib.Dec.{T, eqb, eqb→eq}
use Rattle.base.specs.Grid.{Place, same}
use Rattle.rules.specs.Survey.{Cell, cell}
use Rattle.base.proofs.Tests.{and→, →and, true→, eq→eqb}
use Rattle.base.proofs.Lists.{In, any→in, in→any}
use Rattle.base.proofs.Places.{same→, same_refl}
use Rattle.octree.specs.Lawful.{is_at, is_cell, is_split}

pub at→ : (l : ℕ) (p : Place) (c : Cell) → T (is_at l p c) → (l ≡ c.level) × (p ≡ c.low)
at→ l p c t = let u = and→ (eqb l c.level) (same p c.low) t in (eqb→eq l c.level u.0, same→ p c.low u.1)

pub →at : (l : ℕ) (p : Place) (c : Cell) → l ≡ c.level → p ≡ c.low → T (is_at l p c)
→at l p c e f = →and (eqb l c.level) (same p c.low) (eq→eqb l c.level e) (subst (λ q. T (same p q)) f (same_refl p))

pub is_at_lem : (c : Cell) → T (is_at c.level c.low c)
is_at_lem c = →at c.level c.low c refl refl

-- a cell by another name for its level and place
moved : (cells : List Cell) (c : Cell) (l : ℕ) (p : Place) → T (is_at l p c) → In c cells → In (cell p l c.split) cells
moved cells c l p t i =
    let e = at→ l p c t in
    subst (λ m. In (cell p m c.split) cells) (sym e.0) (subst (λ q. In (cell q c.level c.split) cells) (sym e.1) i)

pub cell→ : (cells : List Cell) (l : ℕ) (p : Place) → T (is_cell cells l p) → (s : Bool) × In (cell p l s) cells
unfolding is_cell
cell→ cells l p t = let r = any→in (is_at l p) cells t in (r.0.split, moved cells r.0 l p r.2 r.1)

pub →cell : (cells : List Cell) (c : Cell) → In c cells → T (is_cell cells c.level c.low)
unfolding is_cell
→cell cells c i = in→any (is_at c.level c.low) cells c i (is_at_lem c)

pub split→ : (cells : List Cell) (l : ℕ) (p : Place) → T (is_split cells l p) → In (cell p l true) cells
unfolding is_split
split→ cells l p t =
    let r = any→in (λ c. c.split && is_at l p c) cells t in
    let u = and→ r.0.split (is_at l p r.0) r.2 in
    subst (λ s. In (cell p l s) cells) (true→ r.0.split u.0) (moved cells r.0 l p u.1 r.1)

pub →split : (cells : List Cell) (c : Cell) → In c cells → T c.split → T (is_split cells c.level c.low)
unfolding is_split
→split cells c i t = in→any (λ d. d.split && is_at c.level c.low d) cells c i (→and c.split (is_at c.level c.low c) t (is_at_lem c))

pub split-cell : (cells : List Cell) (l : ℕ) (p : Place) → T (is_split cells l p) → T (is_cell cells l p)
split-cell cells l p t = →cell cells (cell p l true) (split→ cells l p t)
