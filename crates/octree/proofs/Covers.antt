-- Which cells can hold a given one, counted over the eight children of a cell.
use Prim.Native.Nat.{ℕ, suc, ◌^◌, ◌≤◌, ◌<◌}
use mathlib.Core.Path.{◌≡◌, sym, ap, ◌∙◌, subst}
use mathlib.Core.Logic.{◌⊎◌, inl, inr}
use mathlib.Core.Bool.{true, false, cond}
use native.Mathlib.Nat.{pow-succ'}
use native.Mathlib.Omega.{arith}
use lib.Arith.{lt→nleb}
use lib.Pow.{pow_pos}
use lib.Dec.{T, leb, le→leb}
use Rattle.base.specs.Lists.{sum, bit}
use Rattle.base.specs.Grid.{Place, octants}
use Rattle.rules.specs.Survey.{Cell}
use Rattle.base.proofs.Tests.{true→, false→, either, below, bit_le}
use Rattle.base.proofs.Sums.{sum_same}
use Rattle.base.proofs.Octants.{Holds, holds, octants_hold, holds-one, →holds, holds→}
use Rattle.octree.specs.Lawful.{is_at}
use Rattle.octree.proofs.Cells.{at→}

-- a cube holds its lowest corner
pub holds_self : (l : ℕ) (p : Place) → Holds (2 ^ l) p p
holds_self l p a = (omega arith, omega (arith, pow_pos l))

module _ (k : ℕ) (p : Place) where
  -- 1 if a cell of level k at p can be the cell of level l at q or lie in it; else 0
  unfoldable pub covers : ℕ → Place → ℕ
  covers l q = cond (leb k l) (holds (2 ^ l) q p) 0

  pub covers_yes : (l : ℕ) (q : Place) → k ≤ l → covers l q ≡ holds (2 ^ l) q p
  unfolding covers
  covers_yes l q h = ap (λ b. cond b (holds (2 ^ l) q p) 0) (true→ (leb k l) (le→leb k l h))

  pub covers_no : (l : ℕ) (q : Place) → l < k → covers l q ≡ 0
  unfolding covers
  covers_no l q h = ap (λ b. cond b (holds (2 ^ l) q p) 0) (false→ (leb k l) (lt→nleb k l h))

  pub →covers : (l : ℕ) (q : Place) → k ≤ l → Holds (2 ^ l) q p → covers l q ≡ 1
  →covers l q h f = covers_yes l q h ∙ →holds (2 ^ l) q p f

  pub covers_none : (l : ℕ) (q : Place) → (k ≤ l → Holds (2 ^ l) q p → ⊥) → covers l q ≡ 0
  covers_none l q f = go (below l k) (below 0 (holds (2 ^ l) q p))
    where
      go : (l < k) ⊎ (k ≤ l) → (0 < holds (2 ^ l) q p) ⊎ (holds (2 ^ l) q p ≤ 0) → covers l q ≡ 0
      go (inl h) g = covers_no l q h
      go (inr h) (inl g) = absurd (f h (holds→ (2 ^ l) q p g))
      go (inr h) (inr g) = omega (arith, covers_yes l q h)

  pub covers_one : (l : ℕ) (q : Place) → covers l q ≤ 1
  covers_one l q = go (below l k)
    where
      go : (l < k) ⊎ (k ≤ l) → covers l q ≤ 1
      go (inl h) = omega (arith, covers_no l q h)
      go (inr h) = omega (arith, covers_yes l q h, holds-one (2 ^ l) q p)

  pub self_covers : (c : Cell) → bit (is_at k p c) ≤ covers c.level c.low
  self_covers c = go (either (is_at k p c))
    where
      go : T (is_at k p c) ⊎ (is_at k p c ≡ false) → bit (is_at k p c) ≤ covers c.level c.low
      go (inr e) = let z = ap bit e in omega arith
      go (inl t) =
          let (e, f) = at→ k p c t in
          let h = →covers c.level c.low (omega arith) (subst (Holds (2 ^ c.level) c.low) (sym f) (holds_self c.level c.low)) in
          omega (arith, bit_le (is_at k p c) true (λ u. tt))

  pub octants_cover : (l : ℕ) (q : Place) → k ≤ l → sum (covers l) (octants (2 ^ l) q) ≡ covers (suc l) q
  octants_cover l q h =
      sum_same (covers l) (λ r. holds (2 ^ l) r p) (octants (2 ^ l) q) (λ r i. covers_yes l r h)
      ∙ octants_hold (2 ^ l) q p
      ∙ ap (λ s. holds s q p) (let e = pow-succ' 2 l in omega arith)
      ∙ sym (covers_yes (suc l) q (omega arith))
