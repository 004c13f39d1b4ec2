-- The corner of lowest record number that is joined to another and has some rank, as the code chooses it among six links.
use Prim.Native.Nat.{ℕ, zero, suc, ◌+◌, ◌≤◌, ◌<◌}
use mathlib.Core.Path.{◌≡◌, refl, sym, ap, ◌∙◌, subst}
use mathlib.Core.Logic.{◌⊎◌, inl, inr}
use mathlib.Core.Bool.{Bool, true, false, ◌&&◌, cond}
use mathlib.Core.List.{List}
use native.Mathlib.Omega.{arith}
use lib.Dec.{T, eqb, eqb→eq, ltb}
use lib.ListN.{get_or}
use borrow.Author.Tests.{ltb-true, ltb-false, eqb-true, eqb-false}
use Rattle.base.specs.Lists.{first, count}
use Rattle.base.proofs.Tests.{and→, →and, below, eq→eqb}
use Rattle.base.proofs.Lists.{any→in, in_count}
use Rattle.graph.specs.Table.{link_at, graph_in, lowest_link}
use Rattle.graph.proofs.Searching.{linked}
use Rattle.graph.proofs.Ways.{first-lowest}

first-none : (f : ℕ → Bool) (n i : ℕ) → ((j : ℕ) → i ≤ j → j < i + n → T (f j) → ⊥) → first f 0 (count i n) ≡ 0
first-none f zero i h = refl
first-none f (suc n) i h = go (first-none f n (suc i) (λ j a b t. h j (omega arith) (omega arith) t)) (f i) refl
  where
    go : first f 0 (count (suc i) n) ≡ 0 → (b : Bool) → f i ≡ b → cond b i (first f 0 (count (suc i) n)) ≡ 0
    go r true e = absurd (h i (omega arith) (omega arith) (subst T (sym e) tt))
    go r false e = r

-- corner j has the rank m, and is joined to corner k
abbrev test : List ℕ → List ℕ → ℕ → ℕ → ℕ → ℕ → Bool
test t r n k m j = eqb (get_or r j 0) m && (graph_in t n).joined k j

-- what is known after i links
pub record Lowest (t r : List ℕ) (n k m i best : ℕ) : Type 0 where
  pub upto : best ≤ n
  pub lower : (p : ℕ) → p < i → link_at t k p < n → get_or r (link_at t k p) 0 ≡ m → best ≤ link_at t k p
  pub one_of : (best ≡ n) ⊎ T (test t r n k m best)

linked_test : (t r : List ℕ) (n k m p : ℕ) → p < 6 → get_or r (link_at t k p) 0 ≡ m → T (test t r n k m (link_at t k p))
linked_test t r n k m p h e =
    let j = link_at t k p in
    →and (eqb (get_or r j 0) m) ((graph_in t n).joined k j) (eq→eqb (get_or r j 0) m e) (linked t n k p h)

module _ {t r : List ℕ} {n k m : ℕ} where
  pub lowest-none : Lowest t r n k m 0 n
  lowest-none = record { upto = omega arith; lower = λ p a. absurd (omega arith); one_of = inl refl }

  pub lowest-next : {i best j b : ℕ} → Lowest t r n k m i best → i < 6 → j ≡ link_at t k i → b ≡ cond (ltb j best && eqb (get_or r j 0) m) j best →
      Lowest t r n k m (i + 1) b
  lowest-next {i} {best} {j} {b} known h l e = go (ltb j best) refl (eqb (get_or r j 0) m) refl
    where
      each : (b : ℕ) → b ≤ best → (link_at t k i < n → get_or r (link_at t k i) 0 ≡ m → b ≤ link_at t k i) →
          (p : ℕ) → p < i + 1 → link_at t k p < n → get_or r (link_at t k p) 0 ≡ m → b ≤ link_at t k p
      each b a last p c d f = pick (below p i)
        where
          pick : (p < i) ⊎ (i ≤ p) → b ≤ link_at t k p
          pick (inl g) = let u = known.lower p g d f in omega arith
          pick (inr g) =
              let z : i ≡ p = omega arith in
              subst (λ (y : ℕ). link_at t k y < n → get_or r (link_at t k y) 0 ≡ m → b ≤ link_at t k y) z last d f

      stays : b ≡ best → (link_at t k i < n → get_or r (link_at t k i) 0 ≡ m → best ≤ link_at t k i) → Lowest t r n k m (i + 1) b
      stays s last = subst (Lowest t r n k m (i + 1)) (sym s) (record {
        upto = known.upto;
        lower = each best (omega arith) last;
        one_of = known.one_of;
      })

      go : (x : Bool) → ltb j best ≡ x → (y : Bool) → eqb (get_or r j 0) m ≡ y → Lowest t r n k m (i + 1) b
      go false p y q = stays (e ∙ (λ d. cond (p d && q d) j best)) (λ u v. let w = ltb-false j best p in omega arith)
      go true p false q = stays (e ∙ (λ d. cond (p d && q d) j best)) (λ u v. absurd (eqb-false (get_or r j 0) m q (ap (λ (z : ℕ). get_or r z 0) l ∙ v)))
      go true p true q =
          let lt = ltb-true j best p in
          let up = known.upto in
          subst (Lowest t r n k m (i + 1)) (sym (e ∙ (λ d. cond (p d && q d) j best))) (record {
            upto = omega arith;
            lower = each j (omega arith) (λ u v. omega arith);
            one_of =
                let ranked = ap (λ (z : ℕ). get_or r z 0) (sym l) ∙ eqb-true (get_or r j 0) m q in
                inr (subst (λ (z : ℕ). T (test t r n k m z)) (sym l) (linked_test t r n k m i h ranked));
          })

  least : {best : ℕ} → Lowest t r n k m 6 best → (j : ℕ) → j < n → T (test t r n k m j) → best ≤ j
  least known j h u =
      let (a, b) = and→ (eqb (get_or r j 0) m) ((graph_in t n).joined k j) u in
      let (p, i, e) = any→in (λ p. eqb (link_at t k p) j) (count 0 6) b in
      let q = eqb→eq (link_at t k p) j e in
      let c = known.lower p (let v = (in_count 6 0 p i).1 in omega arith) (omega arith) (ap (λ (z : ℕ). get_or r z 0) q ∙ eqb→eq (get_or r j 0) m a) in
      omega arith

  pub lowest-found : {best : ℕ} → Lowest t r n k m 6 best → (best ≡ n → ⊥) → best ≡ lowest_link t r n k m
  lowest-found {best} known d = go known.one_of
    where
      go : (best ≡ n) ⊎ T (test t r n k m best) → best ≡ lowest_link t r n k m
      go (inl e) = absurd (d e)
      go (inr u) =
          let up = known.upto in
          let (a, b) = first-lowest (test t r n k m) n 0 best (omega arith) (omega arith) u in
          let c = least known (lowest_link t r n k m) (omega arith) a in
          omega arith

  pub none_found : Lowest t r n k m 6 n → 0 ≡ lowest_link t r n k m
  none_found known = sym (first-none (test t r n k m) n 0 (λ j a b u. let c = least known j (omega arith) u in omega arith))
