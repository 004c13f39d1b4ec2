-- The way as it is written, corner by corner.
use Prim.Native.Nat.{ℕ, suc, ◌+◌, ◌-◌, ◌≤◌, ◌<◌}
use mathlib.Core.Path.{◌≡◌, refl, sym, ap, ◌∙◌, subst}
use mathlib.Core.List.{List, [], ◌∷◌, ◌++◌, append_assoc, append-nil}
use native.Mathlib.Omega.{arith}
use lib.ListN.{length, set, take, drop, length-set, take-append-drop}
use lib.Seq.{take-suc-set, drop-set-lt, drop-drop}
use Rattle.graph.specs.Table.{lowest_link, followed}

pub record Following (t r : List ℕ) (count n start : ℕ) (way₀ way : List ℕ) (k i : ℕ) : Type 0 where
  pub upto : i ≤ n
  pub corner : k < count
  pub size : length way ≡ length way₀
  pub whole : take i way ++ followed t r count (n - i) k ≡ followed t r count n start
  pub kept : drop i way ≡ drop i way₀

drop_more : (i : ℕ) (a b : List ℕ) → drop i a ≡ drop i b → drop (suc i) a ≡ drop (suc i) b
drop_more i a b e = sym (next i a) ∙ ap (drop 1) e ∙ next i b
  where
    next : (i : ℕ) (l : List ℕ) → drop 1 (drop i l) ≡ drop (suc i) l
    next i l = drop-drop 1 i l ∙ ap (λ (n : ℕ). drop n l) (let z : i + 1 ≡ suc i = omega arith in z)

pub follow_none : {t r : List ℕ} {count n start : ℕ} {way₀ : List ℕ} → start < count → Following t r count n start way₀ way₀ start 0
follow_none {t} {r} {count} {n} {start} {way₀} h = record {
  upto = omega arith;
  corner = h;
  size = refl;
  whole = ap (λ (m : ℕ). followed t r count m start) (let z : n - 0 ≡ n = omega arith in z);
  kept = refl;
}

module _ {t r : List ℕ} {count n start : ℕ} {way₀ way : List ℕ} {k i : ℕ} (known : Following t r count n start way₀ way k i) where
  pub follow_next : i < n → n ≤ length way₀ → (next : ℕ) → next ≡ lowest_link t r count k (n - (i + 1)) → next < count →
      Following t r count n start way₀ (set way i k) next (i + 1)
  follow_next h fits next e c =
      let z : suc i ≡ i + 1 = omega arith in
      let s = known.size in
      let more : n - i ≡ suc (n - (i + 1)) = omega arith in
      let head : take (suc i) (set way i k) ≡ take i way ++ (k ∷ []) = take-suc-set way i k (omega arith) in
      let tail : followed t r count (n - i) k ≡ k ∷ followed t r count (n - (i + 1)) next =
      ap (λ (m : ℕ). followed t r count m k) more ∙ ap (λ (j : ℕ). k ∷ followed t r count (n - (i + 1)) j) (sym e) in
      record {
        upto = omega arith;
        corner = c;
        size = length-set way i k ∙ known.size;
        whole =
            subst (λ (m : ℕ). take m (set way i k) ++ followed t r count (n - (i + 1)) next ≡ followed t r count n start) z
            (ap (λ (l : List ℕ). l ++ followed t r count (n - (i + 1)) next) head
            ∙ append_assoc (take i way) (k ∷ []) (followed t r count (n - (i + 1)) next)
            ∙ ap (λ (l : List ℕ). take i way ++ l) (sym tail)
            ∙ known.whole);
        kept = subst (λ (m : ℕ). drop m (set way i k) ≡ drop m way₀) z
            (drop-set-lt (suc i) way i k (omega arith) ∙ drop_more i way way₀ known.kept);
      }

  pub follow_done : n ≤ i → way ≡ followed t r count n start ++ drop n way₀
  follow_done h =
      let u = known.upto in
      let z : i ≡ n = omega arith in
      let none : n - i ≡ 0 = omega arith in
      let front : take i way ≡ followed t r count n start =
      sym (append-nil (take i way)) ∙ ap (λ (m : ℕ). take i way ++ followed t r count m k) (sym none) ∙ known.whole in
      sym (take-append-drop i way) ∙ ap (λ (l : List ℕ). l ++ drop i way) front ∙ ap (λ (l : List ℕ). followed t r count n start ++ l) known.kept
      ∙ ap (λ (m : ℕ). followed t r count n start ++ drop m way₀) z
