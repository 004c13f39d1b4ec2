-- The lines of points and triangles, one more at a time; and the listing by its parts.
-- Assumes nothing.
use Prim.Native.Nat.{ℕ, zero, suc, ◌+◌, ◌*◌, ◌≤◌}
use mathlib.Core.Path.{◌≡◌, sym, ap, ◌∙◌}
use mathlib.Core.List.{List, [], ◌∷◌, ◌++◌, append-nil}
use native.Mathlib.Omega.{arith}
use native.Mathlib.Numerals.{add-one}
use lib.ListN.{length, get_or}
use lib.Ieee.{Float, nan}
use borrow.Author.Tests.{eq-eqb, ne_eqb}
use Rattle.base.specs.Lists.{collect, count}
use Rattle.base.proofs.Lists.{collect_append}
use Rattle.rules.specs.declared.Drawn.{Drawn}
use Rattle.text.specs.Text.{count_line, point_line, triangle_line, refusal, point_lines, triangle_lines, listing}
use Rattle.text.specs.declared.Writer.{Writer}
use Rattle.text.specs.Writing.{written_at, Wrote, Writes}
use Rattle.text.proofs.Stores.{writes_nothing}

count-more : (i n : ℕ) → count i (suc n) ≡ count i n ++ (i + n) ∷ []
count-more i zero = ap (λ (k : ℕ). k ∷ []) (omega arith)
count-more i (suc n) = ap (λ (l : List ℕ). i ∷ l) (count-more (suc i) n ∙ ap (λ (k : ℕ). count (suc i) n ++ k ∷ []) (omega arith))

module _ (f : ℕ → List ℕ) where
  -- the text of one number more
  collect-more : (n : ℕ) → collect f (count 0 n) ++ f n ≡ collect f (count 0 (n + 1))
  collect-more n =
      ap (λ (l : List ℕ). collect f (count 0 n) ++ l) (sym (append-nil (f n)))
      ∙ sym (collect_append f (count 0 n) (n ∷ []))
      ∙ ap (collect f) (sym (count-more 0 n ∙ ap (λ (k : ℕ). count 0 n ++ k ∷ []) (omega arith)))
      ∙ ap (λ (k : ℕ). collect f (count 0 k)) (sym (add-one n))

pub point-more : (ps : List Float) (n : ℕ)
    → point_lines n ps ++ point_line (get_or ps (3 * n) nan) (get_or ps (3 * n + 1) nan) (get_or ps (3 * n + 2) nan) ≡ point_lines (n + 1) ps
unfolding point_lines
point-more ps n = collect-more (λ i. point_line (get_or ps (3 * i) nan) (get_or ps (3 * i + 1) nan) (get_or ps (3 * i + 2) nan)) n

pub triangle_more : (ts : List ℕ) (n : ℕ)
    → triangle_lines n ts ++ triangle_line (get_or ts (3 * n) 0) (get_or ts (3 * n + 1) 0) (get_or ts (3 * n + 2) 0) ≡ triangle_lines (n + 1) ts
unfolding triangle_lines
triangle_more ts n = collect-more (λ i. triangle_line (get_or ts (3 * i) 0) (get_or ts (3 * i + 1) 0) (get_or ts (3 * i + 2) 0)) n

pub no_point : (ps : List Float) (a : Writer) → Writes (point_lines 0 ps) (29 * 0) a a
unfolding point_lines
no_point ps a = writes_nothing a

pub no_triangle : (ts : List ℕ) (a : Writer) → Writes (triangle_lines 0 ts) (35 * 0) a a
unfolding triangle_lines
no_triangle ts a = writes_nothing a

-- the same text by another name, with more room
pub same_text : {p q xs ys : List ℕ} {m n at r : ℕ} → p ≡ q → m ≤ n → Wrote p m at xs ys r → Wrote q n at xs ys r
same_text {p} {q} {xs} {ys} {m} {n} {at} {r} e h w = record {
  ends = w.ends ∙ ap (λ (t : List ℕ). at + length t) e;
  room = omega (arith, w.room);
  slice = w.slice ∙ ap (λ (t : List ℕ). written_at at t xs) e;
}

pub same_writes : {p q : List ℕ} {m n : ℕ} {a b : Writer} → p ≡ q → m ≤ n → Writes p m a b → Writes q n a b
same_writes e h w = record { wrote = same_text e h w.wrote; long = w.long; same = w.same }

module _ (d : Drawn) (ps : List Float) (ts : List ℕ) where
  pub listing-drawn : d.number ≡ 0
      → count_line d.points d.triangles ++ point_lines d.points ps ++ triangle_lines d.triangles ts ≡ listing d ps ts
  unfolding listing
  listing-drawn h = rw (eq-eqb d.number 0 h)

  pub listing-refused : (d.number ≡ 0 → ⊥) → refusal d.number ≡ listing d ps ts
  unfolding listing
  listing-refused h = rw (ne_eqb d.number 0 h)
