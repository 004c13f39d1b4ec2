-- Texts written one after another are one text; bytes stored one after another are a text.
-- Assumes nothing.
use Prim.Native.Nat.{ℕ, ◌+◌, ◌-◌, ◌≤◌}
use mathlib.Core.Path.{◌≡◌, refl, sym, ap, ◌∙◌}
use mathlib.Core.List.{List, [], ◌∷◌, ◌++◌, append_assoc}
use native.Mathlib.Omega.{arith}
use native.Mathlib.Nat.{zero-add}
use lib.ListN.{length, set, take, drop, length-append, take-append-drop, length-take, length-drop}
use lib.Seq.{sets-eq, length-take-le, drop-drop, take_at, drop_at}
use borrow.Rule.Slice.Mut.{set_vals}
use borrow.Rule.Slice.PartMut.{put_mid}
use Rattle.text.specs.declared.Writer.{Writer}
use Rattle.text.specs.Writing.{written_at, Wrote, Writes}

-- the slice with the text in its place
pub written_is : (at : ℕ) (p xs : List ℕ) → written_at at p xs ≡ take at xs ++ p ++ drop (at + length p) xs
unfolding written_at
written_is at p xs = rw drop-drop (sym (append_assoc (take at xs) p (drop (at + length p) xs)))

-- a text behind a text
written_again : (at : ℕ) (p q xs : List ℕ) → at ≤ length xs → written_at (at + length p) q (written_at at p xs) ≡ written_at at (p ++ q) xs
unfolding written_at
written_again at p q xs h =
    let front : length (take at xs ++ p) ≡ at + length p = length-append (take at xs) p ∙ ap (λ (n : ℕ). n + length p) (length-take-le at xs h) in
    let whole : take at xs ++ (p ++ drop (length p) (drop at xs)) ≡ (take at xs ++ p) ++ drop (length p) (drop at xs) = sym (append_assoc (take at xs) p _) in
    rw (
      whole,
      take_at (take at xs ++ p) (drop (length p) (drop at xs)) (at + length p) front,
      drop_at (take at xs ++ p) (drop (length p) (drop at xs)) (at + length p) front,
      append_assoc,
      append_assoc,
      drop-drop,
      length-append,
    )

-- one text and then another
pub wrote_then : {p q xs ys zs : List ℕ} {m n at k r : ℕ} → Wrote p m at xs ys k → Wrote q n k ys zs r → at ≤ length xs → Wrote (p ++ q) (m + n) at xs zs r
wrote_then {p} {q} {xs} {ys} {zs} {m} {n} {at} {k} {r} u v h = record {
  ends = v.ends ∙ ap (λ (i : ℕ). i + length q) u.ends ∙ rw length-append (omega arith);
  room = omega (arith, u.room, v.room);
  slice = v.slice ∙ ap (λ (i : ℕ). written_at i q ys) u.ends ∙ ap (written_at (at + length p) q) u.slice ∙ written_again at p q xs h;
}

-- the same text by another name
pub renamed : {p q xs ys : List ℕ} {m at r : ℕ} (n : ℕ) → p ≡ q → length q ≤ n → Wrote p m at xs ys r → Wrote q n at xs ys r
renamed {p} {q} {xs} {ys} {m} {at} {r} n e h w =
    let ends : r ≡ at + length q = w.ends ∙ ap (λ (t : List ℕ). at + length t) e in
    record { ends = ends; room = omega arith; slice = w.slice ∙ ap (λ (t : List ℕ). written_at at t xs) e }

-- a byte stored
pub stored : (v : ℕ) (l : List ℕ) (at : ℕ) → at + 1 ≤ length l → set l at v ≡ written_at at (v ∷ []) l
stored v l at h = sets-eq (v ∷ []) l at h ∙ sym (written_is at (v ∷ []) l)

-- the front of a slice to which a text is written is the text
pub front_is : {text xs ys : List ℕ} {most r : ℕ} → Wrote text most 0 xs ys r → take r ys ≡ text
unfolding written_at
front_is {text} {xs} {ys} {most} {r} w = ap (take r) w.slice ∙ take_at text (drop (length text) xs) r (sym (w.ends ∙ zero-add (length text)))

-- ---- the same of a writer

pub writes_then : {p q : List ℕ} {m n : ℕ} {a b c : Writer} → Writes p m a b → Writes q n b c → a.at ≤ length a.line.now
    → Writes (p ++ q) (m + n) a c
writes_then u v h = record { wrote = wrote_then u.wrote v.wrote h; long = v.long ∙ u.long; same = v.same ∙ u.same }

pub writes-renamed : {p q : List ℕ} {m : ℕ} {a b : Writer} (n : ℕ) → p ≡ q → length q ≤ n → Writes p m a b → Writes q n a b
writes-renamed n e h w = record { wrote = renamed n e h w.wrote; long = w.long; same = w.same }

-- no text is written
pub writes_nothing : (a : Writer) → Writes [] 0 a a
unfolding written_at
writes_nothing a = record {
  wrote = record { ends = omega arith; room = omega arith; slice = sym (take-append-drop a.at a.line.now) };
  long = refl;
  same = refl;
}

-- bytes that stand elsewhere are copied
pub copied : (text : List ℕ) (a : Writer) (part : List ℕ) → part ≡ text → a.at + length text ≤ length a.line.now
    → Writes text (length text) a (record { line = set_vals (put_mid a.at (a.at + length text - a.at) a.line.now part) a.line; at = a.at + length text })
unfolding written_at
copied text a part is h =
    let size : a.at + length text - a.at ≡ length text = omega arith in
    record {
      wrote = record { ends = refl; room = omega arith; slice = rw (size, is) };
      long = simp (length-append, length-take, length-drop) (omega (arith, ap length is));
      same = refl;
    }
