-- The listing of what is drawn fits its slice, and is what the program prints.
-- Assumes nothing.
use Rattle.std.proofs.Common.{◌≡◌, ℕ, ◌+◌, Bool, cond, List, arith, sym, ap, ◌∙◌, length, take, drop, replicate, length-append, Float, eq-eqb}
use Rattle.std.specs.Float.{binary32}
use Rattle.std.specs.Float.Ieee.{of_bits}
use lib.Seq.{take-append_seam}
use borrow.Author.Tests.{ne_eqb}
use Rattle.base.specs.Lists.{little, bytes}
use Rattle.rules.specs.Closing.{ClosedIn}
use Rattle.rules.specs.Resounding.{draw_amended}
use Rattle.rules.specs.declared.Drawn.{Drawn}
use Rattle.text.specs.Text.{listing}
use Rattle.text.specs.Writing.{written_at, Wrote, Room}
use Rattle.drawing.specs.Draws.{Draws}
use Rattle.draw.specs.Printed.{clearance_of, drawing, printed}

-- the clearance of a file with four bytes, and of another
pub clearance_four : (t : List ℕ) → length t ≡ 4 → (v : Float) → v ≡ of_bits binary32 (little (bytes t 0 4)) → v ≡ clearance_of t
unfolding clearance_of
clearance_four t four v e = e ∙ sym (ap (λ (b : Bool). of_bits binary32 (cond b (little (bytes t 0 4)) 0x7fc0_0000)) (eq-eqb (length t) 4 four))

pub clearance-none : (t : List ℕ) → (length t ≡ 4 → ⊥) → (v : Float) → v ≡ of_bits binary32 0x7fc0_0000 → v ≡ clearance_of t
unfolding clearance_of
clearance-none t other v e = e ∙ sym (ap (λ (b : Bool). of_bits binary32 (cond b (little (bytes t 0 4)) 0x7fc0_0000)) (ne_eqb (length t) 4 other))

-- 2,048 points and 4,096 triangles at most are listed
pub room_for : (tc tk : List ℕ) (clearance : Float) (r : Drawn) (ps : List Float) (ts line : List ℕ) → (r.number ≡ 0 → ClosedIn tc tk clearance r ps ts)
    → length ps ≡ 6144 → length ts ≡ 12288 → length line ≡ 202774 → Room r (length line) (length ps) (length ts)
room_for tc tk clearance r ps ts line closes p t l = record {
  first = omega (arith, l);
  points_there = λ z. (closes z).points_fit;
  triangles_there = λ z. (closes z).triangles_fit;
  whole = λ z. omega (arith, (closes z).points_fit, (closes z).triangles_fit, p, t, l);
}

-- what is written is the listing of what the rules draw, and fits
pub listed : (tc tk ta : List ℕ) (clearance : Float) (r : Drawn) (ps : List Float) (ts before after : List ℕ) (most end : ℕ)
    → Draws (draw_amended tc tk ta clearance (replicate 6144 (of_bits binary32 0)) (replicate 12288 0)) r ps ts
    → Wrote (listing r ps ts) most 0 before after end → length after ≡ 202774 → Wrote (printed tc tk ta clearance) 202774 0 before after end
unfolding printed drawing written_at
listed tc tk ta clearance r ps ts before after most end d w size =
    let text = listing r ps ts in
    let same : text ≡ printed tc tk ta clearance = λ i. listing (d.result_is i) (d.points_are i) (d.triangles_are i) in
    let whole : length after ≡ length text + length (drop (length text) before) = ap length w.slice ∙ length-append text (drop (length text) before) in
    record {
      ends = w.ends ∙ ap (λ (l : List ℕ). 0 + length l) same;
      room = omega (arith, w.ends, whole, size);
      slice = w.slice ∙ ap (λ (l : List ℕ). written_at 0 l before) same;
    }
