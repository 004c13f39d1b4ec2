-- What is done with the triangles of a survey: they are counted only, copied from the scratch, or drawn again into the lent slice.
--     unwanted, too_short     nothing is written
--     copied                  the scratch had room for all
--     redrawn                 it had not, and the slice has
-- Assumes nothing.
use Prim.Native.Nat.{ℕ, ◌+◌, ◌*◌, ◌≤◌, ◌<◌}
use native.Mathlib.Omega.{arith}
use mathlib.Core.Path.{◌≡◌, refl, sym, ap, ◌∙◌, subst}
use mathlib.Core.Bool.{Bool, true, false, ◌&&◌, cond}
use mathlib.Core.List.{List, [], ◌++◌}
use lib.Dec.{leb}
use lib.ListN.{length, set, take, drop, replicate, length-set, length-replicate}
use lib.Ieee.{Float}
use lib.Seq.{take-append_seam, take_all}
use borrow.Author.Tests.{le-leb, lt-leb}
use Rattle.base.specs.Lists.{collect}
use Rattle.rules.specs.Steps.{Triangle, all_triangles}
use Rattle.rules.specs.Edges.{point_edges}
use Rattle.rules.specs.Outputs.{survey_of, numbers, triangle_numbers, written}
use Rattle.trace.specs.Trace.{Traced}
use Rattle.trace.proofs.Laws.{fresh}
use Rattle.loops.proofs.Slices.{into-all, length-numbers}
use Rattle.leaves.specs.Leaves.{Ready, Drew}
use Rattle.triangles.specs.Settled.{Known, Settled}

module _ (limit : ℕ) (ts : List Triangle) (before after : List ℕ) (r : ℕ) (trace : List ℕ) (d : Drew limit ts before after r trace) where
  size : length (collect numbers ts) ≡ 3 * r
  size = length-numbers ts ∙ ap (λ (k : ℕ). 3 * k) (sym d.counted)

  -- what was drawn into a slice that has room for it
  whole : 3 * r ≤ length before → after ≡ written (collect numbers ts) before
  whole h = d.wrote ∙ into-all (collect numbers ts) before (omega (arith, size))

  -- what is left in a slice, where it is known whether it was written
  settled : (slice new : List ℕ) (write : Bool) (test : Bool) → write && leb (3 * r) (length slice) ≡ test
      → new ≡ cond test (written (collect numbers ts) slice) slice → Settled ts write slice new r
  settled slice new write test e is = record {
    counted = d.counted;
    wrote = is ∙ sym (ap (λ (b : Bool). cond b (written (collect numbers ts) slice) slice) e);
  }

  pub unwanted : (slice : List ℕ) (write : Bool) → write ≡ false → Settled ts write slice slice r
  unwanted slice write e = settled slice slice write false (ap (λ (w : Bool). w && leb (3 * r) (length slice)) e) refl

  pub too_short : (slice : List ℕ) (write : Bool) → write ≡ true → length slice < 3 * r → Settled ts write slice slice r
  too_short slice write e h =
      settled slice slice write false (ap (λ (w : Bool). w && leb (3 * r) (length slice)) e ∙ lt-leb (3 * r) (length slice) h) refl

  fits : (slice : List ℕ) (write : Bool) → write ≡ true → 3 * r ≤ length slice → write && leb (3 * r) (length slice) ≡ true
  fits slice write e h = ap (λ (w : Bool). w && leb (3 * r) (length slice)) e ∙ le-leb (3 * r) (length slice) h

  pub copied : (slice new : List ℕ) (write : Bool) → write ≡ true → 3 * r ≤ length before → 3 * r ≤ length slice
      → new ≡ take (3 * r) after ++ drop (3 * r) slice → Settled ts write slice new r
  copied slice new write e room h is =
      let front : take (3 * r) after ≡ collect numbers ts =
      (λ i. take (sym size i) (whole room i)) ∙ take-append_seam (collect numbers ts) (drop (length (collect numbers ts)) before) in
      settled slice new write true (fits slice write e h) (is ∙ (λ i. front i ++ drop (sym size i) slice))

  pub redrawn : (write : Bool) → write ≡ true → 3 * r ≤ length before → Settled ts write before after r
  redrawn write e h = settled before after write true (fits before write e h) (whole h)

-- a fresh trace
pub made : (places limit : ℕ) → places ≡ 3 * limit + 1 → limit ≤ 14616 → Traced limit [] (set {A = ℕ} (replicate places 65535) 0 0)
made places limit is small =
    let whole = set {A = ℕ} (replicate places 65535) 0 0 in
    let long : length whole ≡ places = length-set {A = ℕ} (replicate places 65535) 0 0 ∙ length-replicate {A = ℕ} places 65535 in
    subst (Traced limit []) (take_all (3 * limit + 1) whole (omega (arith, long))) (fresh places limit small (omega arith))

-- the tables of a survey with n points, and a fresh trace with room for them
abbrev pub ready : (tc across crossings twins trace : List ℕ) (n : ℕ) (k : Known tc across crossings twins n) (limit : ℕ)
    → length (point_edges (survey_of tc k.corners k.clearance)) ≤ limit → Traced limit [] trace → Ready tc across crossings twins trace
ready tc across crossings twins trace n k limit reach empty = record {
  corners = k.corners;
  clearance = k.clearance;
  passed = k.passed;
  beyond = k.beyond;
  crossed = k.crossed;
  twin = k.twin;
  limit = limit;
  reach = reach;
  empty = empty;
}

-- ---- what a caller learns

pub left_alone : {ts : List Triangle} {write : Bool} {before after : List ℕ} {r : ℕ} → Settled ts write before after r
    → write && leb (3 * r) (length before) ≡ false → after ≡ before
left_alone {ts} {before = before} d e = d.wrote ∙ ap (λ (b : Bool). cond b (written (collect numbers ts) before) before) e

pub written_over : (tc tk : List ℕ) (clearance : Float) {write : Bool} {before after : List ℕ} {r : ℕ}
    → Settled (all_triangles (survey_of tc tk clearance)) write before after r → write && leb (3 * r) (length before) ≡ true
    → after ≡ written (triangle_numbers tc tk clearance) before
unfolding triangle_numbers
written_over tc tk clearance {before = before} d e =
    d.wrote ∙ ap (λ (b : Bool). cond b (written (collect numbers (all_triangles (survey_of tc tk clearance))) before) before) e
