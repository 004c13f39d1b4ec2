-- What the call does with the triangles, by the number of the check of the slices that applies.
-- Assumes nothing.
use Prim.Native.Nat.{ℕ}
use mathlib.Core.Path.{◌≡◌, sym, ◌∙◌}
use mathlib.Core.Logic.{◌⊎◌, inl, inr}
use mathlib.Core.Bool.{true, false, ◌&&◌}
use mathlib.Core.List.{List, [], ◌∷◌}
use lib.Dec.{T, leb, ltb, leb→le}
use lib.ListN.{length}
use lib.Ieee.{Float}
use borrow.Author.Tests.{le-leb}
use Rattle.base.proofs.Tests.{either, and→}
use Rattle.rules.specs.Edges.{point_edges}
use Rattle.rules.specs.Outputs.{first_of, accepted, survey_of}
use Rattle.across.specs.Across.{Beyond}
use Rattle.edges.specs.Tables.{Twins}
use Rattle.crossings.specs.Crossings.{Crossings}
use Rattle.triangles.specs.Settled.{Known}
use Rattle.drawing.proofs.Slices.{none_short}
use Rattle.drawing.proofs.Drawn.{both_fit}

-- of slices with a and b elements, of which n and m are wanted: what is written, by the number of the check that applies
module _ (a b n m number : ℕ) (is : number ≡ first_of ((9, ltb a n) ∷ (10, ltb b m) ∷ [])) where
  pub not_written : (number ≡ 0 → ⊥) → leb n a && leb m b ≡ false
  not_written some = go (either (leb n a && leb m b))
    where
      go : T (leb n a && leb m b) ⊎ (leb n a && leb m b ≡ false) → leb n a && leb m b ≡ false
      go (inl t) =
          let both = and→ (leb n a) (leb m b) t in
          absurd (some (is ∙ sym (none_short a n b m (leb→le n a both.0) (leb→le m b both.1))))
      go (inr e) = e

  pub is-written : number ≡ 0 → leb n a && leb m b ≡ true
  is-written none =
      let both = both_fit a b n m (sym is ∙ none) in
      (λ i. le-leb n a both.0 i && le-leb m b both.1 i)

-- the tables that the leaves are drawn from
abbrev pub known : (tc tk : List ℕ) (clearance : Float) {across crossings twins : List ℕ} {n : ℕ}
    → accepted tc tk clearance ≡ true → Beyond tc across → Crossings (survey_of tc tk clearance) tc crossings
    → Twins (survey_of tc tk clearance) twins → n ≡ length (point_edges (survey_of tc tk clearance)) → Known tc across crossings twins n
known tc tk clearance ok beyond crossed twin count = record {
  corners = tk;
  clearance = clearance;
  passed = ok;
  beyond = beyond;
  crossed = crossed;
  twin = twin;
  count = count;
}
