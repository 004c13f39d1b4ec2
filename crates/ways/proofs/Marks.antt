-- The wet marks of corner records, and the corners that a way may pass.
use Prim.Native.Nat.{ℕ, ◌<◌}
use mathlib.Core.Path.{◌≡◌, sym, ap, ◌∙◌}
use mathlib.Core.Logic.{◌⊎◌, inl, inr}
use mathlib.Core.Bool.{Bool, true, false}
use mathlib.Core.List.{List}
use native.Mathlib.Omega.{arith}
use lib.Dec.{T, ltb, ltb→lt, lt→ltb}
use lib.Ieee.{Float}
use lib.ListN.{length, get_or}
use Rattle.base.specs.Lists.{bit}
use Rattle.base.specs.Grid.{Place}
use Rattle.base.proofs.Tests.{and→, →and, true→, either}
use Rattle.rules.specs.Survey.{record_count, corners_of, wet_at}
use Rattle.records.specs.Keys.{places_of}
use Rattle.records.proofs.Keys.{length-places}
use Rattle.edges.specs.Tables.{place_at, Wets}
use Rattle.rules.specs.Ways.{passable, corner_graph}

pub size_is : (tc tk : List ℕ) (clearance : Float) → (corner_graph tc tk clearance).size ≡ record_count tk
unfolding corner_graph
size_is tc tk clearance = length-places tk

module _ (tc tk : List ℕ) (clearance : Float) (wets : List ℕ) (marks : Wets tk clearance wets) where
  abbrev place : ℕ → Place
  place k = place_at (places_of tk) k

  -- a corner that is marked may be passed
  pub mark_passes : (k : ℕ) → k < record_count tk → get_or wets k 0 ≡ 1 → T (passable (corner_graph tc tk clearance) k)
  unfolding corner_graph
  mark_passes k h e =
      →and (ltb k (length (places_of tk))) (wet_at (corners_of tk) clearance (place k)) (lt→ltb k (length (places_of tk)) (let s = length-places tk in omega arith))
      (go (wet_at (corners_of tk) clearance (place k)) (sym (marks.entry k h) ∙ e))
    where
      go : (b : Bool) → bit b ≡ 1 → T b
      go true e = tt
      go false e = absurd (omega arith)

  -- and no other
  pub passes_mark : (k : ℕ) → T (passable (corner_graph tc tk clearance) k) → (k < record_count tk) × (get_or wets k 0 ≡ 1)
  unfolding corner_graph
  passes_mark k t =
      let (a, b) = and→ (ltb k (length (places_of tk))) (wet_at (corners_of tk) clearance (place k)) t in
      let c = ltb→lt k (length (places_of tk)) a in
      let h : k < record_count tk = (let s = length-places tk in omega arith) in
      (h, marks.entry k h ∙ ap bit (true→ (wet_at (corners_of tk) clearance (place k)) b))

  pub no_mark_dry : (k : ℕ) → (get_or wets k 0 ≡ 1 → ⊥) → passable (corner_graph tc tk clearance) k ≡ false
  no_mark_dry k e = go (either (passable (corner_graph tc tk clearance) k))
    where
      go : T (passable (corner_graph tc tk clearance) k) ⊎ (passable (corner_graph tc tk clearance) k ≡ false) → passable (corner_graph tc tk clearance) k ≡ false
      go (inl t) = absurd (e (passes_mark k t).1)
      go (inr f) = f
