-- The sum over what a drawing leaves in the slices is that of the rules, and the same from every reference of the box.
-- Assumes nothing.
use Rattle.std.specs.Prelude.{Result, Ok, Err, IsErrAnd}
use Prim.Native.Nat.{ℕ}
use mathlib.Core.Path.{◌≡◌, refl, sym, ap, ◌∙◌, subst}
use mathlib.Core.Bool.{true, false, not}
use mathlib.Core.List.{List}
use lib.Dec.{T}
use lib.IntN.{ℤ, pos}
use lib.ListN.{length}
use lib.Ieee.{Float}
use borrow.Author.Tests.{eq-eqb, ne_eqb}
use Rattle.base.specs.Grid.{Place}
use Rattle.base.proofs.Tests.{→false}
use Rattle.rules.specs.Refusals.{refusal_number}
use Rattle.rules.specs.Edges.{point_edges}
use Rattle.rules.specs.Steps.{all_triangles}
use Rattle.rules.specs.Outputs.{first_of, accepted, drawable, survey_of, point_floats, Drawing, draw}
use Rattle.rules.specs.Closing.{triangles_in}
use Rattle.rules.specs.Water.{sixfold, beyond_box, volume_checks, Reckoning, volume, AnyReference}
use Rattle.rules.specs.Resounding.{unreckoned}
use Rattle.rules.specs.declared.Drawn.{Drawn}
use Rattle.rules.specs.declared.Water.{Water}
use Rattle.rules.specs.declared.refusal.Refusal.{Refusal}
use Rattle.octree.proofs.Accepted.{drawable→}
use Rattle.amendments.proofs.Refusals.{some_number}
use Rattle.closing.proofs.Closing.{closes}
use Rattle.water.specs.Corners.{Summable}
use Rattle.drawing.specs.Draws.{Draws}
use Rattle.drawing.proofs.Drawn.{whole, drawn-is, drawn-fits}
use Rattle.drawing.proofs.Outcome.{drawn-closed}
use Rattle.volume.specs.Reckons.{sixfold_from, water_of, Reckons, ClosedAnywhere}
use Rattle.volume.proofs.Outcome.{with_volume, total, inside, reckoned, not_reckoned}
use Rattle.volume.proofs.References.{same_sum}
use Rattle.volume.proofs.Slices.{all_below, summable, slices_sum}

-- "The sum must come out equal for any two reference points"
pub any_reference : AnyReference
unfolding AnyReference
any_reference tc tk clearance ok p q _ _ =
    let s = survey_of tc tk clearance in
    same_sum (point_floats tc tk clearance) (length (point_edges s)) (all_triangles s) (all_below tc tk clearance (drawable→ tc tk clearance ok).0)
    (closes tc tk clearance ok).balance p q

-- what the call promises of its result and the slices
abbrev pub Promised : List ℕ → List ℕ → Float → List Float → List ℕ → Place → List Float → List ℕ → Water → Type 0
Promised tc tk clearance ps ts reference points triangles w =
    Reckons (volume tc tk clearance reference ps ts) w points triangles × ClosedAnywhere tc tk clearance w points triangles

-- ---- what was drawn

module _ (tc tk : List ℕ) (clearance : Float) (ps : List Float) (ts : List ℕ) (r : Drawn) (points : List Float) (triangles : List ℕ)
    (drew : Draws (draw tc tk clearance ps ts) r points triangles) (zero : r.number ≡ 0) where
  none : (draw tc tk clearance ps ts).result.number ≡ 0
  none = sym (ap (λ (r : Drawn). r.number) drew.result_is) ∙ zero

  can_draw : T (drawable tc tk clearance)
  can_draw = (drawn-fits tc tk clearance ps ts none).0

  ok : T (accepted tc tk clearance)
  ok = (drawable→ tc tk clearance can_draw).0

  as_whole : record { result = r; points = points; triangles = triangles } ≡ whole tc tk clearance ps ts
  as_whole = (λ i. record { result = drew.result_is i; points = drew.points_are i; triangles = drew.triangles_are i }) ∙ drawn-is tc tk clearance ps ts none

  pub can_sum : Summable points triangles r.triangles
  can_sum =
      subst (λ (d : Drawing). Summable d.points d.triangles d.result.triangles) (sym as_whole) (unfold whole in summable tc tk clearance ok ps ts)

  module _ (reference : Place) (v : ℤ) (is : v ≡ sixfold reference points (triangles_in r.triangles triangles)) where
    total_is : v ≡ total tc tk clearance reference ps ts
    total_is =
        is ∙ subst (λ (d : Drawing). sixfold reference d.points (triangles_in d.result.triangles d.triangles) ≡ total tc tk clearance reference ps ts)
        (sym as_whole) (unfold whole in slices_sum tc tk clearance ok ps ts reference)

    from-any : (q : Place) → T (not (beyond_box reference)) → T (not (beyond_box q))
        → v ≡ sixfold_from q tc tk clearance
    from-any q own box = total_is ∙ unfold AnyReference in any_reference tc tk clearance can_draw reference q own box

    pub drawn_promised : 0 ≡ first_of (volume_checks tc tk clearance reference) → Promised tc tk clearance ps ts reference points triangles (with_volume r v)
    drawn_promised pass =
        let reckons = reckoned tc tk clearance reference ps ts pass r points triangles v true drew (eq-eqb r.number 0 zero) total_is in
        let own = →false (inside tc tk clearance reference ps ts pass) in
        (reckons, (drawn-closed tc tk clearance ps ts r points triangles drew, (λ z q box. from-any q own box)))

-- ---- what was not

-- the slices are too short
pub short_promised : (tc tk : List ℕ) (clearance : Float) (ps : List Float) (ts : List ℕ) (reference : Place)
    → 0 ≡ first_of (volume_checks tc tk clearance reference) → (r : Drawn) (points : List Float) (triangles : List ℕ)
    → Draws (draw tc tk clearance ps ts) r points triangles → (r.number ≡ 0 → ⊥)
    → Promised tc tk clearance ps ts reference points triangles (with_volume r (pos 0))
short_promised tc tk clearance ps ts reference pass r points triangles drew some =
    let reckons = reckoned tc tk clearance reference ps ts pass r points triangles (pos 0) false drew (ne_eqb r.number 0 some) refl in
    (reckons, ((λ z. absurd (some z)), (λ z. absurd (some z))))

-- a refusal is passed on, and nothing is reckoned
pub passed_on : (tc tk : List ℕ) (clearance : Float) (ps : List Float) (ts : List ℕ) (k : Reckoning) (w : Result Water Refusal) (e : Refusal)
    → IsErrAnd w (λ d. d ≡ e) → k ≡ unreckoned (refusal_number e) ps ts → Reckons k (water_of w) ps ts × ClosedAnywhere tc tk clearance (water_of w) ps ts
passed_on tc tk clearance ps ts k (Ok w) e on is = absurd on
passed_on tc tk clearance ps ts k (Err d) e on is =
    let given = is ∙ ap (λ (r : Refusal). unreckoned (refusal_number r) ps ts) (sym on) in (
      record {
        result_is = sym (ap (λ (k : Reckoning). k.result) given);
        points_are = sym (ap (λ (k : Reckoning). k.points) given);
        triangles_are = sym (ap (λ (k : Reckoning). k.triangles) given);
      },
      ((λ z. absurd (some_number d z)), (λ z. absurd (some_number d z))),
    )

-- so it is where a check before the slices' applies
pub refused_promised : (tc tk : List ℕ) (clearance : Float) (ps : List Float) (ts : List ℕ) (reference : Place) (w : Result Water Refusal) (e : Refusal)
    → IsErrAnd w (λ d. d ≡ e) → refusal_number e ≡ first_of (volume_checks tc tk clearance reference)
    → Promised tc tk clearance ps ts reference ps ts (water_of w)
refused_promised tc tk clearance ps ts reference w e on is =
    passed_on tc tk clearance ps ts (volume tc tk clearance reference ps ts) w e on
    (not_reckoned tc tk clearance reference ps ts (refusal_number e) is (some_number e))
