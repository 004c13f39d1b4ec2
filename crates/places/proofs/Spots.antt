-- The place of an odd edge, from what is known of its moving coordinate: one end is dry and the other is wet, and t and the place are as request 2 of
-- document 02 says (`PlaceByEnds`).
-- Assumes nothing.
use Prim.Native.Nat.{ℕ, ◌+◌, ◌^◌, ◌≤◌}
use mathlib.Core.Path.{◌≡◌, refl, sym, ap, ◌∙◌}
use mathlib.Core.Logic.{◌⊎◌, inl, inr}
use mathlib.Core.Bool.{Bool, true, false, not, beq, true≢false}
use mathlib.Core.List.{List}
use lib.Dec.{T}
use lib.Pow.{pow_pos}
use lib.Ieee.{Float, inf, fin, binary32, nan}
use Rattle.base.specs.Lists.{all}
use Rattle.base.specs.Grid.{Place, Axis, X, Y, Z, along, put}
use Rattle.base.proofs.Tests.{→and}
use Rattle.base.proofs.Places.{along-put, put_along}
use Rattle.rounding.proofs.Order.{Between}
use Rattle.rounding.proofs.Rounds.{Bare, whole_bare}
use Rattle.rounding.proofs.Parts.{at_most-between, at_most-zero, Moved}
use Rattle.rules.specs.Survey.{place_of, corner_at, wet, wet_at}
use Rattle.rules.specs.Edges.{CellEdge, upper_end, odd, float, fraction, moving, Spot, spot, spot_on, coordinate, OnEdge}
use Rattle.rules.specs.Outputs.{in_range, coordinates}
use Rattle.rules.specs.AwashPlaces.{dry_corner, wet_corner, corner_spot, unsigned, PlaceByEnds}
use Rattle.rules.specs.declared.Corner.{Corner}
use Rattle.octree.proofs.Corners.{corner-there}
use Rattle.places.proofs.Reckoned.{way}
use Rattle.places.proofs.Bound.{Sounding, Ends, fraction-part, fraction-zero, way-zero, up_moved, down_moved}

-- ---- spots

coordinate-spot : (a : Axis) (v : Float) (p : Place) → coordinate a (spot a v p) ≡ v
unfolding spot
coordinate-spot X v p = refl
coordinate-spot Y v p = refl
coordinate-spot Z v p = refl

-- the spot with the whole coordinate n on an axis is the corner at the place with n there
corner-spot : (a : Axis) (n : ℕ) (p : Place) (c : Corner) → put a n p ≡ place_of c → spot a (float n) p ≡ corner_spot c
unfolding spot corner_spot
corner-spot X n p c e = λ i. record { x = float (e i).x; y = float (e i).y; z = float (e i).z }
corner-spot Y n p c e = λ i. record { x = float (e i).x; y = float (e i).y; z = float (e i).z }
corner-spot Z n p c e = λ i. record { x = float (e i).x; y = float (e i).y; z = float (e i).z }

-- ---- signs

bare_unsigned : (v : Float) → Bare v → T (unsigned v)
bare_unsigned (inf true) b = absurd (true≢false b)
bare_unsigned (inf false) b = tt
bare_unsigned (fin true m e) b = absurd (true≢false b)
bare_unsigned (fin false m e) b = tt
bare_unsigned nan b = elim b [ ]

whole-unsigned : (n : ℕ) → T (unsigned (float n))
unfolding float
whole-unsigned n = bare_unsigned (float n) (whole_bare binary32 n)

all-unsigned : (s : Spot) → T (unsigned s.x) → T (unsigned s.y) → T (unsigned s.z) → T (all unsigned (coordinates s))
all-unsigned s p q r = →and (unsigned s.x) _ p (→and (unsigned s.y) _ q (→and (unsigned s.z) true r tt))

spot-unsigned : (a : Axis) (v : Float) (p : Place) → T (unsigned v) → T (all unsigned (coordinates (spot a v p)))
unfolding spot
spot-unsigned X v p h = all-unsigned (spot X v p) h (whole-unsigned p.y) (whole-unsigned p.z)
spot-unsigned Y v p h = all-unsigned (spot Y v p) (whole-unsigned p.x) h (whole-unsigned p.z)
spot-unsigned Z v p h = all-unsigned (spot Z v p) (whole-unsigned p.x) (whole-unsigned p.y) h

-- ---- the spot on an edge

-- one end is dry and the other is wet
one-wet : (b c : Bool) → T (not (beq b c)) → ((b ≡ false) × (c ≡ true)) ⊎ ((b ≡ true) × (c ≡ false))
one-wet true true t = absurd t
one-wet true false t = inr (refl, refl)
one-wet false true t = inl (refl, refl)
one-wet false false t = absurd t

module _ (corners : List Corner) (clearance : Float) (e : CellEdge) where
  abbrev lower : Corner
  lower = corner_at corners e.low

  abbrev upper : Corner
  upper = corner_at corners (upper_end e)

  abbrev low : ℕ
  low = along e.axis e.low

  abbrev high : ℕ
  high = along e.axis e.low + 2 ^ e.level

  -- the moving coordinate, by the corners at the dry and the wet end
  abbrev moved : Corner → Corner → Float
  moved dry far = moving clearance e.axis (2 ^ e.level) dry far

  between_on_edge : (v : Float) → Between binary32 low high v → OnEdge e (spot e.axis v e.low)
  unfolding OnEdge float
  between_on_edge v b = rw (coordinate-spot e.axis v e.low, along-put e.axis high e.low) (b.0, b.1, refl)

  by-ends : high ≤ 2 ^ 24 → (dry far : Corner) → Ends clearance dry far → (n : ℕ) → put e.axis n e.low ≡ place_of dry
      → Moved binary32 low high n (way clearance (2 ^ e.level) dry far) (moved dry far)
      → PlaceByEnds clearance e dry far (spot e.axis (moved dry far) e.low)
  unfolding float
  by-ends fit dry far o n at m =
      let t = fraction clearance dry far in
      let part = at_most-between binary32 1 t (pow_pos 24) (fraction-part clearance dry far o) in
      record {
        is_dry = o.is_dry;
        is_wet = o.is_wet;
        formula = refl;
        at_least = part.0;
        at_most = part.1;
        awash = λ equal. (
          at_most-zero binary32 t (fraction-zero clearance dry far o equal),
          ap (λ v. spot e.axis v e.low) (m.still (way-zero clearance e.axis low (2 ^ e.level) dry far fit o equal))
              ∙ corner-spot e.axis n e.low dry at,
        );
        stays = between_on_edge (moved dry far) m.between;
        no_minus = spot-unsigned e.axis (moved dry far) e.low (bare_unsigned (moved dry far) m.bare);
      }

  pub placed : high ≤ 2 ^ 24 → T (in_range clearance) → Sounding lower.sounding → Sounding upper.sounding
      → T (odd (wet_at corners clearance) e.axis e.low e.level)
      → PlaceByEnds clearance e (dry_corner corners clearance e) (wet_corner corners clearance e) (spot_on corners clearance e)
  unfolding odd wet_at dry_corner wet_corner spot_on
  placed fit c l u t = go (one-wet (wet clearance lower) (wet clearance upper) t)
    where
      at_lower : low ≡ along e.axis (place_of lower)
      at_lower = ap (along e.axis) (sym (corner-there corners e.low))

      at_upper : high ≡ along e.axis (place_of upper)
      at_upper = sym (along-put e.axis _ e.low) ∙ ap (along e.axis) (sym (corner-there corners (upper_end e)))

      go : ((wet clearance lower ≡ false) × (wet clearance upper ≡ true)) ⊎ ((wet clearance lower ≡ true) × (wet clearance upper ≡ false))
          → PlaceByEnds clearance e (dry_corner corners clearance e) (wet_corner corners clearance e) (spot_on corners clearance e)
      go (inl (p, q)) =
          let o : Ends clearance lower upper = record { clear = c; dry_end = l; wet_end = u; is_dry = p; is_wet = q } in
          rw q
          (by-ends fit lower upper o low (put_along e.axis e.low ∙ sym (corner-there corners e.low))
          (up_moved clearance e.axis low (2 ^ e.level) lower upper fit o (pow_pos e.level) at_lower at_upper))
      go (inr (p, q)) =
          let o : Ends clearance upper lower = record { clear = c; dry_end = u; wet_end = l; is_dry = q; is_wet = p } in
          rw q
          (by-ends fit upper lower o high (sym (corner-there corners (upper_end e)))
          (down_moved clearance e.axis low (2 ^ e.level) upper lower fit o at_upper at_lower))
