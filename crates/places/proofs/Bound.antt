-- A point never leaves its edge: t lies from 0 to 1, length × t from 0 to the length, and the sum or the difference between the two ends. Where the dry
-- sounding equals the clearance t is a zero, and the point is the dry end. Here for one edge, given what an accepted survey says of its ends.
-- Assumes nothing.
use Prim.Native.Nat.{ℕ, ◌+◌, ◌*◌, ◌^◌, ◌≤◌, ◌<◌}
use mathlib.Core.Path.{◌≡◌, sym, ◌∙◌, subst}
use mathlib.Core.Bool.{true, false}
use native.Mathlib.Omega.{arith}
use lib.Dec.{T, lit≤}
use lib.IntN.{pos}
use lib.Ieee.{Float, inf, fin, binary32, eq, le, of_int, fits, nan}
use lib.Ieee.Scale.{finite}
use Rattle.base.specs.Grid.{Place, Axis, X, Y, Z, next, along}
use Rattle.base.proofs.Tests.{and→, true→}
use Rattle.base.proofs.Places.{along-put}
use Rattle.rounding.proofs.Order.{Between, Le, Lt, le→Le, lt→Lt, not_lt→Le, eq→Eq, le-lt}
use Rattle.rounding.proofs.Rounds.{AtMost, whole_is, between_wider}
use Rattle.rounding.proofs.Parts.{Within, part, part-zero, mul_at_most, Moved, add_moved, sub_moved}
use Rattle.rules.specs.Survey.{place_of, wet}
use Rattle.rules.specs.Edges.{edge, float, fraction, moving, Spot, spot, coordinate, OnEdge}
use Rattle.rules.specs.Outputs.{in_range}
use Rattle.rules.specs.declared.Corner.{Corner}
use Rattle.places.proofs.Reckoned.{way, moving-up, moving-down}

-- ---- t lies from 0 to 1

pub finite_in : (x : Float) → T (in_range x) → T (finite x)
unfolding in_range le
finite_in (inf true) h = absurd h
finite_in (inf false) h = absurd h
finite_in (fin s m e) h = tt
finite_in nan h = elim h [ ]

-- a sounding as an accepted survey has it
pub record Sounding (v : Float) : Type 0 where
  pub in_range_lem : T (in_range v)
  pub holds : T (fits binary32 v)

-- the ends of an odd edge in an accepted survey
pub record Ends (clearance : Float) (dry far : Corner) : Type 0 where
  pub clear : T (in_range clearance)
  pub dry_end : Sounding dry.sounding
  pub wet_end : Sounding far.sounding
  pub is_dry : wet clearance dry ≡ false
  pub is_wet : wet clearance far ≡ true

-- what wetness says of the sounding; no other proof of this crate looks into its definition
module _ (clearance : Float) (c : Corner) (p : T (finite clearance)) (q : T (finite c.sounding)) where
  dry_below : wet clearance c ≡ false → Le c.sounding clearance
  unfolding wet
  dry_below = not_lt→Le clearance c.sounding p q

  wet-above : wet clearance c ≡ true → Lt clearance c.sounding
  unfolding wet
  wet-above = lt→Lt clearance c.sounding p q

abbrev pub most : Float
most = fin false 1 (pos 20)

abbrev pub least : Float
least = fin true 1 (pos 20)

module _ (clearance : Float) (dry far : Corner) (o : Ends clearance dry far) where
  within : Within binary32 1048576 clearance dry.sounding far.sounding
  unfolding in_range
  within =
      let d = dry.sounding in
      let w = far.sounding in
      let fc = finite_in clearance o.clear in
      let fd = finite_in d o.dry_end.in_range_lem in
      let fw = finite_in w o.wet_end.in_range_lem in
      let top : Le w most = le→Le w most fw tt (true→ (le w most) (and→ (le least w) (le w most) o.wet_end.in_range_lem).1) in
      let bottom : Le least d = le→Le least d tt fd (true→ (le least d) (and→ (le least d) (le d most) o.dry_end.in_range_lem).0) in
      let dc = dry_below clearance dry fc fd o.is_dry in
      let cw = wet-above clearance far fc fw o.is_wet in
      record {
        c_finite = fc;
        d_finite = fd;
        w-finite = fw;
        d_fits = o.dry_end.holds;
        w_fits = o.wet_end.holds;
        d_c = dc;
        c_w = omega arith;
        d_w = le-lt d clearance w dc cw;
        top = omega arith;
        bottom = omega arith;
        room = lit≤ tt;
      }

  pub fraction-part : AtMost (fraction clearance dry far) 1 1
  unfolding fraction
  fraction-part = part binary32 1048576 clearance dry.sounding far.sounding within

  pub fraction-zero : T (eq dry.sounding clearance) → AtMost (fraction clearance dry far) 0 1
  unfolding fraction
  fraction-zero e =
      part-zero binary32 1048576 clearance dry.sounding far.sounding within
      (eq→Eq dry.sounding clearance within.d_finite within.c_finite e)

-- ---- the moving coordinate lies between the ends

module _ (clearance : Float) (a : Axis) (low length : ℕ) (dry far : Corner) (fit : low + length ≤ 2 ^ 24) (o : Ends clearance dry far) where
  -- length × t, where t is at most k
  way-part : (k m : ℕ) → length * k ≤ m → m ≤ length → AtMost (fraction clearance dry far) k 1 → AtMost (way clearance length dry far) m 1
  unfolding fraction
  way-part k m h g p =
      mul_at_most binary32 length k m (of_int binary32 (pos length)) (fraction clearance dry far) h (omega arith) (whole_is binary32 length (omega arith)) p

  pub way-zero : T (eq dry.sounding clearance) → AtMost (way clearance length dry far) 0 1
  way-zero e = way-part 0 0 (omega arith) (omega arith) (fraction-zero clearance dry far o e)

  way-whole : AtMost (way clearance length dry far) length 1
  way-whole = way-part 1 length (omega arith) (omega arith) (fraction-part clearance dry far o)

  -- from the dry end's coordinate up, or down
  pub up_moved : 0 < length → low ≡ along a (place_of dry) → low + length ≡ along a (place_of far)
      → Moved binary32 low (low + length) low (way clearance length dry far) (moving clearance a length dry far)
  up_moved h p q =
      subst (Moved binary32 low (low + length) low (way clearance length dry far))
      (moving-up clearance a length dry far low (low + length) p q (omega arith))
      (add_moved binary32 low length (way clearance length dry far) fit way-whole)

  pub down_moved : low + length ≡ along a (place_of dry) → low ≡ along a (place_of far)
      → Moved binary32 low (low + length) (low + length) (way clearance length dry far) (moving clearance a length dry far)
  down_moved p q =
      subst (Moved binary32 low (low + length) (low + length) (way clearance length dry far))
      (moving-down clearance a length dry far (low + length) low p q (omega arith))
      (sub_moved binary32 low length (way clearance length dry far) fit way-whole)

-- ---- an edge on a longer one

-- a spot has its own coordinate on the axis, and the place's on the two others
spot-across : (a : Axis) (v : Float) (p q : Place) → along (next a) p ≡ along (next a) q → along (next (next a)) p ≡ along (next (next a)) q
    → spot a v p ≡ spot a v q
unfolding spot
spot-across X v p q e f = λ i. record { x = v; y = float (e i); z = float (f i) }
spot-across Y v p q e f = λ i. record { x = float (f i); y = v; z = float (e i) }
spot-across Z v p q e f = λ i. record { x = float (e i); y = float (f i); z = v }

-- the edge of level l at q lies on that of level k at p
pub record Part (a : Axis) (p : Place) (k : ℕ) (q : Place) (l : ℕ) : Type 0 where
  pub from : along a p ≤ along a q
  pub to : along a q + 2 ^ l ≤ along a p + 2 ^ k
  pub first : along (next a) q ≡ along (next a) p
  pub second : along (next (next a)) q ≡ along (next (next a)) p

-- what is on a part of an edge is on the edge
pub on_whole : (a : Axis) (p : Place) (k : ℕ) (q : Place) (l : ℕ) → Part a p k q l → along a p + 2 ^ k ≤ 2 ^ 24 → (s : Spot)
    → OnEdge (edge a q l) s → OnEdge (edge a p k) s
unfolding OnEdge float
on_whole a p k q l part fit s (lower, upper, across) =
    let v = coordinate a s in
    let inner : Between binary32 (along a q) (along a q + 2 ^ l) v =
    (lower, subst (λ n. T (le v (float n))) (along-put a (along a q + 2 ^ l) q) upper) in
    let outer = between_wider binary32 (along a q) (along a q + 2 ^ l) (along a p) (along a p + 2 ^ k) v part.from (omega arith) part.to fit inner in (
      outer.0,
      subst (λ n. T (le v (float n))) (sym (along-put a (along a p + 2 ^ k) p)) outer.1,
      across ∙ spot-across a v q p part.first part.second,
    )
