-- The eight children of a cell by their numbers: the one beside a child on an axis, in the same cell and in the cell across.
use Prim.Native.Nat.{ℕ, suc, ◌+◌, ◌-◌, ◌*◌, ◌/◌, ◌%◌, ◌^◌, ◌<◌}
use mathlib.Core.Path.{◌≡◌, refl, sym, ap, ◌∙◌, subst}
use mathlib.Core.Bool.{Bool, true, false, not, ◌&&◌, cond}
use native.Mathlib.Omega.{arith}
use lib.Bits.{bit_xor}
use lib.Dec.{T, eqb, eqb→eq, ltb, ltb→lt}
use lib.ListN.{get_or}
use borrow.Author.Tests.{eq-eqb, ne_eqb, eqb-true}
use Rattle.base.specs.Lists.{all, count, bit}
use Rattle.base.specs.Grid.{Place, origin, Axis, X, Y, Z, axis_number, along, move, octants}
use Rattle.base.proofs.Tests.{and→}
use Rattle.base.proofs.Lists.{In, in_get, all→in, length-count, get_count}
use Rattle.base.proofs.Places.{place_equal, every_axis}
use Rattle.base.proofs.Octants.{octant_at}
use Rattle.octree.proofs.Halves.{move-move}
use Rattle.across.specs.Filling.{digit, opposite_of}

-- ---- numbers

lower_turned : (k j : ℕ) → digit k j ≡ 0 → opposite_of k j ≡ j + 2 ^ k
unfolding opposite_of
lower_turned k j e = ap (λ b. cond b (j + 2 ^ k) (j - 2 ^ k)) (eq-eqb (digit k j) 0 e)

upper_turned : (k j : ℕ) → digit k j ≡ 1 → opposite_of k j ≡ j - 2 ^ k
unfolding opposite_of
upper_turned k j e = ap (λ b. cond b (j + 2 ^ k) (j - 2 ^ k)) (ne_eqb (digit k j) 0 (λ z. omega arith))

-- the number of the child beside a lower one
lower_fits : (a : Axis) (j : ℕ) → j < 8 → digit (axis_number a) j ≡ 0 → j + 2 ^ axis_number a < 8
lower_fits X j h e = omega arith
lower_fits Y j h e = omega arith
lower_fits Z j h e = omega arith

-- the number of the child beside an upper one
upper_fits : (a : Axis) (j : ℕ) → j < 8 → digit (axis_number a) j ≡ 1 →
    (j - 2 ^ axis_number a + 2 ^ axis_number a ≡ j) × (digit (axis_number a) (j - 2 ^ axis_number a) ≡ 0)
upper_fits X j h e = (omega arith, omega arith)
upper_fits Y j h e = (omega arith, omega arith)
upper_fits Z j h e = (omega arith, omega arith)

-- the number of the lower one of two children side by side on an axis
record Lower (a : Axis) (j : ℕ) : Type 0 where
  pub fits : j + 2 ^ axis_number a < 8
  pub zero_bit : digit (axis_number a) j ≡ 0

lower_one : (a : Axis) (j : ℕ) → j < 8 → digit (axis_number a) j ≡ 0 → Lower a j
lower_one a j h e = record { fits = lower_fits a j h e; zero_bit = e }

upper-one : (a : Axis) (j : ℕ) → j < 8 → digit (axis_number a) j ≡ 1 →
    Lower a (opposite_of (axis_number a) j) × (opposite_of (axis_number a) j + 2 ^ axis_number a ≡ j)
upper-one a j h e =
    let t = upper_turned (axis_number a) j e in
    let u = upper_fits a j h e in
    let sum : opposite_of (axis_number a) j + 2 ^ axis_number a ≡ j = ap (λ m. m + 2 ^ axis_number a) t ∙ u.0 in
    (record { fits = omega arith; zero_bit = ap (digit (axis_number a)) t ∙ u.1 }, sum)

in_count : (n j : ℕ) → j < n → In j (count 0 n)
in_count n j h =
    subst (λ m. In m (count 0 n)) (get_count n 0 j 0 h ∙ (let e : 0 + j ≡ j = omega arith in e))
    (in_get (count 0 n) j 0 (omega (arith, length-count n 0)))

-- the bit is turned by an exclusive or
abbrev turns : ℕ → ℕ → Bool
turns k j = eqb (bit_xor j (1 * 2 ^ k % 18446744073709551616)) (opposite_of k j) && ltb (opposite_of k j) 8

all-turn : T (all (λ k. all (turns k) (count 0 8)) (count 0 3))
unfolding opposite_of
all-turn = tt

pub xor_turns : (k j : ℕ) → k < 3 → j < 8 →
    (bit_xor j (1 * 2 ^ k % 18446744073709551616) ≡ opposite_of k j) × (bit_xor j (1 * 2 ^ k % 18446744073709551616) < 8)
xor_turns k j h g =
    let x = bit_xor j (1 * 2 ^ k % 18446744073709551616) in
    let r = all→in (turns k) (count 0 8) (all→in (λ k. all (turns k) (count 0 8)) (count 0 3) all-turn k (in_count 3 k h)) j (in_count 8 j g) in
    let u = and→ (eqb x (opposite_of k j)) (ltb (opposite_of k j) 8) r in
    let e = eqb→eq x (opposite_of k j) u.0 in
    (e, subst (λ m. m < 8) (sym e) (ltb→lt (opposite_of k j) 8 u.1))

pub opposite_less : (a : Axis) (j : ℕ) → j < 8 → opposite_of (axis_number a) j < 8
unfolding opposite_of
opposite_less a j h = go (eqb (digit (axis_number a) j) 0) refl
  where
    go : (b : Bool) → eqb (digit (axis_number a) j) 0 ≡ b → cond b (j + 2 ^ axis_number a) (j - 2 ^ axis_number a) < 8
    go true e = lower_fits a j h (eqb-true (digit (axis_number a) j) 0 e)
    go false e = omega arith

-- ---- places

abbrev by_digits : ℕ → Place → ℕ → Place
by_digits s p j = record { x = p.x + s * (j % 2); y = p.y + s * (j / 2 % 2); z = p.z + s * (j / 4 % 2) }

equal : (q r : Place) → q.x ≡ r.x → q.y ≡ r.y → q.z ≡ r.z → q ≡ r
equal q r x y z = place_equal q r (every_axis (λ b. along b q ≡ along b r) X x y z)

-- the coordinate of a child on an axis
pub octant-along : (a : Axis) (s : ℕ) (p : Place) (j : ℕ) → j < 8 → along a (get_or (octants s p) j origin) ≡ along a p + s * digit (axis_number a) j
octant-along X s p j h = ap (along X) (octant_at s p j h origin) ∙ ap (λ v. p.x + s * v) (let e : j % 2 ≡ j / 1 % 2 = omega arith in e)
octant-along Y s p j h = ap (along Y) (octant_at s p j h origin)
octant-along Z s p j h = ap (along Z) (octant_at s p j h origin)

-- the child beside the lower one
beside : (a : Axis) (s : ℕ) (p : Place) (j : ℕ) → digit (axis_number a) j ≡ 0 → by_digits s p (j + 2 ^ axis_number a) ≡ move a s (by_digits s p j)
beside a s p j e = on a e
  where
    grown : (u m n : ℕ) → n ≡ 0 → m ≡ 1 → u + s * m ≡ u + s * n + s
    grown u m n f g = rw (f, g) (omega arith)

    kept : (u m n : ℕ) → m ≡ n → u + s * m ≡ u + s * n
    kept u m n f = ap (λ v. u + s * v) f

    halved : (m : ℕ) → m / 4 % 2 ≡ m / 2 / 2 % 2
    halved m = omega arith

    half_odd : (m : ℕ) → (m + m + 1) / 2 ≡ m
    half_odd m = omega arith

    -- an even number and the next one have the same half
    half_same : (m : ℕ) → m % 2 ≡ 0 → (m + 1) / 2 ≡ m / 2
    half_same m f = let d : m ≡ m / 2 + m / 2 = omega arith in ap (λ n. (n + 1) / 2) d ∙ half_odd (m / 2)

    on : (a : Axis) → digit (axis_number a) j ≡ 0 → by_digits s p (j + 2 ^ axis_number a) ≡ move a s (by_digits s p j)
    on X e =
        let same = half_same j (omega arith) in
        equal (by_digits s p (j + 1)) (move X s (by_digits s p j)) (grown p.x ((j + 1) % 2) (j % 2) (omega arith) (omega arith))
        (kept p.y ((j + 1) / 2 % 2) (j / 2 % 2) (ap (λ m. m % 2) same))
        (kept p.z ((j + 1) / 4 % 2) (j / 4 % 2) (halved (j + 1) ∙ ap (λ m. m / 2 % 2) same ∙ sym (halved j)))
    on Y e =
        let next_half : (j + 2) / 2 ≡ j / 2 + 1 = omega arith in
        equal (by_digits s p (j + 2)) (move Y s (by_digits s p j)) (kept p.x ((j + 2) % 2) (j % 2) (omega arith))
        (grown p.y ((j + 2) / 2 % 2) (j / 2 % 2) (omega arith) (omega arith))
        (kept p.z ((j + 2) / 4 % 2) (j / 4 % 2)
        (halved (j + 2) ∙ ap (λ m. m / 2 % 2) next_half ∙ ap (λ m. m % 2) (half_same (j / 2) e) ∙ sym (halved j)))
    on Z e =
        equal (by_digits s p (j + 4)) (move Z s (by_digits s p j)) (kept p.x ((j + 4) % 2) (j % 2) (omega arith))
        (kept p.y ((j + 4) / 2 % 2) (j / 2 % 2) (omega arith)) (grown p.z ((j + 4) / 4 % 2) (j / 4 % 2) (omega arith) (omega arith))

octant-up : (a : Axis) (s : ℕ) (p : Place) (j : ℕ) → Lower a j →
    get_or (octants s p) (j + 2 ^ axis_number a) origin ≡ move a s (get_or (octants s p) j origin)
octant-up a s p j q =
    octant_at s p (j + 2 ^ axis_number a) q.fits origin
    ∙ beside a s p j q.zero_bit
    ∙ ap (move a s) (sym (octant_at s p j (omega (arith, q.fits)) origin))

-- the children of a cell that is moved
octant_moved : (a : Axis) (s d : ℕ) (p : Place) (j : ℕ) → j < 8 → get_or (octants s (move a d p)) j origin ≡ move a d (get_or (octants s p) j origin)
octant_moved a s d p j h = octant_at s (move a d p) j h origin ∙ shifted a ∙ ap (move a d) (sym (octant_at s p j h origin))
  where
    swapped : (u v : ℕ) → u + d + v ≡ u + v + d
    swapped u v = omega arith

    shifted : (a : Axis) → by_digits s (move a d p) j ≡ move a d (by_digits s p j)
    shifted X = equal (by_digits s (move X d p) j) (move X d (by_digits s p j)) (swapped p.x (s * (j % 2))) refl refl
    shifted Y = equal (by_digits s (move Y d p) j) (move Y d (by_digits s p j)) refl (swapped p.y (s * (j / 2 % 2))) refl
    shifted Z = equal (by_digits s (move Z d p) j) (move Z d (by_digits s p j)) refl refl (swapped p.z (s * (j / 4 % 2)))

-- a lower child of the cell at q, which is beside the cell at p, is beside an upper child of that
octant_over : (a : Axis) (l : ℕ) (p q : Place) (j : ℕ) → q ≡ move a (2 ^ suc l) p → Lower a j →
    get_or (octants (2 ^ l) q) j origin ≡ move a (2 ^ l) (get_or (octants (2 ^ l) p) (j + 2 ^ axis_number a) origin)
octant_over a l p q j e r =
    ap (λ o. get_or (octants (2 ^ l) o) j origin) e
    ∙ octant_moved a (2 ^ l) (2 ^ suc l) p j (omega (arith, r.fits))
    ∙ sym (move-move a l (get_or (octants (2 ^ l) p) j origin))
    ∙ ap (move a (2 ^ l)) (sym (octant-up a (2 ^ l) p j r))

-- ---- either side

module _ (a : Axis) (l : ℕ) (j : ℕ) (h : j < 8) where
  -- two children of one cell
  pub siblings : (u : Bool) (p : Place) → digit (axis_number a) j ≡ bit (not u) →
      cond u (get_or (octants (2 ^ l) p) (opposite_of (axis_number a) j) origin) (get_or (octants (2 ^ l) p) j origin)
      ≡ move a (2 ^ l) (cond u (get_or (octants (2 ^ l) p) j origin) (get_or (octants (2 ^ l) p) (opposite_of (axis_number a) j) origin))
  siblings true p e =
      ap (λ m. get_or (octants (2 ^ l) p) m origin) (lower_turned (axis_number a) j e) ∙ octant-up a (2 ^ l) p j (lower_one a j h e)
  siblings false p e =
      let (r, sum) = upper-one a j h e in
      ap (λ m. get_or (octants (2 ^ l) p) m origin) (sym sum) ∙ octant-up a (2 ^ l) p (opposite_of (axis_number a) j) r

  -- children of two cells that are side by side
  pub cousins : (u : Bool) (p q : Place) → cond u q p ≡ move a (2 ^ suc l) (cond u p q) → digit (axis_number a) j ≡ bit u →
      cond u (get_or (octants (2 ^ l) q) (opposite_of (axis_number a) j) origin) (get_or (octants (2 ^ l) p) j origin)
      ≡ move a (2 ^ l) (cond u (get_or (octants (2 ^ l) p) j origin) (get_or (octants (2 ^ l) q) (opposite_of (axis_number a) j) origin))
  cousins true p q b e =
      let (r, sum) = upper-one a j h e in
      octant_over a l p q (opposite_of (axis_number a) j) b r ∙ ap (λ m. move a (2 ^ l) (get_or (octants (2 ^ l) p) m origin)) sum
  cousins false p q b e =
      octant_over a l q p j b (lower_one a j h e)
      ∙ ap (λ m. move a (2 ^ l) (get_or (octants (2 ^ l) q) m origin)) (sym (lower_turned (axis_number a) j e))
