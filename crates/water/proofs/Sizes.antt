-- How far from zero a determinant is, and each number on the way to it, where no coordinate is further from the reference than the box is long.
-- Assumes nothing.
use Rattle.std.proofs.Common.{◌≡◌, ◌*◌, ◌^◌, ◌≤◌, ℤ, ◌+ℤ◌, ◌-ℤ◌, ◌*ℤ◌, nat_abs, lit<, w64, SFits, to_z, of_z}
use Rattle.base.specs.Grid.{Axis, X, Y, Z, next}
use Rattle.rules.specs.Water.{term, determinant}
use Rattle.water.specs.Corners.{Near}
use Rattle.water.proofs.Signed.{size-add, size_minus, size_times, fits, back}

-- a coordinate is read back from its bits as it was
pub own : (z : ℤ) → nat_abs z ≤ 16384 → to_z w64 (of_z w64 z) ≡ z
own z h = back z 16384 h (lit< tt)

pub still : (z : ℤ) → nat_abs z ≤ 16384 → nat_abs (to_z w64 (of_z w64 z)) ≤ 16384
still z h = rw (own z h) h

-- a product of two, as the machine has it
module _ (y z : ℤ) (h : nat_abs y ≤ 16384) (k : nat_abs z ≤ 16384) where
  product_is : to_z w64 (of_z w64 y) *ℤ to_z w64 (of_z w64 z) ≡ y *ℤ z
  product_is = rw (own y h, own z k)

  pub product_fits : SFits w64 (to_z w64 (of_z w64 y) *ℤ to_z w64 (of_z w64 z))
  product_fits = rw product_is (fits (y *ℤ z) (2 ^ 28) (size_times y z 16384 16384 h k) (lit< tt))

  product_back : to_z w64 (of_z w64 (to_z w64 (of_z w64 y) *ℤ to_z w64 (of_z w64 z))) ≡ y *ℤ z
  product_back = rw product_is (back (y *ℤ z) (2 ^ 28) (size_times y z 16384 16384 h k) (lit< tt))

-- of coordinates b to e, and a before them
module _ (b c d e : ℤ) (hb : nat_abs b ≤ 16384) (hc : nat_abs c ≤ 16384) (hd : nat_abs d ≤ 16384) (he : nat_abs e ≤ 16384) where
  -- two products as the machine has them, and their difference
  abbrev minor : ℤ
  minor =
      to_z w64 (of_z w64 (to_z w64 (of_z w64 b) *ℤ to_z w64 (of_z w64 c))) -ℤ to_z w64 (of_z w64 (to_z w64 (of_z w64 d) *ℤ to_z w64 (of_z w64 e)))

  minor_size : nat_abs (b *ℤ c -ℤ d *ℤ e) ≤ 2 ^ 29
  minor_size = size_minus (b *ℤ c) (d *ℤ e) (2 ^ 28) (2 ^ 28) (size_times b c 16384 16384 hb hc) (size_times d e 16384 16384 hd he)

  minor_is : minor ≡ b *ℤ c -ℤ d *ℤ e
  minor_is = rw (product_back b c hb hc, product_back d e hd he)

  pub minor_fits : SFits w64 minor
  minor_fits = rw minor_is (fits (b *ℤ c -ℤ d *ℤ e) (2 ^ 29) minor_size (lit< tt))

  module _ (a : ℤ) (ha : nat_abs a ≤ 16384) where
    pub term-size : nat_abs (a *ℤ (b *ℤ c -ℤ d *ℤ e)) ≤ 2 ^ 43
    term-size = size_times a (b *ℤ c -ℤ d *ℤ e) 16384 (2 ^ 29) ha minor_size

    term_is : to_z w64 (of_z w64 a) *ℤ to_z w64 (of_z w64 minor) ≡ a *ℤ (b *ℤ c -ℤ d *ℤ e)
    term_is = rw (own a ha, minor_is, back (b *ℤ c -ℤ d *ℤ e) (2 ^ 29) minor_size (lit< tt))

    pub term_fits : SFits w64 (to_z w64 (of_z w64 a) *ℤ to_z w64 (of_z w64 minor))
    term_fits = rw term_is (fits (a *ℤ (b *ℤ c -ℤ d *ℤ e)) (2 ^ 43) term-size (lit< tt))

    pub term-back : to_z w64 (of_z w64 (to_z w64 (of_z w64 a) *ℤ to_z w64 (of_z w64 minor))) ≡ a *ℤ (b *ℤ c -ℤ d *ℤ e)
    term-back = rw term_is (back (a *ℤ (b *ℤ c -ℤ d *ℤ e)) (2 ^ 43) term-size (lit< tt))

    -- the term of coordinates that are read back from bits
    pub term_own : to_z w64 (of_z w64 a) *ℤ (to_z w64 (of_z w64 b) *ℤ to_z w64 (of_z w64 c) -ℤ to_z w64 (of_z w64 d) *ℤ to_z w64 (of_z w64 e))
        ≡ a *ℤ (b *ℤ c -ℤ d *ℤ e)
    term_own = rw (own a ha, own b hb, own c hc, own d hd, own e he)

module _ (a b c : Axis → ℤ) (ha : Near a) (hb : Near b) (hc : Near c) where
  pub term_at : (x : Axis) → nat_abs (term a b c x) ≤ 2 ^ 43
  term_at x =
      let y = next x in
      let z = next (next x) in
      term-size (b y) (c z) (b z) (c y) (hb y) (hc z) (hb z) (hc y) (a x) (ha x)

  pub two_size : nat_abs (term a b c X +ℤ term a b c Y) ≤ 2 ^ 44
  two_size = size-add (term a b c X) (term a b c Y) (2 ^ 43) (2 ^ 43) (term_at X) (term_at Y)

  pub determinant-size : nat_abs (determinant a b c) ≤ 6 * 2 ^ 42
  determinant-size = size-add (term a b c X +ℤ term a b c Y) (term a b c Z) (2 ^ 44) (2 ^ 43) two_size (term_at Z)
