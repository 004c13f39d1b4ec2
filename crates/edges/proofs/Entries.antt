-- What a store in the table of slots changes, and what it leaves.
use Prim.Native.Nat.{ℕ, ◌+◌, ◌*◌, ◌/◌, ◌%◌, ◌≤◌, ◌<◌, min, max}
use mathlib.Core.Path.{◌≡◌, ap, ◌∙◌}
use mathlib.Core.Bool.{cond}
use mathlib.Core.List.{List}
use native.Mathlib.Omega.{arith}
use lib.Dec.{ltb}
use lib.ListN.{length, get_or, set, length-set}
use lib.Seq.{get_or-set_same, get_or-set_other}
use Rattle.edges.specs.Tables.{lowest_at, highest_at, far_at, number_at}
use Rattle.edges.specs.Noting.{with_edge}

-- the table with n entered as the number of slot i
unfoldable pub with_number : List ℕ → ℕ → ℕ → List ℕ
with_number slots i n = set slots (3 * i + 2) n

-- the lowest level of the packed pair, and the highest
low_of : (a b : ℕ) → a < 16 → (a + 16 * b) % 16 ≡ a
low_of a b h = omega arith

high_of : (a b : ℕ) → a < 16 → b < 16 → (a + 16 * b) / 16 % 16 ≡ b
high_of a b h g = omega arith

highest_small : (t : List ℕ) (i : ℕ) → highest_at t i < 16
unfolding highest_at
highest_small t i = omega arith

-- a number entered at slot i
module _ (t : List ℕ) (size : length t ≡ 43848) (i n : ℕ) where
  pub number_size : length (with_number t i n) ≡ 43848
  unfolding with_number
  number_size = length-set t (3 * i + 2) n ∙ size

  pub number-here : i < 14616 → number_at (with_number t i n) i ≡ n
  unfolding with_number number_at
  number-here h = get_or-set_same t (3 * i + 2) n 0 (omega arith)

  pub number-other : (j : ℕ) → (j ≡ i → ⊥) → number_at (with_number t i n) j ≡ number_at t j
  unfolding with_number number_at
  number-other j h = get_or-set_other t (3 * i + 2) (3 * j + 2) n 0 (λ e. h (omega arith))

  pub number-low : (j : ℕ) → lowest_at (with_number t i n) j ≡ lowest_at t j
  unfolding with_number lowest_at
  number-low j = ap (λ v. v % 16) (get_or-set_other t (3 * i + 2) (3 * j) n 0 (λ e. omega arith))

  pub number-high : (j : ℕ) → highest_at (with_number t i n) j ≡ highest_at t j
  unfolding with_number highest_at
  number-high j = ap (λ v. v / 16 % 16) (get_or-set_other t (3 * i + 2) (3 * j) n 0 (λ e. omega arith))

  pub number-far : (j : ℕ) → far_at (with_number t i n) j ≡ far_at t j
  unfolding with_number far_at
  number-far j = get_or-set_other t (3 * i + 2) (3 * j + 1) n 0 (λ e. omega arith)

-- an edge of level l to corner record m noted at slot i
module _ (t : List ℕ) (size : length t ≡ 43848) (i l m : ℕ) where
  abbrev end : ℕ
  end = cond (ltb l (lowest_at t i)) m (far_at t i)

  abbrev pair : ℕ
  pair = min l (lowest_at t i) + 16 * max l (highest_at t i)

  abbrev ended : List ℕ
  ended = set t (3 * i + 1) end

  pub edge-size : length (with_edge t i l m) ≡ 43848
  unfolding with_edge
  edge-size = length-set ended (3 * i) pair ∙ length-set t (3 * i + 1) end ∙ size

  module _ (h : i < 14616) (small : l ≤ 10) where
    pair-here : get_or (with_edge t i l m) (3 * i) 0 ≡ pair
    unfolding with_edge
    pair-here = get_or-set_same ended (3 * i) pair 0 (omega (arith, length-set t (3 * i + 1) end))

    pub edge-low : lowest_at (with_edge t i l m) i ≡ min l (lowest_at t i)
    unfolding lowest_at
    edge-low = ap (λ v. v % 16) pair-here ∙ low_of (min l (lowest_at t i)) (max l (highest_at t i)) (omega arith)

    pub edge-high : highest_at (with_edge t i l m) i ≡ max l (highest_at t i)
    unfolding highest_at
    edge-high =
        ap (λ v. v / 16 % 16) pair-here ∙
        high_of (min l (lowest_at t i)) (max l (highest_at t i)) (omega arith) (omega (arith, highest_small t i))

    pub edge-far : far_at (with_edge t i l m) i ≡ cond (ltb l (lowest_at t i)) m (far_at t i)
    unfolding with_edge far_at
    edge-far = get_or-set_other ended (3 * i) (3 * i + 1) pair 0 (λ e. omega arith) ∙ get_or-set_same t (3 * i + 1) end 0 (omega arith)

  module _ (j : ℕ) (h : j ≡ i → ⊥) where
    pair-other : get_or (with_edge t i l m) (3 * j) 0 ≡ get_or t (3 * j) 0
    unfolding with_edge
    pair-other =
        get_or-set_other ended (3 * i) (3 * j) pair 0 (λ e. h (omega arith)) ∙ get_or-set_other t (3 * i + 1) (3 * j) end 0 (λ e. omega arith)

    pub edge-low-other : lowest_at (with_edge t i l m) j ≡ lowest_at t j
    unfolding lowest_at
    edge-low-other = ap (λ v. v % 16) pair-other

    pub edge-high-other : highest_at (with_edge t i l m) j ≡ highest_at t j
    unfolding highest_at
    edge-high-other = ap (λ v. v / 16 % 16) pair-other

    pub edge-far-other : far_at (with_edge t i l m) j ≡ far_at t j
    unfolding with_edge far_at
    edge-far-other =
        get_or-set_other ended (3 * i) (3 * j + 1) pair 0 (λ e. omega arith) ∙ get_or-set_other t (3 * i + 1) (3 * j + 1) end 0 (λ e. h (omega arith))
