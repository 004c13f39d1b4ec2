-- The table of links as one slot is looked at: by the tests of the code; and that the links of the slot are in then.
use Prim.Native.Nat.{ℕ, ◌+◌, ◌*◌, ◌≤◌, ◌<◌}
use mathlib.Core.Path.{◌≡◌, refl, sym, ap, ◌∙◌, subst}
use mathlib.Core.Bool.{Bool, true, false, ◌&&◌, cond}
use mathlib.Core.List.{List}
use native.Mathlib.Omega.{arith}
use lib.Dec.{leb, eqb}
use lib.Ieee.{Float}
use lib.ListN.{get_or, set}
use borrow.Author.Tests.{le-leb, eq-eqb, leb-true, leb-false, eqb-true, eqb-false}
use Rattle.rules.specs.Survey.{record_count}
use Rattle.edges.proofs.Readings.{no_refusal}
use Rattle.edges.proofs.Surveyed.{corners-few}
use Rattle.ways.specs.Linked.{is_step, linked_at}
use Rattle.ways.proofs.Linking.{LinkedTo, link_none, link_next}
use Rattle.ways.proofs.Joined.{lowest_from, far_from, Step, Filled, slot_end, step_functional, step_injective}

-- the links of the slots before x are in
abbrev pub Linked : List ℕ → List ℕ → List ℕ → List ℕ → ℕ → Type 0
Linked tk wets slots = LinkedTo (record_count tk) (Step tk wets slots)

module _ (wets slots : List ℕ) (n k : ℕ) (t : List ℕ) where
  abbrev level : ℕ
  level = lowest_from slots n k

  abbrev far : ℕ
  far = far_from slots n k

  not_step : is_step wets slots n k ≡ false → t ≡ linked_at wets slots n k t
  not_step e = sym (ap (λ (b : Bool). cond b (set (set t (6 * k + (3 + n)) far) (6 * far + n) k) t) e)

  pub both_wet : (e : ℕ) → e ≡ far → level ≤ 10 → get_or wets k 0 ≡ 1 → get_or wets e 0 ≡ 1 →
      (f : ℕ) → f ≡ far → set (set t (6 * k + (3 + n)) f) (6 * e + n) k ≡ linked_at wets slots n k t
  both_wet e q h a b f r =
      (λ d. set (set t (6 * k + (3 + n)) (r d)) (6 * q d + n) k)
      ∙ sym (ap (λ (b : Bool). cond b (set (set t (6 * k + (3 + n)) far) (6 * far + n) k) t)
      (λ d. le-leb level 10 h d && (eq-eqb (get_or wets k 0) 1 a d && eq-eqb (get_or wets far 0) 1 (ap (λ (j : ℕ). get_or wets j 0) (sym q) ∙ b) d)))

module _ {tc tk : List ℕ} {clearance : Float} {slots wets : List ℕ} (filled : Filled tc tk clearance slots wets) where
  pub few-corners : record_count tk ≤ 4872
  few-corners = let c = corners-few tc tk (no_refusal tc tk clearance filled.ok) in omega arith

  pub far-inside : (n k : ℕ) → n < 3 → k < record_count tk → lowest_from slots n k ≤ 10 → far_from slots n k < record_count tk
  far-inside n k g h o = (slot_end filled n k g h o).inside

  -- the links of one slot more
  module _ (n k x : ℕ) (g : n < 3) (h : k < record_count tk) (e : x ≡ 3 * k + n) (t : List ℕ) (known : Linked tk wets slots t x) where
    none_linked : is_step wets slots n k ≡ false → ((m : ℕ) → Step tk wets slots n k m → ⊥) → Linked tk wets slots (linked_at wets slots n k t) (x + 1)
    none_linked u none =
        subst (λ (y : List ℕ). Linked tk wets slots y (x + 1)) (not_step wets slots n k t u)
        (link_none (record_count tk) (Step tk wets slots) few-corners t n k x g e none known)

    one_linked : lowest_from slots n k ≤ 10 → get_or wets k 0 ≡ 1 → get_or wets (far_from slots n k) 0 ≡ 1 →
        Linked tk wets slots (linked_at wets slots n k t) (x + 1)
    one_linked level lower_wet upper-wet =
        let far = far_from slots n k in
        let upper = far-inside n k g h level in
        subst (λ (y : List ℕ). Linked tk wets slots y (x + 1)) (both_wet wets slots n k t far refl level lower_wet upper-wet far refl)
        (link_next (record_count tk) (Step tk wets slots) few-corners (step_functional filled) (step_injective filled) t n k far x g e h upper
        (record { axis = g; lower = h; upper = upper; level = level; far = refl; lower_wet = lower_wet; upper-wet = upper-wet }) known)

    pub slot_linked : (new : List ℕ) → new ≡ linked_at wets slots n k t → Linked tk wets slots new (x + 1)
    slot_linked new is =
        subst (λ (y : List ℕ). Linked tk wets slots y (x + 1)) (sym is)
        (go (leb (lowest_from slots n k) 10) refl (eqb (get_or wets k 0) 1) refl (eqb (get_or wets (far_from slots n k) 0) 1) refl)
      where
        go : (a : Bool) → leb (lowest_from slots n k) 10 ≡ a → (b : Bool) → eqb (get_or wets k 0) 1 ≡ b →
            (c : Bool) → eqb (get_or wets (far_from slots n k) 0) 1 ≡ c → Linked tk wets slots (linked_at wets slots n k t) (x + 1)
        go false u b v c w =
            none_linked (λ d. u d && (v d && w d)) (λ m s. let z = leb-false (lowest_from slots n k) 10 u in let y = s.level in omega arith)
        go true u false v c w = none_linked (λ d. u d && (v d && w d)) (λ m s. eqb-false (get_or wets k 0) 1 v s.lower_wet)
        go true u true v false w =
            none_linked (λ d. u d && (v d && w d))
            (λ m s. eqb-false (get_or wets (far_from slots n k) 0) 1 w (ap (λ (j : ℕ). get_or wets j 0) s.far ∙ s.upper-wet))
        go true u true v true w =
            one_linked (leb-true (lowest_from slots n k) 10 u) (eqb-true (get_or wets k 0) 1 v) (eqb-true (get_or wets (far_from slots n k) 0) 1 w)
