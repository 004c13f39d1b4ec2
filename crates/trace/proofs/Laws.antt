-- Laws of the trace of a leaf: what a fresh table holds, one step more, steps in a row; what a step from a point says.
--     left_or_not             a step leaves v, and the table has its end; or none does
--     left_keeps, met-more    the stores of a step: its end, and a point that it meets
--     empty, fresh            a table without marks and ends, with 0 in front, holds no step; one of 65,535 throughout, with 0 in front
--     traced-more             what held some steps holds these and the steps recorded
--     recorded_append, length-recorded      steps recorded after others; the table stays as long as it was
--     met-few                 the points listed are no more than the limit
-- Assumes nothing.
use mathlib.Core.Path.{◌≡◌, refl, sym, ap, ◌∙◌, subst}
use mathlib.Core.Logic.{◌⊎◌, inl, inr}
use mathlib.Core.Bool.{Bool, true, false, ◌&&◌, ◌||◌, cond, false≢true}
use mathlib.Core.List.{List, [], ◌∷◌, ◌++◌, append_assoc, append-nil}
use Prim.Native.Nat.{ℕ, ◌+◌, ◌*◌, ◌≤◌, ◌<◌}
use native.Mathlib.Omega.{arith}
use native.Mathlib.Decide.{ℕ_discrete}
use lib.Dec.{eqb, ltb}
use lib.ListN.{length, get_or, set, take, length-set, replicate, length-replicate, get_or-replicate}
use lib.Seq.{get_or-set_same, get_or-set_other, get_or-take, length-take-le}
use borrow.Author.Tests.{eq-eqb, ne_eqb, lt-ltb}
use Rattle.base.specs.Lists.{first, bit, keep, count, sum}
use Rattle.base.proofs.Tests.{or_or, or_none}
use Rattle.base.proofs.Lists.{count_in}
use Rattle.base.proofs.Sums.{sum_one, sum_same, sum-add, sum-keep, sum-keep-le, count-once}
use Rattle.base.proofs.Counts.{in_often, length-count}
use Rattle.base.proofs.Below.{any_append}
use Rattle.rules.specs.Steps.{Step}
use Rattle.trace.specs.Trace.{Traced, next_at, mark_at, met_at, met_count, mark_of, meets, end_from, leave_at, meet_at, record_one, recorded}

or_true : (a : Bool) → a || true ≡ true
or_true true = refl
or_true false = refl

-- ---- steps from a point

-- the steps join points below the limit
abbrev pub Within : ℕ → List Step → Type 0
Within limit ss = (v : ℕ) → meets ss v ≡ true → v < limit

within-rest : (limit : ℕ) (t : Step) (ss : List Step) → Within limit (t ∷ ss) → Within limit ss
within-rest limit t ss w v e = w v (rw e (or_true (eqb v t.0 || eqb v t.1)))

within_end : (limit : ℕ) (t : Step) (ss : List Step) → Within limit (t ∷ ss) → t.1 < limit
within_end limit t ss w = w t.1 (rw (eq-eqb t.1 t.1 refl, or_true (eqb t.1 t.0)))

-- A step leaves v, and ends below the limit, whatever is given where none does; or none leaves v. Here `ending d` is the first step that leaves
-- v, or d.
abbrev pub LeavingBy : ℕ → (Step → Step) → ℕ → Type 0
LeavingBy limit ending v = (((d : Step) → (ending d).1 ≡ (ending (v, 65535)).1) × ((ending (v, 65535)).1 < limit)) ⊎ ((d : Step) → ending d ≡ d)

abbrev pub Leaving : ℕ → List Step → ℕ → Type 0
Leaving limit ss v = LeavingBy limit (λ d. first (λ t. eqb v t.0) d ss) v

pub left_or_not : (limit : ℕ) (ss : List Step) (v : ℕ) → Within limit ss → Leaving limit ss v
left_or_not limit [] v w = inr (λ d. refl)
left_or_not limit (t ∷ ss) v w = go (eqb v t.0) (left_or_not limit ss v (within-rest limit t ss w))
  where
    go : (b : Bool) → Leaving limit ss v → LeavingBy limit (λ d. cond b t (first (λ t. eqb v t.0) d ss)) v
    go true ih = inl ((λ d. refl), within_end limit t ss w)
    go false ih = ih

-- ---- the end of a step

first_more : {A : Type 0} (f : A → Bool) (xs : List A) (y d : A) → first f d (xs ++ y ∷ []) ≡ first f (cond (f y) y d) xs
first_more f [] y d = refl
first_more {A} f (x ∷ xs) y d = ap (λ (r : A). cond (f x) x r) (first_more f xs y d)

-- the end of the first step from v, with one step more
end_more : (ss : List Step) (a b v : ℕ) → end_from (ss ++ (a, b) ∷ []) v ≡ (first (λ t. eqb v t.0) (cond (eqb v a) (a, b) (v, 65535)) ss).1
end_more ss a b v = ap (λ (t : Step). t.1) (first_more (λ t. eqb v t.0) ss (a, b) (v, 65535))

module _ (limit : ℕ) (ss : List Step) (t : List ℕ) (a b : ℕ) (h : Traced limit ss t) (la : a < limit) where
  next-same : Leaving limit ss a → next_at (leave_at t a b) a ≡ end_from (ss ++ (a, b) ∷ []) a
  next-same (inl s) =
      let old : next_at t a ≡ end_from ss a = h.next a la in
      let keeps : eqb (next_at t a) 65535 ≡ false = ne_eqb (next_at t a) 65535 (λ e. omega (arith, s.1, h.small)) in
      rw keeps (old ∙ sym (s.0 (cond (eqb a a) (a, b) (a, 65535))) ∙ sym (end_more ss a b a))
  next-same (inr s) =
      let old : next_at t a ≡ 65535 = h.next a la ∙ ap (λ (t : Step). t.1) (s (a, 65535)) in
      let ends : end_from (ss ++ (a, b) ∷ []) a ≡ b = end_more ss a b a ∙ ap (λ (t : Step). t.1) (s _) ∙ rw (eq-eqb a a refl) in
      rw (eq-eqb _ _ old) (get_or-set_same t (3 * a + 1) b 0 (omega (arith, h.room)) ∙ sym ends)

  next_more : (v : ℕ) → v < limit → Dec (v ≡ a) → next_at (leave_at t a b) v ≡ end_from (ss ++ (a, b) ∷ []) v
  next_more v l (yes e) =
      subst (λ (u : ℕ). next_at (leave_at t a b) u ≡ end_from (ss ++ (a, b) ∷ []) u) (sym e) (next-same (left_or_not limit ss a h.within))
  next_more v l (no d) = go (eqb (next_at t a) 65535) ∙ h.next v l ∙ sym (end_more ss a b v ∙ rw (ne_eqb v a d))
    where
      go : (u : Bool) → next_at (cond u (set t (3 * a + 1) b) t) v ≡ next_at t v
      go true = get_or-set_other t (3 * a + 1) (3 * v + 1) b 0 (λ e. d (omega arith))
      go false = refl

-- ---- marks and list

-- the points that pass a test are marked, and listed
record Listed (limit : ℕ) (test : ℕ → Bool) (t : List ℕ) : Type 0 where
  room : length t ≡ 3 * limit + 1
  mark : (v : ℕ) → v < limit → mark_at t v ≡ mark_of (test v)
  counted : met_count t ≡ length (keep test (count 0 limit))
  listed : (v : ℕ) → test v ≡ true → (i : ℕ) × (i < met_count t) × (met_at t i ≡ v)
  lists : (i : ℕ) → i < met_count t → met_at t i < limit

listed-part : (limit : ℕ) (ss : List Step) (t : List ℕ) → Traced limit ss t → Listed limit (meets ss) t
listed-part limit ss t h =
    record { room = h.room; mark = h.mark; counted = h.counted; listed = h.listed; lists = h.lists }

-- how many points below the limit pass a test: no more than there are, and one more where the test lets one more pass
kept_few : (test : ℕ → Bool) (limit : ℕ) → length (keep test (count 0 limit)) ≤ limit
kept_few test limit =
    omega (arith, sum_one (keep test (count 0 limit)), sum_one (count 0 limit), sum-keep-le (λ x. 1) test (count 0 limit), length-count limit 0)

kept_more : (test : ℕ → Bool) (limit a : ℕ) → a < limit → test a ≡ false
    → length (keep (λ v. test v || eqb v a) (count 0 limit)) ≡ length (keep test (count 0 limit)) + 1
kept_more test limit a l e = omega (
  arith,
  size (λ v. test v || eqb v a),
  size test,
  sum_same (λ x. cond (test x || eqb x a) 1 0) (λ x. cond (test x) 1 0 + bit (eqb a x)) (count 0 limit) (λ x i. share x (ℕ_discrete x a)),
  sum-add (λ x. cond (test x) 1 0) (λ x. bit (eqb a x)) (count 0 limit),
  in_often a (count 0 limit) (count_in limit 0 a (omega arith) (omega arith)),
  count-once limit 0 a,
)
  where
    size : (f : ℕ → Bool) → length (keep f (count 0 limit)) ≡ sum (λ x. cond (f x) 1 0) (count 0 limit)
    size f = sym (sum_one (keep f (count 0 limit))) ∙ sum-keep (λ x. 1) f (count 0 limit)

    share : (x : ℕ) → Dec (x ≡ a) → cond (test x || eqb x a) 1 0 ≡ cond (test x) 1 0 + bit (eqb a x)
    share x (yes p) = let off : test x ≡ false = ap test p ∙ e in rw (off, eq-eqb x a p, eq-eqb a x (sym p))
    share x (no d) = rw (ne_eqb x a d, ne_eqb a x (λ p. d (sym p)), or_none (test x)) (omega arith)

left_keeps : (limit : ℕ) (test : ℕ → Bool) (t : List ℕ) (a b : ℕ) → Listed limit test t → Listed limit test (leave_at t a b)
left_keeps limit test t a b h = go (eqb (next_at t a) 65535)
  where
    same : (n : ℕ) → (n ≡ 3 * a + 1 → ⊥) → get_or (set t (3 * a + 1) b) n 0 ≡ get_or t n 0
    same n d = get_or-set_other t (3 * a + 1) n b 0 d

    go : (u : Bool) → Listed limit test (cond u (set t (3 * a + 1) b) t)
    go true =
        let counts : met_count (set t (3 * a + 1) b) ≡ met_count t = same 0 (λ q. omega arith) in
        record {
          room = length-set t (3 * a + 1) b ∙ h.room;
          mark = λ v l. same (3 * v + 2) (λ q. omega arith) ∙ h.mark v l;
          counted = counts ∙ h.counted;
          listed = λ v e. let o = h.listed v e in (o.0, omega (arith, counts, o.1), same (3 * o.0 + 3) (λ q. omega arith) ∙ o.2);
          lists = λ i l. omega (arith, same (3 * i + 3) (λ q. omega arith), h.lists i (omega (arith, counts)));
        }
    go false = h

-- a point more is met, and nothing else changes
abbrev Met_more : ℕ → (ℕ → Bool) → List ℕ → ℕ → Type 0
Met_more limit test t a = Listed limit (λ v. test v || eqb v a) (meet_at t a) × ((v : ℕ) → next_at (meet_at t a) v ≡ next_at t v)

module _ (limit : ℕ) (test : ℕ → Bool) (t : List ℕ) (a : ℕ) (h : Listed limit test t) (la : a < limit) where
  abbrev two : List ℕ
  two = set (set t (3 * a + 2) 1) (3 * met_count t + 3) a

  abbrev new : List ℕ
  new = set two 0 (met_count t + 1)

  same : (n : ℕ) → (n ≡ 3 * a + 2 → ⊥) → (n ≡ 3 * met_count t + 3 → ⊥) → (n ≡ 0 → ⊥) → get_or new n 0 ≡ get_or t n 0
  same n p q r =
      get_or-set_other two 0 n (met_count t + 1) 0 r ∙ get_or-set_other (set t (3 * a + 2) 1) (3 * met_count t + 3) n a 0 q
      ∙ get_or-set_other t (3 * a + 2) n 1 0 p

  long : length two ≡ 3 * limit + 1
  long = length-set (set t (3 * a + 2) 1) (3 * met_count t + 3) a ∙ length-set t (3 * a + 2) 1 ∙ h.room

  listed_new : test a ≡ false → met_count t < limit → Listed limit (λ v. test v || eqb v a) new
  listed_new off few = record {
    room = length-set two 0 (met_count t + 1) ∙ long;
    mark = λ v l. mark v l (ℕ_discrete v a);
    counted = counts ∙ ap (λ (k : ℕ). k + 1) h.counted ∙ sym (kept_more test limit a la off);
    listed = λ v e. listed v (ℕ_discrete v a) e;
    lists = λ i l. lists i l (ℕ_discrete i (met_count t));
  }
    where
      counts : met_count new ≡ met_count t + 1
      counts = get_or-set_same two 0 (met_count t + 1) 0 (omega (arith, long))

      last : met_at new (met_count t) ≡ a
      last =
          get_or-set_other two 0 (3 * met_count t + 3) (met_count t + 1) 0 (λ q. omega arith)
          ∙ get_or-set_same (set t (3 * a + 2) 1) (3 * met_count t + 3) a 0 (omega (arith, length-set t (3 * a + 2) 1, h.room))

      earlier : (i : ℕ) → i < met_count t → met_at new i ≡ met_at t i
      earlier i l = same (3 * i + 3) (λ q. omega arith) (λ q. omega arith) (λ q. omega arith)

      mark : (v : ℕ) → v < limit → Dec (v ≡ a) → mark_at new v ≡ mark_of (test v || eqb v a)
      mark v l (yes e) =
          rw (eq-eqb v a e, or_true (test v), e)
          (get_or-set_other two 0 (3 * a + 2) (met_count t + 1) 0 (λ q. omega arith)
          ∙ get_or-set_other (set t (3 * a + 2) 1) (3 * met_count t + 3) (3 * a + 2) a 0 (λ q. omega arith)
          ∙ get_or-set_same t (3 * a + 2) 1 0 (omega (arith, h.room)))
      mark v l (no d) =
          same (3 * v + 2) (λ q. d (omega arith)) (λ q. omega arith) (λ q. omega arith) ∙ h.mark v l ∙ rw (ne_eqb v a d, or_none (test v))

      listed : (v : ℕ) → Dec (v ≡ a) → test v || eqb v a ≡ true → (i : ℕ) × (i < met_count new) × (met_at new i ≡ v)
      listed v (yes p) e = (met_count t, omega (arith, counts), last ∙ sym p)
      listed v (no d) e =
          let o = h.listed v (sym (rw (ne_eqb v a d) (or_none (test v))) ∙ e) in
          (o.0, omega (arith, counts, o.1), earlier o.0 o.1 ∙ o.2)

      lists : (i : ℕ) → i < met_count new → Dec (i ≡ met_count t) → met_at new i < limit
      lists i l (yes p) = let e : met_at new i ≡ a = ap (met_at new) p ∙ last in omega arith
      lists i l (no d) =
          let below : i < met_count t = omega (arith, counts) in
          omega (arith, earlier i below, h.lists i below)

  met-more : Met_more limit test t a
  met-more = go (test a) refl
    where
      go : (b : Bool) → test a ≡ b → Met_more limit test t a
      go true e =
          let marked : eqb (mark_at t a) 65535 ≡ false = ne_eqb (mark_at t a) 65535 (λ q. omega (arith, h.mark a la ∙ ap mark_of e)) in
          let was : test ≡ (λ v. test v || eqb v a) = λ i v. before v (ℕ_discrete v a) i in
          rw marked (subst (λ (f : ℕ → Bool). Listed limit f t) was h, λ v. refl)
        where
          before : (v : ℕ) → Dec (v ≡ a) → test v ≡ test v || eqb v a
          before v (yes p) = ap test p ∙ e ∙ sym (rw (eq-eqb v a p) (or_true (test v)))
          before v (no d) = sym (rw (ne_eqb v a d) (or_none (test v)))
      go false e =
          let bare : eqb (mark_at t a) 65535 ≡ true = eq-eqb (mark_at t a) 65535 (h.mark a la ∙ ap mark_of e) in
          let few : met_count t < limit = omega (arith, h.counted, kept_more test limit a la e, kept_few (λ v. test v || eqb v a) limit) in
          let room : ltb (3 * met_count t + 3) (length t) ≡ true = lt-ltb (3 * met_count t + 3) (length t) (omega (arith, h.room)) in
          rw (bare, room) (listed_new e few, λ v. same (3 * v + 1) (λ q. omega arith) (λ q. omega arith) (λ q. omega arith))

-- ---- steps recorded

one_more : (limit : ℕ) (ss : List Step) (t : List ℕ) (a b : ℕ) → a < limit → b < limit → Traced limit ss t
    → Traced limit (ss ++ (a, b) ∷ []) (record_one (a, b) t)
one_more limit ss t a b la lb h = record {
  room = all.room;
  small = h.small;
  within = λ v e. inside v (ℕ_discrete v a) (ℕ_discrete v b) (sym (met_by v) ∙ e);
  next = λ v l. second.1 v ∙ first.1 v ∙ next_more limit ss t a b h la v l (ℕ_discrete v a);
  mark = all.mark;
  counted = all.counted;
  listed = all.listed;
  lists = all.lists;
}
  where
    met_by : (v : ℕ) → meets (ss ++ (a, b) ∷ []) v ≡ meets ss v || (eqb v a || eqb v b)
    met_by v =
        any_append (λ t. eqb v t.0 || eqb v t.1) ss ((a, b) ∷ []) ∙ ap (λ (c : Bool). meets ss v || c) (or_none (eqb v a || eqb v b))

    first : Met_more limit (meets ss) (leave_at t a b) a
    first = met-more limit (meets ss) (leave_at t a b) a (left_keeps limit (meets ss) t a b (listed-part limit ss t h)) la

    second : Met_more limit (λ v. meets ss v || eqb v a) (meet_at (leave_at t a b) a) b
    second = met-more limit (λ v. meets ss v || eqb v a) (meet_at (leave_at t a b) a) b first.0 lb

    all : Listed limit (meets (ss ++ (a, b) ∷ [])) (record_one (a, b) t)
    all =
        let by : (λ v. (meets ss v || eqb v a) || eqb v b) ≡ meets (ss ++ (a, b) ∷ []) = λ i v. (or_or (meets ss v) (eqb v a) (eqb v b) ∙ sym (met_by v)) i in
        subst (λ (f : ℕ → Bool). Listed limit f (record_one (a, b) t)) by second.0

    inside : (v : ℕ) → Dec (v ≡ a) → Dec (v ≡ b) → meets ss v || (eqb v a || eqb v b) ≡ true → v < limit
    inside v (yes p) q e = omega arith
    inside v (no p) (yes q) e = omega arith
    inside v (no p) (no q) e = h.within v (sym (rw (ne_eqb v a p, ne_eqb v b q) (or_none (meets ss v))) ∙ e)

-- what held some steps now holds these after them
pub traced-more : (limit : ℕ) (new ss : List Step) (t : List ℕ) → Within limit new → Traced limit ss t → Traced limit (ss ++ new) (recorded new t)
traced-more limit [] ss t w h = rw append-nil h
traced-more limit (s ∷ new) ss t w h =
    let start : s.0 < limit = w s.0 (rw (eq-eqb s.0 s.0 refl)) in
    rw (← append_assoc ss (s ∷ []) new)
    (traced-more limit new (ss ++ s ∷ []) (record_one s t) (within-rest limit s new w)
    (one_more limit ss t s.0 s.1 start (within_end limit s new w) h))

pub recorded_append : (p q : List Step) (t : List ℕ) → recorded (p ++ q) t ≡ recorded q (recorded p t)
recorded_append [] q t = refl
recorded_append (s ∷ p) q t = recorded_append p q (record_one s t)

pub length-one : (s : Step) (t : List ℕ) → length (record_one s t) ≡ length t
length-one s t = met (meet_at (leave_at t s.0 s.1) s.0) s.1 ∙ met (leave_at t s.0 s.1) s.0 ∙ left (eqb (next_at t s.0) 65535)
  where
    left : (u : Bool) → length (cond u (set t (3 * s.0 + 1) s.1) t) ≡ length t
    left true = length-set t (3 * s.0 + 1) s.1
    left false = refl

    met : (t : List ℕ) (v : ℕ) → length (meet_at t v) ≡ length t
    met t v = go (eqb (mark_at t v) 65535 && ltb (3 * met_count t + 3) (length t))
      where
        go : (u : Bool) → length (cond u (set (set (set t (3 * v + 2) 1) (3 * met_count t + 3) v) 0 (met_count t + 1)) t) ≡ length t
        go true =
            length-set (set (set t (3 * v + 2) 1) (3 * met_count t + 3) v) 0 (met_count t + 1)
            ∙ length-set (set t (3 * v + 2) 1) (3 * met_count t + 3) v ∙ length-set t (3 * v + 2) 1
        go false = refl

pub length-recorded : (ss : List Step) (t : List ℕ) → length (recorded ss t) ≡ length t
length-recorded [] t = refl
length-recorded (s ∷ ss) t = length-recorded ss (record_one s t) ∙ length-one s t

-- ---- fresh tables, and the list

pub empty : (limit : ℕ) (t : List ℕ) → limit ≤ 14616 → length t ≡ 3 * limit + 1 → met_count t ≡ 0
    → ((v : ℕ) → v < limit → (next_at t v ≡ 65535) × (mark_at t v ≡ 65535)) → Traced limit [] t
empty limit t small room none bare = record {
  room = room;
  small = small;
  within = λ v e. absurd (false≢true e);
  next = λ v l. (bare v l).0;
  mark = λ v l. (bare v l).1;
  counted = none ∙ sym (ap length (nothing (count 0 limit)));
  listed = λ v e. absurd (false≢true e);
  lists = λ i l. absurd (omega arith);
}
  where
    nothing : (xs : List ℕ) → keep (λ v. false) xs ≡ []
    nothing [] = refl
    nothing (x ∷ xs) = nothing xs

-- the part, for a limit, of an array as it is made
pub fresh : (n limit : ℕ) → limit ≤ 14616 → 3 * limit + 1 ≤ n → Traced limit [] (take (3 * limit + 1) (set (replicate n 65535) 0 0))
fresh n limit small room =
    empty limit (take (3 * limit + 1) (set made 0 0)) small long (part 0 (omega arith) ∙ get_or-set_same made 0 0 0 (omega (arith, size)))
    (λ v l. (bare (3 * v + 1) (omega arith) (omega arith), bare (3 * v + 2) (omega arith) (omega arith)))
  where
    made : List ℕ
    made = replicate n 65535

    size : length made ≡ n
    size = length-replicate {A = ℕ} n 65535

    long : length (take (3 * limit + 1) (set made 0 0)) ≡ 3 * limit + 1
    long = length-take-le (3 * limit + 1) (set made 0 0) (omega (arith, length-set made 0 0, size))

    part : (i : ℕ) → i < 3 * limit + 1 → get_or (take (3 * limit + 1) (set made 0 0)) i 0 ≡ get_or (set made 0 0) i 0
    part i l = get_or-take (3 * limit + 1) (set made 0 0) i 0 l

    bare : (i : ℕ) → 0 < i → i < 3 * limit + 1 → get_or (take (3 * limit + 1) (set made 0 0)) i 0 ≡ 65535
    bare i p l = part i l ∙ get_or-set_other made 0 i 0 0 (λ q. omega arith) ∙ get_or-replicate {A = ℕ} n i 65535 0 (omega arith)

pub met-few : (limit : ℕ) (ss : List Step) (t : List ℕ) → Traced limit ss t → met_count t ≤ limit
met-few limit ss t h = omega (arith, h.counted, kept_few (meets ss) limit)
