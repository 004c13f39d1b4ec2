-- Refusals by their numbers: no refusal has the number 0, and a call that refuses nothing has that number.
-- Assumes nothing.
use Rattle.std.specs.Prelude.{ℕ, Result, Ok, Err, OnOk, IsErrAnd}
use mathlib.Core.Path.{◌≡◌, refl, ap}
use mathlib.Core.Bool.{Bool, true, false, cond}
use native.Mathlib.Omega.{arith}
use Rattle.rules.specs.Refusals.{refusal_number, outcome}
use Rattle.rules.specs.declared.refusal.Refusal.{Refusal}
use Rattle.rules.specs.declared.refusal.Refusal.TheVariants.{CellTable, CornerTable, CellEntry, TooDeep, CornerOrder, CornerSet, Sounding, Clearance}
use Rattle.rules.specs.declared.refusal.Refusal.TheVariants.{PointSlice, TriangleSlice, NoEdge, OpenAtBox, Reference, AmendmentTable, AmendmentPlace}
use Rattle.rules.specs.declared.refusal.Refusal.TheVariants.{Calendar, Minute, WayEnd, WaySlice, NoWay, Convoy}

-- no refusal has the number 0
pub some_number : (r : Refusal) → refusal_number r ≡ 0 → ⊥
some_number CellTable e = absurd (omega arith)
some_number CornerTable e = absurd (omega arith)
some_number CellEntry e = absurd (omega arith)
some_number TooDeep e = absurd (omega arith)
some_number CornerOrder e = absurd (omega arith)
some_number CornerSet e = absurd (omega arith)
some_number Sounding e = absurd (omega arith)
some_number Clearance e = absurd (omega arith)
some_number PointSlice e = absurd (omega arith)
some_number TriangleSlice e = absurd (omega arith)
some_number NoEdge e = absurd (omega arith)
some_number OpenAtBox e = absurd (omega arith)
some_number Reference e = absurd (omega arith)
some_number AmendmentTable e = absurd (omega arith)
some_number AmendmentPlace e = absurd (omega arith)
some_number Calendar e = absurd (omega arith)
some_number Minute e = absurd (omega arith)
some_number WayEnd e = absurd (omega arith)
some_number WaySlice e = absurd (omega arith)
some_number NoWay e = absurd (omega arith)
some_number Convoy e = absurd (omega arith)

-- where a test decides between a number and 0, what refuses has met the test, and what does not has not
pub test_met : (r : Refusal) (n : ℕ) (b : Bool) → refusal_number r ≡ cond b n 0 → b ≡ true
test_met r n true e = refl
test_met r n false e = absurd (some_number r e)

pub test_unmet : (n : ℕ) (b : Bool) → (n ≡ 0 → ⊥) → 0 ≡ cond b n 0 → b ≡ false
test_unmet n true some e = absurd (some (let f : n ≡ 0 = omega arith in f))
test_unmet n false some e = refl

-- a call that passes on the refusal of another call has its number, and owes nothing that holds where none is refused
pub number_on : {A : Type 0} (r : Result A Refusal) (e : Refusal) → IsErrAnd r (λ y. y ≡ e) → outcome r ≡ refusal_number e
number_on (Ok x) e is = absurd is
number_on (Err y) e is = ap refusal_number is

pub owes_nothing : {A : Type 0} (P : Type 0) (r : Result A Refusal) (e : Refusal) → IsErrAnd r (λ y. y ≡ e) → OnOk r P
owes_nothing P (Ok x) e is = absurd is
owes_nothing P (Err y) e is = tt

-- and it returns that refusal itself
pub refused_with : {A : Type 0} (r : Result A Refusal) (e : Refusal) → IsErrAnd r (λ y. y ≡ e) → r ≡ Err e
refused_with (Ok x) e is = absurd is
refused_with (Err y) e is = ap Err is
