use Rattle.std.specs.Prelude.{Option, Ok, IfSome}
use Prim.Native.Nat.{ℕ, ◌+◌, ◌<◌}
use mathlib.Core.Path.{◌≡◌, refl, sym, ap, subst, ◌∙◌}
use native.Mathlib.Omega.{arith}
use lib.ListN.{drop}
use Rattle.rules.specs.Calendar.{period_at, period_count, periods_of, holds_at}
use Rattle.rules.specs.declared.Period.{Period}
use Rattle.calendar.proofs.Pass.{noted, noted_now, noted_not, pass, read_of, reads, part_left, stopped, went_on, ended_all}
use Rattle.calendar.proofs.Periods.{follows}
use Rattle.calendar.proofs.read.Goals as goal
use Rattle.calendar.proofs.read.Goals.{then-holds, else-holds}

pub returns-then-calendar-ne0 : goal.returns-then-calendar-ne0
returns-then-calendar-ne0 c = let a = c.args in part_left a.calendar.now a.minute c.if-calendar-ne0.true

pub loop-k-init : goal.loop-k-init
loop-k-init c = let a = c.args in (reads a.calendar.now a.minute c.if-calendar-ne0.false, tt)

pub returns-then-not-follows : goal.returns-then-not-follows
returns-then-not-follows c =
    let l = c.loop-k in
    let a = c.args in
    sym (stopped a.calendar.now a.minute (read_of a.calendar.now l.in_force) l.ended l.k (omega arith)
    (ap (follows l.ended) (sym c.period_at-p.ensures) ∙ sym c.follows.ensures ∙ c.if-not-follows.true))
    ∙ l.invariant.0

pub loop-k-preserved : goal.loop-k-preserved
loop-k-preserved c =
    let l = c.loop-k in
    let a = c.args in
    let t = a.calendar.now in
    let read = c.period_at-p.ensures in
    let lawful = ap (follows l.ended) (sym read) ∙ sym c.follows.ensures
    ∙ c.if-not-follows.false in
    let held = ap (holds_at a.minute) (sym read) ∙ sym c.holds.ensures in
    let within : l.k < period_count t = omega arith in
    let new : read_of t c.if-holds.in_force ≡ noted a.minute (read_of t l.in_force) (period_at t l.k) = elim c.if-holds.branch [
      | then-holds w ↦ ap (read_of t) w.in_force-is
          ∙ noted_now a.minute (read_of t l.in_force) (period_at t l.k) (period_at t l.k) refl (held ∙ w.if-holds.true)
      | else-holds w ↦ ap (read_of t) w.in_force-is ∙ noted_not a.minute (read_of t l.in_force) (period_at t l.k) (held ∙ w.if-holds.false)
    ] in
    let inside : IfSome c.if-holds.in_force (λ k. k < period_count t) = elim c.if-holds.branch [
      | then-holds w ↦ subst (λ (o : Option ℕ). IfSome o (λ k. k < period_count t)) (sym w.in_force-is) within
      | else-holds w ↦ subst (λ (o : Option ℕ). IfSome o (λ k. k < period_count t)) (sym w.in_force-is) l.invariant.1
    ] in (
      (λ i. pass a.minute (new i) (read i).until (drop (l.k + 1) (periods_of t)))
          ∙ went_on t a.minute (read_of t l.in_force) l.ended l.k within lawful ∙ l.invariant.0,
      inside,
    )

pub returns-in-Some : goal.returns-in-Some
returns-in-Some c =
    let l = c.loop-k in
    let a = c.args in
    let t = a.calendar.now in
    ap (λ (p : Period). Ok p.clearance) c.period_at.ensures
    ∙ ap (read_of t) (sym c.in-Some.is)
    ∙ sym (ended_all t a.minute (read_of t l.in_force) l.ended l.k (omega arith)) ∙ l.invariant.0

pub returns-in-None : goal.returns-in-None
returns-in-None c =
    let l = c.loop-k in
    let a = c.args in
    let t = a.calendar.now in
    ap (read_of t) (sym c.in-None.is)
    ∙ sym (ended_all t a.minute (read_of t l.in_force) l.ended l.k (omega arith)) ∙ l.invariant.0
