-- `amendments::resound` meets its contract: the amendment is looked up, and written over the record at its corner unless it is older.
use Prim.Native.Nat.{ℕ}
use mathlib.Core.Path.{◌≡◌, sym, ap, ◌∙◌}
use mathlib.Core.Bool.{cond, not}
use lib.Dec.{ltb}
use native.Mathlib.Omega.{arith}
use borrow.Author.Tests.{lt-ltb, le-ltb}
use Rattle.rules.specs.Survey.{record_count, record_bytes, corner_record, place_of}
use Rattle.records.specs.Keys.{key_of, record_at}
use Rattle.amendments.specs.Amending.{unlisted}
use Rattle.amendments.proofs.Working.{unlisted-is, older, newer}
use Rattle.amendments.proofs.resound.Goals as goal
use Rattle.amendments.proofs.resound.Goals.{After-find-k, Else-k-corners}

looked_up : (f : After-find-k)
    → f.find-k.result ≡ record_at f.args.corners.now (key_of (place_of (corner_record f.args.amendments.now f.args.n)))
looked_up f = f.find-k.ensures ∙ ap (record_at f.args.corners.now) f.key_at.ensures

-- whether the amendment is at a corner, from what the look-up gives
listed_by : (f : After-find-k) → unlisted f.args.corners.now (record_bytes f.args.amendments.now f.args.n)
    ≡ not (ltb f.find-k.result (record_count f.args.corners.now))
listed_by f =
    unlisted-is f.args.corners.now f.args.amendments.now f.args.table.now f.type_inv.corners
    f.type_inv.amendments f.requires.corners_value f.args.n f.requires.n_bound f.find-k.result (looked_up f)

at_corner : (e : Else-k-corners) → let a = e.args in ◌≡◌ {A = ℕ} 0 (cond (unlisted a.corners.now (record_bytes a.amendments.now a.n)) 15 0)
at_corner e =
    sym (ap (λ b. cond b 15 0) (listed_by (goal.at.Else-k-corners e).After-find-k ∙ ap not (lt-ltb e.find-k.result (record_count e.args.corners.now) (omega (arith, e.if-k-corners.false)))))

-- at no corner
pub returns-then-k-corners : goal.returns-then-k-corners
returns-then-k-corners c =
    record {
      value = sym (ap (λ b. cond b 15 0) (listed_by (goal.at.returns-then-k-corners c).After-find-k ∙ ap not (le-ltb c.find-k.result (record_count c.args.corners.now) c.if-k-corners.true)));
      one_more = tt;
    }

pub day_at-requires : goal.day_at-requires
day_at-requires c = omega (arith, c.requires.amended_by.room, c.if-k-corners.false)

pub copy-requires : goal.copy-requires
copy-requires c = (omega (arith, c.requires.n_bound), omega (arith, c.requires.amended_by.room, c.if-k-corners.false))

pub returns-then-day_at : goal.returns-then-day_at
returns-then-day_at c =
    record {
      value = at_corner (goal.at.returns-then-day_at c).Else-k-corners;
      one_more = newer c.args.corners.now c.args.amendments.now c.args.table.now c.type_inv.corners
          c.type_inv.amendments c.requires.corners_value c.args.n c.requires.n_bound c.find-k.result (looked_up (goal.at.returns-then-day_at c).After-find-k) c.requires.amended_by
          (omega (arith, c.if-k-corners.false)) (omega (arith, c.day_at.ensures, c.day_at-2.ensures, c.if-day_at.true)) _
          c.copy.ensures;
    }

pub returns-else-day_at : goal.returns-else-day_at
returns-else-day_at c =
    record {
      value = at_corner (goal.at.returns-else-day_at c).Else-k-corners;
      one_more = older c.args.corners.now c.args.amendments.now c.args.table.now c.type_inv.corners
          c.type_inv.amendments c.requires.corners_value c.args.n c.requires.n_bound c.find-k.result (looked_up (goal.at.returns-else-day_at c).After-find-k) c.requires.amended_by
          (omega (arith, c.if-k-corners.false)) (omega (arith, c.day_at.ensures, c.day_at-2.ensures, c.if-day_at.false));
    }
