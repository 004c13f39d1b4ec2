-- The tables of a survey serve it as amended too: its corners stay where they are.
use Prim.Native.Nat.{ℕ, ◌+◌, ◌*◌}
use mathlib.Core.Path.{◌≡◌, sym, ap, ◌∙◌, subst}
use mathlib.Core.List.{List}
use native.Mathlib.Omega.{arith}
use lib.ListN.{get_or}
use Rattle.base.specs.Grid.{Place, origin}
use Rattle.rules.specs.Resounding.{amended}
use Rattle.amendments.proofs.InForce.{amended-count, amended-places}
use Rattle.amendments.proofs.Calls.{amended_pass}
use Rattle.octants.specs.Octants.{Octants}
use Rattle.checks.specs.Tables.{Tables}

corners_kept : (tc tk ta t : List ℕ) → Octants tc tk t → Octants tc (amended tk ta) t
corners_kept tc tk ta t o = record {
  room = o.room;
  octant = λ n i h g. let q = o.octant n i h g in record {
    number = omega (arith, q.number, amended-count tk ta);
    place = ap (λ (ps : List Place). get_or ps (get_or t (8 * n + i) 0) origin) (amended-places tk ta) ∙ q.place;
  };
}

pub tables_kept : (tc tk ta laid octants t : List ℕ) → t ≡ amended tk ta → Tables tc tk laid octants → Tables tc t laid octants
tables_kept tc tk ta laid octants t e d = record {
  passed = amended_pass tc tk ta t d.passed e;
  cell = d.cell;
  cell_room = d.cell_room;
  corner = subst (λ (u : List ℕ). Octants tc u octants) (sym e) (corners_kept tc tk ta octants d.corner);
}
