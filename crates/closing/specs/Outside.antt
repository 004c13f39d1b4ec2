-- A survey that does not run out of the box, which the closing theorem without exception asks for.
-- Assumes nothing: this is a definition.
use Rattle.std.specs.Prelude.{◌≡◌, false, T}
use Rattle.base.specs.Lists.{any}
use Rattle.base.specs.Grid.{Place, same}
use Rattle.rules.specs.Survey.{Survey}
use Rattle.rules.specs.OpenAtBox.{is_outer}

-- no corner on an outer face is wet
abbrev pub DryOutside : Survey → Type 0
DryOutside s = (q : Place) → T (any (same q) s.places) → T (is_outer q) → s.is_wet q ≡ false
