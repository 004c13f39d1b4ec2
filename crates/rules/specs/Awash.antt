-- Document 02, request 2, "Awash is dry": "A corner is wet exactly if its sounding is greater than the clearance." This takes the place of document 01's "at
-- least the clearance". What the request says of places is in AwashPlaces.antt.
use Rattle.std.specs.Prelude.{Bool, Float}
use Rattle.std.specs.Float.Ieee.{lt}
use Rattle.rules.specs.declared.Corner.{Corner}

-- wet: the sounding is greater than the clearance, as IEEE 754 compares; the two zeros are equal
unfoldable pub wet : Float → Corner → Bool
unfolding lt
wet clearance c = lt clearance c.sounding
