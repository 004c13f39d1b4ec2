-- The enquiry's answer as plain numbers, for C: document 01's number returned and, for a crossing, its values and the wet end. What is not there is 0.
use Rattle.std.specs.Prelude.{cond, eqb, Float}
use Rattle.std.specs.Float.{binary32}
use Rattle.std.specs.Float.Ieee.{of_bits}
use Rattle.rules.specs.WhichEnd.{end_number}
use Rattle.rules.specs.Outputs.{Enquired, refused, even, crossing}
use Rattle.rules.specs.declared.End.TheVariants.{Lower, Upper}
use Rattle.clearance.specs.declared.Reply.{Reply}

-- +0
abbrev pub nought : Float
nought = of_bits binary32 0

abbrev pub reply_of : Enquired → Reply
reply_of (refused n) = record { number = n; crossing = 0; point = 0; x = nought; y = nought; z = nought; wet_end = 0 }
reply_of even = record { number = 0; crossing = 0; point = 0; x = nought; y = nought; z = nought; wet_end = 0 }
reply_of (crossing n place end) = record { number = 0; crossing = 1; point = n; x = place.x; y = place.y; z = place.z; wet_end = end_number end }

-- the answer that a reply tells
abbrev pub told : Reply → Enquired
told r =
    let end = cond (eqb r.wet_end 1) Lower Upper in
    let found = cond (eqb r.crossing 0) even (crossing r.point (record { x = r.x; y = r.y; z = r.z }) end) in
    cond (eqb r.number 0) found (refused r.number)
