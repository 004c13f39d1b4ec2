-- The laws of request 4 of document 02, of the survey as amended: each is the law of two tables, of the corner table as amended.
--     any_reference_amended      the sum is the same from any two references of the box
--     same-answer-amended        the call gives the same from any two references of the box
--     all-taken-down-amended     each coordinate of each point is taken down exactly
--     numbers_below_amended      every number in a triangle is that of a point
--     few-triangles-amended      at most four triangles for each point
--     nothing_lost_amended       no determinant and no partial sum is too large for 64 bits
-- The statements stand in rules/specs/AsAmended.antt.
-- Assumes nothing.
use Rattle.rules.specs.Water.{AnyReference, SameAnswer, AllTakenDown, NumbersBelow, FewTriangles, NothingLost}
use Rattle.rules.specs.Resounding.{amended, unreckoned, as_amended, volume_amended}
use Rattle.rules.specs.AsAmended.{AnyReferenceAmended, SameAnswerAmended, AllTakenDownAmended, NumbersBelowAmended, FewTrianglesAmended, NothingLostAmended}
use Rattle.amendments.proofs.AsAmended.{accepted→, drawable→}
use Rattle.volume.proofs.Reckoned.{any_reference}
use Rattle.volume.proofs.Laws.{same_answer, all-taken-down, numbers_below, few-triangles, nothing_lost}

pub any_reference_amended : AnyReferenceAmended
unfolding AnyReferenceAmended AnyReference
any_reference_amended tc tk ta clearance ok = any_reference tc (amended tk ta) clearance (drawable→ tc tk ta clearance ok)

-- refused by a check of the tables, the call does not look at the reference
pub same-answer-amended : SameAnswerAmended
unfolding SameAnswerAmended SameAnswer volume_amended
same-answer-amended tc tk ta clearance p q ps ts own other =
    λ i. as_amended tc tk ta (λ n. unreckoned n ps ts) (λ t. same_answer tc t clearance p q ps ts own other i)

pub all-taken-down-amended : AllTakenDownAmended
unfolding AllTakenDownAmended AllTakenDown
all-taken-down-amended tc tk ta clearance ok = all-taken-down tc (amended tk ta) clearance (accepted→ tc tk ta clearance ok).1

pub numbers_below_amended : NumbersBelowAmended
unfolding NumbersBelowAmended NumbersBelow
numbers_below_amended tc tk ta clearance ok = numbers_below tc (amended tk ta) clearance (accepted→ tc tk ta clearance ok).1

pub few-triangles-amended : FewTrianglesAmended
unfolding FewTrianglesAmended FewTriangles
few-triangles-amended tc tk ta clearance ok = few-triangles tc (amended tk ta) clearance (accepted→ tc tk ta clearance ok).1

pub nothing_lost_amended : NothingLostAmended
unfolding NothingLostAmended NothingLost
nothing_lost_amended tc tk ta clearance ok = nothing_lost tc (amended tk ta) clearance (accepted→ tc tk ta clearance ok).1
