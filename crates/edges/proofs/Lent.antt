-- What the type of lent bytes says, as the records' lemmas take it.
use mir.Facts.{Fits-of_lt}
use Rattle.records.proofs.Keys.{Bytes}
use Rattle.edges.specs.declared.survey.Survey.{Survey}

pub corner_bytes : (s : Survey) → Bytes s.corners.now
corner_bytes s = λ k. Fits-of_lt (s.bytes k)
