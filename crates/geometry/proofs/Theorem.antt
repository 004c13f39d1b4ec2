-- The laws of face steps, for every lawful survey: any wetness, and any rule that chooses the cut of a face from the face alone.
use Rattle.rules.specs.Survey.{Survey}
use Rattle.octree.specs.Lawful.{Lawful}
use Rattle.geometry.proofs.Interface.{FaceLaws}
use Rattle.geometry.proofs.Laws.{leaf_paired, steps-balance, ends-even}
use Rattle.geometry.proofs.Passed.{point-met}

pub face_laws : (s : Survey) → Lawful s → FaceLaws s
face_laws s law = record { paired = leaf_paired s law; faces_balance = steps-balance s law; ends-balance = ends-even s law; met = point-met s law }
