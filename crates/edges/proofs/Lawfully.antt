-- The laws of a lawful survey that this crate's own laws rest on.
use Rattle.rules.specs.Survey.{Survey}
use Rattle.octree.specs.Lawful.{Lawful}
use Rattle.octree.proofs.Edges.{lower_end, upper_end_lem}
use Rattle.octree.proofs.Aligned.{edge-level}
use Rattle.octree.proofs.Halves.{halves}
use Rattle.octree.proofs.Levels.{levels_between}
use Rattle.octree.proofs.Points.{number_at}
use Rattle.edges.proofs.Levels.{Edged}

pub edged : (s : Survey) → Lawful s → Edged s
edged s law = record {
  halves = halves s.cells law.octree;
  between = levels_between s.cells law.octree;
  shallow = edge-level s.cells law.octree;
  lower_end = lower_end s law;
  upper_end_lem = upper_end_lem s law;
  numbered = number_at s law;
}
