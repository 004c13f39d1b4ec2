-- The survey of the rules that the lent bytes of one stand for.
use Rattle.rules.specs.Survey.{Survey}
use Rattle.rules.specs.Outputs.{survey_of}
use Rattle.edges.specs.declared.survey.Survey.{Survey as Lent}

abbrev pub surveyed : Lent → Survey
surveyed s = survey_of s.cells.now s.corners.now s.clearance
