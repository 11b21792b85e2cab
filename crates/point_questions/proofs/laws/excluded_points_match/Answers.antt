use Rattle.point_questions.proofs.Excluding.{right_failures_law, right_misses_law, left_failures_law}
use Rattle.point_questions.proofs.laws.excluded_points_match.Goals as goal

pub returns-clause-right_fails : goal.returns-clause-right_fails
returns-clause-right_fails g c = right_failures_law _

pub returns-clause-right_misses : goal.returns-clause-right_misses
returns-clause-right_misses g c = right_misses_law _

pub returns-clause-left_fails : goal.returns-clause-left_fails
returns-clause-left_fails g c = left_failures_law _
