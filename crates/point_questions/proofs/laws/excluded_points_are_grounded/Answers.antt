use Rattle.point_questions.proofs.Excluding.{void_law, outside_law, long_law, halted_law, grounded_law}
use Rattle.point_questions.proofs.laws.excluded_points_are_grounded.Goals as goal

pub returns-clause-void : goal.returns-clause-void
returns-clause-void g c = void_law _

pub returns-clause-outside : goal.returns-clause-outside
returns-clause-outside g c = outside_law _

pub returns-clause-long : goal.returns-clause-long
returns-clause-long g c = long_law _

pub returns-clause-halted : goal.returns-clause-halted
returns-clause-halted g c = halted_law _

pub returns-clause-grounded : goal.returns-clause-grounded
returns-clause-grounded g c = grounded_law _
