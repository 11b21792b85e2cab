use Rattle.point_questions.proofs.Showing.{show_law}
use Rattle.point_questions.proofs.laws.true_questions_show.Goals as goal

pub returns : goal.returns
returns g c = show_law _
