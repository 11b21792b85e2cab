use Rattle.sync_points.proofs.Drafts.{one_points}
use Rattle.sync_points.proofs.laws.text_is_of_one_problem.Goals as goal

pub returns : goal.returns
returns c = one_points
