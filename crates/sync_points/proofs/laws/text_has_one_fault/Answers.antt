use Rattle.sync_points.proofs.Drafts.{one_points_fault}
use Rattle.sync_points.proofs.laws.text_has_one_fault.Goals as goal

pub returns : goal.returns
returns c = one_points_fault
